-- What the rows of tables say of the nodes that they stand for.
use Rattle.std.proofs.Common.{◌≡◌, ◌≤◌, ◌^◌, ℕ, List, [], ◌∷◌, length, Bool, true, false, cond, Option, None, Some, refl, ap, subst, arith, ne_eqb, le-ltb}
use Rattle.std.specs.Prelude.{IsTrue, ◌≢◌, not, ◌||◌, ◌==◌, is_some, filter, map, nat_lt, option_map, unwrap_or}
use Rattle.std.specs.List.{list_any, filter_map, AllByRecursion}
use Rattle.std.specs.Map.{keys_of}
use Rattle.std.proofs.lemmas.Cmp.{nat_list_cmp_total}
use Rattle.std.proofs.lemmas.List.Elements.{All-weaker}
use Rattle.std.proofs.lemmas.List.Folds.{list_any_none}
use Rattle.s3_base.specs.declared.node_kind.Kind.{Kind}
use Rattle.s3_base.specs.declared.node_kind.Kind.TheVariants as kinds
use Rattle.plain_tree.specs.Checks.{value_check, target_check}
use Rattle.plain_tree.specs.Names.{Rise}
use Rattle.plain_tree.specs.WellFormed.{AreAttributes}
use Rattle.s3_rows.specs.declared.lists.NamedEntry.{NamedEntry}
use Rattle.s3_rows.specs.declared.lists.NamedAttr.{NamedAttr}
use Rattle.s3_rows.specs.Rows.{Inode, Name, Attr, Target, IsInode, IsName, IsAttr, IsTarget, IsText}
use Rattle.s3_rows.specs.Tables.{Tables, by_name, by_target}
use Rattle.s3_rows.specs.Selections.{name_at, target_at, by_entry_name, by_attr_name, with_entry_name, with_attr_name, named_entries, named_attrs}
use Rattle.s3_rows.specs.Validity.{finds_target, is_link}
use Rattle.row_lemmas.proofs.Keyed.RowAt.{row_at_meets}
use Rattle.row_lemmas.proofs.Keyed.Sorted.{rises-sorted_by}
use Rattle.tree_rows.specs.Shapes.{ContentShape, Regular, Directory, Link, NodeShape, attributes_in, node_of_row}
use Rattle.tree_rows.proofs.Whole.{content_of_kind}
use Rattle.tree_rows.proofs.WellFormed.Listed.{AllByRecursion-filter, AllByRecursion-filter_map, AllByRecursion-sorted_by, Rise-rises}

-- ---- texts

-- a text of at most so many bytes passes the check of its length and bytes
text_passes : (limit errno : ℕ) (bytes : List ℕ) → IsText limit bytes
    → cond {A = Option ℕ} (nat_lt limit (length bytes)) (Some errno)
    (cond (length bytes == 0 || list_any (λ b. b == 0) bytes) (Some 22) None)
    ≡ None
text_passes limit errno bytes text =
    by_case (nat_lt limit (length bytes)) (le-ltb limit (length bytes) text.1) (length bytes == 0)
    (ne_eqb (length bytes) 0 (λ none. omega (arith, none, text.0)))
    (list_any (λ b. b == 0) bytes)
    (list_any_none (λ b. b == 0) bytes
    (All-weaker (λ b. b ≢ 0) (λ b. (b == 0) ≡ false) (λ b other. ne_eqb b 0 other) bytes text.2))
  where
    by_case : (long : Bool) → long ≡ false → (empty : Bool) → empty ≡ false → (zeros : Bool) → zeros ≡ false
        → cond {A = Option ℕ} long (Some errno) (cond (empty || zeros) (Some 22) None) ≡ None
    by_case false one false two false three = refl
    by_case false one false two true three = absurd (cc three)
    by_case false one true two zeros three = absurd (cc two)
    by_case true one empty two zeros three = absurd (cc one)

value_passes : (value : List ℕ) → length value ≤ 65536 → value_check value ≡ None
value_passes value short = ap (λ (b : Bool). cond {A = Option ℕ} b (Some 7) None) (le-ltb 65536 (length value) short)

-- ---- what is said of a shape

abbrev pub entries_of_shape : ContentShape → List (List ℕ × ℕ)
entries_of_shape (Directory entries) = entries
entries_of_shape (Regular size) = []
entries_of_shape (Link target) = []

abbrev pub IsShapeWithinLimits : ContentShape → Type 0
IsShapeWithinLimits (Regular size) = size ≤ 2 ^ 50
IsShapeWithinLimits (Directory entries) = Unit {0}
IsShapeWithinLimits (Link target) = target_check target ≡ None

-- entries and attributes rise by name, and lengths, targets, attributes and the mode are within their rules
pub record IsFineShape (s : NodeShape) : Type 0 where
  pub content : IsShapeWithinLimits s.content
  pub names : Rise (keys_of (entries_of_shape s.content))
  pub attributes : AreAttributes s.attributes
  pub attribute_names : Rise (keys_of s.attributes)
  pub mode : s.mode ≤ 4095

-- ---- of rows

AreAttributes-map : (rows : List NamedAttr)
    → AllByRecursion (λ a. IsText 255 a.name × (length a.row.value ≤ 65536)) rows
    → AreAttributes (map (λ (a : NamedAttr). (a.name, a.row.value)) rows)
AreAttributes-map [] each = tt
AreAttributes-map (a ∷ rows) each =
    (text_passes 255 36 a.name each.0.0, value_passes a.row.value each.0.1, AreAttributes-map rows each.1)

module _ (t : Tables) where
  names_rise : (r : Inode) (kind : Kind) → Rise (keys_of (entries_of_shape (content_of_kind t r kind)))
  names_rise r kinds.Directory =
      Rise-rises (λ (e : NamedEntry). e.name) (λ e. e.row.inode) (named_entries t r.id)
      (rises-sorted_by by_entry_name nat_list_cmp_total
      (filter_map (with_entry_name t) (filter (λ c. c.parent == r.id) t.contents)))
  names_rise r kinds.Regular = tt
  names_rise r kinds.Link = tt

  attribute_names_rise : (inode : ℕ) → Rise (keys_of (attributes_in t inode))
  attribute_names_rise inode =
      Rise-rises (λ (a : NamedAttr). a.name) (λ a. a.row.value) (named_attrs t inode)
      (rises-sorted_by by_attr_name nat_list_cmp_total
      (filter_map (with_attr_name t) (filter (λ a. a.inode == inode) t.attrs)))

  module _ (names : AllByRecursion IsName t.names) (attrs : AllByRecursion IsAttr t.attrs)
      (targets : AllByRecursion IsTarget t.targets) where
    attributes_pass : (inode : ℕ) → AreAttributes (attributes_in t inode)
    attributes_pass inode =
        AreAttributes-map (named_attrs t inode)
        (AllByRecursion-sorted_by by_attr_name (λ (a : NamedAttr). IsText 255 a.name × (length a.row.value ≤ 65536))
        (filter_map (with_attr_name t) (filter (λ a. a.inode == inode) t.attrs))
        (AllByRecursion-filter_map IsAttr (λ (a : NamedAttr). IsText 255 a.name × (length a.row.value ≤ 65536))
        (with_attr_name t) named (filter (λ a. a.inode == inode) t.attrs)
        (AllByRecursion-filter IsAttr (λ a. a.inode == inode) t.attrs attrs)))
      where
        named : (a : Attr) (x : NamedAttr) → IsAttr a → with_attr_name t a ≡ Some x
            → IsText 255 x.name × (length x.row.value ≤ 65536)
        named a x own is = by_name_row (name_at t a.name_id) refl is
          where
            by_name_row : (found : Option Name) → name_at t a.name_id ≡ found
                → option_map (λ (n : Name). let made : NamedAttr = record { row = a; name = n.name } in made) found
                ≡ Some x
                → IsText 255 x.name × (length x.row.value ≤ 65536)
            by_name_row None there made = absurd (cc made)
            by_name_row (Some n) there made =
                let row : NamedAttr = record { row = a; name = n.name } in
                let same : row ≡ x = cc made in
                subst (λ (y : NamedAttr). IsText 255 y.name × (length y.row.value ≤ 65536)) same
                ((row_at_meets by_name IsName a.name_id t.names n names there).name, own.value)

    target_passes : (inode : ℕ) (found : Option Target) → target_at t inode ≡ found → IsTrue (is_some found)
        → target_check (unwrap_or (option_map (λ r. r.target) found) []) ≡ None
    target_passes inode None is there = absurd (cc there)
    target_passes inode (Some x) is there =
        text_passes 4095 36 x.target (row_at_meets by_target IsTarget inode t.targets x targets is).target

    content_passes : (r : Inode) → IsInode r → (kind : Kind) → IsTrue (not (is_link kind) || is_some (target_at t r.id))
        → IsShapeWithinLimits (content_of_kind t r kind)
    content_passes r own kinds.Directory finds = tt
    content_passes r own kinds.Regular finds = own.size
    content_passes r own kinds.Link finds = target_passes r.id (target_at t r.id) refl finds

    pub IsFineShape-node_of_row : (r : Inode) → IsTrue (finds_target t r) → IsInode r → IsFineShape (node_of_row t r)
    IsFineShape-node_of_row r finds own = record {
      content = content_passes r own r.kind finds;
      names = names_rise r r.kind;
      attributes = attributes_pass r.id;
      attribute_names = attribute_names_rise r.id;
      mode = own.mode;
    }

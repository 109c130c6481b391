-- An inode that goes: its attributes with the uses of their names, its target, and its row.
use Rattle.std.proofs.Common.{◌≡◌, ◌≤◌, ℕ, List, [], ◌∷◌, ◌++◌, length, Bool, true, false, Option, None, Some, refl, sym, ap, ◌∙◌, arith, eqb-true}
use Rattle.std.specs.Prelude.{IsTrue, not, ◌==◌, is_some, filter, find}
use Rattle.std.specs.Cmp.{nat_cmp_total}
use Rattle.std.proofs.lemmas.Bool.{and_parts}
use Rattle.s3_base.specs.declared.node_kind.Kind.{Kind}
use Rattle.plain_tree.specs.Tree.{Tree, without_node}
use Rattle.s3_rows.specs.declared.change.Change.{Change}
use Rattle.s3_rows.specs.declared.change.Change.TheVariants as changes
use Rattle.s3_rows.specs.Rows.{Inode, Name, Target, Attr, Parameters}
use Rattle.s3_rows.specs.Keyed.{has_key, without}
use Rattle.s3_rows.specs.Tables.{Tables, by_attr, by_inode, by_target}
use Rattle.s3_rows.specs.Batches.{tables_after}
use Rattle.s3_rows.specs.Selections.{inode_at, name_at, attr_at, target_at}
use Rattle.s3_rows.specs.Validity.{HasUniqueNames, any_kind, differ, finds_of_attr, has_inode, have_same_bytes}
use Rattle.row_lemmas.proofs.Tests.{eqb_comm, find_passes, find_passes_all, is_eq-nat_cmp, list_all-filter_same, list_all_weaker, pair_parts}
use Rattle.row_lemmas.proofs.Filters.{find_from_filter, list_all_from_filter}
use Rattle.row_lemmas.proofs.Keyed.Filter.{filter-without_false}
use Rattle.row_lemmas.proofs.Keyed.Rest.{filter-without_first, length-without}
use Rattle.row_lemmas.proofs.Keyed.RowAt.{row_at_from_find}
use Rattle.row_lemmas.proofs.Keyed.Without.{row_at-without_other, without_none}
use Rattle.row_lemmas.proofs.Tables.{pair_cmp_total, tables_after-tables_after}
use Rattle.tree_rows.specs.Shapes.{node_of_row, Represents}
use Rattle.ref_counts.specs.Names.{lowered, lowered_of}
use Rattle.ref_counts.specs.Removals.{attrs_dropped, attrs_of, removal, target_dropped}
use Rattle.row_steps.specs.Owed.{HasNothing, IsBare, Owes, times}
use Rattle.row_steps.proofs.Dropping.{lower_attr}
use Rattle.row_steps.proofs.Owed.Attrs.{Owes-without_target}
use Rattle.row_steps.proofs.Owed.Inodes.{Owes-without_inode_any}
use Rattle.row_steps.proofs.Owed.Lowered.{IsLower}
use Rattle.row_steps.proofs.Shape.Absent.{Represents-without_inode_rest, node_of_row-without_attr_other, node_of_row-without_target_other}

-- ---- its attributes

-- the tables without the attributes of an inode, and what holds of them
pub record IsCleared (t u : Tables) (p : Parameters) (links uses : List ℕ) (id : ℕ) : Type 0 where
  pub names : List Name
  pub attrs : List Attr
  pub after : u ≡ record t { names = names; attrs = attrs }
  pub owes : Owes (record t { names = names; attrs = attrs }) p links uses
  pub nodes : (x : Inode) → (x.id == id) ≡ false → node_of_row (record t { names = names; attrs = attrs }) x ≡ node_of_row t x
  pub unique : HasUniqueNames t → IsTrue (differ have_same_bytes names)
  pub none : filter (λ (r : Attr). r.inode == id) attrs ≡ []
  pub others : (x : ℕ) → (x == id) ≡ false → filter (λ (r : Attr). r.inode == x) attrs ≡ filter (λ (r : Attr). r.inode == x) t.attrs
  pub fewer : length attrs ≤ length t.attrs

pub IsCleared-attrs_dropped : (attrs : List Attr) (t : Tables) (p : Parameters) (links uses : List ℕ) (id : ℕ) → Owes t p links uses → attrs_of t id ≡ attrs
    → IsCleared t (tables_after (attrs_dropped attrs t) t) p links uses id
IsCleared-attrs_dropped [] t p links uses id o is = record {
  names = t.names;
  attrs = t.attrs;
  after = refl;
  owes = o;
  nodes = λ x apart. refl;
  unique = λ unique. unique;
  none = is;
  others = λ x apart. refl;
  fewer = omega arith;
}
IsCleared-attrs_dropped (a ∷ attrs) t p links uses id o is =
    by_name (λ u owes rest. IsCleared-attrs_dropped attrs u p links uses id owes rest) (name_at t a.name_id) refl
  where
    found : find (λ (r : Attr). r.inode == id) t.attrs ≡ Some a
    found = find_from_filter (λ (r : Attr). r.inode == id) t.attrs attrs a is

    there : attr_at t a.inode a.name_id ≡ Some a
    there = row_at_from_find by_attr pair_cmp_total (λ (r : Attr). r.inode == id) t.attrs a o.ordered.attrs found

    own : a.inode ≡ id
    own = eqb-true a.inode id (find_passes (λ (r : Attr). r.inode == id) t.attrs a found)

    named : IsTrue (is_some (name_at t a.name_id))
    named =
        (and_parts (has_inode any_kind t a.inode) (is_some (name_at t a.name_id))
        (find_passes_all (λ (r : Attr). r.inode == id) (finds_of_attr t) t.attrs a o.rows.attrs found)).1

    by_name : ((u : Tables) → Owes u p links uses → attrs_of u id ≡ attrs → IsCleared u (tables_after (attrs_dropped attrs u) u) p links uses id)
        → (row : Option Name) → name_at t a.name_id ≡ row
        → IsCleared t (tables_after ((changes.DeleteAttr a.inode a.name_id ∷ lowered_of row)
        ++ attrs_dropped attrs (tables_after (changes.DeleteAttr a.inode a.name_id ∷ lowered_of row) t)) t) p links uses id
    by_name others None no_row =
        let clash : true ≡ false = sym named ∙ ap is_some no_row in
        absurd (cc clash)
    by_name others (Some n) row =
        let lower : IsLower (record t { attrs = without by_attr (a.inode, a.name_id) t.attrs }) p links uses (lowered n) = lower_attr t p a n links uses o there row in
        let first : List Change = changes.DeleteAttr a.inode a.name_id ∷ lowered n in
        let u : Tables = record t { names = lower.rows; attrs = without by_attr (a.inode, a.name_id) t.attrs } in
        let rest : IsCleared u (tables_after (attrs_dropped attrs u) u) p links uses id =
        others u lower.owes (filter-without_first by_attr pair_cmp_total (λ (r : Attr). r.inode == id) t.attrs attrs a o.ordered.attrs is) in
        record {
          names = rest.names;
          attrs = rest.attrs;
          after =
              sym (tables_after-tables_after first (attrs_dropped attrs (tables_after first t)) t)
              ∙ ap (λ (v : Tables). tables_after (attrs_dropped attrs v) v) lower.after ∙ rest.after;
          owes = rest.owes;
          nodes =
              λ x apart.
              rest.nodes x apart ∙ lower.nodes x ∙ node_of_row-without_attr_other t a.inode a.name_id x (ap (λ n. x.id == n) own ∙ apart);
          unique = λ unique. rest.unique (lower.unique unique);
          none = rest.none;
          others =
              λ x apart.
              rest.others x apart
              ∙ filter-without_false by_attr (λ (r : Attr). r.inode == x) (a.inode, a.name_id) t.attrs
              (λ y alike. ap (λ n. n == x) (sym (pair_parts (a.inode, a.name_id) (y.inode, y.name_id) alike).0 ∙ own) ∙ eqb_comm id x ∙ apart);
          fewer = omega (arith, rest.fewer, length-without by_attr (a.inode, a.name_id) t.attrs);
        }

-- ---- numbers of rows of other kinds

pub apart_by_kind : (t : Tables) (r : Inode) → inode_at t r.id ≡ Some r → (test : Kind → Bool) → test r.kind ≡ false → (x : ℕ)
    → IsTrue (has_inode test t x) → IsTrue (not (x == r.id))
apart_by_kind t r there test other x has = by_case (x == r.id) refl
  where
    by_case : (b : Bool) → (x == r.id) ≡ b → IsTrue (not b)
    by_case true is =
        let here : has_inode test t x ≡ test r.kind =
        ap (has_inode test t) (eqb-true x r.id is) ∙ ap (λ (found : Option Inode). elim found [ Some y ↦ test y.kind | None ↦ false ]) there in
        let clash : true ≡ false = sym has ∙ here ∙ other in
        absurd (cc clash)
    by_case false is = refl

-- ---- all of it

module _ (t : Tables) (p : Parameters) (id : ℕ) (links uses now : List ℕ) (o : Owes t p links uses) (bare : IsBare t id)
    (others : (x : ℕ) → (id == x) ≡ false → times x now ≡ times x links) where
  pub cleared : IsCleared t (tables_after (attrs_dropped (attrs_of t id) t) t) p links uses id
  cleared = IsCleared-attrs_dropped (attrs_of t id) t p links uses id o refl

  abbrev bared : Tables
  bared = record t { names = cleared.names; attrs = cleared.attrs }

  abbrev emptied : Tables
  emptied = record bared { targets = without by_target id t.targets }

  abbrev pub gone : Tables
  gone = record emptied { inodes = without by_inode id t.inodes }

  pub tables_after-removal : tables_after (removal t id t) t ≡ gone
  tables_after-removal =
      let attrs : List Change = attrs_dropped (attrs_of t id) t in
      let target : List Change = target_dropped (target_at t id) id in
      sym (tables_after-tables_after (attrs ++ target) (changes.DeleteInode id ∷ []) t)
      ∙ ap (tables_after (changes.DeleteInode id ∷ []))
      (sym (tables_after-tables_after attrs target t) ∙ ap (tables_after target) cleared.after ∙ by_target_row (target_at t id) refl)
    where
      by_target_row : (found : Option Target) → target_at t id ≡ found → tables_after (target_dropped found id) bared ≡ emptied
      by_target_row (Some x) is = refl
      by_target_row None is = ap (λ (rows : List Target). record bared { targets = rows }) (sym (without_none by_target id t.targets (ap is_some is)))

  nothing : HasNothing emptied id
  nothing = record {
    entries = bare.entries;
    inode_blocks = bare.inode_blocks;
    targets =
        list_all_weaker (λ (x : Target). not (has_key by_target id x)) (λ (x : Target). not (x.inode == id))
        (λ x apart. ap not (eqb_comm x.inode id ∙ sym (is_eq-nat_cmp id x.inode)) ∙ apart) (without by_target id t.targets)
        (list_all-filter_same (λ (x : Target). not (has_key by_target id x)) t.targets);
    attrs = list_all_from_filter (λ (x : Attr). x.inode == id) cleared.attrs cleared.none;
    slots = bare.slots;
  }

  pub Owes-removal : Owes gone p now uses
  Owes-removal = Owes-without_inode_any emptied p id links uses now (Owes-without_target bared p id links uses cleared.owes) nothing others

  pub node_of_row-removal : (x : Inode) → (x.id == id) ≡ false → node_of_row gone x ≡ node_of_row t x
  node_of_row-removal x apart = node_of_row-without_target_other bared id x apart ∙ cleared.nodes x apart

  -- what is another inode's stays
  pub attrs_of-removal_other : (x : ℕ) → (x == id) ≡ false → attrs_of gone x ≡ attrs_of t x
  attrs_of-removal_other x apart = cleared.others x apart

  pub target_at-removal_other : (x : ℕ) → (x == id) ≡ false → target_at gone x ≡ target_at t x
  target_at-removal_other x apart = row_at-without_other by_target nat_cmp_total id x t.targets (is_eq-nat_cmp id x ∙ eqb_comm id x ∙ apart)

  pub Represents-removal : (whole : Tree) → Represents t whole → Represents gone (without_node id whole)
  Represents-removal whole same =
      Represents-without_inode_rest t gone whole id o.ordered.inodes refl refl node_of_row-removal same

  pub HasUniqueNames-removal : HasUniqueNames t → HasUniqueNames gone
  HasUniqueNames-removal unique = cleared.unique unique

  pub attrs-removal : length gone.attrs ≤ length t.attrs
  attrs-removal = cleared.fewer

-- Names of attributes and of entries in valid tables are such as Setxattr takes.
use Rattle.std.proofs.Common.{◌≡◌, ℕ, List, [], ◌∷◌, Bool, true, false, cond, None, Some, refl, ap, ◌∙◌, subst}
use Rattle.std.proofs.lemmas.Bool.{or_parts}
use Rattle.std.specs.BTreeMap.{is_at}
use Rattle.std.specs.List.{list_any}
use Rattle.std.specs.Map.{lookup}
use Rattle.std.specs.Ordering.{nat_cmp}
use Rattle.std.specs.Cmp.Lexicographic.{pointwise}
use Rattle.std.specs.Prelude.{◌==◌, ◌||◌, length, nat_eq, nat_lt}
use Rattle.s3_base.specs.Errors.{einval, enametoolong}
use Rattle.s3_base.specs.Names.{is_forbidden_name}
use Rattle.plain_tree.specs.Checks.{attribute_name_check, fails_with, name_check}
use Rattle.plain_tree.specs.Tree.{Node, Tree}
use Rattle.plain_tree.specs.WellFormed.{AreAttributes, AreWithinLimits, IsWellFormed}
use Rattle.s3_rows.specs.declared.lists.NamedAttr.{NamedAttr}
use Rattle.s3_rows.specs.Keyed.{has_key, row_at}
use Rattle.s3_rows.specs.Rows.{Inode}
use Rattle.s3_rows.specs.Selections.{by_attr_name, inode_at, named_attrs}
use Rattle.s3_rows.specs.Tables.{Tables}
use Rattle.tree_laws.proofs.Walk.Passed.{not_failed}
use Rattle.tree_rows.specs.Shapes.{NodeShape, Represents}
use Rattle.tree_copy.specs.CopiedNames.{AreAttrNames}
use Rattle.tree_copy.proofs.CopiedAttrs.{pairs}
use Rattle.tree_copy.proofs.Visits.{node_of_found}

-- ---- entries

no_zero : (name : List ℕ) → list_any (λ b. b == 47 || b == 0) name ≡ false → list_any (λ b. b == 0) name ≡ false
no_zero [] is = refl
no_zero (b ∷ bs) is =
    let parts = or_parts (b == 47 || b == 0) (list_any (λ x. x == 47 || x == 0) bs) is in
    ap (λ x. x || list_any (λ y. y == 0) bs) (or_parts (b == 47) (b == 0) parts.0).1 ∙ no_zero bs parts.1

pub entry_name_fits : (name : List ℕ) → name_check name ≡ None → attribute_name_check name ≡ None
entry_name_fits name is = by_length (nat_lt 255 (length name)) is
  where
    legal : is_forbidden_name name ≡ false → (length name == 0 || list_any (λ b. b == 0) name) ≡ false
    legal own =
        let dots : Bool = pointwise nat_eq name (46 ∷ 46 ∷ []) in
        let dot : Bool = pointwise nat_eq name (46 ∷ []) in
        let slash : Bool = list_any (λ b. b == 47 || b == 0) name in
        let first = or_parts (length name == 0 || slash || dot) dots own in
        let second = or_parts (length name == 0 || slash) dot first.0 in
        let third = or_parts (length name == 0) slash second.0 in
        ap (λ b. b || list_any (λ x. x == 0) name) third.0 ∙ no_zero name third.1

    by_length : (b : Bool) → cond b (Some enametoolong) (fails_with einval (is_forbidden_name name)) ≡ None
        → cond b (Some enametoolong) (fails_with einval (length name == 0 || list_any (λ x. x == 0) name)) ≡ None
    by_length true long = absurd (cc long)
    by_length false short = ap (fails_with einval) (legal (not_failed einval (is_forbidden_name name) short))

-- ---- attributes

attributes_of : (test : ℕ → Bool) (es : List (ℕ × Node)) (node : Node) → AreWithinLimits es → lookup test es ≡ Some node → AreAttributes node.attributes
attributes_of test [] node within is = absurd (cc is)
attributes_of test (e ∷ es) node within is = by_case (attributes_of test es node within.2) (test e.0) is
  where
    by_case : (lookup test es ≡ Some node → AreAttributes node.attributes) → (b : Bool) → cond b (Some e.1) (lookup test es) ≡ Some node → AreAttributes node.attributes
    by_case rest true found =
        let same : e.1 ≡ node = cc found in
        subst (λ (x : Node). AreAttributes x.attributes) same within.1
    by_case rest false found = rest found

name_of_pair : (name : List ℕ) (attrs : List NamedAttr) (a : NamedAttr) → AreAttributes (pairs attrs) → row_at by_attr_name name attrs ≡ Some a → attribute_name_check a.name ≡ None
name_of_pair name [] a are is = absurd (cc is)
name_of_pair name (x ∷ attrs) a are is = by_case (name_of_pair name attrs a are.2) (has_key by_attr_name name x) is
  where
    by_case : (row_at by_attr_name name attrs ≡ Some a → attribute_name_check a.name ≡ None) → (b : Bool) → cond b (Some x) (row_at by_attr_name name attrs) ≡ Some a
        → attribute_name_check a.name ≡ None
    by_case rest true found =
        let same : x ≡ a = cc found in
        subst (λ (y : NamedAttr). attribute_name_check y.name ≡ None) same are.0
    by_case rest false found = rest found

pub AreAttrNames-row : (told : Tables) (whole : Tree) → Represents told whole → IsWellFormed whole → (r : Inode) → inode_at told r.id ≡ Some r → AreAttrNames told r.id
AreAttrNames-row told whole same well r there name a found =
    let node = node_of_found told whole same r.id r there in
    name_of_pair name (named_attrs told r.id) a
    (subst AreAttributes (ap (λ (x : NodeShape). x.attributes) node.2) (attributes_of (is_at (nat_cmp r.id)) whole.nodes node.0 well.rules.nodes node.1)) found

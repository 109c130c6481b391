-- The attributes that an inode is listed with, and the rows that they come from. No two names have the same bytes.
use Rattle.std.proofs.Common.{◌≡◌, ℕ, List, Bool, true, false, Option, None, Some, refl, sym, ap, ◌∙◌, eqb-true, eq-eqb}
use Rattle.std.specs.Prelude.{IsTrue, not, ◌==◌, is_some, option_and_then, option_map}
use Rattle.std.specs.List.{list_all}
use Rattle.std.specs.Map.{lookup}
use Rattle.std.specs.Cmp.{nat_cmp_total, tied_itself}
use Rattle.std.proofs.lemmas.Cmp.{nat_list_cmp_total}
use Rattle.std.specs.FinMap.{nat_cmp-IsAntisymmetric, slice_cmp-IsAntisymmetric}
use Rattle.std.specs.declared.cmp.Ordering.{Ordering}
use Rattle.std.specs.declared.cmp.Ordering.TheVariants.{Less, Equal, Greater}
use Rattle.std.specs.Ordering.{nat_cmp, is_eq, ordering_reverse}
use Rattle.std.specs.BTreeMap.{is_at}
use Rattle.std.proofs.lemmas.Bool.{and_parts}
use Rattle.plain_tree.specs.Tree.{Node, Tree, node_at}
use Rattle.plain_tree.specs.Pages.{attribute_at, attribute_of}
use Rattle.s3_rows.specs.declared.lists.NamedAttr.{NamedAttr}
use Rattle.s3_rows.specs.Rows.{Inode, Name, Attr}
use Rattle.s3_rows.specs.Keyed.{has_key, pair_cmp, rises, row_at, without}
use Rattle.s3_rows.specs.Tables.{Tables, by_attr, by_name}
use Rattle.s3_rows.specs.Selections.{inode_at, name_at, attr_at, name_of_bytes, bytes_cmp, with_attr_name, named_attrs, by_attr_name}
use Rattle.s3_rows.specs.Validity.{HasUniqueNames, any_kind, finds_of_attr, has_inode, have_same_bytes}
use Rattle.row_lemmas.proofs.Tests.{equal_from_is_eq, find_passes, list_all-filter_same, list_all_from_find, pair_parts}
use Rattle.row_lemmas.proofs.Keyed.RowAt.{row_at_from_find, row_at_key, row_at_passes}
use Rattle.row_lemmas.proofs.Keyed.Sorted.{IsApart, row_at-sorted_by_none, row_at-sorted_by_there}
use Rattle.row_lemmas.proofs.Keyed.Without.{list_all-without_unlike, row_at-without_other}
use Rattle.row_lemmas.proofs.Tables.{pair_cmp_total}
use Rattle.tree_rows.specs.NamedAttrs.{attr_of_name}
use Rattle.tree_rows.specs.Shapes.{NodeShape, attributes_in, node_of_row, shape_of_node, Represents}
use Rattle.tree_rows.proofs.Shaped.{found_alike, lookup_made}
use Rattle.tree_rows.proofs.Whole.{number_of}

-- an attribute of the inode
abbrev pub is_attr_of : ℕ → Attr → Bool
is_attr_of inode r = r.inode == inode

abbrev pub value_of : Attr → List ℕ
value_of r = r.value

-- the name row that a listed attribute has
name_of : (x : Attr) (found : Option Name) (y : NamedAttr)
    → option_map (λ (n : Name). let e : NamedAttr = record { row = x; name = n.name } in e) found ≡ Some y
    → (n : Name) × (found ≡ Some n) × (n.name ≡ y.name)
name_of x None y is = absurd (cc is)
name_of x (Some n) y is =
    let same : record { row = x; name = n.name } ≡ y = cc is in
    (n, refl, ap (λ (e : NamedAttr). e.name) same)

one_text : (a b : List ℕ) → bytes_cmp a b ≡ Equal → a ≡ b
one_text a b same = slice_cmp-IsAntisymmetric nat_cmp-IsAntisymmetric a b same

has_key_from_parts : (inode id : ℕ) (x : Attr) → x.inode ≡ inode → x.name_id ≡ id → IsTrue (has_key by_attr (inode, id) x)
has_key_from_parts inode id x here own = (λ i. is_eq (pair_cmp (inode, id) (here i, own i))) ∙ ap is_eq (tied_itself pair_cmp_total (inode, id))

-- ---- the row of given bytes

-- the attribute is the inode's, and has a name of these bytes
pub record IsAttrNamed (t : Tables) (inode : ℕ) (name : List ℕ) (a : Attr) : Type 0 where
  pub row : Name
  pub named : name_at t a.name_id ≡ Some row
  pub bytes : row.name ≡ name
  pub own : a.inode ≡ inode
  pub there : attr_at t a.inode a.name_id ≡ Some a

module _ (t : Tables) (rise : IsTrue (rises by_name t.names)) (name : List ℕ) where
  pub named_there : (n : Name) → name_of_bytes t name ≡ Some n → (name_at t n.id ≡ Some n) × (n.name ≡ name)
  named_there n found = (
    row_at_from_find by_name nat_cmp_total (λ (r : Name). is_eq (bytes_cmp r.name name)) t.names n rise found,
    one_text n.name name (equal_from_is_eq (bytes_cmp n.name name) (find_passes (λ (r : Name). is_eq (bytes_cmp r.name name)) t.names n found)),
  )

  pub IsAttrNamed_from_row : (inode : ℕ) (a : Attr) → attr_of_name t inode name ≡ Some a → IsAttrNamed t inode name a
  IsAttrNamed_from_row inode a is = by_found (name_of_bytes t name) refl is
    where
      by_found : (found : Option Name) → name_of_bytes t name ≡ found → option_and_then (λ (n : Name). attr_at t inode n.id) found ≡ Some a
          → IsAttrNamed t inode name a
      by_found None none at = absurd (cc at)
      by_found (Some n) found at =
          let parts = pair_parts (inode, n.id) (a.inode, a.name_id) (find_passes (has_key by_attr (inode, n.id)) t.attrs a at) in
          let names = named_there n found in record {
            row = n;
            named = ap (name_at t) (sym parts.1) ∙ names.0;
            bytes = names.1;
            own = sym parts.0;
            there = (λ i. attr_at t (sym parts.0 i) (sym parts.1 i)) ∙ at;
          }

-- ---- no two names have the same bytes

module _ (t : Tables) (unique : HasUniqueNames t) where
  -- names of the same bytes have one id
  pub one_id : (j k : ℕ) (m n : Name) → name_at t j ≡ Some m → name_at t k ≡ Some n → m.name ≡ n.name → j ≡ k
  one_id j k m n first second text = by_case (is_eq (nat_cmp k j)) refl
    where
      turned : (a b : Name) → have_same_bytes a b ≡ have_same_bytes b a
      turned a b = ap is_eq (nat_list_cmp_total.antisymm a.name b.name) ∙ back (bytes_cmp b.name a.name)
        where
          back : (c : Ordering) → is_eq (ordering_reverse c) ≡ is_eq c
          back Less = refl
          back Equal = refl
          back Greater = refl

      others : IsTrue (list_all (λ x. not (have_same_bytes n x)) (without by_name k t.names))
      others = list_all-without_unlike by_name have_same_bytes turned k n t.names unique second

      by_case : (b : Bool) → is_eq (nat_cmp k j) ≡ b → j ≡ k
      by_case true is = sym (nat_cmp-IsAntisymmetric k j (equal_from_is_eq (nat_cmp k j) is))
      by_case false is =
          let unlike : IsTrue (not (have_same_bytes n m)) =
          row_at_passes by_name (λ x. not (have_same_bytes n x)) j (without by_name k t.names) m others
          (row_at-without_other by_name nat_cmp_total k j t.names is ∙ first) in
          let same : IsTrue (have_same_bytes n m) =
          ap (λ bytes. is_eq (bytes_cmp n.name bytes)) text ∙ ap is_eq (tied_itself nat_list_cmp_total n.name) in
          let clash : false ≡ true = sym (ap not same) ∙ unlike in
          absurd (cc clash)

  -- ---- an attribute and its name

  module _ (a : Attr) (n : Name) (named : name_at t a.name_id ≡ Some n) where
    abbrev pub listed_attr : NamedAttr
    listed_attr = record { row = a; name = n.name }

    abbrev pub is_other_attr : Attr → Bool
    is_other_attr x = not (has_key by_attr (a.inode, a.name_id) x)

    pub with_attr_name-named : with_attr_name t a ≡ Some listed_attr
    with_attr_name-named = ap (option_map (λ (m : Name). let e : NamedAttr = record { row = a; name = m.name } in e)) named

    not_other : (x : Attr) → IsTrue (is_other_attr x) → IsTrue (has_key by_attr (a.inode, a.name_id) x) → ⊥
    not_other x passes own =
        let clash : false ≡ true = sym (ap not own) ∙ passes in
        cc clash

    -- an attribute of another key has other bytes, or is another inode's
    pub attrs_apart : (x : Attr) → IsTrue (is_other_attr x)
        → IsApart by_attr by_attr_name nat_list_cmp_total (with_attr_name t) (is_attr_of a.inode) is_other_attr a listed_attr x
    attrs_apart x passes = (
      λ alike. not_other x passes (ap is_eq alike),
      λ here y is alike.
          let found = name_of x (name_at t x.name_id) y is in
          let id : x.name_id ≡ a.name_id = one_id x.name_id a.name_id found.0 n found.1 named (found.2 ∙ one_text y.name n.name alike) in
          not_other x passes (has_key_from_parts a.inode a.name_id x (eqb-true x.inode a.inode here) id),
    )

  -- ---- the name row of given bytes

  module _ (rise : IsTrue (rises by_name t.names)) where
    pub name_of_bytes-named : (k : ℕ) (m : Name) → name_at t k ≡ Some m → name_of_bytes t m.name ≡ Some m
    name_of_bytes-named k m is = by_found (name_of_bytes t m.name) refl
      where
        by_found : (found : Option Name) → name_of_bytes t m.name ≡ found → found ≡ Some m
        by_found None none =
            let other : IsTrue (not (is_eq (bytes_cmp m.name m.name))) =
            row_at_passes by_name (λ (r : Name). not (is_eq (bytes_cmp r.name m.name))) k t.names m
            (list_all_from_find (λ (r : Name). is_eq (bytes_cmp r.name m.name)) t.names none) is in
            let clash : false ≡ true = sym (ap (λ c. not (is_eq c)) (tied_itself nat_list_cmp_total m.name)) ∙ other in
            absurd (cc clash)
        by_found (Some n) found =
            let names = named_there t rise m.name n found in
            sym names.0 ∙ ap (name_at t) (one_id n.id k n m names.0 is names.1) ∙ is

    pub attr_of_name-named : (id k : ℕ) (a : Attr) (m : Name) → attr_at t id k ≡ Some a → name_at t k ≡ Some m
        → attr_of_name t id m.name ≡ Some a
    attr_of_name-named id k a m found is =
        let own : k ≡ m.id = nat_cmp-IsAntisymmetric k m.id (row_at_key by_name k t.names m is) in
        ap (option_and_then (λ (n : Name). attr_at t id n.id)) (name_of_bytes-named k m is) ∙ ap (attr_at t id) (sym own) ∙ found

    -- ---- the attributes of an inode

    module _ (up : IsTrue (rises by_attr t.attrs)) (finds : IsTrue (list_all (finds_of_attr t) t.attrs)) where
      pub attribute_in : (id : ℕ) (name : List ℕ) → lookup (is_at (bytes_cmp name)) (attributes_in t id) ≡ option_map value_of (attr_of_name t id name)
      attribute_in id name =
          let text : NamedAttr → List ℕ = λ e. e.name in
          lookup_made text (λ (e : NamedAttr). e.row.value) (is_at (bytes_cmp name)) (named_attrs t id) ∙ by_name_row (name_of_bytes t name) refl
        where
          by_attr_row : (n : Name) → name_of_bytes t name ≡ Some n → (found : Option Attr) → attr_at t id n.id ≡ found
              → option_map (λ (e : NamedAttr). e.row.value) (row_at by_attr_name name (named_attrs t id)) ≡ option_map value_of found
          by_attr_row n found None none =
              ap (option_map (λ (e : NamedAttr). e.row.value))
              (row_at-sorted_by_none by_attr_name nat_list_cmp_total (with_attr_name t) (is_attr_of id) (λ x. not (has_key by_attr (id, n.id) x)) name
              other t.attrs (list_all_from_find (has_key by_attr (id, n.id)) t.attrs none))
            where
              names : (name_at t n.id ≡ Some n) × (n.name ≡ name)
              names = named_there t rise name n found

              other : (x : Attr) → IsTrue (not (has_key by_attr (id, n.id) x)) → (x.inode == id) ≡ true → (y : NamedAttr)
                  → with_attr_name t x ≡ Some y → bytes_cmp y.name name ≡ Equal → ⊥
              other x passes here y is alike =
                  let m = name_of x (name_at t x.name_id) y is in
                  let number : x.name_id ≡ n.id = one_id x.name_id n.id m.0 n m.1 names.0 (m.2 ∙ one_text y.name name alike ∙ sym names.1) in
                  let same : IsTrue (has_key by_attr (id, n.id) x) = has_key_from_parts id n.id x (eqb-true x.inode id here) number in
                  let clash : false ≡ true = sym (ap not same) ∙ passes in
                  cc clash
          by_attr_row n found (Some a) there =
              let own = IsAttrNamed_from_row t rise name id a (ap (option_and_then (λ (m : Name). attr_at t id m.id)) found ∙ there) in
              let listed : row_at by_attr_name own.row.name (named_attrs t a.inode) ≡ Some (record { row = a; name = own.row.name }) =
              row_at-sorted_by_there by_attr by_attr_name pair_cmp_total nat_list_cmp_total (with_attr_name t) (is_attr_of a.inode) (is_other_attr a own.row own.named) a (listed_attr a own.row own.named)
              (eq-eqb a.inode a.inode refl) (with_attr_name-named a own.row own.named) (attrs_apart a own.row own.named) t.attrs up own.there
              (list_all-filter_same (is_other_attr a own.row own.named) t.attrs) in
              ap (option_map (λ (e : NamedAttr). e.row.value)) ((λ i. row_at by_attr_name (sym own.bytes i) (named_attrs t (sym own.own i))) ∙ listed)

          by_name_row : (found : Option Name) → name_of_bytes t name ≡ found
              → option_map (λ (e : NamedAttr). e.row.value) (row_at by_attr_name name (named_attrs t id))
              ≡ option_map value_of (option_and_then (λ (n : Name). attr_at t id n.id) found)
          by_name_row (Some n) found = by_attr_row n found (attr_at t id n.id) refl
          by_name_row None none =
              ap (option_map (λ (e : NamedAttr). e.row.value))
              (row_at-sorted_by_none by_attr_name nat_list_cmp_total (with_attr_name t) (is_attr_of id) (finds_of_attr t) name other t.attrs finds)
            where
              other : (x : Attr) → IsTrue (finds_of_attr t x) → (x.inode == id) ≡ true → (y : NamedAttr)
                  → with_attr_name t x ≡ Some y → bytes_cmp y.name name ≡ Equal → ⊥
              other x passes here y is alike =
                  let m = name_of x (name_at t x.name_id) y is in
                  let bytes : m.0.name ≡ name = m.2 ∙ one_text y.name name alike in
                  let clash : None ≡ Some m.0 = sym none ∙ ap (name_of_bytes t) (sym bytes) ∙ name_of_bytes-named x.name_id m.0 m.1 in
                  cc clash

      -- an inode without a row has none
      no_attr : (x : ℕ) → inode_at t x ≡ None → (found : Option Name) → option_and_then (λ (n : Name). attr_at t x n.id) found ≡ None
      no_attr x none None = refl
      no_attr x none (Some n) = by_row (attr_at t x n.id) refl
        where
          by_row : (row : Option Attr) → attr_at t x n.id ≡ row → row ≡ None
          by_row None is = refl
          by_row (Some a) is =
              let parts = pair_parts (x, n.id) (a.inode, a.name_id) (find_passes (has_key by_attr (x, n.id)) t.attrs a is) in
              let passes : IsTrue (finds_of_attr t a) = row_at_passes by_attr (finds_of_attr t) (x, n.id) t.attrs a finds is in
              let there : IsTrue (has_inode any_kind t a.inode) = (and_parts (has_inode any_kind t a.inode) (is_some (name_at t a.name_id)) passes).0 in
              let gone : has_inode any_kind t a.inode ≡ false =
              ap (has_inode any_kind t) (sym parts.0) ∙ ap (λ (found : Option Inode). elim found [ Some r ↦ any_kind r.kind | None ↦ false ]) none in
              let clash : false ≡ true = sym gone ∙ there in
              absurd (cc clash)

      -- the value of an attribute of the tree, from its row
      pub attribute_at-row : (whole : Tree) → Represents t whole → (x : ℕ) (name : List ℕ) → attribute_at whole x name ≡ option_map value_of (attr_of_name t x name)
      attribute_at-row whole same x name =
          of_shape (node_at whole x) ∙ ap (option_and_then (λ (s : NodeShape). lookup (is_at (bytes_cmp name)) s.attributes)) (found_alike t whole same x)
          ∙ by_row (inode_at t x) refl
        where
          of_shape : (found : Option Node)
              → option_and_then (λ node. attribute_of node name) found
              ≡ option_and_then (λ (s : NodeShape). lookup (is_at (bytes_cmp name)) s.attributes) (option_map shape_of_node found)
          of_shape None = refl
          of_shape (Some node) = refl

          by_row : (found : Option Inode) → inode_at t x ≡ found
              → option_and_then (λ (s : NodeShape). lookup (is_at (bytes_cmp name)) s.attributes) (option_map (node_of_row t) found)
              ≡ option_map value_of (attr_of_name t x name)
          by_row None none = ap (option_map value_of) (sym (no_attr x none (name_of_bytes t name)))
          by_row (Some r) is = attribute_in r.id name ∙ ap (λ id. option_map value_of (attr_of_name t id name)) (sym (number_of t x r is))

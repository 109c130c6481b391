-- An attribute more of an inode that is stamped, another value of one, and one less.
use Rattle.std.proofs.Common.{◌≡◌, ℕ, List, map, false, Option, None, Some, refl, sym, ap, ◌∙◌, subst, eq-eqb}
use Rattle.std.specs.Prelude.{IsTrue, ◌==◌, filter}
use Rattle.std.specs.List.{filter_map}
use Rattle.std.specs.Map.{remove_entry}
use Rattle.std.proofs.lemmas.Cmp.{nat_list_cmp_total}
use Rattle.std.specs.Cmp.Lexicographic.{slice_cmp}
use Rattle.std.specs.FinMap.{nat_cmp-IsAntisymmetric, slice_cmp-IsAntisymmetric}
use Rattle.std.specs.Ordering.{nat_cmp, is_eq}
use Rattle.std.specs.BTreeMap.{insert_entry, is_at}
use Rattle.plain_tree.specs.Tree.{Node, Tree, change_node, stamped}
use Rattle.plain_tree.specs.Pages.{with_attribute, without_attribute}
use Rattle.s3_rows.specs.declared.lists.NamedAttr.{NamedAttr}
use Rattle.s3_rows.specs.Rows.{Inode, Name, Attr}
use Rattle.s3_rows.specs.Keyed.{has_key, put, rises, sorted_by, without}
use Rattle.s3_rows.specs.Tables.{Tables, by_attr, by_inode}
use Rattle.s3_rows.specs.Selections.{inode_at, name_at, attr_at, with_attr_name, named_attrs, by_attr_name}
use Rattle.s3_rows.specs.Validity.{HasUniqueNames}
use Rattle.row_lemmas.proofs.Tests.{find_passes, is_eq-nat_cmp, list_all-filter_same, list_all_from_find, pair_parts}
use Rattle.row_lemmas.proofs.Keyed.Filter.{filter-put_false, filter-without_false}
use Rattle.row_lemmas.proofs.Keyed.Put.{map-put_entry}
use Rattle.row_lemmas.proofs.Keyed.Sorted.{rises-sorted_by, sorted_by-put, sorted_by-put_there, sorted_by-without}
use Rattle.row_lemmas.proofs.Keyed.Without.{map-without_entry}
use Rattle.row_lemmas.proofs.Tables.{pair_cmp_total}
use Rattle.tree_rows.specs.Shapes.{NodeShape, attributes_in, node_of_row, shape_of_node, Represents}
use Rattle.tree_rows.proofs.NamedAttrs.{attrs_apart, is_attr_of, is_other_attr, listed_attr, with_attr_name-named}
use Rattle.row_steps.specs.RowChanges.{stamped_row}
use Rattle.row_steps.proofs.Shape.Rows.{changed_represents}

-- ---- other inodes

attributes_in-put_other : (t : Tables) (a : Attr) (id : ℕ) → (a.inode == id) ≡ false
    → attributes_in (record t { attrs = put by_attr a t.attrs }) id ≡ attributes_in t id
attributes_in-put_other t a id other =
    ap (λ (rows : List Attr). map (λ (e : NamedAttr). (e.name, e.row.value)) (sorted_by by_attr_name (filter_map (with_attr_name t) rows)))
    (filter-put_false by_attr (is_attr_of id) a t.attrs other
    (λ x alike. ap (λ n. n == id) (sym (pair_parts (a.inode, a.name_id) (x.inode, x.name_id) (ap is_eq alike)).0) ∙ other))

pub attributes_in-without_other : (t : Tables) (inode name_id id : ℕ) → (inode == id) ≡ false
    → attributes_in (record t { attrs = without by_attr (inode, name_id) t.attrs }) id ≡ attributes_in t id
attributes_in-without_other t inode name_id id other =
    ap (λ (rows : List Attr). map (λ (e : NamedAttr). (e.name, e.row.value)) (sorted_by by_attr_name (filter_map (with_attr_name t) rows)))
    (filter-without_false by_attr (is_attr_of id) (inode, name_id) t.attrs
    (λ x own. ap (λ n. n == id) (sym (pair_parts (inode, name_id) (x.inode, x.name_id) own).0) ∙ other))

-- ---- the inode's own

module _ (t : Tables) (unique : HasUniqueNames t) (a : Attr) (n : Name) (named : name_at t a.name_id ≡ Some n) where
  -- what is listed of a put is an insertion
  inserted : (rows : List Attr) → sorted_by by_attr_name (filter_map (with_attr_name t) (filter (is_attr_of a.inode) rows))
      ≡ put by_attr_name (listed_attr t unique a n named) (named_attrs t a.inode)
      → attributes_in (record t { attrs = rows }) a.inode ≡ insert_entry (slice_cmp nat_cmp) (attributes_in t a.inode) n.name a.value
  inserted rows more =
      let value_of : NamedAttr → List ℕ = λ e. e.row.value in
      ap (map (λ (e : NamedAttr). (e.name, e.row.value))) more
      ∙ map-put_entry by_attr_name (slice_cmp-IsAntisymmetric nat_cmp-IsAntisymmetric) value_of (listed_attr t unique a n named) (named_attrs t a.inode)

  attributes_in-put_new : attr_at t a.inode a.name_id ≡ None
      → attributes_in (record t { attrs = put by_attr a t.attrs }) a.inode ≡ insert_entry (slice_cmp nat_cmp) (attributes_in t a.inode) n.name a.value
  attributes_in-put_new none =
      inserted (put by_attr a t.attrs)
      (sorted_by-put by_attr by_attr_name nat_list_cmp_total (with_attr_name t) (is_attr_of a.inode) (is_other_attr t unique a n named) a (listed_attr t unique a n named)
      (eq-eqb a.inode a.inode refl) (with_attr_name-named t unique a n named) (attrs_apart t unique a n named) t.attrs
      (list_all_from_find (has_key by_attr (a.inode, a.name_id)) t.attrs none))

  module _ (up : IsTrue (rises by_attr t.attrs)) (there : attr_at t a.inode a.name_id ≡ Some a) where
    -- another value
    attributes_in-put_there : (value : List ℕ)
        → attributes_in (record t { attrs = put by_attr (record a { value = value }) t.attrs }) a.inode
        ≡ insert_entry (slice_cmp nat_cmp) (attributes_in t a.inode) n.name value
    attributes_in-put_there value =
        let value_of : NamedAttr → List ℕ = λ e. e.row.value in
        let now : NamedAttr = record { row = record a { value = value }; name = n.name } in
        ap (map (λ (e : NamedAttr). (e.name, e.row.value)))
        (sorted_by-put_there by_attr by_attr_name pair_cmp_total nat_list_cmp_total (with_attr_name t) (is_attr_of a.inode) (is_other_attr t unique a n named) a (listed_attr t unique a n named)
        (eq-eqb a.inode a.inode refl) (with_attr_name-named t unique a n named) (attrs_apart t unique a n named) t.attrs up there
        (list_all-filter_same (is_other_attr t unique a n named) t.attrs) (record a { value = value }) now refl refl (eq-eqb a.inode a.inode refl)
        (with_attr_name-named t unique (record a { value = value }) n named))
        ∙ map-put_entry by_attr_name (slice_cmp-IsAntisymmetric nat_cmp-IsAntisymmetric) value_of now (named_attrs t a.inode)

    attributes_in-without : attributes_in (record t { attrs = without by_attr (a.inode, a.name_id) t.attrs }) a.inode
        ≡ remove_entry (is_at (slice_cmp nat_cmp n.name)) (attributes_in t a.inode)
    attributes_in-without =
        let value_of : NamedAttr → List ℕ = λ e. e.row.value in
        ap (map (λ (e : NamedAttr). (e.name, e.row.value)))
        (sorted_by-without by_attr by_attr_name pair_cmp_total nat_list_cmp_total (with_attr_name t) (is_attr_of a.inode) (is_other_attr t unique a n named) a (listed_attr t unique a n named)
        (eq-eqb a.inode a.inode refl) (with_attr_name-named t unique a n named) (attrs_apart t unique a n named) t.attrs up there
        (list_all-filter_same (is_other_attr t unique a n named) t.attrs))
        ∙ map-without_entry by_attr_name nat_list_cmp_total value_of n.name (named_attrs t a.inode)
        (rises-sorted_by by_attr_name nat_list_cmp_total (filter_map (with_attr_name t) (filter (is_attr_of a.inode) t.attrs)))

-- whether there is one or not
attributes_in-put : (t : Tables) (a : Attr) (n : Name) → HasUniqueNames t → name_at t a.name_id ≡ Some n → IsTrue (rises by_attr t.attrs)
    → attributes_in (record t { attrs = put by_attr a t.attrs }) a.inode ≡ insert_entry (slice_cmp nat_cmp) (attributes_in t a.inode) n.name a.value
attributes_in-put t a n unique named up = by_row (attr_at t a.inode a.name_id) refl
  where
    by_row : (row : Option Attr) → attr_at t a.inode a.name_id ≡ row
        → attributes_in (record t { attrs = put by_attr a t.attrs }) a.inode ≡ insert_entry (slice_cmp nat_cmp) (attributes_in t a.inode) n.name a.value
    by_row None none = attributes_in-put_new t unique a n named none
    by_row (Some old) there =
        let parts = pair_parts (a.inode, a.name_id) (old.inode, old.name_id) (find_passes (has_key by_attr (a.inode, a.name_id)) t.attrs old there) in
        let own : record old { value = a.value } ≡ a = (λ i. record { inode = sym parts.0 i; name_id = sym parts.1 i; value = a.value }) in
        subst (λ (b : Attr). attributes_in (record t { attrs = put by_attr b t.attrs }) b.inode ≡ insert_entry (slice_cmp nat_cmp) (attributes_in t b.inode) n.name b.value) own
        (attributes_in-put_there t unique old n (ap (name_at t) (sym parts.1) ∙ named) up ((λ i. attr_at t (sym parts.0 i) (sym parts.1 i)) ∙ there) a.value)

-- ---- a tree

-- other rows of attributes, where one inode has others, and is stamped
Represents-attrs : (t : Tables) (whole : Tree) (d : Inode) (rows : List Attr) (now : ℕ) (g : List (List ℕ × List ℕ) → List (List ℕ × List ℕ))
    → IsTrue (rises by_inode t.inodes) → Represents t whole → inode_at t d.id ≡ Some d
    → ((id : ℕ) → (d.id == id) ≡ false → attributes_in (record t { attrs = rows }) id ≡ attributes_in t id)
    → attributes_in (record t { attrs = rows }) d.id ≡ g (attributes_in t d.id)
    → Represents (record t { attrs = rows; inodes = put by_inode (stamped_row now d) t.inodes })
    (change_node d.id (λ node. stamped now (record node { attributes = g node.attributes })) whole)
Represents-attrs t whole d rows now g rise same found rest own =
    changed_represents t (record t { attrs = rows; inodes = put by_inode (stamped_row now d) t.inodes }) whole d (stamped_row now d)
    (λ node. stamped now (record node { attributes = g node.attributes })) refl refl rise same found others alike
  where
    others : (x : Inode) → is_eq (nat_cmp d.id x.id) ≡ false
        → node_of_row (record t { attrs = rows; inodes = put by_inode (stamped_row now d) t.inodes }) x ≡ node_of_row t x
    others x apart = λ i. record (node_of_row t x) { attributes = rest x.id (sym (is_eq-nat_cmp d.id x.id) ∙ apart) i }

    alike : (node : Node) → shape_of_node node ≡ node_of_row t d
        → shape_of_node (stamped now (record node { attributes = g node.attributes }))
        ≡ node_of_row (record t { attrs = rows; inodes = put by_inode (stamped_row now d) t.inodes }) (stamped_row now d)
    alike node shape =
        let attributes : g node.attributes ≡ attributes_in (record t { attrs = rows }) d.id = ap g (ap (λ (s : NodeShape). s.attributes) shape) ∙ sym own in
        λ i. record (shape i) { ctime = now; attributes = attributes i }

module _ (t : Tables) (unique : HasUniqueNames t) (a : Attr) (n : Name) (named : name_at t a.name_id ≡ Some n) (up : IsTrue (rises by_attr t.attrs))
    (rise : IsTrue (rises by_inode t.inodes)) (whole : Tree) (same : Represents t whole) (d : Inode) (now : ℕ) (own : d.id ≡ a.inode) (found : inode_at t d.id ≡ Some d) where
  other_inode : (id : ℕ) → (d.id == id) ≡ false → (a.inode == id) ≡ false
  other_inode id apart = ap (λ k. k == id) (sym own) ∙ apart

  pub Represents-put_attr : Represents (record t { attrs = put by_attr a t.attrs; inodes = put by_inode (stamped_row now d) t.inodes })
      (change_node d.id (λ node. stamped now (with_attribute n.name a.value node)) whole)
  Represents-put_attr =
      Represents-attrs t whole d (put by_attr a t.attrs) now (λ es. insert_entry (slice_cmp nat_cmp) es n.name a.value) rise same found
      (λ id apart. attributes_in-put_other t a id (other_inode id apart))
      (subst (λ id. attributes_in (record t { attrs = put by_attr a t.attrs }) id ≡ insert_entry (slice_cmp nat_cmp) (attributes_in t id) n.name a.value) (sym own)
      (attributes_in-put t a n unique named up))

  pub Represents-without_attr : attr_at t a.inode a.name_id ≡ Some a
      → Represents (record t { attrs = without by_attr (a.inode, a.name_id) t.attrs; inodes = put by_inode (stamped_row now d) t.inodes })
      (change_node d.id (λ node. stamped now (without_attribute n.name node)) whole)
  Represents-without_attr there =
      Represents-attrs t whole d (without by_attr (a.inode, a.name_id) t.attrs) now (λ es. remove_entry (is_at (slice_cmp nat_cmp n.name)) es) rise same found
      (λ id apart. attributes_in-without_other t a.inode a.name_id id (other_inode id apart))
      (subst (λ id. attributes_in (record t { attrs = without by_attr (a.inode, a.name_id) t.attrs }) id ≡ remove_entry (is_at (slice_cmp nat_cmp n.name)) (attributes_in t id)) (sym own)
      (attributes_in-without t unique a n named up there))

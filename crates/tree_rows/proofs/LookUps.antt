-- What reads of a tree find in tables that represent it: entries, attributes, targets and kinds, and pages of names.
use Rattle.std.proofs.Common.{◌≡◌, ℕ, List, [], ◌∷◌, Bool, true, false, cond, Option, None, Some, refl, sym, ap, ◌∙◌, subst, eqb-true}
use Rattle.std.specs.Prelude.{IsTrue, ◌&&◌, ◌==◌, is_some, filter, map, take, find, option_map, option_and_then, unwrap_or}
use Rattle.std.specs.List.{list_all, filter_map, cons_option}
use Rattle.std.specs.Map.{lookup}
use Rattle.std.specs.BTreeMap.{is_at}
use Rattle.std.specs.Cmp.Lexicographic.{slice_cmp}
use Rattle.std.specs.Ordering.{nat_cmp, is_eq, is_lt}
use Rattle.std.proofs.lemmas.Bool.{and_parts}
use Rattle.std.proofs.lemmas.Cmp.{nat_list_cmp_total}
use Rattle.std.proofs.lemmas.List.{take-map}
use Rattle.std.proofs.lemmas.Simd.{map-map}
use Rattle.s3_base.specs.declared.node_kind.Kind.{Kind}
use Rattle.s3_base.specs.declared.node_kind.Kind.TheVariants as kinds
use Rattle.op_frames.specs.declared.reply.DirEntry.{DirEntry}
use Rattle.plain_tree.specs.Tree as tree
use Rattle.plain_tree.specs.Tree.{Node, Tree, node_at}
use Rattle.plain_tree.specs.Attributes.{kind_of}
use Rattle.plain_tree.specs.Entries.{entries_of, entry_at}
use Rattle.plain_tree.specs.Files.{target_of}
use Rattle.plain_tree.specs.Pages.{page_after, kind_at, directory_page, attribute_page, attribute_of, attribute_at}
use Rattle.s3_rows.specs.declared.lists.NamedAttr.{NamedAttr}
use Rattle.s3_rows.specs.declared.lists.NamedEntry.{NamedEntry}
use Rattle.s3_rows.specs.Rows.{Inode, Name, Content, Attr}
use Rattle.s3_rows.specs.Keyed.{row_at}
use Rattle.s3_rows.specs.Tables.{Tables}
use Rattle.s3_rows.specs.Selections.{inode_at, name_at, bytes_cmp, bytes_of_name, by_attr_name, with_attr_name, named_attrs, named_entries, entries_listed, attrs_listed}
use Rattle.s3_rows.specs.Validity.{IsValid, finds_of_attr, finds_of_entry, has_inode, is_directory, any_kind}
use Rattle.row_lemmas.proofs.Tests.{find_none}
use Rattle.row_lemmas.proofs.Keyed.Sorted.{row_at-sorted_by}
use Rattle.tree_rows.specs.Listings.{attr_named, entry_named, entry_of_row, kind_of_found}
use Rattle.tree_rows.specs.Shapes.{ContentShape, Regular, Directory, Link, NodeShape, shape_of_content, shape_of_node, node_of_row, attributes_in, entries_in, target_in, Represents}
use Rattle.tree_rows.proofs.Attributed.{kind_there}
use Rattle.tree_rows.proofs.Listed.{is_entry, entry_in}
use Rattle.tree_rows.proofs.Replaced.{node_of}
use Rattle.tree_rows.proofs.Shaped.{lookup_made, entry_of_shape, found_alike, entry_there}
use Rattle.tree_rows.proofs.Whole.{content_of_kind, number_of}

-- ---- words of rows

-- an attribute of the inode with this name
abbrev pub is_attribute : Tables → ℕ → List ℕ → Attr → Bool
is_attribute t inode name a = a.inode == inode && is_eq (bytes_cmp name (bytes_of_name t a.name_id))

-- ---- shapes

target_of_shape : ContentShape → Option (List ℕ)
target_of_shape (Link target) = Some target
target_of_shape (Regular size) = None
target_of_shape (Directory entries) = None

entries_of_shape : ContentShape → List (List ℕ × ℕ)
entries_of_shape (Directory entries) = entries
entries_of_shape (Regular size) = []
entries_of_shape (Link target) = []

target_alike : (content : tree.Content) → target_of content ≡ target_of_shape (shape_of_content content)
unfolding target_of_shape
target_alike (tree.Regular bytes) = refl
target_alike (tree.Directory entries) = refl
target_alike (tree.Link target) = refl

entries_alike : (content : tree.Content) → entries_of content ≡ entries_of_shape (shape_of_content content)
unfolding entries_of_shape
entries_alike (tree.Regular bytes) = refl
entries_alike (tree.Directory entries) = refl
entries_alike (tree.Link target) = refl

-- what is read of a node is read of its shape
read_alike : {X : Type 0} (f : Node → Option X) (g : NodeShape → Option X) → ((node : Node) → f node ≡ g (shape_of_node node)) → (found : Option Node)
    → option_and_then f found ≡ option_and_then g (option_map shape_of_node found)
read_alike f g alike None = refl
read_alike f g alike (Some node) = alike node

kind_alike : (t : Tables) (found : Option Node) (row : Option Inode) → option_map shape_of_node found ≡ option_map (node_of_row t) row
    → elim found as (λ _. Kind) [ Some node ↦ kind_of node.content | None ↦ kinds.Regular ] ≡ kind_of_found row
kind_alike t None None is = refl
kind_alike t None (Some r) is = absurd (cc is)
kind_alike t (Some node) None is = absurd (cc is)
kind_alike t (Some node) (Some r) is =
    let same : shape_of_node node ≡ node_of_row t r = cc is in
    kind_there t r node same

-- ---- lists

filter-map : {R X : Type 0} (f : R → X) (p : X → Bool) (rows : List R) → filter p (map f rows) ≡ map f (filter (λ r. p (f r)) rows)
filter-map f p [] = refl
filter-map f p (r ∷ rs) = by_case (filter-map f p rs) (p (f r))
  where
    by_case : filter p (map f rs) ≡ map f (filter (λ x. p (f x)) rs) → (b : Bool) → cond b (f r ∷ filter p (map f rs)) (filter p (map f rs)) ≡ map f (cond b (r ∷ filter (λ x. p (f x)) rs) (filter (λ x. p (f x)) rs))
    by_case others true = ap (λ xs. f r ∷ xs) others
    by_case others false = others

-- a page of what is made of rows
page_after-map : {R X : Type 0} (name_of : R → List ℕ) (make : R → X) (after : List ℕ) (most : ℕ) (rows : List R)
    → page_after after most (map (λ r. (name_of r, make r)) rows) ≡ map (λ r. (name_of r, make r)) (take most (filter (λ r. is_lt (slice_cmp nat_cmp after (name_of r))) rows))
page_after-map {R} {X} name_of make after most rows =
    let pair : R → List ℕ × X = λ r. (name_of r, make r) in
    let past : List ℕ × X → Bool = λ e. is_lt (slice_cmp nat_cmp after e.0) in
    ap (take most) (filter-map pair past rows) ∙ take-map pair most (filter (λ r. past (pair r)) rows)

-- ---- attributes of a row

with_name : (a : Attr) (found : Option Name) → IsTrue (is_some found)
    → option_map (λ (n : Name). let e : NamedAttr = record { row = a; name = n.name } in e) found ≡ Some (record { row = a; name = unwrap_or (option_map (λ r. r.name) found) [] })
with_name a None there = absurd (cc there)
with_name a (Some n) there = refl

abbrev named : Tables → Attr → NamedAttr
named t a = record { row = a; name = bytes_of_name t a.name_id }

abbrev is_of : ℕ → Attr → Bool
is_of inode a = a.inode == inode

-- the first of an inode's attributes with a name
row_at-with_attr_name : (t : Tables) (inode : ℕ) (name : List ℕ) (rows : List Attr) → IsTrue (list_all (finds_of_attr t) rows)
    → row_at by_attr_name name (filter_map (with_attr_name t) (filter (is_of inode) rows)) ≡ option_map (named t) (find (is_attribute t inode name) rows)
row_at-with_attr_name t inode name [] finds = refl
row_at-with_attr_name t inode name (a ∷ rows) finds =
    by_owner (row_at-with_attr_name t inode name rows parts.1) (with_name a (name_at t a.name_id) (and_parts (has_inode any_kind t a.inode) (is_some (name_at t a.name_id)) parts.0).1) (is_of inode a)
  where
    parts : IsTrue (finds_of_attr t a) × IsTrue (list_all (finds_of_attr t) rows)
    parts = and_parts (finds_of_attr t a) (list_all (finds_of_attr t) rows) finds

    by_name : row_at by_attr_name name (filter_map (with_attr_name t) (filter (is_of inode) rows)) ≡ option_map (named t) (find (is_attribute t inode name) rows) → (b : Bool)
        → cond b (Some (named t a)) (row_at by_attr_name name (filter_map (with_attr_name t) (filter (is_of inode) rows))) ≡ option_map (named t) (cond b (Some a) (find (is_attribute t inode name) rows))
    by_name others true = refl
    by_name others false = others

    by_owner : row_at by_attr_name name (filter_map (with_attr_name t) (filter (is_of inode) rows)) ≡ option_map (named t) (find (is_attribute t inode name) rows) → with_attr_name t a ≡ Some (named t a) → (b : Bool)
        → row_at by_attr_name name (filter_map (with_attr_name t) (cond b (a ∷ filter (is_of inode) rows) (filter (is_of inode) rows)))
        ≡ option_map (named t) (cond (b && is_eq (bytes_cmp name (bytes_of_name t a.name_id))) (Some a) (find (is_attribute t inode name) rows))
    by_owner others own true =
        ap (λ found. row_at by_attr_name name (cons_option found (filter_map (with_attr_name t) (filter (is_of inode) rows)))) own ∙ by_name others (is_eq (bytes_cmp name (bytes_of_name t a.name_id)))
    by_owner others own false = others

-- ---- of a tree and tables that represent it

module _ (t : Tables) (whole : Tree) (same : Represents t whole) where
  read_of_row : {X : Type 0} (f : Node → Option X) (g : NodeShape → Option X) → ((node : Node) → f node ≡ g (shape_of_node node)) → (x : ℕ)
      → option_and_then f (node_at whole x) ≡ option_and_then g (option_map (node_of_row t) (inode_at t x))
  read_of_row f g alike x = read_alike f g alike (node_at whole x) ∙ ap (option_and_then g) (found_alike t whole same x)

  pub kind_at-row : (x : ℕ) → kind_at whole x ≡ kind_of_found (inode_at t x)
  kind_at-row x = kind_alike t (node_at whole x) (inode_at t x) (found_alike t whole same x)

  pub target_of-row : (x : ℕ) (r : Inode) → inode_at t x ≡ Some r → r.kind ≡ kinds.Link → option_and_then (λ node. target_of node.content) (node_at whole x) ≡ Some (target_in t x)
  unfolding target_of_shape
  target_of-row x r there kind =
      read_of_row (λ (node : Node). target_of node.content) (λ (s : NodeShape). target_of_shape s.content) (λ node. target_alike node.content) x
      ∙ ap (λ (found : Option Inode). option_and_then (λ (s : NodeShape). target_of_shape s.content) (option_map (node_of_row t) found)) there
      ∙ ap (λ k. target_of_shape (content_of_kind t r k)) kind
      ∙ ap (λ i. Some (target_in t i)) (sym (number_of t x r there))

  -- the node of a row
  node_there : (x : ℕ) (r : Inode) → inode_at t x ≡ Some r → (node : Node) × (node_at whole x ≡ Some node) × (shape_of_node node ≡ node_of_row t r)
  node_there x r there = node_of (node_at whole x) (node_of_row t r) (found_alike t whole same x ∙ ap (option_map (node_of_row t)) there)

  -- ---- pages

  pub attribute_page-rows : (x : ℕ) (r : Inode) (after : List ℕ) (most : ℕ) → inode_at t x ≡ Some r
      → (node : Node) × (node_at whole x ≡ Some node) × (attribute_page node after most ≡ map (λ a. a.name) (attrs_listed t x after most))
  attribute_page-rows x r after most there =
      let found = node_there x r there in
      let node : Node = found.0 in
      let pair : NamedAttr → List ℕ × List ℕ = λ a. (a.name, a.row.value) in
      let listed : node.attributes ≡ attributes_in t x = ap (λ (s : NodeShape). s.attributes) found.2 ∙ ap (attributes_in t) (sym (number_of t x r there)) in
      let first : List ℕ × List ℕ → List ℕ = λ e. e.0 in (
        node,
        found.1,
        ap (λ es. map first (page_after after most es)) listed
            ∙ ap (map first) (page_after-map (λ (a : NamedAttr). a.name) (λ a. a.row.value) after most (named_attrs t x))
            ∙ map-map first pair (attrs_listed t x after most),
      )

  pub directory_page-rows : (x : ℕ) (r : Inode) (after : List ℕ) (most : ℕ) → inode_at t x ≡ Some r → r.kind ≡ kinds.Directory
      → (node : Node) × (node_at whole x ≡ Some node) × (directory_page whole node after most ≡ map (entry_of_row t) (entries_listed t x after most))
  unfolding entries_of_shape
  directory_page-rows x r after most there kind =
      let found = node_there x r there in
      let node : Node = found.0 in
      let pair : NamedEntry → List ℕ × ℕ = λ e. (e.name, e.row.inode) in
      let entry : List ℕ × ℕ → DirEntry = λ e. record { inode = e.1; kind = kind_at whole e.1; name = e.0 } in
      let listed : entries_of node.content ≡ entries_in t x =
      entries_alike node.content ∙ ap (λ (s : NodeShape). entries_of_shape s.content) found.2 ∙ ap (λ k. entries_of_shape (content_of_kind t r k)) kind ∙ ap (entries_in t) (sym (number_of t x r there)) in
      let made : NamedEntry → DirEntry = λ e. entry (pair e) in
      let alike : made ≡ entry_of_row t = λ i e. record { inode = e.row.inode; kind = kind_at-row e.row.inode i; name = e.name } in (
        node,
        found.1,
        ap (λ es. map entry (page_after after most es)) listed
            ∙ ap (map entry) (page_after-map (λ (e : NamedEntry). e.name) (λ e. e.row.inode) after most (named_entries t x))
            ∙ map-map entry pair (entries_listed t x after most)
            ∙ ap (λ (f : NamedEntry → DirEntry). map f (entries_listed t x after most)) alike,
      )

  -- ---- by name, where the tables are valid

  module _ (v : IsValid t) where
    pub entry_at-row : (parent : ℕ) (name : List ℕ) → entry_at whole parent name ≡ option_map (λ c. c.inode) (entry_named t parent name)
    entry_at-row parent name = entry_there t whole same parent name ∙ by_row (inode_at t parent) refl
      where
        -- only a directory has entries
        none : has_inode is_directory t parent ≡ false → find (is_entry t parent name) t.contents ≡ None
        none other = find_none (is_entry t parent name) (finds_of_entry t) fails t.contents v.rows.entries
          where
            fails : (c : Content) → IsTrue (finds_of_entry t c) → is_entry t parent name c ≡ false
            fails c finds = by_case (c.parent == parent) refl
              where
                folder : IsTrue (has_inode is_directory t c.parent)
                folder = (and_parts (has_inode is_directory t c.parent) (is_some (name_at t c.name_id)) (and_parts (has_inode is_directory t c.parent && is_some (name_at t c.name_id)) (has_inode any_kind t c.inode) finds).0).0

                by_case : (b : Bool) → (c.parent == parent) ≡ b → (b && is_eq (bytes_cmp name (bytes_of_name t c.name_id))) ≡ false
                by_case true is =
                    let here : IsTrue (has_inode is_directory t parent) = subst (λ p. IsTrue (has_inode is_directory t p)) (eqb-true c.parent parent is) folder in
                    let clash : true ≡ false = sym here ∙ other in
                    absurd (cc clash)
                by_case false is = refl

        test : Option Inode → Bool
        test found = elim found [ Some r ↦ is_directory r.kind | None ↦ false ]

        by_kind : (r : Inode) → inode_at t parent ≡ Some r → (kind : Kind) → r.kind ≡ kind
            → entry_of_shape (content_of_kind t r kind) name ≡ option_map (λ c. c.inode) (find (is_entry t parent name) t.contents)
        by_kind r there kinds.Directory is =
            entry_in t v.rows.entries r.id name ∙ ap (λ x. option_map (λ (c : Content). c.inode) (find (is_entry t x name) t.contents)) (sym (number_of t parent r there))
        by_kind r there kinds.Regular is = sym (ap (option_map (λ (c : Content). c.inode)) (none (ap test there ∙ ap is_directory is)))
        by_kind r there kinds.Link is = sym (ap (option_map (λ (c : Content). c.inode)) (none (ap test there ∙ ap is_directory is)))

        by_row : (found : Option Inode) → inode_at t parent ≡ found
            → option_and_then (λ (s : NodeShape). entry_of_shape s.content name) (option_map (node_of_row t) found) ≡ option_map (λ c. c.inode) (find (is_entry t parent name) t.contents)
        by_row None there = sym (ap (option_map (λ (c : Content). c.inode)) (none (ap test there)))
        by_row (Some r) there = by_kind r there r.kind refl

    pub attribute_at-row : (x : ℕ) (name : List ℕ) → attribute_at whole x name ≡ option_map (λ a. a.value) (attr_named t x name)
    attribute_at-row x name =
        read_of_row (λ (node : Node). attribute_of node name) (λ (s : NodeShape). lookup (is_at (slice_cmp nat_cmp name)) s.attributes) (λ node. refl) x ∙ by_row (inode_at t x) refl
      where
        -- only an inode with a row has attributes
        none : has_inode any_kind t x ≡ false → find (is_attribute t x name) t.attrs ≡ None
        none other = find_none (is_attribute t x name) (finds_of_attr t) fails t.attrs v.rows.attrs
          where
            fails : (a : Attr) → IsTrue (finds_of_attr t a) → is_attribute t x name a ≡ false
            fails a finds = by_case (a.inode == x) refl
              where
                by_case : (b : Bool) → (a.inode == x) ≡ b → (b && is_eq (bytes_cmp name (bytes_of_name t a.name_id))) ≡ false
                by_case true is =
                    let own : IsTrue (has_inode any_kind t a.inode) = (and_parts (has_inode any_kind t a.inode) (is_some (name_at t a.name_id)) finds).0 in
                    let here : IsTrue (has_inode any_kind t x) = subst (λ p. IsTrue (has_inode any_kind t p)) (eqb-true a.inode x is) own in
                    let clash : true ≡ false = sym here ∙ other in
                    absurd (cc clash)
                by_case false is = refl

        test : Option Inode → Bool
        test found = elim found [ Some r ↦ true | None ↦ false ]

        composed : (found : Option Attr) → option_map (λ (a : NamedAttr). a.row.value) (option_map (named t) found) ≡ option_map (λ a. a.value) found
        composed None = refl
        composed (Some a) = refl

        by_row : (found : Option Inode) → inode_at t x ≡ found
            → option_and_then (λ (s : NodeShape). lookup (is_at (slice_cmp nat_cmp name)) s.attributes) (option_map (node_of_row t) found) ≡ option_map (λ a. a.value) (find (is_attribute t x name) t.attrs)
        by_row None there = sym (ap (option_map (λ (a : Attr). a.value)) (none (ap test there)))
        by_row (Some r) there =
            lookup_made (λ (a : NamedAttr). a.name) (λ (a : NamedAttr). a.row.value) (is_at (bytes_cmp name)) (named_attrs t r.id)
            ∙ ap (option_map (λ (a : NamedAttr). a.row.value))
            (row_at-sorted_by by_attr_name nat_list_cmp_total name (filter_map (with_attr_name t) (filter (is_of r.id) t.attrs)) ∙ row_at-with_attr_name t r.id name t.attrs v.rows.attrs)
            ∙ composed (find (is_attribute t r.id name) t.attrs)
            ∙ ap (λ i. option_map (λ (a : Attr). a.value) (find (is_attribute t i name) t.attrs)) (sym (number_of t x r there))

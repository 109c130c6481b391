-- Valid tables have one tree of names, with exact counts.
use Rattle.std.proofs.Common.{◌≡◌, ℕ, List, [], ◌∷◌, Bool, true, false, cond, Option, None, Some, refl, sym, ap, ◌∙◌, subst, eqb-true, rules}
use Rattle.std.specs.Prelude.{IsTrue, IsSome, not, ◌&&◌, ◌==◌, is_some, count_by, sum_by, find, option_map, option_and_then}
use Rattle.std.specs.List.{list_all, list_any, AllByRecursion}
use Rattle.std.specs.Cmp.{nat_cmp_total}
use Rattle.std.specs.FinMap.{nat_cmp-IsAntisymmetric}
use Rattle.std.specs.declared.cmp.Ordering.{Ordering}
use Rattle.std.specs.declared.cmp.Ordering.TheVariants.{Less, Equal, Greater}
use Rattle.std.specs.Ordering.{nat_cmp, is_eq}
use Rattle.std.proofs.lemmas.Bool.{and_from, and_parts}
use Rattle.s3_base.specs.declared.node_kind.Kind.{Kind}
use Rattle.s3_base.specs.declared.node_kind.Kind.TheVariants as kinds
use Rattle.plain_tree.specs.Tree.{Node, Tree, node_at}
use Rattle.plain_tree.specs.Entries.{is_folder, entry_at}
use Rattle.plain_tree.specs.WellFormed.{entries_naming}
use Rattle.s3_rows.specs.Rows.{Inode, Content}
use Rattle.s3_rows.specs.Keyed.{rises}
use Rattle.s3_rows.specs.Tables.{Tables, by_inode}
use Rattle.s3_rows.specs.Selections.{inode_at}
use Rattle.s3_rows.specs.Validity.{finds_of_entry, has_inode, is_directory, any_kind, have_one_name, differ}
use Rattle.row_lemmas.proofs.Tests.{list_all_weaker, list_any-find, find_passes, find_passes_all, false_from_not, is_eq-nat_cmp}
use Rattle.row_lemmas.proofs.Sums.{sum_by_agree, sum_by_comm, count_by_none}
use Rattle.row_lemmas.proofs.Keyed.RowAt.{row_at_own}
use Rattle.row_lemmas.proofs.Keyed.Count.{count_by-has_key_there}
use Rattle.tree_rows.specs.Shapes.{ContentShape, Regular, Directory, Link, NodeShape, shape_of_node, entries_in, target_in, node_of_row, Represents}
use Rattle.tree_rows.proofs.Shaped.{entry_of_shape, names_in_shape, is_folder_content, is_folder_shape, found_alike, is_folder_there, entry_there, naming_there}
use Rattle.tree_rows.proofs.Listed.{is_entry, names_inode, entry_in, names_in_directory}

-- the content of an inode's row, by its kind
abbrev pub content_of_kind : Tables → Inode → Kind → ContentShape
content_of_kind t r kind = elim kind [ kinds.Directory ↦ Directory (entries_in t r.id) | kinds.Regular ↦ Regular r.size | kinds.Link ↦ Link (target_in t r.id) ]

-- the row of an inode has its number
pub number_of : (t : Tables) (x : ℕ) (r : Inode) → inode_at t x ≡ Some r → x ≡ r.id
number_of t x r is = by_case (nat_cmp x r.id) refl (find_passes (λ (y : Inode). is_eq (nat_cmp x y.id)) t.inodes r is)
  where
    by_case : (c : Ordering) → nat_cmp x r.id ≡ c → IsTrue (is_eq c) → x ≡ r.id
    by_case Less same passes = absurd (cc passes)
    by_case Equal same passes = nat_cmp-IsAntisymmetric x r.id same
    by_case Greater same passes = absurd (cc passes)

folder_of_kind : (t : Tables) (r : Inode) (kind : Kind) → is_folder_content (content_of_kind t r kind) ≡ is_directory kind
folder_of_kind t r kinds.Directory = refl
folder_of_kind t r kinds.Regular = refl
folder_of_kind t r kinds.Link = refl

folder_of : (t : Tables) (found : Option Inode) → is_folder_shape (option_map (node_of_row t) found) ≡ elim found [ Some r ↦ is_directory r.kind | None ↦ false ]
folder_of t None = refl
folder_of t (Some r) = folder_of_kind t r r.kind

there_of : (found : Option Node) (s : NodeShape) → option_map shape_of_node found ≡ Some s → IsSome found
there_of None s is = absurd (cc is)
there_of (Some node) s is = search rules

module _ (t : Tables) (whole : Tree) (same : Represents t whole) where
  pub folder_is : (x : ℕ) → is_folder (node_at whole x) ≡ has_inode is_directory t x
  folder_is x = is_folder_there t whole same x ∙ folder_of t (inode_at t x)

  -- an inode with a row has a node
  pub node_is : (x : ℕ) → IsTrue (has_inode any_kind t x) → IsSome (node_at whole x)
  node_is x there = by_case (inode_at t x) refl there
    where
      by_case : (found : Option Inode) → inode_at t x ≡ found → IsTrue (elim found [ Some r ↦ true | None ↦ false ]) → IsSome (node_at whole x)
      by_case None is has = absurd (cc has)
      by_case (Some r) is has = there_of (node_at whole x) (node_of_row t r) (found_alike t whole same x ∙ ap (option_map (node_of_row t)) is)

-- what an option holds
held : {X Y : Type 0} (f : X → Y) (found : Option X) (y : Y) → option_map f found ≡ Some y → (x : X) × (found ≡ Some x) × (f x ≡ y)
held f None y is = absurd (cc is)
held f (Some x) y is =
    let same : f x ≡ y = cc is in
    (x, refl, same)

module _ (t : Tables) (whole : Tree) (same : Represents t whole) (finds : IsTrue (list_all (finds_of_entry t) t.contents)) where
  -- an entry of the tree comes from a row
  pub entry_found : (parent inode : ℕ) (name : List ℕ) → entry_at whole parent name ≡ Some inode → (c : Content) × (find (is_entry t parent name) t.contents ≡ Some c) × (c.inode ≡ inode)
  entry_found parent inode name is = by_row (inode_at t parent) refl (sym (entry_there t whole same parent name) ∙ is)
    where
      by_kind : (r : Inode) → inode_at t parent ≡ Some r → (kind : Kind) → entry_of_shape (content_of_kind t r kind) name ≡ Some inode
          → (c : Content) × (find (is_entry t parent name) t.contents ≡ Some c) × (c.inode ≡ inode)
      by_kind r there kinds.Directory entry =
          let number : parent ≡ r.id = number_of t parent r there in
          held (λ (c : Content). c.inode) (find (is_entry t parent name) t.contents) inode
          (ap (λ p. option_map (λ (c : Content). c.inode) (find (is_entry t p name) t.contents)) number ∙ sym (entry_in t finds r.id name) ∙ entry)
      by_kind r there kinds.Regular entry = absurd (cc entry)
      by_kind r there kinds.Link entry = absurd (cc entry)

      by_row : (found : Option Inode) → inode_at t parent ≡ found → option_and_then (λ (node : NodeShape). entry_of_shape node.content name) (option_map (node_of_row t) found) ≡ Some inode
          → (c : Content) × (find (is_entry t parent name) t.contents ≡ Some c) × (c.inode ≡ inode)
      by_row None there entry = absurd (cc entry)
      by_row (Some r) there entry = by_kind r there r.kind entry

  -- and a row of a directory makes one
  pub entry_made : (parent : ℕ) (name : List ℕ) (c : Content) → IsTrue (has_inode is_directory t parent) → find (is_entry t parent name) t.contents ≡ Some c → entry_at whole parent name ≡ Some c.inode
  entry_made parent name c folder found = entry_there t whole same parent name ∙ by_row (inode_at t parent) refl folder
    where
      by_kind : (r : Inode) → inode_at t parent ≡ Some r → (kind : Kind) → IsTrue (is_directory kind) → entry_of_shape (content_of_kind t r kind) name ≡ Some c.inode
      by_kind r there kinds.Directory is =
          entry_in t finds r.id name ∙ ap (λ p. option_map (λ (x : Content). x.inode) (find (is_entry t p name) t.contents)) (sym (number_of t parent r there))
          ∙ ap (option_map (λ (x : Content). x.inode)) found
      by_kind r there kinds.Regular is = absurd (cc is)
      by_kind r there kinds.Link is = absurd (cc is)

      by_row : (row : Option Inode) → inode_at t parent ≡ row → IsTrue (elim row [ Some r ↦ is_directory r.kind | None ↦ false ])
          → option_and_then (λ (node : NodeShape). entry_of_shape node.content name) (option_map (node_of_row t) row) ≡ Some c.inode
      by_row None there is = absurd (cc is)
      by_row (Some r) there is = by_kind r there r.kind is

  -- so a directory has a name where a row is its entry
  pub has_entry_is : (parent : ℕ) (name : List ℕ) → is_some (entry_at whole parent name) ≡ list_any (is_entry t parent name) t.contents
  has_entry_is parent name = by_row (find (is_entry t parent name) t.contents) refl ∙ sym (list_any-find (is_entry t parent name) t.contents)
    where
      folder : (c : Content) → find (is_entry t parent name) t.contents ≡ Some c → IsTrue (has_inode is_directory t parent)
      folder c there =
          let own : IsTrue (finds_of_entry t c) = find_passes_all (is_entry t parent name) (finds_of_entry t) t.contents c finds there in
          let inside : c.parent ≡ parent =
          eqb-true c.parent parent (and_parts (c.parent == parent) _ (find_passes (is_entry t parent name) t.contents c there)).0 in
          subst (λ p. IsTrue (has_inode is_directory t p)) inside
          (and_parts (has_inode is_directory t c.parent) _ (and_parts _ (has_inode any_kind t c.inode) own).0).0

      by_entry : find (is_entry t parent name) t.contents ≡ None → (found : Option ℕ) → entry_at whole parent name ≡ found → is_some found ≡ false
      by_entry none None is = refl
      by_entry none (Some inode) is =
          let row = entry_found parent inode name is in
          let clash : None ≡ Some row.0 = sym none ∙ row.1 in
          absurd (cc clash)

      by_row : (found : Option Content) → find (is_entry t parent name) t.contents ≡ found → is_some (entry_at whole parent name) ≡ is_some found
      by_row None there = by_entry there (entry_at whole parent name) refl
      by_row (Some c) there = ap is_some (entry_made parent name c (folder c there) there)

-- ---- counts

module _ (t : Tables) (finds : IsTrue (list_all (finds_of_entry t) t.contents)) (unlike : IsTrue (differ (have_one_name t) t.contents)) (rise : IsTrue (rises by_inode t.inodes)) where
  no_parent : (r : Inode) → inode_at t r.id ≡ Some r → IsTrue (not (is_directory r.kind)) → (inode : ℕ) (c : Content) → IsTrue (finds_of_entry t c) → IsTrue (not (names_inode r.id inode c))
  no_parent r there other inode c found = by_case (c.parent == r.id) refl
    where
      folder : IsTrue (has_inode is_directory t c.parent)
      folder = (and_parts (has_inode is_directory t c.parent) _ (and_parts _ (has_inode any_kind t c.inode) found).0).0

      by_case : (b : Bool) → (c.parent == r.id) ≡ b → IsTrue (not (b && (c.inode == inode)))
      by_case false is = refl
      by_case true is =
          let here : IsTrue (has_inode is_directory t r.id) = subst (λ p. IsTrue (has_inode is_directory t p)) (eqb-true c.parent r.id is) folder in
          let own : IsTrue (is_directory r.kind) = subst (λ (row : Option Inode). IsTrue (elim row [ Some x ↦ is_directory x.kind | None ↦ false ])) there here in
          let clash : false ≡ true = sym (false_from_not (is_directory r.kind) other) ∙ own in
          absurd (cc clash)

  names_of_row : (inode : ℕ) (r : Inode) → inode_at t r.id ≡ Some r → names_in_shape inode (node_of_row t r).content ≡ count_by (names_inode r.id inode) t.contents
  names_of_row inode r there = by_kind r.kind refl
    where
      none : IsTrue (not (is_directory r.kind)) → 0 ≡ count_by (names_inode r.id inode) t.contents
      none other = sym (count_by_none (names_inode r.id inode) t.contents (list_all_weaker (finds_of_entry t) (λ c. not (names_inode r.id inode c)) (no_parent r there other inode) t.contents finds))

      by_kind : (kind : Kind) → r.kind ≡ kind → names_in_shape inode (content_of_kind t r kind) ≡ count_by (names_inode r.id inode) t.contents
      by_kind kinds.Directory is = names_in_directory t finds unlike r.id inode
      by_kind kinds.Regular is = none (ap (λ k. not (is_directory k)) is)
      by_kind kinds.Link is = none (ap (λ k. not (is_directory k)) is)

  each_row : (inode : ℕ) (rows : List Inode) → AllByRecursion (λ r. inode_at t r.id ≡ Some r) rows
      → AllByRecursion (λ r. names_in_shape inode (node_of_row t r).content ≡ count_by (names_inode r.id inode) t.contents) rows
  each_row inode [] there = tt
  each_row inode (r ∷ rs) there = (names_of_row inode r there.0, each_row inode rs there.1)

  -- an entry counts once among all directories
  once : (inode : ℕ) (c : Content) → IsTrue (finds_of_entry t c) → sum_by (λ (r : Inode). cond (names_inode r.id inode c) 1 0) t.inodes ≡ cond (c.inode == inode) 1 0
  once inode c found = by_case (c.inode == inode)
    where
      and_true : (b : Bool) → (b && true) ≡ b
      and_true true = refl
      and_true false = refl

      and_false : (b : Bool) → IsTrue (not (b && false))
      and_false true = refl
      and_false false = refl

      folder : IsTrue (has_inode is_directory t c.parent)
      folder = (and_parts (has_inode is_directory t c.parent) _ (and_parts _ (has_inode any_kind t c.inode) found).0).0

      parent_there : (row : Option Inode) → IsTrue (elim row [ Some r ↦ is_directory r.kind | None ↦ false ]) → IsTrue (is_some row)
      parent_there None is = absurd (cc is)
      parent_there (Some r) is = refl

      none : (rows : List Inode) → IsTrue (list_all (λ (r : Inode). not ((c.parent == r.id) && false)) rows)
      none [] = refl
      none (r ∷ rs) = and_from (not ((c.parent == r.id) && false)) _ (and_false (c.parent == r.id)) (none rs)

      below : Inode → Bool
      below r = (c.parent == r.id) && true

      has : Inode → Bool
      has r = is_eq (nat_cmp c.parent r.id)

      alike : below ≡ has
      alike = λ i r. (and_true (c.parent == r.id) ∙ sym (is_eq-nat_cmp c.parent r.id)) i

      by_case : (b : Bool) → count_by (λ (r : Inode). (c.parent == r.id) && b) t.inodes ≡ cond b 1 0
      by_case true = ap (λ (p : Inode → Bool). count_by p t.inodes) alike ∙ count_by-has_key_there by_inode nat_cmp_total c.parent t.inodes rise (parent_there (inode_at t c.parent) folder)
      by_case false = count_by_none (λ (r : Inode). (c.parent == r.id) && false) t.inodes (none t.inodes)

  each_entry : (inode : ℕ) (cs : List Content) → IsTrue (list_all (finds_of_entry t) cs)
      → AllByRecursion (λ c. sum_by (λ (r : Inode). cond (names_inode r.id inode c) 1 0) t.inodes ≡ cond (c.inode == inode) 1 0) cs
  each_entry inode [] found = tt
  each_entry inode (c ∷ cs) found = (once inode c (and_parts (finds_of_entry t c) (list_all (finds_of_entry t) cs) found).0, each_entry inode cs (and_parts (finds_of_entry t c) (list_all (finds_of_entry t) cs) found).1)

  pub count_is : (whole : Tree) → Represents t whole → (inode : ℕ) → entries_naming whole inode ≡ count_by (λ (c : Content). c.inode == inode) t.contents
  count_is whole same inode =
      let of_row : Inode → ℕ = λ r. names_in_shape inode (node_of_row t r).content in
      let counted : Inode → ℕ = λ r. count_by (names_inode r.id inode) t.contents in
      let one : Inode → Content → ℕ = λ r c. cond (names_inode r.id inode c) 1 0 in
      let in_all : Content → ℕ = λ c. sum_by (λ (r : Inode). cond (names_inode r.id inode c) 1 0) t.inodes in
      let own : Content → ℕ = λ c. cond (c.inode == inode) 1 0 in
      naming_there t whole same inode
      ∙ sum_by_agree of_row counted t.inodes (each_row inode t.inodes (row_at_own by_inode nat_cmp_total t.inodes rise))
      ∙ sum_by_comm one t.inodes t.contents
      ∙ sum_by_agree in_all own t.contents (each_entry inode t.contents finds)

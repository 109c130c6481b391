-- The inodes of tables that represent a well-formed tree: their numbers, kinds, targets and sizes.
use Rattle.std.proofs.Common.{◌≡◌, ◌≤◌, ◌+◌, ◌*◌, ℕ, List, [], ◌∷◌, length, Bool, true, false, cond, Option, None, Some, refl, sym, ap, ◌∙◌, subst, arith, ltb-true, lt-ltb, eqb-true}
use Rattle.std.specs.Prelude.{IsTrue, not, ◌||◌, ◌==◌, is_some, map, nat_lt, option_map, option_and_then, unwrap_or}
use Rattle.std.specs.List.{list_all}
use Rattle.std.specs.Map.{keys_of, lookup}
use Rattle.std.specs.Cmp.{nat_cmp_total}
use Rattle.std.specs.Ordering.{nat_cmp}
use Rattle.std.specs.BTreeMap.{is_at}
use Rattle.std.proofs.lemmas.Map.Made.{keys_of-map_values}
use Rattle.std.proofs.lemmas.Bool.{and_from, and_parts}
use Rattle.s3_base.specs.declared.node_kind.Kind.{Kind}
use Rattle.s3_base.specs.declared.node_kind.Kind.TheVariants as kinds
use Rattle.plain_tree.specs.Tree as tree
use Rattle.plain_tree.specs.Tree.{Node, Tree, node_at}
use Rattle.plain_tree.specs.Checks.{target_check}
use Rattle.plain_tree.specs.Numbers.{Ascend, InOrder}
use Rattle.plain_tree.specs.WellFormed.{IsWithinLimits, AreWithinLimits}
use Rattle.s3_rows.specs.Rows.{Inode, InodeBlock, Block, Object, Target, Parameters}
use Rattle.s3_rows.specs.Keyed.{has_key, rises}
use Rattle.s3_rows.specs.Tables.{Tables, by_inode}
use Rattle.s3_rows.specs.Selections.{inode_at, object_at, block_at, target_at}
use Rattle.s3_rows.specs.Validity.{has_inode, is_directory, is_regular, is_link, finds_target, finds_of_inode_block, has_its_size, is_number, is_in_file, has_size_of_object}
use Rattle.row_lemmas.proofs.Tests.{find_passes_all}
use Rattle.row_lemmas.proofs.Keyed.RowAt.{row_at_own}
use Rattle.tree_rows.specs.Premises.{finds_block, fits_size, fits_kind}
use Rattle.tree_rows.specs.Shapes.{Link, NodeShape, TreeShape, shape_of_content, shape_of_node, node_of_row, Represents}
use Rattle.tree_rows.proofs.Replaced.{node_of}
use Rattle.tree_rows.proofs.Shaped.{found_alike}
use Rattle.tree_rows.proofs.Whole.{content_of_kind}
use Rattle.tree_rows.proofs.Validity.Each.{list_all_from_each}
use Rattle.tree_rows.proofs.Validity.Entries.{is_of_kind}

-- the size that a kind of inode has: that of its target, of a symbolic link
abbrev pub has_size : Kind → Option Target → ℕ → Bool
has_size kind found size =
    elim kind [
      | kinds.Directory ↦ size == 0
      | kinds.Regular ↦ true
      | kinds.Link ↦ is_number size (option_map (λ x. length x.target) found)
    ]

-- ---- numbers

Ascend-next : (low next : ℕ) (numbers : List ℕ) → Ascend low numbers next → low ≤ next
Ascend-next low next [] up = up
Ascend-next low next (n ∷ ns) up = omega (arith, up.0, Ascend-next (n + 1) next ns up.1)

list_all-Ascend : (t : Tables) (low next : ℕ) (rows : List Inode)
    → Ascend low (keys_of (map (λ r. (r.id, node_of_row t r)) rows)) next
    → IsTrue (list_all (λ r. nat_lt r.id next) rows)
list_all-Ascend t low next [] up = refl
list_all-Ascend t low next (r ∷ rs) up =
    and_from (nat_lt r.id next) (list_all (λ (x : Inode). nat_lt x.id next) rs)
    (lt-ltb r.id next
    (omega (arith, Ascend-next (r.id + 1) next (keys_of (map (λ (x : Inode). (x.id, node_of_row t x)) rs)) up.1)))
    (list_all-Ascend t (r.id + 1) next rs up.1)

module _ (t : Tables) (whole : Tree) (same : Represents t whole) where
  -- the numbers of nodes are those of rows
  pub keys_of-nodes : keys_of (map (λ (r : Inode). (r.id, node_of_row t r)) t.inodes) ≡ keys_of whole.nodes
  keys_of-nodes = ap (λ (s : TreeShape). keys_of s.nodes) same ∙ keys_of-map_values shape_of_node whole.nodes

  -- each is below the next one
  pub inodes_below_next : InOrder whole → IsTrue (list_all (λ r. nat_lt r.id whole.next_inode) t.inodes)
  inodes_below_next order =
      list_all-Ascend t 0 whole.next_inode t.inodes
      (subst (λ numbers. Ascend 0 numbers whole.next_inode) (sym keys_of-nodes) order)

  pub next_inode_is : (p : Parameters) → t.params ≡ Some p → whole.next_inode ≡ p.next_inode
  next_inode_is p made =
      sym (ap (λ (s : TreeShape). s.next_inode) same)
      ∙ ap (λ (x : Option Parameters). unwrap_or (option_map (λ y. y.next_inode) x) 0) made

  -- where there is an inode, there are parameters
  pub has_params : InOrder whole → (x : ℕ) → IsTrue (has_inode is_directory t x)
      → (p : Parameters) × (t.params ≡ Some p)
  has_params order x there = by_params t.params refl
    where
      none_below : (n x : ℕ) → n ≡ 0 → nat_lt x n ≡ true → ⊥
      none_below n x none less = omega (arith, none, ltb-true x n less)

      by_row : whole.next_inode ≡ 0 → (row : Option Inode) → inode_at t x ≡ row
          → IsTrue (is_of_kind is_directory row) → ⊥
      by_row none None is own = cc own
      by_row none (Some r) is own =
          none_below whole.next_inode r.id none
          (find_passes_all (has_key by_inode x) (λ (y : Inode). nat_lt y.id whole.next_inode) t.inodes r
          (inodes_below_next order) is)

      by_params : (params : Option Parameters) → t.params ≡ params → (p : Parameters) × (params ≡ Some p)
      by_params (Some p) is = (p, refl)
      by_params None is =
          let none : whole.next_inode ≡ 0 =
          sym (ap (λ (s : TreeShape). s.next_inode) same)
          ∙ ap (λ (x : Option Parameters). unwrap_or (option_map (λ y. y.next_inode) x) 0) is in
          absurd (by_row none (inode_at t x) refl there)

-- ---- targets

limits_of : (test : ℕ → Bool) (nodes : List (ℕ × Node)) (node : Node) → AreWithinLimits nodes
    → lookup test nodes ≡ Some node → IsWithinLimits node.content
limits_of test [] node limits is = absurd (cc is)
limits_of test (e ∷ es) node limits is = by_case (limits_of test es node limits.2) (test e.0) is
  where
    by_case : (lookup test es ≡ Some node → IsWithinLimits node.content) → (b : Bool)
        → cond b (Some e.1) (lookup test es) ≡ Some node → IsWithinLimits node.content
    by_case others true found =
        let own : e.1 ≡ node = cc found in
        subst (λ (n : Node). IsWithinLimits n.content) own limits.0
    by_case others false found = others found

-- a target that is within its rules has a row
target_there : (content : tree.Content) (found : Option Target) → IsWithinLimits content
    → shape_of_content content ≡ Link (unwrap_or (option_map (λ r. r.target) found) []) → IsTrue (is_some found)
target_there content (Some x) limits is = refl
target_there (tree.Regular bytes) None limits is = absurd (cc is)
target_there (tree.Directory entries) None limits is = absurd (cc is)
target_there (tree.Link target) None limits is =
    let empty : target ≡ [] = cc is in
    let fails : target_check [] ≡ None = subst (λ bytes. target_check bytes ≡ None) empty limits in
    absurd (cc fails)

pub finds_targets : (t : Tables) (whole : Tree) → Represents t whole → IsTrue (rises by_inode t.inodes)
    → AreWithinLimits whole.nodes → IsTrue (list_all (finds_target t) t.inodes)
finds_targets t whole same rise limits =
    list_all_from_each (λ (r : Inode). inode_at t r.id ≡ Some r) (finds_target t)
    (λ r there. by_kind r there r.kind refl) t.inodes (row_at_own by_inode nat_cmp_total t.inodes rise)
  where
    linked : (r : Inode) → inode_at t r.id ≡ Some r → r.kind ≡ kinds.Link → IsTrue (is_some (target_at t r.id))
    linked r there link =
        let node =
        node_of (node_at whole r.id) (node_of_row t r)
        (found_alike t whole same r.id ∙ ap (option_map (node_of_row t)) there) in
        let own : IsWithinLimits node.0.content = limits_of (is_at (nat_cmp r.id)) whole.nodes node.0 limits node.1 in
        target_there node.0.content (target_at t r.id) own
        (ap (λ (s : NodeShape). s.content) node.2 ∙ ap (content_of_kind t r) link)

    by_kind : (r : Inode) → inode_at t r.id ≡ Some r → (kind : Kind) → r.kind ≡ kind
        → IsTrue (not (is_link kind) || is_some (target_at t r.id))
    by_kind r there kinds.Directory is = refl
    by_kind r there kinds.Regular is = refl
    by_kind r there kinds.Link is = linked r there is

-- ---- sizes and places in files

pub has_its_size_from_fits : (t : Tables) (r : Inode) → IsTrue (fits_kind t r) → IsTrue (finds_target t r)
    → IsTrue (has_its_size t r)
has_its_size_from_fits t r fits finds = by_kind r.kind (target_at t r.id) fits finds
  where
    by_kind : (kind : Kind) (found : Option Target) → IsTrue (fits_size kind found r.size)
        → IsTrue (not (is_link kind) || is_some found) → IsTrue (has_size kind found r.size)
    by_kind kinds.Directory found is there = is
    by_kind kinds.Regular found is there = refl
    by_kind kinds.Link None is there = absurd (cc there)
    by_kind kinds.Link (Some x) is there = is

-- what lies in a file, and in no symbolic link, lies in a regular file
pub is_regular_in_file : (t : Tables) (p : Parameters) (inode blockno : ℕ) → IsTrue (list_all (fits_kind t) t.inodes)
    → IsTrue (not (has_inode is_link t inode)) → IsTrue (is_in_file t p inode blockno)
    → IsTrue (has_inode is_regular t inode)
is_regular_in_file t p inode blockno fits no_link within = by_row (inode_at t inode) refl no_link within
  where
    by_kind : (kind : Kind) (found : Option Target) (size : ℕ) → IsTrue (fits_size kind found size)
        → IsTrue (not (is_link kind)) → IsTrue (nat_lt (blockno * p.block_size) size) → IsTrue (is_regular kind)
    by_kind kinds.Directory found size fits other less =
        absurd (omega (arith, eqb-true size 0 fits, ltb-true (blockno * p.block_size) size less))
    by_kind kinds.Regular found size fits other less = refl
    by_kind kinds.Link found size fits other less = absurd (cc other)

    by_row : (row : Option Inode) → inode_at t inode ≡ row → IsTrue (not (is_of_kind is_link row))
        → IsTrue (elim row [ Some r ↦ nat_lt (blockno * p.block_size) r.size | None ↦ false ])
        → IsTrue (is_of_kind is_regular row)
    by_row None is other less = absurd (cc less)
    by_row (Some r) is other less =
        by_kind r.kind (target_at t r.id) r.size
        (find_passes_all (has_key by_inode inode) (fits_kind t) t.inodes r fits is) other less

pub finds_of_inode_block_in_file : (t : Tables) (p : Parameters) → IsTrue (list_all (fits_kind t) t.inodes)
    → (r : InodeBlock)
    → IsTrue (finds_block t r) → IsTrue (is_in_file t p r.inode r.blockno) → IsTrue (finds_of_inode_block t r)
finds_of_inode_block_in_file t p fits r finds within =
    and_from (has_inode is_regular t r.inode) (is_some (block_at t r.block))
    (is_regular_in_file t p r.inode r.blockno fits
    (and_parts (not (has_inode is_link t r.inode)) (is_some (block_at t r.block)) finds).0 within)
    (and_parts (not (has_inode is_link t r.inode)) (is_some (block_at t r.block)) finds).1

-- a block of an object's size finds its object
pub finds_object : (t : Tables) (r : Block) → IsTrue (has_size_of_object t r) → IsTrue (is_some (object_at t r.object))
finds_object t r size = by_row (object_at t r.object) size
  where
    by_row : (row : Option Object) → IsTrue (is_number r.size (option_and_then (λ o. o.size) row))
        → IsTrue (is_some row)
    by_row None is = absurd (cc is)
    by_row (Some o) is = refl

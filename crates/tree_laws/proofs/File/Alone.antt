-- Operations that change one node, and those that change none.
use Rattle.std.proofs.Common.{◌≡◌, ℕ, List, true, cond, Option, None, Some, refl, ap}
use Rattle.std.proofs.lemmas.Bool.{eq-eqb}
use Rattle.op_frames.specs.declared.operation.Op.{Op}
use Rattle.op_frames.specs.declared.operation.Op.TheVariants as ops
use Rattle.plain_tree.specs.Entries.{entry_at}
use Rattle.plain_tree.specs.Operations.{effect, tree_after}
use Rattle.plain_tree.specs.Subtrees.{is_same, moved_entry}
use Rattle.plain_tree.specs.Tree.{Node, Tree, node_at, changed_by, change_node}
use Rattle.plain_tree.proofs.Replies.{same_after}
use Rattle.tree_laws.specs.Changes.{ChangesOneNode, node_changed}
use Rattle.tree_laws.proofs.Node.Reading.{changed_by-changes_one}
use Rattle.tree_laws.proofs.Walk.Calls.{after_call}

changes_none : (inode : ℕ) (t : Tree) → ChangesOneNode inode t t
changes_none inode t = record { others = λ x apart. refl; handles = refl; next_inode = refl; next_handle = refl; block_size = refl }

-- a change of one node leaves all else
pub changes_found : (f : Node → Node) (inode : ℕ) (t : Tree) (found : Option Node) → node_at t inode ≡ found → ChangesOneNode inode t (changed_by f found inode t)
changes_found f inode t None is = changes_none inode t
changes_found f inode t (Some node) is = changed_by-changes_one f node inode t is

changes_alone : (f : Node → Node) (changed inode : ℕ) (t : Tree) → Some changed ≡ Some inode → ChangesOneNode inode t (change_node changed f t)
changes_alone f changed inode t names =
    let same : changed ≡ inode = cc names in
    rw same (changes_found f inode t (node_at t inode) refl)

changes_by : (t : Tree) (pass now inode : ℕ) (op : Op) → node_changed op ≡ Some inode → ChangesOneNode inode t (effect t pass op now)
changes_by t pass now inode (ops.Chmod changed mode) names = changes_alone _ changed inode t names
changes_by t pass now inode (ops.Chown changed uid gid) names = changes_alone _ changed inode t names
changes_by t pass now inode (ops.Utimes changed mtime) names = changes_alone _ changed inode t names
changes_by t pass now inode (ops.Truncate changed size) names = changes_alone _ changed inode t names
changes_by t pass now inode (ops.Setxattr changed name flag value) names = changes_alone _ changed inode t names
changes_by t pass now inode (ops.Removexattr changed name) names = changes_alone _ changed inode t names
changes_by t pass now inode op names = absurd (cc names)

-- so does an operation on the state of one node
pub stays_alone : (t : Tree) (pass now inode : ℕ) (op : Op) → node_changed op ≡ Some inode → ChangesOneNode inode t (tree_after t pass op now)
stays_alone t pass now inode op names = after_call (ChangesOneNode inode t) t pass now op (changes_none inode t) (λ passes. changes_by t pass now inode op names)

-- ---- a rename of a node to itself

same_if_equal : (a b : Option ℕ) (inode : ℕ) → a ≡ Some inode → b ≡ Some inode → is_same a b ≡ true
same_if_equal a b inode first second = rw (first, second) (eq-eqb inode inode refl)

pub renamed_to_itself : (t : Tree) (pass now parent new_parent inode : ℕ) (name new_name : List ℕ) → entry_at t parent name ≡ Some inode → entry_at t new_parent new_name ≡ Some inode
    → tree_after t pass (ops.Rename parent name new_parent new_name) now ≡ t
renamed_to_itself t pass now parent new_parent inode name new_name old new =
    same_after t pass now (ops.Rename parent name new_parent new_name) _ refl
    (ap (λ same. cond same t (moved_entry parent name new_parent new_name now (entry_at t parent name) t))
    (same_if_equal (entry_at t new_parent new_name) (entry_at t parent name) inode new old))

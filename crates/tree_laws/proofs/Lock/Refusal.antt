-- A locked node refuses what would change it.
use Rattle.std.proofs.Common.{◌≡◌, ℕ, List, Bool, true, false, Option, None, Some, refl, sym, ap, inl, inr, ◌∙◌}
use Rattle.std.proofs.lemmas.Bool.{eqb-true}
use Rattle.std.specs.Prelude.{option_and_then}
use Rattle.op_frames.specs.declared.operation.Op.{Op}
use Rattle.op_frames.specs.declared.operation.Op.TheVariants as ops
use Rattle.op_frames.specs.declared.reply.Reply.TheVariants as replies
use Rattle.s3_base.specs.declared.errors.Errno.{Errno}
use Rattle.plain_tree.specs.Checks.{first_failure, lock_check}
use Rattle.plain_tree.specs.Entries.{entry_at, child_at}
use Rattle.plain_tree.specs.Files.{inode_of}
use Rattle.plain_tree.specs.Operations.{checks, reply_to}
use Rattle.plain_tree.specs.Subtrees.{is_same}
use Rattle.plain_tree.specs.Tree.{Node, Tree, node_at, handle_of}
use Rattle.plain_tree.proofs.Replies.{reply_at}
use Rattle.tree_laws.specs.Locks.{WouldChange}
use Rattle.tree_laws.proofs.Walk.Passed.{all_pass, can_mkdir, can_create, can_symlink, can_unlink, can_unmake, can_uproot, can_link, can_rename, can_move, can_copy}

-- the lock of a node, however it is come by
pub locked_fails : (found : Option Node) (node : Node) → found ≡ Some node → node.locked ≡ true → lock_check found ≡ None → ⊥
locked_fails found node is locked passes =
    let fails : lock_check found ≡ Some 1 = rw (is, locked) refl in
    let both_ways : None ≡ Some 1 = sym passes ∙ fails in
    cc both_ways

-- two entries name one node
same_entry : (a b : Option ℕ) (x : ℕ) → is_same a b ≡ true → a ≡ Some x → b ≡ Some x
same_entry (Some a) (Some b) x same is = ap Some (sym (eqb-true a b same)) ∙ is
same_entry (Some a) None x same is = absurd (cc same)
same_entry None b x same is = absurd (cc is)

-- a locked node of the tree
record Locked (t : Tree) (x : ℕ) : Type 0 where
  pub node : Node
  pub is : node_at t x ≡ Some node
  pub locked : node.locked ≡ true

-- a locked node of the tree
module _ (t : Tree) (pass x : ℕ) (found : Locked t x) where
  itself : (y : ℕ) → y ≡ x → lock_check (node_at t y) ≡ None → ⊥
  itself y same passes = locked_fails (node_at t y) found.node (ap (node_at t) same ∙ found.is) found.locked passes

  child : (p : ℕ) (n : List ℕ) → entry_at t p n ≡ Some x → lock_check (child_at t p n) ≡ None → ⊥
  child p n names passes = locked_fails (child_at t p n) found.node (ap (option_and_then (node_at t)) names ∙ found.is) found.locked passes

  replaced : (p : ℕ) (n : List ℕ) (np : ℕ) (nn : List ℕ) → first_failure (checks t pass (ops.Rename p n np nn)) ≡ None → entry_at t np nn ≡ Some x → (test : Bool) → is_same (entry_at t np nn) (entry_at t p n) ≡ test → ⊥
  replaced p n np nn passes names true same = child p n (same_entry (entry_at t np nn) (entry_at t p n) x same names) (can_rename t pass p n np nn passes).child_unlocked
  replaced p n np nn passes names false differs = child np nn names (can_move t pass p n np nn passes differs).new_child_unlocked

  renamed : (p : ℕ) (n : List ℕ) (np : ℕ) (nn : List ℕ) → first_failure (checks t pass (ops.Rename p n np nn)) ≡ None → WouldChange t pass x (ops.Rename p n np nn) → ⊥
  renamed p n np nn passes (inl same) = itself p same (can_rename t pass p n np nn passes).unlocked
  renamed p n np nn passes (inr (inl same)) = itself np same (can_rename t pass p n np nn passes).new_unlocked
  renamed p n np nn passes (inr (inr (inl names))) = child p n names (can_rename t pass p n np nn passes).child_unlocked
  renamed p n np nn passes (inr (inr (inr names))) = replaced p n np nn passes names (is_same (entry_at t np nn) (entry_at t p n)) refl

  -- where it would change, some check fails
  fails : (op : Op) → first_failure (checks t pass op) ≡ None → WouldChange t pass x op → ⊥
  fails (ops.Chmod y mode) passes same = itself y same (all_pass (checks t pass (ops.Chmod y mode)) passes).1.1.0
  fails (ops.Chown y uid gid) passes same = itself y same (all_pass (checks t pass (ops.Chown y uid gid)) passes).1.0
  fails (ops.Utimes y mtime) passes same = itself y same (all_pass (checks t pass (ops.Utimes y mtime)) passes).1.1.0
  fails (ops.Truncate y size) passes same = itself y same (all_pass (checks t pass (ops.Truncate y size)) passes).1.1.0
  fails (ops.Write number offset bytes) passes opened =
      itself (inode_of (handle_of t pass number)) (ap inode_of opened.1 ∙ opened.2) (all_pass (checks t pass (ops.Write number offset bytes)) passes).1.0
  fails (ops.Setxattr y name flag value) passes same = itself y same (all_pass (checks t pass (ops.Setxattr y name flag value)) passes).1.1.1.0
  fails (ops.Removexattr y name) passes same = itself y same (all_pass (checks t pass (ops.Removexattr y name)) passes).1.1.0
  fails (ops.Mkdir p n mode uid gid) passes same = itself p same (can_mkdir t pass p n mode uid gid passes).1.unlocked
  fails (ops.Create p n mode uid gid) passes same = itself p same (can_create t pass p n mode uid gid passes).1.unlocked
  fails (ops.Symlink p n target uid gid) passes same = itself p same (can_symlink t pass p n target uid gid passes).1.unlocked
  fails (ops.CopyTree source p n) passes same = itself p same (can_copy t pass source p n passes).unlocked
  fails (ops.RemoveTree p n) passes same = itself p same (can_uproot t pass p n passes).drop.unlocked
  fails (ops.Link y p n) passes (inl same) = itself y same (can_link t pass y p n passes).unlocked
  fails (ops.Link y p n) passes (inr same) = itself p same (can_link t pass y p n passes).parent_unlocked
  fails (ops.Unlink p n) passes (inl same) = itself p same (can_unlink t pass p n passes).drop.unlocked
  fails (ops.Unlink p n) passes (inr names) = child p n names (can_unlink t pass p n passes).child_unlocked
  fails (ops.Rmdir p n) passes (inl same) = itself p same (can_unmake t pass p n passes).drop.unlocked
  fails (ops.Rmdir p n) passes (inr names) = child p n names (can_unmake t pass p n passes).child_unlocked
  fails (ops.Rename p n np nn) passes would = renamed p n np nn passes would
  fails op passes none = none

refused_if : (t : Tree) (pass now x : ℕ) (op : Op) → Locked t x → WouldChange t pass x op → (failure : Option ℕ) → first_failure (checks t pass op) ≡ failure
    → (errno : Errno) × (reply_to t pass op now ≡ replies.Errno errno)
refused_if t pass now x op found would None passes = absurd (fails t pass x found op passes would)
refused_if t pass now x op found would (Some n) is = (record { 0 = n }, reply_at t pass now op (Some n) is)

-- a call that would change a locked node is refused
pub refused_call : (t : Tree) (pass now x : ℕ) (node : Node) (op : Op) → node_at t x ≡ Some node → node.locked ≡ true → WouldChange t pass x op
    → (errno : Errno) × (reply_to t pass op now ≡ replies.Errno errno)
refused_call t pass now x node op is locked would = refused_if t pass now x op (record { node = node; is = is; locked = locked }) would (first_failure (checks t pass op)) refl

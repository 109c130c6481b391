-- What stays of a locked tree.
use Rattle.std.specs.Prelude.{◌≡◌, ℕ, List, [], ◌∷◌, true, false, Some}
use Rattle.op_frames.specs.Replay.{Request}
use Rattle.op_frames.specs.declared.operation.Op.{Op}
use Rattle.op_frames.specs.declared.operation.Op.TheVariants as ops
use Rattle.op_frames.specs.declared.reply.Reply.{Reply}
use Rattle.op_frames.specs.declared.reply.Reply.TheVariants as replies
use Rattle.plain_tree.specs.Below.{is_at_or_below}
use Rattle.plain_tree.specs.Calls.{Answered, leaves_tree, tree_after_reply}
use Rattle.plain_tree.specs.Entries.{entry_at}
use Rattle.plain_tree.specs.Operations.{reply_to, tree_after}
use Rattle.plain_tree.specs.Tree.{Node, Tree, node_at, stamped}

-- the operation, with its reply, is no RemoveTree answered Done that takes the entry away: of the entry itself, or of a
-- directory at or above the one it is in
abbrev pub Spares : Tree → ℕ → List ℕ → Op → Reply → Type 0
Spares t parent name (ops.RemoveTree from by) reply =
    (top : ℕ) → reply ≡ replies.Done → entry_at t from by ≡ Some top → (is_at_or_below t top parent ≡ false) × ((parent ≡ from) × (name ≡ by) → ⊥)
Spares t parent name op reply = Unit {0}

-- each of the calls spares the entry in the tree that it finds
abbrev pub AllSpare : Tree → ℕ → List ℕ → List Request → Type 0
AllSpare t parent name [] = Unit {0}
AllSpare t parent name (call ∷ calls) =
    Spares t parent name call.op (reply_to t call.pass call.op call.now) × AllSpare (tree_after t call.pass call.op call.now) parent name calls

-- the operation, with its reply, is no RemoveTree answered Done of the directory, or of one above it
abbrev pub SparesTree : Tree → ℕ → Op → Reply → Type 0
SparesTree t inode (ops.RemoveTree from by) reply = (top : ℕ) → reply ≡ replies.Done → entry_at t from by ≡ Some top → is_at_or_below t top inode ≡ false
SparesTree t inode op reply = Unit {0}

-- each of the calls spares the directory in the tree that it finds
abbrev pub AllSpareTree : Tree → ℕ → List Request → Type 0
AllSpareTree t inode [] = Unit {0}
AllSpareTree t inode (call ∷ calls) = SparesTree t inode call.op (reply_to t call.pass call.op call.now) × AllSpareTree (tree_after t call.pass call.op call.now) inode calls

-- each of the answered calls, where its reply does not leave the tree, spares the directory in the tree that it finds
abbrev pub RunSparesTree : Tree → ℕ → List Answered → Type 0
RunSparesTree t inode [] = Unit {0}
RunSparesTree t inode (a ∷ run) = (leaves_tree a.reply ≡ false → SparesTree t inode a.call.op replies.Done) × RunSparesTree (tree_after_reply t a) inode run

-- the entry names the inode, whose node is as it was but for ctime
pub record IsAsBefore (parent : ℕ) (name : List ℕ) (inode : ℕ) (node : Node) (after : Tree) : Type 0 where
  pub names : entry_at after parent name ≡ Some inode
  pub time : ℕ
  pub is : node_at after inode ≡ Some (stamped time node)

-- all at and below a directory is as it was but for ctime, and locked; the directories have the same entries, no more and no
-- less, and the entry that names the first of them is there
pub record StaysLocked (top : ℕ) (t after : Tree) : Type 0 where
  pub nodes : (inode : ℕ) (node : Node) → is_at_or_below t top inode ≡ true → node_at t inode ≡ Some node
      → (time : ℕ) × (node_at after inode ≡ Some (stamped time (record node { locked = true })))
  pub entries : (parent : ℕ) (name : List ℕ) → is_at_or_below t top parent ≡ true → entry_at after parent name ≡ entry_at t parent name
  pub its_name : (parent : ℕ) (name : List ℕ) → entry_at t parent name ≡ Some top → entry_at after parent name ≡ Some top

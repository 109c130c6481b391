-- Runs of answered calls, and what their replies are.
use Rattle.std.specs.Prelude.{◌≡◌, ◌⊎◌, ℕ, List, [], ◌∷◌, IsTrue, None}
use Rattle.op_frames.specs.declared.operation.Op.{Op}
use Rattle.op_frames.specs.declared.operation.Op.TheVariants as ops
use Rattle.op_frames.specs.Replay.{Request}
use Rattle.plain_tree.specs.Calls.{Answered, no_memory, tree_after_reply}
use Rattle.plain_tree.specs.Checks.{first_failure}
use Rattle.plain_tree.specs.Operations.{checks, effect}
use Rattle.plain_tree.specs.Tree.{Tree}
use Rattle.core_model.specs.Occurring.{IsCollisionFree, occurring}
use Rattle.core_rules.specs.Built.{core_reply, is_built}
use Rattle.tree_limits.specs.Full.{GetsFullBlock, GetsFullName, HasFullBlock, IsNameFull}
use Rattle.volume_core.specs.Answers.{no_space}
use Rattle.volume_core.specs.Refusals.{IsLike}

-- a fact of each answered call, with the tree that the calls before it left
abbrev pub Answers : (Tree → Answered → Type 0) → Tree → List Answered → Type 0
Answers Is t [] = Unit {0}
Answers Is t (a ∷ run) = Is t a × Answers Is (tree_after_reply t a) run

-- memory ran out at an operation that is built
abbrev pub IsShort : Answered → Type 0
IsShort a = IsTrue (is_built a.call.op) × (a.reply ≡ no_memory)

-- An operation that is built, and of which no check fails, was answered ENOSPC.
pub record IsFull (t : Tree) (a : Answered) : Type 0 where
  pub built : IsTrue (is_built a.call.op)
  pub reply : a.reply ≡ no_space
  pub passes : first_failure (checks t a.call.pass a.call.op) ≡ None

-- A count of the tree is at its end: a copy would bring a name to 2^62 uses or a block to 2^62 places, a write may bring a block to
-- them, or the name that is used once more has 2^62 - 1 uses.
abbrev pub HasFullCount : Tree → ℕ → Op → ℕ → Type 0
HasFullCount t pass (ops.CopyTree source parent name) now =
    GetsFullName t (effect t pass (ops.CopyTree source parent name) now) ⊎ GetsFullBlock t (effect t pass (ops.CopyTree source parent name) now)
HasFullCount t pass (ops.Write handle offset bytes) now = HasFullBlock t
HasFullCount t pass (ops.Truncate inode size) now = HasFullBlock t
HasFullCount t pass op now = IsNameFull t op

-- the reply is like that of the core's rules: the same, but for a Read's bytes, which are as many
abbrev pub IsLikeReply : Tree → Answered → Type 0
IsLikeReply t a = IsLike a.call.op (core_reply t a.call) a.reply ⊎ IsShort a ⊎ IsFull t a

-- the reply is the very same
abbrev pub IsSameReply : Tree → Answered → Type 0
IsSameReply t a = (a.reply ≡ core_reply t a.call) ⊎ IsShort a ⊎ (IsFull t a × HasFullCount t a.call.pass a.call.op a.call.now)

-- Calls that were answered one after the other, from a tree on.
pub record IsRun (digest_of : List ℕ → List ℕ) (t : Tree) (run : List Answered) : Type 0 where
  -- whatever the bytes of blocks are
  pub shape : Answers IsLikeReply t run
  -- where no two different blocks that occur in the run have the same digest
  pub bytes : IsCollisionFree digest_of (occurring [] t run) → Answers IsSameReply t run

-- Calls one after the other, and what they were answered.
use Rattle.std.specs.Prelude.{List, [], ◌∷◌, Bool, true, false, if◌then◌else◌}
use Rattle.op_frames.specs.declared.reply.Reply.{Reply}
use Rattle.op_frames.specs.declared.reply.Reply.TheVariants as replies
use Rattle.op_frames.specs.declared.reply.Cause.TheVariants as causes
use Rattle.op_frames.specs.Replay.{Request}
use Rattle.plain_tree.specs.Tree.{Tree}
use Rattle.plain_tree.specs.Operations.{reply_to, tree_after}

-- the replies to calls, in order
abbrev pub replies_to : Tree → List Request → List Reply
replies_to t [] = []
replies_to t (call ∷ calls) = reply_to t call.pass call.op call.now ∷ replies_to (tree_after t call.pass call.op call.now) calls

-- the tree after calls
abbrev pub tree_after_all : Tree → List Request → Tree
tree_after_all t [] = t
tree_after_all t (call ∷ calls) = tree_after_all (tree_after t call.pass call.op call.now) calls

-- the reply of want of memory
abbrev pub no_memory : Reply
no_memory = replies.Fault causes.Memory

-- ---- runs

-- a call, and what it was answered
pub record Answered : Type 0 where
  pub call : Request
  pub reply : Reply

-- an error, a fault or the word that bytes are lost: the tree is as before
abbrev pub leaves_tree : Reply → Bool
leaves_tree (replies.Errno number) = true
leaves_tree (replies.Fault cause) = true
leaves_tree (replies.Lost object kept got) = true
leaves_tree _ = false

-- the tree after a call that was answered
abbrev pub tree_after_reply : Tree → Answered → Tree
tree_after_reply t a = if leaves_tree a.reply then t else tree_after t a.call.pass a.call.op a.call.now

-- the trees along a run: the one before its first call, and the one after each
abbrev pub trees_along : Tree → List Answered → List Tree
trees_along t [] = t ∷ []
trees_along t (a ∷ run) = t ∷ trees_along (tree_after_reply t a) run

-- the tree after the last call
abbrev pub tree_at_end : Tree → List Answered → Tree
tree_at_end t [] = t
tree_at_end t (a ∷ run) = tree_at_end (tree_after_reply t a) run

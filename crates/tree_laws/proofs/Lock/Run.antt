-- A tree that was locked stays along a run of answered calls, until a removal.
use Rattle.std.proofs.Common.{◌≡◌, ℕ, List, [], ◌∷◌, Bool, true, false, cond, refl, sym, ap, ◌∙◌, subst}
use Rattle.op_frames.specs.Replay.{Request}
use Rattle.op_frames.specs.declared.operation.Op.{Op}
use Rattle.op_frames.specs.declared.operation.Op.TheVariants as ops
use Rattle.op_frames.specs.declared.reply.Reply.{Reply}
use Rattle.op_frames.specs.declared.reply.Reply.TheVariants as replies
use Rattle.plain_tree.specs.Calls.{Answered, leaves_tree, tree_after_all, tree_after_reply, tree_at_end}
use Rattle.plain_tree.specs.Operations.{reply_to, tree_after}
use Rattle.plain_tree.specs.Tree.{Tree}
use Rattle.plain_tree.specs.WellFormed.{IsWellFormed}
use Rattle.tree_laws.specs.LockedTrees.{AllSpareTree, RunSparesTree, SparesTree, StaysLocked}
use Rattle.tree_laws.proofs.Lock.Tree.{locked_by}
use Rattle.tree_laws.proofs.WellFormed.{sound_of}

-- the calls whose replies do not leave the tree
abbrev carried : List Answered → List Request
carried [] = []
carried (a ∷ run) = cond (leaves_tree a.reply) (carried run) (a.call ∷ carried run)

-- whatever the reply, the call spares the directory
spares_any : (t : Tree) (inode : ℕ) (op : Op) (reply : Reply) → SparesTree t inode op replies.Done → SparesTree t inode op reply
spares_any t inode (ops.RemoveTree from by) reply spares = λ top done names. spares top refl names
spares_any t inode op reply spares = _

-- the tree at the end is that after these calls, which spare the directory too
record IsCarried (t : Tree) (inode : ℕ) (run : List Answered) (calls : List Request) : Type 0 where
  pub last : tree_at_end t run ≡ tree_after_all t calls
  pub spare : AllSpareTree t inode calls

next_is : (t : Tree) (a : Answered) (b : Bool) → leaves_tree a.reply ≡ b → tree_after_reply t a ≡ cond b t (tree_after t a.call.pass a.call.op a.call.now)
next_is t a b is = ap (λ c. cond c t (tree_after t a.call.pass a.call.op a.call.now)) is

carried_is : (a : Answered) (run : List Answered) (b : Bool) → leaves_tree a.reply ≡ b → carried (a ∷ run) ≡ cond b (carried run) (a.call ∷ carried run)
carried_is a run b is = ap (λ c. cond c (carried run) (a.call ∷ carried run)) is

run_carried : (t : Tree) (inode : ℕ) (run : List Answered) → RunSparesTree t inode run → IsCarried t inode run (carried run)
run_carried t inode [] spares = record { last = refl; spare = _ }
run_carried t inode (a ∷ run) spares = by_reply (leaves_tree a.reply) refl (run_carried (tree_after_reply t a) inode run spares.1)
  where
    by_reply : (b : Bool) → leaves_tree a.reply ≡ b → IsCarried (tree_after_reply t a) inode run (carried run) → IsCarried t inode (a ∷ run) (carried (a ∷ run))
    by_reply true is rest =
        let own : IsCarried t inode run (carried run) = subst (λ u. IsCarried u inode run (carried run)) (next_is t a true is) rest in
        subst (IsCarried t inode (a ∷ run)) (sym (carried_is a run true is)) (record { last = ap (λ u. tree_at_end u run) (next_is t a true is) ∙ own.last; spare = own.spare })
    by_reply false is rest =
        let next : Tree = tree_after t a.call.pass a.call.op a.call.now in
        let own : IsCarried next inode run (carried run) = subst (λ u. IsCarried u inode run (carried run)) (next_is t a false is) rest in
        let spare : AllSpareTree t inode (a.call ∷ carried run) = (spares_any t inode a.call.op (reply_to t a.call.pass a.call.op a.call.now) (spares.0 is), own.spare) in
        let last : tree_at_end t (a ∷ run) ≡ tree_after_all t (a.call ∷ carried run) = ap (λ u. tree_at_end u run) (next_is t a false is) ∙ own.last in
        subst (IsCarried t inode (a ∷ run)) (sym (carried_is a run false is)) (record { last = last; spare = spare })

-- a locked tree stays
pub run_stays : (t : Tree) (pass now inode : ℕ) (run : List Answered) → IsWellFormed t → reply_to t pass (ops.LockTree inode) now ≡ replies.Done
    → RunSparesTree (tree_after t pass (ops.LockTree inode) now) inode run → StaysLocked inode t (tree_at_end (tree_after t pass (ops.LockTree inode) now) run)
run_stays t pass now inode run well done spares =
    let next : Tree = tree_after t pass (ops.LockTree inode) now in
    let same : IsCarried next inode run (carried run) = run_carried next inode run spares in
    subst (StaysLocked inode t) (sym same.last) (locked_by t (sound_of t well) (carried run) pass now inode done same.spare)

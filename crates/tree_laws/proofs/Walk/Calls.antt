-- What the walk over the operations says of a call, and of a list of calls.
use Rattle.std.proofs.Common.{◌∙◌, ◌≡◌, ℕ, List, [], ◌∷◌, Option, None, Some, refl, sym, subst}
use Rattle.op_frames.specs.Replay.{Request}
use Rattle.op_frames.specs.declared.operation.Op.{Op}
use Rattle.op_frames.specs.declared.operation.Op.TheVariants as ops
use Rattle.op_frames.specs.declared.reply.Reply.TheVariants as replies
use Rattle.s3_base.specs.declared.errors.Errno.{Errno}
use Rattle.plain_tree.specs.Calls.{tree_after_all}
use Rattle.plain_tree.specs.Checks.{first_failure}
use Rattle.plain_tree.specs.Operations.{reply_to, checks, effect, tree_after}
use Rattle.plain_tree.specs.Tree.{Tree}
use Rattle.plain_tree.proofs.Replies.{reply_at, tree_at}
use Rattle.tree_laws.proofs.Walk.Operations.{Effects, Walk, effects-effect, effects_by_walk}

call_if : (P : Tree → Type 0) (t : Tree) (pass now : ℕ) (op : Op) (failure : Option ℕ) → first_failure (checks t pass op) ≡ failure → P t
    → (first_failure (checks t pass op) ≡ None → P (effect t pass op now)) → P (tree_after t pass op now)
call_if P t pass now op (Some errno) is before after = subst P (sym (tree_at t pass now op (Some errno) is)) before
call_if P t pass now op None is before after = subst P (sym (tree_at t pass now op None is)) (after is)

-- what holds before a call, and after its effect where all checks pass, holds after the call
pub after_call : (P : Tree → Type 0) (t : Tree) (pass now : ℕ) (op : Op) → P t → (first_failure (checks t pass op) ≡ None → P (effect t pass op now)) → P (tree_after t pass op now)
after_call P t pass now op before after = call_if P t pass now op (first_failure (checks t pass op)) refl before after

-- what holds of a tree, and after each of the larger changes, holds after a call
pub effects-tree_after : (t : Tree) (pass now : ℕ) (op : Op) (P : Tree → Type 0) → Effects t pass now op P → P (tree_after t pass op now)
effects-tree_after t pass now op P effects = after_call P t pass now op effects.same (λ passes. effects-effect t pass now op P effects passes)

-- what relates the trees of each primitive change relates those of a call
pub walk-tree_after : (t : Tree) (pass now : ℕ) (R : Tree → Tree → Type 0) → ((op : Op) → Walk t now op R) → (op : Op) → R t (tree_after t pass op now)
walk-tree_after t pass now R walk op = effects-tree_after t pass now op (R t) (effects_by_walk t pass now op R (walk op))

-- and those of a list of calls
pub walk-tree_after_all : (R : Tree → Tree → Type 0) → ((t : Tree) (now : ℕ) (op : Op) → Walk t now op R) → (t : Tree) (calls : List Request) → R t (tree_after_all t calls)
walk-tree_after_all R walk t [] = (walk t 0 ops.Leave).same t
walk-tree_after_all R walk t (call ∷ calls) =
    let next : Tree = tree_after t call.pass call.op call.now in
    (walk t call.now call.op).joined t next (tree_after_all next calls) (walk-tree_after t call.pass call.now R (walk t call.now) call.op) (walk-tree_after_all R walk next calls)

-- what every call keeps holds after any calls
pub kept-tree_after_all : (P : Tree → Type 0) → ((t : Tree) (pass now : ℕ) (op : Op) → P t → P (tree_after t pass op now)) → (t : Tree) (calls : List Request) → P t → P (tree_after_all t calls)
kept-tree_after_all P keeps t [] holds = holds
kept-tree_after_all P keeps t (call ∷ calls) holds =
    kept-tree_after_all P keeps (tree_after t call.pass call.op call.now) calls (keeps t call.pass call.now call.op holds)

-- ---- replies

passes_if : (t : Tree) (pass now : ℕ) (op : Op) → ((errno : Errno) → reply_to t pass op now ≡ replies.Errno errno → ⊥) → (failure : Option ℕ) → first_failure (checks t pass op) ≡ failure → first_failure (checks t pass op) ≡ None
passes_if t pass now op not_refused None is = is
passes_if t pass now op not_refused (Some n) is = absurd (not_refused (record { 0 = n }) (reply_at t pass now op (Some n) is))

-- what is not refused has passed all checks
pub passes_by : (t : Tree) (pass now : ℕ) (op : Op) → ((errno : Errno) → reply_to t pass op now ≡ replies.Errno errno → ⊥) → first_failure (checks t pass op) ≡ None
passes_by t pass now op not_refused = passes_if t pass now op not_refused (first_failure (checks t pass op)) refl

-- what is answered Done has passed all checks
pub passes_if_done : (t : Tree) (pass now : ℕ) (op : Op) → reply_to t pass op now ≡ replies.Done → first_failure (checks t pass op) ≡ None
passes_if_done t pass now op done =
    passes_by t pass now op (λ errno refused.
    let both : replies.Done ≡ replies.Errno errno = sym done ∙ refused in
    cc both)

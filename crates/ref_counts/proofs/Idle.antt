-- Plans that change no row.
use Rattle.std.proofs.Common.{◌≡◌, ◌<◌, ◌^◌, ℕ, List, [], true, Option, None, Some, Result, Ok, Err, refl, sym, ◌∙◌, subst, arith}
use Rattle.std.specs.Prelude.{IfOk}
use Rattle.s3_base.specs.declared.errors.Errno.{Errno}
use Rattle.op_frames.specs.declared.operation.Op.{Op}
use Rattle.op_frames.specs.declared.operation.Op.TheVariants as ops
use Rattle.op_frames.specs.declared.reply.Reply.{Reply}
use Rattle.plain_tree.specs.Tree.{Tree}
use Rattle.plain_tree.specs.Checks.{first_failure}
use Rattle.plain_tree.specs.Classes.{inode_linked, keeps_rows, name_used, names_drawn}
use Rattle.plain_tree.specs.Operations.{checks, effect, success}
use Rattle.s3_rows.specs.Rows.{Inode}
use Rattle.s3_rows.specs.Tables.{Tables}
use Rattle.s3_rows.specs.Validity.{IsValid, HasUniqueNames}
use Rattle.tree_rows.specs.Shapes.{Represents}
use Rattle.ref_counts.specs.Answers.{IsReplyOf}
use Rattle.ref_counts.specs.Plans.{IsPlanOf, IsStep, IsWorn, IsWornFor}
use Rattle.ref_counts.specs.declared.plan.Plan.TheVariants as plans
use Rattle.ref_counts.proofs.Rest.{LeavesRest-LeavesBlocks}

-- no change is a step
pub IsStep-same : (t : Tables) (next : Tree) (drawn : ℕ) → IsValid t → Represents t next → IsStep t t next drawn
IsStep-same t next drawn v same = record {
  valid = v;
  represents = same;
  unique = λ (u : HasUniqueNames t). u;
  rest = LeavesRest-LeavesBlocks t t (record { params = refl; next_inode = omega arith; next_name = omega arith; inode_blocks = refl; blocks = refl; objects = refl; slots = refl });
  small = record { names = omega arith; uses = omega arith };
}

-- an operation that needs no name links no inode once more
not_linked : (whole : Tree) (op : Op) → name_used whole op ≡ None → inode_linked op ≡ None
not_linked whole (ops.Link inode parent name) nameless = absurd (cc nameless)
not_linked whole _ nameless = refl

-- and finds nothing worn
pub IsWorn-nameless : (t : Tables) (whole : Tree) (op : Op) → name_used whole op ≡ None → IsWorn t whole op → ⊥
IsWorn-nameless t whole op nameless worn =
    let none : ⊥ =
    subst (IsWornFor t None) (not_linked whole op nameless) (subst (λ (used : Option (List ℕ)). IsWornFor t used (inode_linked op)) nameless worn) in
    none

-- the reply of an operation that changes no row
pub IsPlanOf-idle : (t : Tables) (whole : Tree) (pass : ℕ) (op : Op) (now : ℕ) (reply : Reply) → IsValid t → Represents t (effect whole pass op now) → first_failure (checks whole pass op) ≡ None
    → reply ≡ success whole pass op now → true ≡ keeps_rows whole pass op → name_used whole op ≡ None → IsPlanOf t whole pass op now (plans.Commit [] reply [])
IsPlanOf-idle t whole pass op now reply v same passes is keeps nameless =
    (passes, is, IsStep-same t (effect whole pass op now) (names_drawn whole op) v same, keeps, refl, IsWorn-nameless t whole op nameless)

-- a fact of a reply that was made of a row
pub if_reply_of : (replied : Result Reply Errno) (found own : Option Inode) (make : Inode → Reply) (reply : Reply) → found ≡ own → IfOk replied (IsReplyOf found make)
    → ((r : Inode) → own ≡ Some r → r.refcount < 2 ^ 62 → make r ≡ reply) → IfOk replied (λ x. x ≡ reply)
if_reply_of (Ok x) found own make reply same is follows = is.2 ∙ follows is.0 (sym same ∙ is.1) is.3
if_reply_of (Err errno) found own make reply same is follows = tt

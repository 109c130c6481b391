-- When the plan of an operation is right that makes an entry: it uses a name once more.
use Rattle.std.proofs.Common.{◌≡◌, ℕ, List, length, false, Option, None, Some, refl, sym, ◌∙◌, subst}
use Rattle.std.specs.Prelude.{◌==◌, option_map}
use Rattle.op_frames.specs.declared.operation.Op.{Op}
use Rattle.op_frames.specs.declared.reply.Reply.{Reply}
use Rattle.plain_tree.specs.Tree.{Tree}
use Rattle.plain_tree.specs.Checks.{first_failure}
use Rattle.plain_tree.specs.Classes.{keeps_rows, names_drawn}
use Rattle.plain_tree.specs.Operations.{checks, effect, success}
use Rattle.s3_rows.specs.declared.change.Change.{Change}
use Rattle.s3_rows.specs.Tables.{Tables}
use Rattle.s3_rows.specs.Batches.{tables_after}
use Rattle.ref_counts.specs.Names.{Raised}
use Rattle.ref_counts.specs.Plans.{IsStep, IsPlanOf, IsWorn}
use Rattle.dir_ops.specs.Plans.{entry_plan}

module _ (t : Tables) (whole : Tree) (pass : ℕ) (op : Op) (now : ℕ) (usage : Option Raised) (batch_of : Raised → List Change) (reply : Reply) where
  -- No check of the operation fails, and it changes rows. Where the name may be used once more, the tree and the reply come after
  -- the batch; else it is worn.
  pub record IsEntering : Type 0 where
    pub passes : first_failure (checks whole pass op) ≡ None
    pub worn : usage ≡ None → IsWorn t whole op
    pub usable : IsWorn t whole op → usage ≡ None
    pub changes : keeps_rows whole pass op ≡ false
    pub some : (more : Raised) → (length (batch_of more) == 0) ≡ false
    pub step : (more : Raised) → usage ≡ Some more → IsStep t (tables_after (batch_of more) t) (effect whole pass op now) (names_drawn whole op)
    pub replies : (more : Raised) → usage ≡ Some more → reply ≡ success whole pass op now

  pub entering_planned : IsEntering → (batch : Option (List Change)) → batch ≡ option_map batch_of usage → IsPlanOf t whole pass op now (entry_plan batch reply)
  entering_planned entering batch is =
      subst (λ (b : Option (List Change)). IsPlanOf t whole pass op now (entry_plan b reply)) (sym is) (by_name usage refl)
    where
      by_name : (found : Option Raised) → usage ≡ found → IsPlanOf t whole pass op now (entry_plan (option_map batch_of found) reply)
      by_name None used = (entering.passes, entering.worn used)
      by_name (Some more) used = (
        entering.passes,
        entering.replies more used,
        entering.step more used,
        entering.some more ∙ sym entering.changes,
        refl,
        λ worn.
            let clash : None ≡ Some more = sym (entering.usable worn) ∙ used in
            cc clash,
      )

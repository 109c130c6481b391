use Rattle.std.proofs.Common.{sym, subst}
use Rattle.s3_rows.specs.Tables.{Tables}
use Rattle.row_steps.specs.Owed.{Owes}
use Rattle.row_steps.proofs.Owed.Lowered.{IsLower-lowered}
use Rattle.row_steps.proofs.debts.lowered_names_owe_no_use.Goals as goal

pub returns : goal.returns
returns c t p n links uses o there =
    let lower = IsLower-lowered t p n links uses o there in
    subst (λ (u : Tables). Owes u p links uses) (sym lower.after) lower.owes

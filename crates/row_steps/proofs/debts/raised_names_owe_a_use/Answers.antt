use Rattle.std.proofs.Common.{ℕ, ◌∷◌, sym, subst}
use Rattle.s3_rows.specs.Tables.{Tables}
use Rattle.s3_rows.specs.Batches.{tables_after}
use Rattle.row_steps.specs.Owed.{Owes}
use Rattle.row_steps.proofs.Owed.Raised.{IsRaise-raised}
use Rattle.row_steps.proofs.debts.raised_names_owe_a_use.Goals as goal

pub returns : goal.returns
returns c t p links uses more name o below used =
    let raise = IsRaise-raised t p links uses more name o below used in
    let owes : Owes (tables_after more.changes t) (record p { next_name = raise.next }) links (raise.row.id ∷ uses) =
    subst (λ (u : Tables). Owes u (record p { next_name = raise.next }) links (raise.row.id ∷ uses)) (sym raise.after) raise.owes in
    (raise.next, subst (λ (id : ℕ). Owes (tables_after more.changes t) (record p { next_name = raise.next }) links (id ∷ uses)) raise.id owes)

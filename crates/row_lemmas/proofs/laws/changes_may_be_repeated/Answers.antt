use Rattle.row_lemmas.proofs.Tables.{after_change-after_change}
use Rattle.row_lemmas.proofs.laws.changes_may_be_repeated.Goals as goal

pub returns : goal.returns
returns c = after_change-after_change

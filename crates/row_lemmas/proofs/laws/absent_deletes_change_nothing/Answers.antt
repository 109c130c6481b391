use Rattle.row_lemmas.proofs.Tables.{after_change_none}
use Rattle.row_lemmas.proofs.laws.absent_deletes_change_nothing.Goals as goal

pub returns : goal.returns
returns c = after_change_none

use Rattle.row_lemmas.proofs.Tables.{tables_after-tables_after}
use Rattle.row_lemmas.proofs.laws.batches_join.Goals as goal

pub returns : goal.returns
returns c = tables_after-tables_after

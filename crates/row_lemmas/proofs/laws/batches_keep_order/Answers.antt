use Rattle.row_lemmas.proofs.Tables.{IsOrdered-tables_after}
use Rattle.row_lemmas.proofs.laws.batches_keep_order.Goals as goal

pub returns : goal.returns
returns c = IsOrdered-tables_after

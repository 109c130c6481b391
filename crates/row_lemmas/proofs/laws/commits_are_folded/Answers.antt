use Rattle.row_lemmas.proofs.Tables.{tables-with_batches, commits-with_batches}
use Rattle.row_lemmas.proofs.laws.commits_are_folded.Goals as goal

pub returns-clause-tables : goal.returns-clause-tables
returns-clause-tables c = tables-with_batches

pub returns-clause-commits : goal.returns-clause-commits
returns-clause-commits c = commits-with_batches

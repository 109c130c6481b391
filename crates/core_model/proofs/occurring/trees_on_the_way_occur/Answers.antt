use Rattle.core_model.proofs.Runs.{occurring-first, occurring-last}
use Rattle.core_model.proofs.occurring.trees_on_the_way_occur.Goals as goal

pub returns-clause-first : goal.returns-clause-first
returns-clause-first c = occurring-first

pub returns-clause-last : goal.returns-clause-last
returns-clause-last c = occurring-last

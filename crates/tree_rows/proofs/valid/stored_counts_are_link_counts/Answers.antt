use Rattle.s3_base.specs.Numbers.{root}
use Rattle.tree_rows.proofs.Rooted.{link_count_is, stored_count}
use Rattle.tree_rows.proofs.valid.stored_counts_are_link_counts.Goals as goal

pub returns-clause-others : goal.returns-clause-others
returns-clause-others c = link_count_is

pub returns-clause-root : goal.returns-clause-root
returns-clause-root c t r valid is = stored_count t root r valid is

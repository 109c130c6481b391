use Rattle.std.proofs.Common.{◌∙◌}
use Rattle.keeper_growth.proofs.Found.{inode_found}
use Rattle.keeper_growth.proofs.growth.add_file.Goals as goal

pub returns-clause-found : goal.returns-clause-found
returns-clause-found g c there =
    c.is_some.ensures ∙ inode_found _ _ _ c.empty_file.result c.in_ok-inode.field-0 c.empty_file.ensures there c.in_ok-commit_one.ensures c.in_ok-inode.ensures.row

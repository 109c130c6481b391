use Rattle.std.proofs.Common.{ap, ◌∙◌}
use Rattle.sha2.specs.Sha256.{sha256}
use Rattle.plain_tree.specs.Attributes.{at_most_u64}
use Rattle.byte_steps.specs.Counts.{different_blocks}
use Rattle.core_model.specs.Occurring.{blocks_in}
use Rattle.volume_core.proofs.TableCounts.{of_tree, of_blocks, of_told}
use Rattle.volume_core.proofs.row_core.RowCore.stats.Goals as goal

pub returns-clause-tree : goal.returns-clause-tree
returns-clause-tree g c whole core =
    of_tree core.now.tables c.in_ok-counted.counted (of_told (g.K.Keeper.told c.args.self.now.keeper) c.in_ok-counted.counted core.now core.tells core.served.valid c.in_ok-counted.ensures.counted)
    whole core.served.valid core.represents

pub returns-clause-links : goal.returns-clause-links
returns-clause-links g c whole core exact =
    (of_told (g.K.Keeper.told c.args.self.now.keeper) c.in_ok-counted.counted core.now core.tells core.served.valid c.in_ok-counted.ensures.counted).links
    ∙ ap at_most_u64 (c.counts_of_exact_tables.ensures.links sha256 core.now.tables whole core.served.valid core.represents exact)

pub returns-clause-blocks : goal.returns-clause-blocks
returns-clause-blocks g c whole core exact free =
    let law = c.counts_of_exact_tables.ensures in
    of_blocks core.now.tables c.in_ok-counted.counted (of_told (g.K.Keeper.told c.args.self.now.keeper) c.in_ok-counted.counted core.now core.tells core.served.valid c.in_ok-counted.ensures.counted)
    (different_blocks (blocks_in whole)) (law.blocks sha256 core.now.tables whole core.served.valid core.represents exact free) (law.objects core.now.tables core.served.valid)

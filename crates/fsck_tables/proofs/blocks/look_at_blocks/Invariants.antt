use Rattle.std.proofs.Common.{drop, []}
use Rattle.fsck_tables.specs.Rows.{about_blocks}
use Rattle.fsck_tables.proofs.LookedBlocks.{LeavesBlocks}
use Rattle.fsck_tables.proofs.blocks.look_at_blocks.Given as goal

abbrev pub invariant-loop-row : goal.invariant-loop-row
invariant-loop-row l =
    LeavesBlocks l.tables l.params (drop l.row-index l.row-items) (about_blocks l.tables l.params [] l.tables.blocks) l.fn.repair l.repair l.marks

use Rattle.byte_steps.proofs.BlockRows.{row_of_block}
use Rattle.byte_steps.proofs.stats.blocks_of_exact_tables_have_rows.Goals as goal

pub returns : goal.returns
returns c = row_of_block

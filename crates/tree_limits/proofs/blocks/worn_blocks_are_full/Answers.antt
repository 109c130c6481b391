use Rattle.std.proofs.Common.{arith}
use Rattle.tree_limits.proofs.BlockRoom.{worn_has_row}
use Rattle.tree_limits.proofs.blocks.worn_blocks_are_full.Goals as goal

pub returns : goal.returns
returns c digest_of t objects whole r block_size bytes_of blocks batch valid same exact free puts few low small worn =
    let row = worn_has_row digest_of t objects r block_size bytes_of blocks batch valid puts 34 few (omega arith) low small worn in
    let block = c.counts_of_exact_tables.ensures.places digest_of t whole valid same exact free row.0 row.1 in
    (block.0, block.1, omega (arith, row.2, block.3))

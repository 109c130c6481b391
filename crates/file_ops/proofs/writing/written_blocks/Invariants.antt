use Rattle.std.proofs.Common.{◌≡◌, ◌+◌, ◌*◌, ◌/◌, ◌<◌, ◌≤◌, ◌++◌, length}
use Rattle.std.specs.Prelude.{All}
use Rattle.block_math.specs.Changes.{written_at}
use Rattle.core_model.specs.Changes.{numbers_from, tail_before}
use Rattle.s3_rows.specs.Told.{IfTold}
use Rattle.file_ops.specs.FileBytes.{IfFile, stored_in}
use Rattle.file_ops.specs.NewBlocks.{AreBlocksOf, AreShort, numbers_of}
use Rattle.file_ops.proofs.writing.written_blocks.Given as goal

-- the devices tell what they did, and the tail and the first k blocks are there
abbrev pub invariant-loop-k : goal.invariant-loop-k
invariant-loop-k g l = record {
  keeper_same : g.K.Keeper.told l.keeper ≡ g.K.Keeper.told l.fn.keeper;
  link_same : g.L.Link.told l.link ≡ g.L.Link.told l.fn.link;
  keeper_later : g.K.Keeper.faults l.fn.keeper ≤ g.K.Keeper.faults l.keeper;
  link_later : g.L.Link.faults l.fn.link ≤ g.L.Link.faults l.link;
  numbers :
      IfTold (g.K.Keeper.told l.fn.keeper)
      (λ t. numbers_of l.blocks
      ≡ tail_before l.block_size l.size (l.off + length l.new) (l.off / l.block_size) (stored_in t l.inode) ++ numbers_from (l.off / l.block_size) l.k);
  below : All (λ b. b.blockno * l.block_size < l.off + length l.new) l.blocks;
  short : AreShort l.block_size l.blocks;
  stored :
      IfFile (g.K.Keeper.told l.fn.keeper) (g.L.Link.told l.fn.link) l.inode l.size l.block_size
      (λ file. AreBlocksOf l.block_size (written_at l.off l.new file) l.blocks);
}

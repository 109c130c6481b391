use Rattle.std.proofs.Common.{◌≡◌, ◌≤◌, ◌+◌, ◌++◌, [], drop, length, count_by}
use Rattle.sha2.specs.Sha256.{sha256}
use Rattle.s3_rows.specs.Rows.{IsNext}
use Rattle.s3_rows.specs.Told.{IfTold}
use Rattle.file_ops.specs.Resolved.{is_new, resolved}
use Rattle.file_ops.proofs.resolving.resolve.Given as goal

-- the places so far and those of the blocks that are left are the places of all
abbrev pub invariant-loop-block : goal.invariant-loop-block
invariant-loop-block g l = record {
  told : g.K.Keeper.told l.keeper ≡ g.K.Keeper.told l.fn.keeper;
  later : g.K.Keeper.faults l.fn.keeper ≤ g.K.Keeper.faults l.keeper;
  partly :
      IfTold (g.K.Keeper.told l.fn.keeper) (λ t.
      l.places ++ resolved sha256 t l.places l.free_block l.free_object (drop l.block-index l.blocks)
      ≡ resolved sha256 t [] l.fn.next_block l.fn.next_object l.blocks);
  count : length l.places ≡ l.block-index;
  blocks : l.free_block ≡ l.fn.next_block + count_by is_new l.places;
  objects : l.free_object ≡ l.fn.next_object + count_by is_new l.places;
  next_block : IsNext l.free_block;
  next_object : IsNext l.free_object;
}

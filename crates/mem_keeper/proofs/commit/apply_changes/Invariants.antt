use Rattle.std.proofs.Common.{All, ◌≡◌, reverse}
use Rattle.s3_rows.specs.Batches.{tables_after}
use Rattle.s3_rows.specs.Ranges.{HasRanges}
use Rattle.mem_keeper.specs.Store.{tables_in, IsMaps, HasPlace}
use Rattle.mem_keeper.proofs.commit.apply_changes.Given as goal

abbrev pub invariant-loop-change : goal.invariant-loop-change
invariant-loop-change l = record {
  maps : IsMaps l.maps;
  ranges : HasRanges (tables_in l.maps);
  places : All (HasPlace l.maps) (reverse l.changes.items);
  tables : tables_after (reverse l.changes.items) (tables_in l.maps) ≡ tables_after l.fn.changes.items (tables_in l.fn.maps);
}

abbrev pub decreases-loop-change : goal.decreases-loop-change
decreases-loop-change l = goal.left-loop-change l

use Rattle.std.proofs.Common.{◌≡◌, length}
use Rattle.std.specs.List.{AllByRecursion}
use Rattle.mem_keeper.specs.declared.filing.Filing.{Filing}
use Rattle.mem_keeper.specs.Filed.{IsFiled, StayFiled}
use Rattle.mem_keeper.specs.Table.{rows_of}
use Rattle.mem_keeper.proofs.filing.file_all.Given as goal

-- what has all that is filed and the rows that are left has all rows
abbrev pub invariant-loop-held : goal.invariant-loop-held
invariant-loop-held g l = record {
  all : (x : Filing) → StayFiled l.filing x → AllByRecursion (λ r. IsFiled x (rows_of l.names.map.entries) (g.R.Keyed.key r)) (rows_of l.entries)
      → AllByRecursion (λ r. IsFiled x (rows_of l.names.map.entries) (g.R.Keyed.key r)) (rows_of l.initial.entries);
  same : l.filing.stand ≡ l.fn.filing.stand;
}

abbrev pub decreases-loop-held : goal.decreases-loop-held
decreases-loop-held g l = length l.entries

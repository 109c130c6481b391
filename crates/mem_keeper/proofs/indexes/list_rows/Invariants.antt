use Rattle.std.proofs.Common.{ℕ, List, length}
use Rattle.std.specs.List.{AllByRecursion}
use Rattle.mem_keeper.specs.declared.index.Index.{Index}
use Rattle.mem_keeper.specs.Index.{IsListed}
use Rattle.mem_keeper.specs.Table.{rows_of}
use Rattle.mem_keeper.proofs.indexes.list_rows.Given as goal

-- an index that has what this one has and the rows that are left has all rows
abbrev pub invariant-loop-held : goal.invariant-loop-held
invariant-loop-held g l =
    (x : Index) → ((bytes : List ℕ) (id : ℕ) → IsListed l.index bytes id → IsListed x bytes id)
    → AllByRecursion (λ r. IsListed x (g.R.Indexed.bytes r) (g.R.Keyed.key r)) (rows_of l.entries)
    → AllByRecursion (λ r. IsListed x (g.R.Indexed.bytes r) (g.R.Keyed.key r)) (rows_of l.initial.entries)

abbrev pub decreases-loop-held : goal.decreases-loop-held
decreases-loop-held g l = length l.entries

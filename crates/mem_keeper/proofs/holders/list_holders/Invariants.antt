use Rattle.std.proofs.Common.{ℕ, length}
use Rattle.std.specs.List.{AllByRecursion}
use Rattle.std.specs.BTreeMap.{BTreeMap}
use Rattle.s3_rows.specs.Rows.{Content}
use Rattle.mem_keeper.specs.Holders.{IsHolder}
use Rattle.mem_keeper.specs.Table.{rows_of}
use Rattle.mem_keeper.proofs.holders.list_holders.Given as goal

-- what has all places that are listed and those of the rows that are left has all
abbrev pub invariant-loop-held : goal.invariant-loop-held
invariant-loop-held l =
    (x : BTreeMap (ℕ × (ℕ × ℕ)) (Unit {0})) → ((r : Content) → IsHolder l.holders r → IsHolder x r)
    → AllByRecursion (IsHolder x) (rows_of l.entries) → AllByRecursion (IsHolder x) (rows_of l.initial.entries)

abbrev pub decreases-loop-held : goal.decreases-loop-held
decreases-loop-held l = length l.entries

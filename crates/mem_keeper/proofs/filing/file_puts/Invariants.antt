use Rattle.std.proofs.Common.{◌≡◌, All, take}
use Rattle.std.specs.Prelude.{IfSome}
use Rattle.mem_keeper.specs.Filed.{IsFiled, StayFiled}
use Rattle.mem_keeper.specs.Table.{rows_of}
use Rattle.mem_keeper.proofs.filing.file_puts.Given as goal

abbrev pub invariant-loop-change : goal.invariant-loop-change
invariant-loop-change g l = record {
  kept : StayFiled l.fn.filing l.filing;
  filed : All (λ c. IfSome (g.R.Owned.put_by c) (λ r. IsFiled l.filing (rows_of l.names.map.entries) (g.R.Keyed.key r))) (take l.change-index l.changes);
  same : l.filing.stand ≡ l.fn.filing.stand;
}

use Rattle.std.proofs.Common.{◌≡◌, All, take}
use Rattle.mem_keeper.specs.Indexes.{IsListedChange, StayListed}
use Rattle.mem_keeper.proofs.indexes.list_changes.Given as goal

abbrev pub invariant-loop-change : goal.invariant-loop-change
invariant-loop-change l = record {
  listed : All (IsListedChange l.indexes) (take l.change-index l.changes);
  kept : StayListed l.fn.indexes l.indexes;
  same : l.indexes.stand ≡ l.fn.indexes.stand;
}

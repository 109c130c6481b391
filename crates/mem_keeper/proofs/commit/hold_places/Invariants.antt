use Rattle.std.proofs.Common.{◌≡◌, All, take}
use Rattle.mem_keeper.specs.Store.{IsMaps, HasPlace, tables_in}
use Rattle.mem_keeper.proofs.commit.hold_places.Given as goal

abbrev pub invariant-loop-change : goal.invariant-loop-change
invariant-loop-change l = record {
  maps : IsMaps l.maps;
  tables : tables_in l.maps ≡ tables_in l.fn.maps;
  held : All (HasPlace l.maps) (take l.change-index l.changes);
}

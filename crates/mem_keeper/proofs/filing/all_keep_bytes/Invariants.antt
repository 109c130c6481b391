use Rattle.std.proofs.Common.{All, take}
use Rattle.std.specs.Prelude.{IsTrue}
use Rattle.mem_keeper.specs.Filed.{keeps_bytes}
use Rattle.mem_keeper.specs.Table.{rows_of}
use Rattle.mem_keeper.proofs.filing.all_keep_bytes.Given as goal

abbrev pub invariant-loop-change : goal.invariant-loop-change
invariant-loop-change l = All (λ c. IsTrue (keeps_bytes l.used (rows_of l.names.map.entries) c)) (take l.change-index l.changes)

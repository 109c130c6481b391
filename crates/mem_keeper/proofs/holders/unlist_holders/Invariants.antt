use Rattle.mem_keeper.specs.Holders.{AllHold}
use Rattle.mem_keeper.specs.Table.{rows_of}
use Rattle.mem_keeper.proofs.holders.unlist_holders.Given as goal

abbrev pub invariant-loop-row : goal.invariant-loop-row
invariant-loop-row l = AllHold l.holders (rows_of l.contents.entries)

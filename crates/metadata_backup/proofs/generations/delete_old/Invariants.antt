use Rattle.std.proofs.Common.{◌≡◌, ◌≤◌, length, take}
use Rattle.std.specs.Prelude.{option_map}
use Rattle.metadata_backup.specs.Generations.{up_to, without_generations}
use Rattle.metadata_backup.proofs.generations.delete_old.Given as goal

-- so many of the generations are gone, where they are old, and counted
abbrev pub invariant-loop-number : goal.invariant-loop-number
invariant-loop-number g l = record {
  gone : g.L.Link.told l.link ≡ option_map (without_generations (up_to l.limit (take l.number-index l.generations))) (g.L.Link.told l.fn.link);
  counted : l.count ≡ length (up_to l.limit (take l.number-index l.generations));
  few : l.count ≤ l.number-index;
  later : g.L.Link.faults l.fn.link ≤ g.L.Link.faults l.link;
}

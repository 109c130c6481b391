use Rattle.std.proofs.Common.{◌≡◌, ◌++◌, ◌≤◌, true, length, filter_map}
use Rattle.std.specs.List.{list_all}
use Rattle.std.specs.Map.{keys_of}
use Rattle.s3_rows.specs.Told.{has_short_name}
use Rattle.mem_keeper.specs.Filed.{apart, last_name}
use Rattle.mem_keeper.specs.Table.{rows_of}
use Rattle.mem_keeper.proofs.Found.{at}
use Rattle.mem_keeper.proofs.named.walk.Given as goal

abbrev pub invariant-loop-places : goal.invariant-loop-places
invariant-loop-places g l = record {
  all :
      l.items.items ++ apart g.T.Named.name_of (last_name g.T.Named.name_of l.after l.items.items) (filter_map (at g.R.Keyed.key g.T.NamedFrom.made g.T.Named.name_of (rows_of l.names.map.entries) (rows_of l.table.entries)) (keys_of l.places))
      ≡ apart g.T.Named.name_of l.after (filter_map (at g.R.Keyed.key g.T.NamedFrom.made g.T.Named.name_of (rows_of l.names.map.entries) (rows_of l.table.entries)) (keys_of l.initial.places));
  few : length l.items.items ≤ l.max;
  short : list_all (λ x. has_short_name (g.T.Named.name_of x)) l.items.items ≡ true;
}

abbrev pub decreases-loop-places : goal.decreases-loop-places
decreases-loop-places g l = length l.places

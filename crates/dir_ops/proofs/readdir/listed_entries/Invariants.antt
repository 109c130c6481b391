use Rattle.std.proofs.Common.{◌≡◌, ◌≤◌, map, take}
use Rattle.s3_rows.specs.Told.{IfTold}
use Rattle.tree_rows.specs.Listings.{entry_of_row}
use Rattle.dir_ops.proofs.readdir.listed_entries.Given as goal

-- the keeper tells what it did, and the entries so far are listed
abbrev pub invariant-loop-entry : goal.invariant-loop-entry
invariant-loop-entry g l = record {
  told : g.K.Keeper.told l.keeper ≡ g.K.Keeper.told l.fn.keeper;
  later : g.K.Keeper.faults l.fn.keeper ≤ g.K.Keeper.faults l.keeper;
  entries : IfTold (g.K.Keeper.told l.fn.keeper) (λ t. l.listed ≡ map (entry_of_row t) (take l.entry-index l.entries));
  names : map (λ e. e.name) l.listed ≡ map (λ e. e.name) (take l.entry-index l.entries);
}

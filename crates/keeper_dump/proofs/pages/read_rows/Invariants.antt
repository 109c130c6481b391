use Rattle.std.proofs.Common.{◌≡◌, ◌≤◌, IsTrue}
use Rattle.s3_rows.specs.Told.{IfTold}
use Rattle.keeper_dump.specs.Part.{keys_rise}
use Rattle.keeper_dump.specs.Kept.{IsStart}
use Rattle.keeper_dump.proofs.pages.read_rows.Given as goal

-- the first rows of the table are read, in order, and the keeper tells what it told
abbrev pub invariant-loop-page : goal.invariant-loop-page
invariant-loop-page g l = record {
  order : IsTrue (keys_rise g.T.TableRow.format.key l.rows);
  read : IfTold (g.K.Keeper.told l.fn.keeper) (λ t. IsTrue (keys_rise g.T.TableRow.format.key (g.T.KeptRow.kept.listed t)) → IsStart l.rows (g.T.KeptRow.kept.listed t));
  same : g.K.Keeper.told l.keeper ≡ g.K.Keeper.told l.fn.keeper;
  later : g.K.Keeper.faults l.fn.keeper ≤ g.K.Keeper.faults l.keeper;
}

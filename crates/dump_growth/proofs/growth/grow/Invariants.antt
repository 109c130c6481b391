use Rattle.std.proofs.Common.{◌≡◌, Some}
use Rattle.s3_rows.specs.Told.{Told}
use Rattle.dump_growth.specs.Growth.{IsGrown}
use Rattle.dump_growth.proofs.growth.grow.Given as goal

-- the files so far were committed, where the keeper tells
abbrev pub invariant-loop-file : goal.invariant-loop-file
invariant-loop-file g l =
    (s : Told) → g.K.Keeper.told l.fn.keeper ≡ Some s → (t : Told) × (told : g.K.Keeper.told l.keeper ≡ Some t) × IsGrown l.file s t

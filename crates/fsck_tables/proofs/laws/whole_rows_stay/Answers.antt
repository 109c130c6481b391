use Rattle.std.proofs.Common.{refl}
use Rattle.std.specs.Fmt.{digits}
use Rattle.fsck_tables.proofs.laws.whole_rows_stay.Goals as goal

pub returns-clause-rows : goal.returns-clause-rows
unfolding digits
returns-clause-rows c = refl

pub returns-clause-counts : goal.returns-clause-counts
unfolding digits
returns-clause-counts c = refl

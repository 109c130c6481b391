use Rattle.std.proofs.Common.{refl}
use Rattle.std.specs.Fmt.{digits}
use Rattle.fsck_tables.proofs.laws.strays_go.Goals as goal

pub returns-clause-rows : goal.returns-clause-rows
unfolding digits
returns-clause-rows c = refl

pub returns-clause-places : goal.returns-clause-places
unfolding digits
returns-clause-places c = refl

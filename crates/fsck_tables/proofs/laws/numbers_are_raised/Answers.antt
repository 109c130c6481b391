use Rattle.std.proofs.Common.{refl}
use Rattle.std.specs.Fmt.{digits}
use Rattle.fsck_tables.proofs.laws.numbers_are_raised.Goals as goal

pub returns-clause-low : goal.returns-clause-low
unfolding digits
returns-clause-low c = refl

pub returns-clause-last : goal.returns-clause-last
unfolding digits
returns-clause-last c = refl

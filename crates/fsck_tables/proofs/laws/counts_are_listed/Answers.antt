use Rattle.std.proofs.Common.{refl}
use Rattle.std.specs.Fmt.{digits}
use Rattle.fsck_tables.proofs.laws.counts_are_listed.Goals as goal

pub returns-clause-names : goal.returns-clause-names
unfolding digits
returns-clause-names c = refl

pub returns-clause-blocks : goal.returns-clause-blocks
unfolding digits
returns-clause-blocks c = refl

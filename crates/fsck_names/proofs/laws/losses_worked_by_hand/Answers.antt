use Rattle.std.proofs.Common.{refl}
use Rattle.std.specs.Fmt.{digits}
use Rattle.fsck_names.proofs.laws.losses_worked_by_hand.Goals as goal

pub returns-clause-lines : goal.returns-clause-lines
unfolding digits
returns-clause-lines c = refl

pub returns-clause-entries : goal.returns-clause-entries
unfolding digits
returns-clause-entries c = refl

pub returns-clause-places : goal.returns-clause-places
unfolding digits
returns-clause-places c = refl

pub returns-clause-counts : goal.returns-clause-counts
unfolding digits
returns-clause-counts c = refl

pub returns-clause-whole : goal.returns-clause-whole
unfolding digits
returns-clause-whole c = refl

pub returns-clause-worn : goal.returns-clause-worn
unfolding digits
returns-clause-worn c = refl

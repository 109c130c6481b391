use Rattle.std.proofs.Common.{refl}
use Rattle.std.specs.Fmt.{digits}
use Rattle.s3_devices.proofs.laws.keys_worked_by_hand.Goals as goal

pub returns-clause-object : goal.returns-clause-object
unfolding digits
returns-clause-object c = refl

pub returns-clause-greatest : goal.returns-clause-greatest
unfolding digits
returns-clause-greatest c = refl

pub returns-clause-generation : goal.returns-clause-generation
unfolding digits
returns-clause-generation c = refl

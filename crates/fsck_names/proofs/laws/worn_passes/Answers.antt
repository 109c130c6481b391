use Rattle.std.proofs.Common.{refl}
use Rattle.std.specs.Fmt.{digits}
use Rattle.hex.specs.Hex.{encode_with}
use Rattle.fsck_names.proofs.laws.worn_passes.Goals as goal

pub returns-clause-last : goal.returns-clause-last
unfolding digits encode_with
returns-clause-last c = refl

pub returns-clause-name : goal.returns-clause-name
unfolding digits encode_with
returns-clause-name c = refl

pub returns-clause-greatest : goal.returns-clause-greatest
unfolding digits encode_with
returns-clause-greatest c = refl

pub returns-clause-not_needed : goal.returns-clause-not_needed
unfolding digits encode_with
returns-clause-not_needed c = refl

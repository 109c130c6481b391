use Rattle.std.proofs.Common.{refl}
use Rattle.std.specs.Fmt.{digits}
use Rattle.hex.specs.Hex.{encode_with}
use Rattle.fsck_names.proofs.laws.roots_worked_by_hand.Goals as goal

pub returns-clause-file : goal.returns-clause-file
unfolding digits encode_with
returns-clause-file c = refl

pub returns-clause-no_rows : goal.returns-clause-no_rows
unfolding digits encode_with
returns-clause-no_rows c = refl

pub returns-clause-lost_and_found : goal.returns-clause-lost_and_found
unfolding digits encode_with
returns-clause-lost_and_found c = refl

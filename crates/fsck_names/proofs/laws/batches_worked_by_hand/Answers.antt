use Rattle.std.proofs.Common.{refl}
use Rattle.std.specs.Fmt.{digits}
use Rattle.hex.specs.Hex.{encode_with}
use Rattle.fsck_names.proofs.laws.batches_worked_by_hand.Goals as goal

pub returns-clause-lines : goal.returns-clause-lines
unfolding digits encode_with
returns-clause-lines c = refl

pub returns-clause-batch : goal.returns-clause-batch
unfolding digits encode_with
returns-clause-batch c = refl

pub returns-clause-again : goal.returns-clause-again
unfolding digits encode_with
returns-clause-again c = refl

pub returns-clause-taken : goal.returns-clause-taken
unfolding digits encode_with
returns-clause-taken c = refl

pub returns-clause-count : goal.returns-clause-count
unfolding digits encode_with
returns-clause-count c = refl

pub returns-clause-named_only : goal.returns-clause-named_only
unfolding digits encode_with
returns-clause-named_only c = refl

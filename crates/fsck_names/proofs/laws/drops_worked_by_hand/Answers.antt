use Rattle.std.proofs.Common.{refl}
use Rattle.std.specs.Fmt.{digits}
use Rattle.hex.specs.Hex.{encode_with}
use Rattle.fsck_names.proofs.laws.drops_worked_by_hand.Goals as goal

pub returns-clause-made : goal.returns-clause-made
unfolding digits encode_with
returns-clause-made c = refl

pub returns-clause-out_of_place : goal.returns-clause-out_of_place
unfolding digits encode_with
returns-clause-out_of_place c = refl

pub returns-clause-one_name_twice : goal.returns-clause-one_name_twice
unfolding digits encode_with
returns-clause-one_name_twice c = refl

pub returns-clause-named_again : goal.returns-clause-named_again
unfolding digits encode_with
returns-clause-named_again c = refl

pub returns-clause-ring_of_three : goal.returns-clause-ring_of_three
unfolding digits encode_with
returns-clause-ring_of_three c = refl

pub returns-clause-loop_below_lost_and_found : goal.returns-clause-loop_below_lost_and_found
unfolding digits encode_with
returns-clause-loop_below_lost_and_found c = refl

pub returns-clause-links : goal.returns-clause-links
unfolding digits encode_with
returns-clause-links c = refl

pub returns-clause-without_count : goal.returns-clause-without_count
unfolding digits encode_with
returns-clause-without_count c = refl

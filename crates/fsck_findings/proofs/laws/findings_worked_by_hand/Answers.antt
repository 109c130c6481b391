use Rattle.std.proofs.Common.{refl}
use Rattle.std.specs.Fmt.{digits}
use Rattle.hex.specs.Hex.{encode_with}
use Rattle.fsck_findings.proofs.laws.findings_worked_by_hand.Goals as goal

pub returns-clause-entry : goal.returns-clause-entry
unfolding digits encode_with
returns-clause-entry c = refl

pub returns-clause-bytes : goal.returns-clause-bytes
unfolding digits encode_with
returns-clause-bytes c = refl

pub returns-clause-nameless : goal.returns-clause-nameless
unfolding digits encode_with
returns-clause-nameless c = refl

pub returns-clause-moved : goal.returns-clause-moved
unfolding digits encode_with
returns-clause-moved c = refl

pub returns-clause-removed : goal.returns-clause-removed
unfolding digits encode_with
returns-clause-removed c = refl

pub returns-clause-size : goal.returns-clause-size
unfolding digits encode_with
returns-clause-size c = refl

pub returns-clause-count : goal.returns-clause-count
unfolding digits encode_with
returns-clause-count c = refl

pub returns-clause-next : goal.returns-clause-next
unfolding digits encode_with
returns-clause-next c = refl

pub returns-clause-stored : goal.returns-clause-stored
unfolding digits encode_with
returns-clause-stored c = refl

pub returns-clause-lost : goal.returns-clause-lost
unfolding digits encode_with
returns-clause-lost c = refl

pub returns-clause-key : goal.returns-clause-key
unfolding digits encode_with
returns-clause-key c = refl

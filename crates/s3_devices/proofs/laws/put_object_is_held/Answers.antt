use Rattle.s3_devices.proofs.ObjectLemmas.{held_at-with_object_same, KeepsOthers-with_object}
use Rattle.s3_devices.proofs.laws.put_object_is_held.Goals as goal

pub returns-clause-held : goal.returns-clause-held
returns-clause-held c = held_at-with_object_same

pub returns-clause-others : goal.returns-clause-others
returns-clause-others c = KeepsOthers-with_object

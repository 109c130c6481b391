use Rattle.s3_devices.proofs.ObjectLemmas.{held_at-without_object_same, KeepsOthers-without_object}
use Rattle.s3_devices.proofs.laws.deleted_object_is_absent.Goals as goal

pub returns-clause-absent : goal.returns-clause-absent
returns-clause-absent c = held_at-without_object_same

pub returns-clause-others : goal.returns-clause-others
returns-clause-others c = KeepsOthers-without_object

use Rattle.s3_devices.specs.Keys.{data_key}
use Rattle.s3_devices.proofs.KeyLemmas.{objects_in_other, objects_in_generation}
use Rattle.s3_devices.proofs.ObjectLemmas.{held_at-with_object_same, held_at-without_object_same}
use Rattle.s3_devices.proofs.laws.objects_change_by_their_keys.Goals as goal

pub returns-clause-put : goal.returns-clause-put
returns-clause-put c = λ id bytes o. held_at-with_object_same (data_key id) bytes o

pub returns-clause-deleted : goal.returns-clause-deleted
returns-clause-deleted c = λ id o. held_at-without_object_same (data_key id) o

pub returns-clause-others : goal.returns-clause-others
returns-clause-others c = objects_in_other

pub returns-clause-generations : goal.returns-clause-generations
returns-clause-generations c = objects_in_generation

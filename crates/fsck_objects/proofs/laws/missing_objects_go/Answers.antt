use Rattle.std.proofs.Common.{refl}
use Rattle.std.specs.Fmt.{digits}
use Rattle.metadata_backup.specs.Numbers.{generation_of, number_of, object_of}
use Rattle.fsck_objects.proofs.laws.missing_objects_go.Goals as goal

pub returns-clause-lines : goal.returns-clause-lines
unfolding digits generation_of object_of number_of
returns-clause-lines c = refl

pub returns-clause-batch : goal.returns-clause-batch
unfolding digits generation_of object_of number_of
returns-clause-batch c = refl

use Rattle.std.proofs.Common.{refl}
use Rattle.std.specs.Fmt.{digits}
use Rattle.metadata_backup.specs.Numbers.{generation_of, number_of, object_of}
use Rattle.fsck_objects.proofs.laws.worked_stores_are_cleared.Goals as goal

pub returns-clause-lines : goal.returns-clause-lines
unfolding digits generation_of object_of number_of
returns-clause-lines c = refl

pub returns-clause-batch : goal.returns-clause-batch
unfolding digits generation_of object_of number_of
returns-clause-batch c = refl

pub returns-clause-unused : goal.returns-clause-unused
unfolding digits generation_of object_of number_of
returns-clause-unused c = refl

pub returns-clause-strays : goal.returns-clause-strays
unfolding digits generation_of object_of number_of
returns-clause-strays c = refl

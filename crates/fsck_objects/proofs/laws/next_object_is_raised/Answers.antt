use Rattle.std.proofs.Common.{refl}
use Rattle.std.specs.Fmt.{digits}
use Rattle.metadata_backup.specs.Numbers.{generation_of, number_of, object_of}
use Rattle.fsck_objects.proofs.laws.next_object_is_raised.Goals as goal

pub returns-clause-late : goal.returns-clause-late
unfolding digits generation_of object_of number_of
returns-clause-late c = refl

pub returns-clause-last : goal.returns-clause-last
unfolding digits generation_of object_of number_of
returns-clause-last c = refl

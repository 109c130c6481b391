use Rattle.std.proofs.Common.{refl}
use Rattle.std.specs.Fmt.{digits}
use Rattle.metadata_backup.specs.Numbers.{generation_of, number_of, object_of}
use Rattle.fsck_objects.proofs.laws.whole_stores_stay.Goals as goal

pub returns-clause-objects : goal.returns-clause-objects
unfolding digits generation_of object_of number_of
returns-clause-objects c = refl

pub returns-clause-numbers : goal.returns-clause-numbers
unfolding digits generation_of object_of number_of
returns-clause-numbers c = refl

pub returns-clause-store : goal.returns-clause-store
unfolding digits generation_of object_of number_of
returns-clause-store c = refl

use Rattle.std.proofs.Common.{[]}
use Rattle.s3_rows.specs.declared.change.Change.TheVariants as changes
use Rattle.s3_rows.specs.Batches.{after_change}
use Rattle.block_steps.proofs.DebtsTables.{IsValid-OwesPlaces, OwesPlaces-IsValid}
use Rattle.byte_steps.proofs.OtherLengths.{OwesPlaces-length, OwesPlaces-length_cut, OwesPlaces-length_longer, cut_from, inode_at-cut_from}
use Rattle.byte_steps.proofs.lengths.files_take_other_lengths.Goals as goal

pub returns-clause-valid : goal.returns-clause-valid
returns-clause-valid c =
    λ t p r new valid made found regular kind refcount no_slots within.
    IsValid-OwesPlaces (after_change (changes.PutInode new) t) p
    (OwesPlaces-length t p r new [] (OwesPlaces-IsValid t p valid made) found regular kind refcount no_slots within)

pub returns-clause-longer : goal.returns-clause-longer
returns-clause-longer c =
    λ t p r new valid made found regular kind refcount no_slots longer.
    IsValid-OwesPlaces (after_change (changes.PutInode new) t) p
    (OwesPlaces-length_longer t p r new [] (OwesPlaces-IsValid t p valid made) found regular kind refcount no_slots longer)

pub returns-clause-cut : goal.returns-clause-cut
returns-clause-cut c =
    λ t p r new from valid made found regular kind refcount no_slots inside.
    IsValid-OwesPlaces (after_change (changes.PutInode new) (cut_from t new.id from)) p
    (OwesPlaces-length_cut t p r new from [] (OwesPlaces-IsValid t p valid made) found regular kind refcount no_slots inside)

pub returns-clause-cut_found : goal.returns-clause-cut_found
returns-clause-cut_found c = inode_at-cut_from

pub returns-clause-owed : goal.returns-clause-owed
returns-clause-owed c = OwesPlaces-length

pub returns-clause-owed_longer : goal.returns-clause-owed_longer
returns-clause-owed_longer c = OwesPlaces-length_longer

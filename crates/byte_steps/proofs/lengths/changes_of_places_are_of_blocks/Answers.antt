use Rattle.std.proofs.Common.{refl}
use Rattle.byte_steps.proofs.BlockChanges.{is_of_blocks-counted, is_of_blocks-places_dropped, is_of_blocks-places_relinked, is_of_blocks-relinked, list_all_is_of_blocks-append}
use Rattle.byte_steps.proofs.lengths.changes_of_places_are_of_blocks.Goals as goal

pub returns : goal.returns
returns c = record {
  counted = is_of_blocks-counted;
  made = λ p object size digest. refl;
  relinked = is_of_blocks-relinked;
  places = λ t inode places. is_of_blocks-places_relinked inode places t;
  dropped = λ t rows. is_of_blocks-places_dropped rows t;
  joined = list_all_is_of_blocks-append;
}

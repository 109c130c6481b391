use Rattle.std.proofs.Common.{ap, ◌∙◌, List}
use Rattle.s3_rows.specs.declared.change.Change.{Change}
use Rattle.s3_rows.specs.declared.change.Change.TheVariants as changes
use Rattle.s3_rows.specs.Batches.{after_change, tables_after}
use Rattle.ref_counts.specs.Links.{places_dropped}
use Rattle.block_steps.specs.Places.{places_relinked}
use Rattle.byte_steps.proofs.BlockChanges.{is_of_blocks-places_dropped, is_of_blocks-places_relinked, places_dropped-put_inode, places_relinked-put_inode, relinked-put_inode, tables_after-put_inode}
use Rattle.byte_steps.proofs.lengths.orders_do_not_matter.Goals as goal

pub returns : goal.returns
returns c = record {
  changes = λ t new more all. tables_after-put_inode new t more all;
  relinked = λ t new inode blockno block. relinked-put_inode new t inode blockno block;
  places = λ t new inode places. places_relinked-put_inode new inode places t;
  dropped = λ t new rows. places_dropped-put_inode new rows t;
  placed =
      λ t new inode places.
      ap (λ (cs : List Change). tables_after cs (after_change (changes.PutInode new) t)) (places_relinked-put_inode new inode places t)
      ∙ tables_after-put_inode new t (places_relinked inode places t) (is_of_blocks-places_relinked inode places t);
  left =
      λ t new rows.
      ap (λ (cs : List Change). tables_after cs (after_change (changes.PutInode new) t)) (places_dropped-put_inode new rows t)
      ∙ tables_after-put_inode new t (places_dropped rows t) (is_of_blocks-places_dropped rows t);
}

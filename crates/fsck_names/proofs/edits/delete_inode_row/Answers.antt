use Rattle.std.proofs.Common.{rules, ap, ◌∙◌}
use Rattle.std.proofs.lemmas.List.Sorted.{answers_always}
use Rattle.std.specs.Cmp.{nat_cmp_total}
use Rattle.s3_rows.specs.Keyed.{rises}
use Rattle.s3_rows.specs.Tables.{by_inode}
use Rattle.row_lemmas.proofs.Keyed.Rises.{rises-without}
use Rattle.fsck_names.proofs.Searches.{without_from_search}
use Rattle.fsck_names.proofs.edits.delete_inode_row.Goals as goal

pub returns : goal.returns
returns c =
    let gone = without_from_search by_inode nat_cmp_total c.args.id _ _ _ c.binary_search_by_key-place.result c.deref.ensures.value c.requires
    c.binary_search_by_key-place.ensures.bound
    (c.binary_search_by_key-place.ensures.position (λ r. r.id) (answers_always _ _ _ (λ f a r g called. search rules)))
    c.remove_at.ensures.found c.remove_at.ensures.missed in
    record {
      rows = gone;
      rising = ap (rises by_inode) gone ∙ rises-without by_inode c.args.id _ c.requires;
    }

use Rattle.std.proofs.Common.{rules, ap}
use Rattle.std.proofs.lemmas.List.Sorted.{answers_always}
use Rattle.row_lemmas.proofs.Tables.{pair_cmp_total}
use Rattle.s3_rows.specs.Rows.{Content}
use Rattle.s3_rows.specs.Tables.{by_entry}
use Rattle.fsck_names.proofs.Searches.{put_from_search, rises_when_put}
use Rattle.fsck_names.proofs.edits.put_entry_row.Goals as goal

pub returns : goal.returns
returns c =
    let placed = put_from_search by_entry pair_cmp_total c.args.row _ _ _ _ c.binary_search_by_key-place.result c.put_at.result (ap (λ (r : Content). (r.parent, r.name_id)) c.row.view_is) c.deref.ensures.value c.requires
    c.binary_search_by_key-place.ensures.bound
    (c.binary_search_by_key-place.ensures.position (λ r. (r.parent, r.name_id)) (answers_always _ _ _ (λ f a r g called. search rules)))
    c.put_at.ensures.found c.put_at.ensures.missed in
    record {
      rows = placed;
      rising = rises_when_put by_entry pair_cmp_total c.args.row _ _ c.put_at.result c.requires placed;
    }

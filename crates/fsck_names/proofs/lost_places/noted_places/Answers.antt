use Rattle.std.proofs.Common.{◌≡◌, ◌+◌, ◌∙◌, List, drop, subst, ap}
use Rattle.std.specs.Prelude.{◌||◌}
use Rattle.std.proofs.Math.ListN.{drop_of_length-le}
use Rattle.s3_rows.specs.Rows.{InodeBlock}
use Rattle.fsck_findings.proofs.Looked.{drop_at}
use Rattle.fsck_names.specs.Losing.{has_lost, is_in}
use Rattle.fsck_names.proofs.LostPlaces.{lost_none, lost_more, lost_end}
use Rattle.fsck_names.proofs.lost_places.noted_places.Goals as goal

pub loop-row-init : goal.loop-row-init
loop-row-init c = λ q. lost_none c.args.tables.now c.as_slice-row-items.result.now q (is_in c.new-found.result q) (c.new-found.ensures q)

pub loop-row-preserved : goal.loop-row-preserved
loop-row-preserved c =
    let t = c.args.tables.now in
    let rows = c.as_slice-row-items.result.now in
    let here = drop_at rows c.loop-row.row-index c.row-item.result c.loop-row-test.true c.row-item.is in
    λ q. lost_more t c.row-item.result (drop (c.loop-row.row-index + 1) rows) rows q (is_in c.loop-row.found q) (is_in c.note.new.self q)
    (subst (λ (left : List InodeBlock). (is_in c.loop-row.found q || has_lost t left q) ≡ has_lost t rows q) here (c.loop-row.invariant q))
    (c.in_ok-note.ensures q)

pub returns : goal.returns
returns c =
    let t = c.args.tables.now in
    let rows = c.as_slice-row-items.result.now in
    λ q. lost_end t rows q (is_in c.loop-row.found q)
    (subst (λ (left : List InodeBlock). (is_in c.loop-row.found q || has_lost t left q) ≡ has_lost t rows q)
    (drop_of_length-le rows c.loop-row-test.false) (c.loop-row.invariant q))
    ∙ ap (λ (rows : List InodeBlock). has_lost t rows q) (c.as_slice-row-items.ensures ∙ ap (λ t. t.inode_blocks) c.tables.view_is)

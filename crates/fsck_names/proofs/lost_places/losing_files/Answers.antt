use Rattle.std.proofs.Common.{◌≡◌, List, filter, ap, ◌∙◌}
use Rattle.std.specs.Prelude.{◌&&◌}
use Rattle.std.proofs.lemmas.Result.{IfOk-weaker}
use Rattle.s3_rows.specs.Rows.{Inode}
use Rattle.s3_rows.specs.Validity.{is_regular}
use Rattle.fsck_names.specs.Losing.{is_in}
use Rattle.fsck_names.specs.Losses.{loses_block}
use Rattle.fsck_names.proofs.lost_places.losing_files.Goals as goal

pub returns : goal.returns
returns c =
    let t = c.args.tables.now in
    let same : (λ (i : Inode). is_regular i.kind && is_in c.in_ok-found.found i.id) ≡ loses_block t = λ k i. is_regular i.kind && c.in_ok-found.ensures i.id k in
    let rows = c.as_slice.ensures ∙ ap (λ t. t.inodes) c.tables.view_is in
    IfOk-weaker c.files_of.result (λ v. v.items ≡ filter (λ (i : Inode). is_regular i.kind && is_in c.in_ok-found.found i.id) c.as_slice.result.now)
    (λ v. v.items ≡ filter (loses_block t) t.inodes) (λ v is. is ∙ ap (λ test. filter test c.as_slice.result.now) same ∙ ap (λ (rows : List Inode). filter (loses_block t) rows) rows) c.files_of.ensures

use Rattle.std.proofs.Common.{◌≡◌, sym, ◌∙◌, eqb-true}
use Rattle.std.specs.Prelude.{◌==◌}
use Rattle.s3_devices.specs.Objects.{AreOrdered}
use Rattle.s3_devices.specs.LinkAnswers.{listed}
use Rattle.metadata_backup.proofs.SurveyLaws.{told_weaker}
use Rattle.fsck_run.specs.Listing.{IsReadTo, IsReadPage}
use Rattle.fsck_run.proofs.ListedKeys.{IsReadPage-listed}
use Rattle.fsck_run.proofs.listing.read_page.Goals as goal

pub returns-clause-read : goal.returns-clause-read
returns-clause-read g c =
    let keys = c.args.keys.now in
    let now = c.keep_page.new.keys in
    let page = c.in_ok-page.page in
    let after = c.args.after.now in
    let last = c.len-last.result == 0 in
    told_weaker (g.L.Link.told c.args.link.now) (λ o. page ≡ listed after 256 o)
    (λ o. AreOrdered o → (start : _) → IsReadTo start after keys o → IsReadPage last start c.keep_page.new.after now o)
    (λ o given ordered start read.
    IsReadPage-listed start after 255 keys now page c.keep_page.new.after last o given ordered
    (λ end. sym c.len-last.ensures ∙ eqb-true c.len-last.result 0 end)
    c.in_ok-keep_page.ensures.kept c.in_ok-keep_page.ensures.last read)
    c.in_ok-page.ensures.keys

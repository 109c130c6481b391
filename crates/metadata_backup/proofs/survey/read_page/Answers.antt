use Rattle.std.proofs.Common.{◌≡◌, sym, ◌∙◌, eqb-true}
use Rattle.std.specs.Prelude.{◌==◌}
use Rattle.s3_devices.specs.Objects.{AreOrdered}
use Rattle.s3_devices.specs.LinkAnswers.{listed}
use Rattle.metadata_backup.specs.Survey.{IsReadTo, IsReadPage}
use Rattle.metadata_backup.proofs.SurveyLaws.{IsReadPage-listed, told_weaker}
use Rattle.metadata_backup.proofs.survey.read_page.Goals as goal

pub returns-clause-read : goal.returns-clause-read
returns-clause-read g c =
    let found = c.args.found.now in
    let now = c.note_page.new.found in
    let page = c.in_ok-page.page in
    let after = c.args.after.now in
    let last = c.len-last.result == 0 in
    told_weaker (g.L.Link.told c.args.link.now) (λ o. page ≡ listed after 256 o)
    (λ o. AreOrdered o → (start : _) → IsReadTo start after found.generations found.next_object o → IsReadPage last start c.note_page.new.after now.generations now.next_object o)
    (λ o given ordered start read.
    IsReadPage-listed start after 255 found.generations now.generations found.next_object now.next_object page c.note_page.new.after last o
    given ordered (λ end. sym c.len-last.ensures ∙ eqb-true c.len-last.result 0 end)
    c.in_ok-note_page.ensures.generations c.in_ok-note_page.ensures.next_object c.in_ok-note_page.ensures.last read)
    c.in_ok-page.ensures.keys

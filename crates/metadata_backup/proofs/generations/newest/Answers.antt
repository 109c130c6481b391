use Rattle.std.proofs.Common.{◌≡◌, sym, ap, ◌∙◌}
use Rattle.std.specs.Map.{keys_of}
use Rattle.s3_devices.specs.Objects.{AreOrdered}
use Rattle.metadata_backup.specs.Survey.{greatest, generations_in, newest_in}
use Rattle.metadata_backup.proofs.SurveyLaws.{told_weaker}
use Rattle.metadata_backup.proofs.GenerationLaws.{generations_found, greatest_is_id}
use Rattle.metadata_backup.proofs.generations.newest.Goals as goal

pub returns-clause-newest : goal.returns-clause-newest
returns-clause-newest g c =
    let numbers = c.in_ok-found.found.generations in
    let told = g.L.Link.told c.args.link.now in
    let same : c.greatest.result ≡ greatest numbers = c.greatest.ensures ∙ ap greatest c.as_slice.ensures in
    told_weaker told (λ o. AreOrdered o → numbers ≡ generations_in (keys_of o)) (λ o. AreOrdered o → c.greatest.result ≡ newest_in (keys_of o))
    (λ o found ordered. same ∙ ap greatest (found ordered))
    (generations_found numbers c.in_ok-found.found.next_object told c.in_ok-found.ensures.found)

pub returns-clause-id : goal.returns-clause-id
returns-clause-id g c = λ x is.
    greatest_is_id c.in_ok-found.found.generations c.in_ok-found.ensures.ids x (sym (c.greatest.ensures ∙ ap greatest c.as_slice.ensures) ∙ is)

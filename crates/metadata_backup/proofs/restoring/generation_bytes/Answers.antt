use Rattle.std.proofs.Common.{◌≡◌, ◌^◌, ◌<◌, arith}
use Rattle.s3_devices.specs.Objects.{held_at}
use Rattle.s3_devices.specs.Told.{IfTold}
use Rattle.metadata_backup.specs.Restores.{generation_in}
use Rattle.metadata_backup.proofs.SurveyLaws.{told_weaker}
use Rattle.metadata_backup.proofs.GenerationLaws.{if_ok}
use Rattle.metadata_backup.proofs.RestoreLaws.{generation_held}
use Rattle.metadata_backup.proofs.restoring.generation_bytes.Goals as goal

pub returns-clause-held : goal.returns-clause-held
returns-clause-held g c =
    let generation = c.args.generation in
    let key = c.in_ok-key.key in
    let told = g.L.Link.told c.args.link.now in
    let positive : 0 < generation = omega (arith, c.if-generation-eq0.false) in
    let below : generation < 2 ^ 62 = omega (arith, c.if-generation-ge-LIMIT.false) in
    if_ok (λ r. IfTold told (λ o. r ≡ held_at o key)) (λ r. IfTold told (λ o. r ≡ generation_in o generation))
    (λ r held. told_weaker told (λ o. r ≡ held_at o key) (λ o. r ≡ generation_in o generation)
    (λ o is. generation_held o generation key r c.in_ok-key.ensures positive below is) held)
    c.get.result c.get.ensures.held

use Rattle.std.proofs.Common.{◌≡◌, ℕ, ◌-◌, List, Some, length, ap, ◌∙◌}
use Rattle.std.specs.Prelude.{option_map}
use Rattle.std.specs.Map.{keys_of}
use Rattle.s3_devices.specs.Objects.{AreOrdered}
use Rattle.s3_devices.specs.Told.{IfTold}
use Rattle.metadata_backup.specs.Survey.{generations_in}
use Rattle.metadata_backup.specs.Generations.{up_to, without_generations, without_old}
use Rattle.metadata_backup.proofs.SurveyLaws.{told_weaker}
use Rattle.metadata_backup.proofs.GenerationLaws.{generations_found, if_ok, left_same, on_ok, rotated}
use Rattle.metadata_backup.proofs.generations.rotate.Goals as goal

pub returns-in_err-found-clause-left : goal.returns-in_err-found-clause-left
returns-in_err-found-clause-left g c =
    left_same (c.args.last_done - c.args.keep) (g.L.Link.told c.args.link.now) (g.L.Link.told c.read_keys.new.link) c.read_keys.ensures.same

pub returns-clause-deleted : goal.returns-clause-deleted
returns-clause-deleted g c =
    let limit = c.args.last_done - c.args.keep in
    let numbers = c.in_ok-found.found.generations in
    let before = g.L.Link.told c.args.link.now in
    let mid = g.L.Link.told c.read_keys.new.link in
    let after = g.L.Link.told c.delete_old.new.link in
    on_ok (after ≡ option_map (without_generations (up_to c.saturating_sub-limit.result c.as_slice.result.now)) mid)
    (IfTold before (λ o. AreOrdered o → after ≡ Some (without_old limit o)))
    (λ gone. rotated limit numbers before mid after c.in_ok-found.ensures.ids c.read_keys.ensures.same
    (gone ∙ ap (λ (l : ℕ). option_map (without_generations (up_to l c.as_slice.result.now)) mid) c.saturating_sub-limit.ensures
    ∙ ap (λ (ns : List ℕ). option_map (without_generations (up_to limit ns)) mid) c.as_slice.ensures)
    (generations_found numbers c.in_ok-found.found.next_object before c.in_ok-found.ensures.found))
    c.delete_old.result c.delete_old.ensures.deleted

pub returns-clause-count : goal.returns-clause-count
returns-clause-count g c =
    let limit = c.args.last_done - c.args.keep in
    let numbers = c.in_ok-found.found.generations in
    let before = g.L.Link.told c.args.link.now in
    if_ok (λ n. n ≡ length (up_to c.saturating_sub-limit.result c.as_slice.result.now))
    (λ n. IfTold before (λ o. AreOrdered o → n ≡ length (up_to limit (generations_in (keys_of o)))))
    (λ n counted. told_weaker before (λ o. AreOrdered o → numbers ≡ generations_in (keys_of o)) (λ o. AreOrdered o → n ≡ length (up_to limit (generations_in (keys_of o))))
    (λ o found ordered.
    counted ∙ ap (λ (l : ℕ). length (up_to l c.as_slice.result.now)) c.saturating_sub-limit.ensures
    ∙ ap (λ (ns : List ℕ). length (up_to limit ns)) (c.as_slice.ensures ∙ found ordered))
    (generations_found numbers c.in_ok-found.found.next_object before c.in_ok-found.ensures.found))
    c.delete_old.result c.delete_old.ensures.count

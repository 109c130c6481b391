use Rattle.std.proofs.Common.{◌≡◌, ℕ, ◌∙◌, ap, subst, List}
use Rattle.std.proofs.lemmas.Result.{on_ok_weaker}
use Rattle.s3_rows.specs.Rows.{Object}
use Rattle.fsck_findings.specs.Found.{Adds, each_found}
use Rattle.fsck_tables.specs.Counts.{about_object, kept_object_count}
use Rattle.fsck_tables.specs.Tally.{tally_at}
use Rattle.fsck_tables.proofs.count_pass.count_objects.Goals as goal

pub returns : goal.returns
returns c =
    let t = c.args.tables.now in
    let old = c.args.repair.now in
    let new = c.look_at_all.new.repair in
    on_ok_weaker c.look_at_all.result
    (λ adds places.
    let same : (λ (id : ℕ). tally_at c.in_ok-tally.tally id) ≡ kept_object_count t = λ i id. c.in_ok-tally.ensures places id i in
    subst (λ (rows : List Object). Adds (each_found (about_object (kept_object_count t)) rows) old new) (c.as_slice.ensures ∙ ap (λ t. t.objects) c.tables.view_is)
    (subst (λ (count : ℕ → ℕ). Adds (each_found (about_object count) c.as_slice.result.now) old new) same adds)) c.look_at_all.ensures

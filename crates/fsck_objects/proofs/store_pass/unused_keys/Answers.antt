use Rattle.std.proofs.Common.{◌≡◌, ℕ, ◌+◌, ◌++◌, List, map, drop, subst, sym, ◌∙◌}
use Rattle.std.specs.Prelude.{filter}
use Rattle.s3_rows.specs.Rows.{Object}
use Rattle.s3_devices.specs.Keys as texts
use Rattle.fsck_findings.proofs.Looked.{drop_at}
use Rattle.fsck_objects.specs.Store as spec
use Rattle.fsck_objects.proofs.Gathered.{kept_more, kept_less}
use Rattle.fsck_objects.proofs.store_pass.unused_keys.Goals as goal
use Rattle.fsck_objects.proofs.store_pass.unused_keys.Goals.{then-is_unused+in_ok-push_key, else-is_unused}

pub loop-row-preserved : goal.loop-row-preserved
loop-row-preserved c =
    let rows = c.args.rows.now in
    let f : Object → List ℕ = λ r. texts.data_key r.id in
    let all = map f (filter spec.is_unused rows) in
    let rest = drop (c.loop-row.row-index + 1) rows in
    let here = drop_at rows c.loop-row.row-index c.row-item.result c.loop-row-test.true c.row-item.is in
    let left = subst (λ (left : List Object). c.loop-row.keys ++ map f (filter spec.is_unused left) ≡ all) here c.loop-row.invariant in
    let P : List (List ℕ) → Type 0 = λ keys. keys ++ map f (filter spec.is_unused rest) ≡ all in
    elim c.if-is_unused.branch [
      | then-is_unused+in_ok-push_key w ↦
          subst P (sym (w.keys-is ∙ w.in_ok-push_key.ensures)) (kept_more f spec.is_unused c.row-item.result rest c.loop-row.keys all left (sym c.is_unused.ensures ∙ w.if-is_unused.true))
      | else-is_unused w ↦
          subst P (sym w.keys-is) (kept_less f spec.is_unused c.row-item.result rest c.loop-row.keys all left (sym c.is_unused.ensures ∙ w.if-is_unused.false))
    ]

use Rattle.std.proofs.Common.{◌∷◌, [], ◌+◌, ◌++◌, ◌∙◌, refl, ap}
use Rattle.s3_rows.specs.declared.change.Change.TheVariants as changes
use Rattle.s3_rows.specs.Rows.{Parameters}
use Rattle.file_ops.proofs.Drawn.{drawn_more}
use Rattle.file_ops.proofs.objects.drawing.Goals as goal

pub loop-n-preserved : goal.loop-n-preserved
loop-n-preserved c = record {
  first = c.loop-n.invariant.first;
  drawn =
      λ t made.
      drawn_more t c.args.params.now c.loop-n.batch c.push.new.self c.push-in-loop-n.new.self c.loop-n.n _ _ (ap (λ x. x + c.loop-n.n) c.loop-n.invariant.first) refl c.in_ok-push.ensures.ok
      (c.in_ok-push-2.ensures.ok ∙ ap (λ (r : Parameters). c.push.new.self ++ changes.SetParams (record r { next_object = c.params.inside.next_object + c.loop-n.n + 1 }) ∷ []) c.params.view_is)
      made (c.loop-n.invariant.drawn t made);
}

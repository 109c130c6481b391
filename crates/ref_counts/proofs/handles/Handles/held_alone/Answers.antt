use Rattle.std.proofs.Common.{ℕ, Bool, List, ◌≡◌, ◌∷◌, ap, sym, subst, refl, ◌∙◌}
use Rattle.std.specs.Prelude.{IsTrue, ◌==◌, ◌&&◌, ◌||◌, not}
use Rattle.std.specs.List.{list_any}
use Rattle.std.specs.Map.Iter.{deref}
use Rattle.std.proofs.lemmas.Map.Iter.{rest_more}
use Rattle.plain_tree.specs.Below.{is_among}
use Rattle.plain_tree.specs.Tree.{Handle}
use Rattle.s3_rows.specs.Validity.{differ}
use Rattle.ref_counts.specs.Handles.{OpenHandles, closed_all, is_held, is_held_alone}
use Rattle.ref_counts.proofs.Held.{differ-with_held, held_by_pass, is_among-with_held}
use Rattle.ref_counts.proofs.handles.Handles.held_alone.Goals as goal

abbrev of_pass : ℕ → ℕ → List Handle → Bool
of_pass pass x handles = list_any (λ (h : Handle). h.pass == pass && h.inode == x) handles

pub loop-handle-init : goal.loop-handle-init
loop-handle-init c = record {
  once = subst (λ xs. IsTrue (differ (λ a b. b == a) xs)) (sym c.new-inodes.ensures) refl;
  alone =
      λ x. (λ i. is_among (c.new-inodes.ensures i) x
      || (of_pass c.args.pass x ((c.into_iter-handle-iterator.ensures.into_iter_gives ∙ c.values-handle-items.ensures.rest) i)
      && not (is_held (closed_all c.args.pass (sym c.self.view_is i)) x)))
      ∙ held_by_pass c.args.pass x c.self.inside.entries.entries ∙ ap (λ (h : OpenHandles). is_held_alone c.args.pass h x) c.self.view_is;
}

pub loop-handle-preserved : goal.loop-handle-preserved
loop-handle-preserved c =
    let others = λ (x : ℕ). is_held (closed_all c.args.pass c.args.self.now) x in
    let rest : c.loop-handle.handle-iterator ≡ c.in-Some.handle.now ∷ c.next.new.self =
    rest_more deref _ _ c.next.result c.in-Some.handle c.in-Some.is c.next.ensures.steps in
    record {
      once =
          subst (λ xs. IsTrue (differ (λ a b. b == a) xs)) (sym c.in_ok-list_held_alone.ensures)
          (differ-with_held c.args.pass others c.loop-handle.inodes c.in-Some.handle.now c.loop-handle.invariant.once);
      alone =
          λ x. ap (λ xs. is_among xs x || (of_pass c.args.pass x c.next.new.self && not (others x))) c.in_ok-list_held_alone.ensures
          ∙ sym (is_among-with_held c.args.pass others c.loop-handle.inodes c.in-Some.handle.now (of_pass c.args.pass x c.next.new.self) x)
          ∙ ap (λ handles. is_among c.loop-handle.inodes x || (of_pass c.args.pass x handles && not (others x))) (sym rest)
          ∙ c.loop-handle.invariant.alone x;
    }

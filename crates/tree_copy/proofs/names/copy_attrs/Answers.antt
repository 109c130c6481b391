use Rattle.std.proofs.Common.{List, ℕ, sym, ◌∙◌, refl, subst, arith}
use Rattle.ref_counts.proofs.Told.{IfTold-all, IfTold-same, IfTold-weaker3, IfTold-weaker4}
use Rattle.tree_copy.proofs.NextAttrs.{IsLeft, found_attr, left_first, left_more, left_worn, next_named}
use Rattle.tree_copy.proofs.names.copy_attrs.Goals as goal

pub attrs-init : goal.attrs-init
attrs-init g c = record {
  told = refl;
  later = omega (arith);
  left =
      IfTold-all (g.K.Keeper.told c.args.keeper.now) _
      (λ t o unique names.
      subst (λ (l : List ℕ). IsLeft t c.args.node c.args.copy l c.args.batch.now c.args.batch.now) (sym c.new-last.ensures)
      (left_first t c.args.node c.args.copy c.args.batch.now unique names));
}

pub returns-then-not-branch-clause-fits : goal.returns-then-not-branch-clause-fits
returns-then-not-branch-clause-fits g c =
    let told = g.K.Keeper.told c.args.keeper.now in
    IfTold-weaker3 told _ _ _ _
    (λ t next fits left o unique names.
    let found = found_attr t c.args.node c.attrs.last _ (sym c.in-Some.is ∙ next) in
    let now = left o unique names in
    left_worn t c.args.node c.args.copy c.attrs.last c.args.batch.now c.attrs.batch c.in-Some.attr now found
    (sym c.if-not-branch.true ∙ fits o now.unique (next_named t c.args.node c.attrs.last c.in-Some.attr names found)))
    (IfTold-same told _ _ c.attrs.invariant.told c.in_ok-attr.ensures.next)
    (IfTold-same told _ _ (c.in_ok-attr.ensures.same ∙ c.attrs.invariant.told) c.in_ok-copy_attr.ensures.fits) c.attrs.invariant.left

pub attrs-preserved : goal.attrs-preserved
attrs-preserved g c =
    let told = g.K.Keeper.told c.args.keeper.now in
    let same = c.in_ok-attr.ensures.same ∙ c.attrs.invariant.told in
    record {
      told = c.in_ok-copy_attr.ensures.same ∙ same;
      later = omega (arith, c.in_ok-copy_attr.ensures.cause.later, c.in_ok-attr.ensures.cause.later, c.attrs.invariant.later);
      left =
          IfTold-weaker4 told _ _ _ _ _
          (λ t next fits added left o unique names.
          let found = found_attr t c.args.node c.attrs.last _ (sym c.in-Some.is ∙ next) in
          let now = left o unique names in
          let named = next_named t c.args.node c.attrs.last c.in-Some.attr names found in
          left_more t c.args.node c.args.copy c.attrs.last c.args.batch.now c.attrs.batch c.copy_attr.new.batch c.in-Some.attr o now found
          (sym c.if-not-branch.false ∙ fits o now.unique named) (added o now.unique named c.if-not-branch.false))
          (IfTold-same told _ _ c.attrs.invariant.told c.in_ok-attr.ensures.next)
          (IfTold-same told _ _ same c.in_ok-copy_attr.ensures.fits)
          (IfTold-same told _ _ same c.in_ok-copy_attr.ensures.copied)
          c.attrs.invariant.left;
    }

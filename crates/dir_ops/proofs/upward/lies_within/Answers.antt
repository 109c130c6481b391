use Rattle.std.proofs.Common.{◌≡◌, ◌<◌, ◌≤◌, ◌+◌, length, Some, rules, sym, ap, ◌∙◌, subst, arith}
use Rattle.std.proofs.lemmas.Bool.{ne_eqb}
use Rattle.std.specs.Prelude.{IsTrue, ◌==◌, Option, false, is_some}
use Rattle.s3_base.specs.Numbers.{root}
use Rattle.plain_tree.specs.Below.{is_at_or_below}
use Rattle.s3_rows.specs.Rows.{Content, Parameters}
use Rattle.s3_rows.specs.Selections.{holder_of}
use Rattle.ref_counts.proofs.Told.{IfTold-weaker, IfTold-weaker2, IfTold-weaker3, IfTold-same}
use Rattle.dir_ops.proofs.Above.{IsAbove, fewer_inodes, parent_is_above}
use Rattle.dir_ops.proofs.upward.lies_within.Goals as goal

pub returns-then-current-eq-ROOT-clause-below : goal.returns-then-current-eq-ROOT-clause-below
returns-then-current-eq-ROOT-clause-below g c =
    let top = c.args.top in
    let other : (root == top) ≡ false = ne_eqb root top (λ same. c.if-current-top.false (c.if-current-eq-ROOT.true ∙ same)) in
    IfTold-weaker (g.K.Keeper.told c.args.keeper.now) _ _
    (λ t above v whole same well folder.
    ap Some (sym ((above v whole same well folder).same ∙ ap (is_at_or_below whole top) c.if-current-eq-ROOT.true
    ∙ c.directories_lie_below_their_parents.ensures.root whole well top other)))
    c.loop-step.invariant.above

pub returns-in-None-clause-below : goal.returns-in-None-clause-below
returns-in-None-clause-below g c =
    let told = g.K.Keeper.told c.args.keeper.now in
    let current = c.loop-step.current in
    let other : (current == root) ≡ false = ne_eqb current root c.if-current-eq-ROOT.false in
    IfTold-weaker2 told _ _ _
    (λ t above row v whole same well folder.
    let there = c.holders_are_parents.ensures.found t whole v same well current (above v whole same well folder).folder other in
    absurd (cc (subst (λ (found : Option Content). IsTrue (is_some found)) (sym row ∙ c.in-None.is) there)))
    c.loop-step.invariant.above (IfTold-same told _ _ c.loop-step.invariant.told c.in_ok-holder.ensures.row)

pub loop-step-preserved : goal.loop-step-preserved
loop-step-preserved g c =
    let told = g.K.Keeper.told c.args.keeper.now in
    let current = c.loop-step.current in
    let holder = c.in-Some-2.holder in
    let law = c.holders_are_parents.ensures in
    let other : (current == root) ≡ false = ne_eqb current root c.if-current-eq-ROOT.false in
    let other_top : (current == c.args.top) ≡ false = ne_eqb current c.args.top c.if-current-top.false in
    record {
      told = c.holder.ensures.same ∙ c.loop-step.invariant.told;
      later = search rules;
      above =
          IfTold-weaker2 told _ _ _
          (λ t above row v whole same well folder.
          let on = above v whole same well folder in
          let holds : holder_of t current ≡ Some holder = sym row ∙ c.in-Some-2.is in
          subst (λ x. IsAbove t whole c.args.top c.args.directory x (c.loop-step._step + 1)) (sym (ap (λ (r : Content). r.parent) c.holder-in-Some-2.view_is))
          (parent_is_above t whole c.args.top c.args.directory current c.loop-step._step holder.parent on other (law.parent t whole v same current holder holds)
          (law.below t whole v same current holder holds well on.folder c.args.top other_top) (law.nearer t whole v same current holder holds well on.folder other)))
          c.loop-step.invariant.above (IfTold-same told _ _ c.loop-step.invariant.told c.in_ok-holder.ensures.row);
    }

pub returns-clause-below : goal.returns-clause-below
returns-clause-below g c =
    let told = g.K.Keeper.told c.args.keeper.now in
    IfTold-weaker3 told _ _ _ _
    (λ t above row ranges v whole same well folder.
    let short : c.loop-step._step ≤ length t.inodes = (above v whole same well folder).short in
    let fewer : length t.inodes < c.in-Some.params.next_inode = fewer_inodes t c.in-Some.params v ranges (sym row ∙ c.in-Some.is) in
    absurd (omega (arith, short, fewer, c.loop-step-test.false, ap (λ (p : Parameters). p.next_inode) c.params-2.view_is)))
    c.loop-step.invariant.above c.in_ok-params.ensures.row c.in_ok-params.ensures.ranges

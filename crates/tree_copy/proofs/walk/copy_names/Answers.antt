use Rattle.std.proofs.Common.{◌≡◌, List, [], ◌∷◌, length, true, false, reverse, refl, sym, ap, ◌∙◌, subst, arith}
use Rattle.std.proofs.lemmas.List.{reverse-append}
use Rattle.s3_rows.specs.Rows.{Inode, Parameters}
use Rattle.ref_counts.proofs.Told.{IfTold-same, IfTold-weaker, IfTold-weaker2}
use Rattle.tree_copy.specs.declared.walk.Level.{Level}
use Rattle.tree_copy.specs.CopyLevels.{first_level}
use Rattle.tree_copy.specs.CopyWalks.{GoesOn}
use Rattle.tree_copy.proofs.CopyGoes.{goes_all}
use Rattle.tree_copy.proofs.walk.copy_names.Goals as goal

pub levels-init : goal.levels-init
levels-init g c = record {
  told = c.in_ok-copied.ensures.same;
  later = c.in_ok-copied.ensures.cause.later;
  goes =
      IfTold-weaker (g.K.Keeper.told c.args.keeper.now) _ _
      (λ t goes whole source parent k.
      subst (λ (ls : List Level). GoesOn t whole c.args.now c.args.top.now c.args.directory.now c.args.name.now c.in_ok-copied.copied (reverse ls))
      (sym (c.in_ok-levels.ensures ∙ (λ i. first_level ((ap (λ (x : Inode). x.id) c.top.view_is) i) ((ap (λ (x : Parameters). x.next_inode) c.params.view_is) i) ∷ [])))
      (goes whole source parent k))
      c.in_ok-copied.ensures.goes;
}

pub levels-preserved : goal.levels-preserved
levels-preserved g c =
    let told = g.K.Keeper.told c.args.keeper.now in
    record {
      told = c.in_ok-step.ensures.same ∙ c.levels.invariant.told;
      later = omega (arith, c.in_ok-step.ensures.cause.later, c.levels.invariant.later);
      goes =
          IfTold-weaker2 told _ _ _
          (λ t stepped goes whole source parent k.
          (stepped whole source parent c.args.name.now c.args.top.now c.args.directory.now k
          (subst (λ (ls : List Level). GoesOn t whole c.args.now c.args.top.now c.args.directory.now c.args.name.now c.levels.copied ls)
          (ap (λ (ls : List Level). reverse ls) c.in-Some.ensures.items ∙ reverse-append c.pop.new.self.items (c.in-Some.level ∷ [])) (goes whole source parent k))).1)
          (IfTold-same told _ _ c.levels.invariant.told c.in_ok-step.ensures.goes) c.levels.invariant.goes;
    }

none_left : (ls : List Level) → length ls ≡ 0 → ls ≡ []
none_left [] none = refl
none_left (l ∷ ls) none = absurd (omega (arith, none))

pub returns-in_default-clause-copied : goal.returns-in_default-clause-copied
returns-in_default-clause-copied g c =
    IfTold-weaker (g.K.Keeper.told c.args.keeper.now) _ _
    (λ t goes whole source parent k.
    let none : c.levels.levels.items ≡ [] = none_left c.levels.levels.items (omega (arith, c.in_default.ensures.cases.0, c.levels.levels.ok.0)) in
    goes_all t whole source parent c.args.now c.args.name.now c.args.top.now c.args.directory.now c.args.params.now k c.levels.copied
    (subst (λ (ls : List Level). GoesOn t whole c.args.now c.args.top.now c.args.directory.now c.args.name.now c.levels.copied (reverse ls)) none (goes whole source parent k)))
    c.levels.invariant.goes

pub returns-then-not-branch-clause-copied : goal.returns-then-not-branch-clause-copied
returns-then-not-branch-clause-copied g c =
    let told = g.K.Keeper.told c.args.keeper.now in
    IfTold-weaker2 told _ _ _
    (λ t stepped goes whole source parent k.
    let there : c.in_ok-step.field-0 ≡ true =
    (stepped whole source parent c.args.name.now c.args.top.now c.args.directory.now k
    (subst (λ (ls : List Level). GoesOn t whole c.args.now c.args.top.now c.args.directory.now c.args.name.now c.levels.copied ls)
    (ap (λ (ls : List Level). reverse ls) c.in-Some.ensures.items ∙ reverse-append c.pop.new.self.items (c.in-Some.level ∷ [])) (goes whole source parent k))).0 in
    let lost : c.in_ok-step.field-0 ≡ false = c.if-not-branch.true in
    let clash : true ≡ false = sym there ∙ lost in
    absurd (cc clash))
    (IfTold-same told _ _ c.levels.invariant.told c.in_ok-step.ensures.goes) c.levels.invariant.goes

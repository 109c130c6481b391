use Rattle.std.proofs.Common.{◌≡◌, List, [], ◌∷◌, length, true, false, Option, None, Some, reverse, refl, sym, ap, ◌∙◌, subst, arith}
use Rattle.std.specs.Prelude.{◌&&◌, is_some, not}
use Rattle.std.proofs.lemmas.List.{reverse-append}
use Rattle.s3_rows.specs.declared.change.Change.{Change}
use Rattle.s3_rows.specs.declared.lists.NamedEntry.{NamedEntry}
use Rattle.s3_rows.specs.Rows.{Content}
use Rattle.ref_counts.proofs.Told.{IfTold-all, IfTold-same, IfTold-weaker, IfTold-weaker2, IfTold-weaker3}
use Rattle.immutable_trees.specs.declared.uproot.Branch.{Branch}
use Rattle.immutable_trees.specs.Branches.{HasTaken, first_branch, is_end}
use Rattle.immutable_trees.proofs.TakenSteps.{taken_all, taken_first}
use Rattle.immutable_trees.proofs.uproot.take_tree.Goals as goal

pub turns-init : goal.turns-init
turns-init g c = record {
  told = refl;
  later = omega arith;
  taken =
      IfTold-all (g.K.Keeper.told c.args.keeper.now) _
      (λ t whole parent name can.
      subst (λ (bs : List Branch). HasTaken t whole c.args.top c.args.now c.new-batch.result (reverse bs)) (sym c.in_ok-branches.ensures)
      (subst (λ (b : List Change). HasTaken t whole c.args.top c.args.now b (first_branch c.args.top ∷ [])) (sym c.new-batch.ensures)
      (taken_first t whole can.valid can.same can.well parent c.args.top c.args.now name can.names can.folder can.slots)));
}

pub turns-preserved : goal.turns-preserved
turns-preserved g c =
    let told = g.K.Keeper.told c.args.keeper.now in
    record {
      told = c.in_ok-turn.ensures.same ∙ c.in_ok-next.ensures.same ∙ c.turns.invariant.told;
      later = omega (arith, c.in_ok-turn.ensures.cause.later, c.in_ok-next.ensures.cause.later, c.turns.invariant.later);
      taken =
          IfTold-weaker3 told _ _ _ _
          (λ t next turned before whole parent name can.
          (turned whole parent c.args.top name can
          (subst (λ (bs : List Branch). HasTaken t whole c.args.top c.args.now c.turns.batch bs)
          (ap (λ (bs : List Branch). reverse bs) c.in-Some.ensures.items ∙ reverse-append c.pop.new.self.items (c.in-Some.branch ∷ [])) (before whole parent name can))
          next (sym c.is_end.ensures ∙ c.if-is_end.false)).1)
          (IfTold-same told _ _ c.turns.invariant.told c.in_ok-next.ensures.next)
          (IfTold-same told _ _ (c.in_ok-next.ensures.same ∙ c.turns.invariant.told) c.in_ok-turn.ensures.taken) c.turns.invariant.taken;
    }

none_left : (bs : List Branch) → length bs ≡ 0 → bs ≡ []
none_left [] none = refl
none_left (b ∷ bs) none = absurd (omega (arith, none))

pub returns-in_default-clause-taken : goal.returns-in_default-clause-taken
returns-in_default-clause-taken g c =
    IfTold-weaker (g.K.Keeper.told c.args.keeper.now) _ _
    (λ t before whole parent name can.
    let none : c.turns.branches.items ≡ [] = none_left c.turns.branches.items (omega (arith, c.in_default.ensures.cases.0, c.turns.branches.ok.0)) in
    absurd (subst (λ (bs : List Branch). HasTaken t whole c.args.top c.args.now c.turns.batch (reverse bs)) none (before whole parent name can)).branches_are)
    c.turns.invariant.taken

end_parts : (next : Option NamedEntry) (b : Branch) → is_end next b ≡ true → (next ≡ None) × (b.own ≡ None)
end_parts next b is = by_case next b.own refl is
  where
    by_case : (n : Option NamedEntry) (own : Option Content) → b.own ≡ own → (not (is_some n) && not (is_some own)) ≡ true → (n ≡ None) × (own ≡ None)
    by_case None None same is = (refl, refl)
    by_case None (Some c) same is = absurd (cc is)
    by_case (Some e) own same is = absurd (cc is)

pub returns-then-is_end-clause-taken : goal.returns-then-is_end-clause-taken
returns-then-is_end-clause-taken g c =
    let told = g.K.Keeper.told c.args.keeper.now in
    let parts = end_parts c.in_ok-next.next c.in-Some.branch (sym c.is_end.ensures ∙ c.if-is_end.true) in
    IfTold-weaker2 told _ _ _
    (λ t next before whole parent name can.
    taken_all t whole can.valid can.same can.well parent c.args.top c.args.now name can.names can.folder can.slots c.turns.batch c.in-Some.branch (sym next ∙ parts.0)
    (reverse c.pop.new.self.items)
    (subst (λ (bs : List Branch). HasTaken t whole c.args.top c.args.now c.turns.batch bs)
    (ap (λ (bs : List Branch). reverse bs) c.in-Some.ensures.items ∙ reverse-append c.pop.new.self.items (c.in-Some.branch ∷ [])) (before whole parent name can)) parts.1)
    (IfTold-same told _ _ c.turns.invariant.told c.in_ok-next.ensures.next) c.turns.invariant.taken

pub returns-then-not-branch-clause-taken : goal.returns-then-not-branch-clause-taken
returns-then-not-branch-clause-taken g c =
    let told = g.K.Keeper.told c.args.keeper.now in
    IfTold-weaker3 told _ _ _ _
    (λ t next turned before whole parent name can.
    let there : c.in_ok-turn.field-0 ≡ true =
    (turned whole parent c.args.top name can
    (subst (λ (bs : List Branch). HasTaken t whole c.args.top c.args.now c.turns.batch bs)
    (ap (λ (bs : List Branch). reverse bs) c.in-Some.ensures.items ∙ reverse-append c.pop.new.self.items (c.in-Some.branch ∷ [])) (before whole parent name can))
    next (sym c.is_end.ensures ∙ c.if-is_end.false)).0 in
    let lost : c.in_ok-turn.field-0 ≡ false = c.if-not-branch.true in
    let clash : true ≡ false = sym there ∙ lost in
    absurd (cc clash))
    (IfTold-same told _ _ c.turns.invariant.told c.in_ok-next.ensures.next)
    (IfTold-same told _ _ (c.in_ok-next.ensures.same ∙ c.turns.invariant.told) c.in_ok-turn.ensures.taken) c.turns.invariant.taken

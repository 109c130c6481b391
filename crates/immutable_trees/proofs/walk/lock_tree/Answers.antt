use Rattle.std.proofs.Common.{◌≡◌, ◌++◌, List, [], ◌∷◌, refl, sym, ap, ◌∙◌, subst, arith, length, length-append}
use Rattle.s3_rows.specs.declared.change.Change.{Change}
use Rattle.s3_rows.specs.declared.change.Change.TheVariants as changes
use Rattle.s3_rows.specs.Rows.{Inode}
use Rattle.ref_counts.proofs.Told.{IfTold-all, IfTold-weaker, IfTold-weaker2, IfTold-same}
use Rattle.immutable_trees.specs.declared.walk.Level.{Level}
use Rattle.immutable_trees.specs.Levels.{HasCome, first_level}
use Rattle.immutable_trees.specs.LockedRows.{locked_row}
use Rattle.immutable_trees.proofs.Come.{come_all, come_first}
use Rattle.immutable_trees.proofs.walk.lock_tree.Goals as goal

pub levels-init : goal.levels-init
levels-init g c =
    let r = c.args.top.now in
    record {
      told = refl;
      later = omega arith;
      come =
          IfTold-all (g.K.Keeper.told c.args.keeper.now) _
          (λ t v whole same well there kind.
          subst (λ (ls : List Level). HasCome t whole r.id c.lock_row.new.batch ls) (sym (c.in_ok-levels.ensures ∙ ap (λ (x : Inode). first_level x.id ∷ []) c.top.view_is))
          (subst (λ (b : List Change). HasCome t whole r.id b (first_level r.id ∷ []))
          (sym (c.in_ok-lock_row.ensures.locked ∙ ap (λ (b : List Change). b ++ changes.PutInode (locked_row r) ∷ []) c.new-batch.ensures))
          (come_first t whole v same well r.id r there refl kind)));
    }

pub levels-preserved : goal.levels-preserved
levels-preserved g c =
    let told = g.K.Keeper.told c.args.keeper.now in
    let r = c.args.top.now in
    record {
      told = c.in_ok-lock_next.ensures.same ∙ c.levels.invariant.told;
      later = omega (arith, c.in_ok-lock_next.ensures.cause.later, c.levels.invariant.later);
      come =
          IfTold-weaker2 told _ _ _
          (λ t next before v whole same well there kind.
          (next v whole r.id same well
          (subst (λ (ls : List Level). HasCome t whole r.id c.levels.batch ls) c.in-Some.ensures.items (before v whole same well there kind))).1)
          (IfTold-same told _ _ c.levels.invariant.told c.in_ok-lock_next.ensures.come) c.levels.invariant.come;
    }

pub levels-smaller : goal.levels-smaller
levels-smaller g c =
    omega (arith, c.in_ok-lock_next.ensures.nearer, ap (λ (ls : List Level). length ls) c.in-Some.ensures.items, length-append c.pop.new.self.items (c.in-Some.level ∷ []))

none_left : (ls : List Level) → length ls ≡ 0 → ls ≡ []
none_left [] none = refl
none_left (l ∷ ls) none = absurd (omega (arith, none))

pub returns-clause-batch : goal.returns-clause-batch
returns-clause-batch g c =
    let r = c.args.top.now in
    IfTold-weaker (g.K.Keeper.told c.args.keeper.now) _ _
    (λ t come v whole same well there kind.
    come_all t whole v same well r.id c.levels.batch
    (subst (λ (ls : List Level). HasCome t whole r.id c.levels.batch ls) (none_left c.levels.levels.items (omega (arith, c.in_default.ensures.cases.0, c.levels.levels.ok.0))) (come v whole same well there kind)))
    c.levels.invariant.come

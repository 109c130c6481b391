use Rattle.std.proofs.Common.{◌≤◌, ◌<◌, ◌^◌, ◌++◌, List, length, refl, sym, ap, ◌∙◌, subst}
use Rattle.s3_rows.specs.declared.change.Change.{Change}
use Rattle.s3_rows.specs.declared.change.Change.TheVariants as changes
use Rattle.s3_rows.specs.declared.lists.NamedEntry.{NamedEntry}
use Rattle.s3_rows.specs.Selections.{inode_at}
use Rattle.ref_counts.proofs.Told.{IfTold-weaker, IfTold-weaker2, IfTold-same}
use Rattle.immutable_trees.specs.declared.walk.Level.{Level}
use Rattle.immutable_trees.specs.Levels.{HasCome, levels_behind, steps_left}
use Rattle.immutable_trees.specs.LockedRows.{locked_row}
use Rattle.immutable_trees.proofs.Come.{come_none, come_row, come_some}
use Rattle.immutable_trees.proofs.Nearer.{steps_left-behind}
use Rattle.immutable_trees.proofs.walk.lock_next.Goals as goal

pub returns-in_default-clause-come : goal.returns-in_default-clause-come
returns-in_default-clause-come g c =
    IfTold-weaker (g.K.Keeper.told c.args.keeper.now) _ _
    (λ t next v whole top same well come. (refl, come_none t whole v same well top c.args.batch.now c.args.levels.now.items c.args.level come (sym next ∙ c.in_default.is)))
    c.in_ok-entry.ensures.next

pub returns-in_default-2-clause-come : goal.returns-in_default-2-clause-come
returns-in_default-2-clause-come g c =
    let told = g.K.Keeper.told c.args.keeper.now in
    IfTold-weaker2 told _ _ _
    (λ t next row v whole top same well come.
    absurd (come_row t whole v same well top c.args.batch.now c.args.levels.now.items c.args.level come c.in-Some.entry (sym next ∙ c.in-Some.is)
    (ap (λ (x : NamedEntry). inode_at t x.row.inode) (sym c.entry.view_is) ∙ sym row ∙ c.in_default-2.is)))
    c.in_ok-entry.ensures.next (IfTold-same told _ _ c.in_ok-entry.ensures.same c.in_ok-row.ensures.row)

pub returns-clause-come : goal.returns-clause-come
returns-clause-come g c =
    let told = g.K.Keeper.told c.args.keeper.now in
    IfTold-weaker2 told _ _ _
    (λ t next row v whole top same well come. (
      refl,
      subst (λ (ls : List Level). HasCome t whole top c.lock_row.new.batch ls) (sym (c.in_ok-go_on.ensures ∙ ap (λ (x : NamedEntry). c.args.levels.now.items ++ levels_behind c.args.level.directory x.name c.in-Some-2.row) c.entry.view_is))
          (subst (λ (b : List Change). HasCome t whole top b (c.args.levels.now.items ++ levels_behind c.args.level.directory c.in-Some.entry.name c.in-Some-2.row)) (sym c.in_ok-lock_row.ensures.locked)
          (come_some t whole v same well top c.args.batch.now c.args.levels.now.items c.args.level come c.in-Some.entry (sym next ∙ c.in-Some.is) c.in-Some-2.row
          (ap (λ (x : NamedEntry). inode_at t x.row.inode) (sym c.entry.view_is) ∙ sym row ∙ c.in-Some-2.is))),
    ))
    c.in_ok-entry.ensures.next (IfTold-same told _ _ c.in_ok-entry.ensures.same c.in_ok-row.ensures.row)

pub returns-clause-nearer : goal.returns-clause-nearer
returns-clause-nearer g c =
    let before = steps_left c.args.batch.now c.args.levels.now.items in
    subst (λ (ls : List Level). steps_left c.lock_row.new.batch ls ≤ before) (sym (c.in_ok-go_on.ensures ∙ ap (λ (x : NamedEntry). c.args.levels.now.items ++ levels_behind c.args.level.directory x.name c.in-Some-2.row) c.entry.view_is))
    (subst (λ (b : List Change). steps_left b (c.args.levels.now.items ++ levels_behind c.args.level.directory c.in-Some.entry.name c.in-Some-2.row) ≤ before) (sym c.in_ok-lock_row.ensures.locked)
    (steps_left-behind c.args.batch.now (changes.PutInode (locked_row c.in-Some-2.row)) c.args.levels.now.items c.args.level.directory c.in-Some.entry.name c.in-Some-2.row
    (subst (λ (b : List Change). length b < 2 ^ 64) c.in_ok-lock_row.ensures.locked c.in_ok-lock_row.ensures.short)))

use Rattle.std.proofs.Common.{◌≡◌, List, ◌++◌, None, Some, sym, ap, ◌∙◌, subst}
use Rattle.std.specs.List.{list_all}
use Rattle.std.specs.Prelude.{IsTrue, ◌==◌, not}
use Rattle.op_frames.specs.declared.operation.Op.TheVariants as ops
use Rattle.s3_rows.specs.declared.change.Change.{Change}
use Rattle.s3_rows.specs.Batches.{tables_after}
use Rattle.s3_rows.specs.Rows.{Content, Inode, Name}
use Rattle.s3_rows.specs.Selections.{inode_at, name_at}
use Rattle.ref_counts.specs.declared.plan.Plan.{Plan}
use Rattle.ref_counts.specs.Plans.{IsPlanOf}
use Rattle.ref_counts.proofs.Told.{IfTold-same, IfTold-weaker, IfTold-weaker2}
use Rattle.dir_ops.specs.declared.old_entry.OldEntry.{OldEntry}
use Rattle.immutable_trees.specs.RemovedRows.{HasOwn, uprooted}
use Rattle.immutable_trees.proofs.RemovalPlanned.{directory_left, removal_planned}
use Rattle.immutable_trees.proofs.removal.with_last.Goals as goal

pub returns-in_default-clause-plan : goal.returns-in_default-clause-plan
returns-in_default-clause-plan g c =
    let old = c.args.old.now in
    IfTold-weaker (g.K.Keeper.told c.args.keeper.now) _ _
    (λ t row whole pass parent name finds directory below.
    absurd (directory_left t whole pass parent c.args.now name old.entry old.child finds directory below.gone below.are
    (subst (λ (b : List Change). inode_at (tables_after b t) old.entry.parent ≡ None) below.is
    (ap (λ (o : OldEntry). inode_at (tables_after c.args.batch t) o.entry.parent) (sym c.old.view_is) ∙ sym row ∙ c.in_default.is))))
    c.in_ok-directory.ensures.row

pub returns-clause-plan : goal.returns-clause-plan
returns-clause-plan g c =
    let told = g.K.Keeper.told c.args.keeper.now in
    let old = c.args.old.now in
    let entry = old.entry in
    let holder = c.in-Some.directory in
    let new = c.take_last.new.batch in
    IfTold-weaker2 told _ _ _
    (λ t row taken whole pass parent name finds directory below.
    subst (λ (p : Plan). IsPlanOf t whole pass (ops.RemoveTree parent name) c.args.now p) (sym c.with_done.ensures.plan)
    (removal_planned t whole pass parent c.args.now name entry old.child finds directory below.gone below.are
    (subst (λ (b : List Change). IsTrue (list_all (λ (x : Content). not (x.parent == entry.inode)) (tables_after b t).contents)) below.is below.empty) holder
    (subst (λ (b : List Change). inode_at (tables_after b t) entry.parent ≡ Some holder) below.is
    (ap (λ (o : OldEntry). inode_at (tables_after c.args.batch t) o.entry.parent) (sym c.old.view_is) ∙ sym row ∙ c.in-Some.is)) new
    (subst (λ (b : List Change). (m : Name) (x : Inode) → name_at (tables_after b t) entry.name_id ≡ Some m → x.id ≡ entry.inode → HasOwn t (tables_after b t) x.id
    → new ≡ b ++ uprooted c.args.now (tables_after b t) holder x entry m) below.is (taken finds.valid.ordered))))
    c.in_ok-directory.ensures.row (IfTold-same told _ _ c.in_ok-directory.ensures.same c.in_ok-take_last.ensures.taken)

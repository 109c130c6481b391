use Rattle.std.proofs.Common.{◌≡◌, List, Option, None, Some, sym, ap, ◌∙◌, subst}
use Rattle.s3_rows.specs.declared.change.Change.{Change}
use Rattle.op_checks.specs.Rows.{directory_row_check}
use Rattle.ref_counts.proofs.Named.{if_ok}
use Rattle.ref_counts.proofs.Told.{IfTold-all, IfTold-same, IfTold-weaker, IfTold-weaker2}
use Rattle.dir_ops.specs.declared.old_entry.OldEntry.{OldEntry}
use Rattle.immutable_trees.specs.Branches.{CanRemove, IsTakenBelow, TakesBelow}
use Rattle.immutable_trees.proofs.RemovalPlanned.{can_remove, removal_refused}
use Rattle.immutable_trees.proofs.removal.plan_removal.Goals as goal

pub returns-in-Err-clause-plan : goal.returns-in-Err-clause-plan
returns-in-Err-clause-plan g c =
    let old = c.args.old.now in
    IfTold-all (g.K.Keeper.told c.args.keeper.now) _
    (λ t whole pass parent name finds held. removal_refused t whole pass parent c.args.now name old.entry old.child finds c.in-Err.errno
    (ap (λ (o : OldEntry). directory_row_check (Some o.child)) (sym c.old.view_is) ∙ c.in-Err.ensures))

pub returns-in_default-2-clause-plan : goal.returns-in_default-2-clause-plan
returns-in_default-2-clause-plan g c =
    let old = c.args.old.now in
    let entry = old.entry in
    let now = c.args.now in
    let row = c.old.inside.0.1.0 in
    let number : row.inode ≡ entry.inode = ap (λ (o : OldEntry). o.entry.inode) c.old.view_is in
    let folder : directory_row_check (Some old.child) ≡ None = ap (λ (o : OldEntry). directory_row_check (Some o.child)) (sym c.old.view_is) ∙ c.in_default.ensures in
    IfTold-weaker (g.K.Keeper.told c.args.keeper.now) _ _
    (λ t taken whole pass parent name finds held.
    absurd (subst (λ (b : Option (List Change)). TakesBelow t whole row.inode now b) c.in_default-2.is
    (taken whole parent name
    (subst (λ x. CanRemove t whole parent x name c.args.handles.now) (sym number)
    (can_remove t whole pass parent now name entry old.child finds folder c.args.handles.now held)))))
    c.in_ok-batch.ensures.taken

pub returns-clause-plan : goal.returns-clause-plan
returns-clause-plan g c =
    let told = g.K.Keeper.told c.args.keeper.now in
    let old = c.args.old.now in
    let entry = old.entry in
    let now = c.args.now in
    let row = c.old.inside.0.1.0 in
    let number : row.inode ≡ entry.inode = ap (λ (o : OldEntry). o.entry.inode) c.old.view_is in
    let folder : directory_row_check (Some old.child) ≡ None = ap (λ (o : OldEntry). directory_row_check (Some o.child)) (sym c.old.view_is) ∙ c.in_default.ensures in
    if_ok _ _ (λ p own.
    IfTold-weaker2 told _ _ _
    (λ t taken planned whole pass parent name finds held.
    planned whole pass parent name finds folder
    (subst (λ x. IsTakenBelow t whole x now c.in-Some.batch) number
    (subst (λ (b : Option (List Change)). TakesBelow t whole row.inode now b) c.in-Some.is
    (taken whole parent name
    (subst (λ x. CanRemove t whole parent x name c.args.handles.now) (sym number)
    (can_remove t whole pass parent now name entry old.child finds folder c.args.handles.now held))))))
    c.in_ok-batch.ensures.taken (IfTold-same told _ _ c.in_ok-batch.ensures.same own))
    c.with_last.result c.with_last.ensures.plan

use Rattle.std.proofs.Common.{◌≡◌, ◌≤◌, ◌<◌, ◌+◌, ◌^◌, arith, ℕ, List, [], ◌++◌, length, sym, ap, ◌∙◌, subst}
use Rattle.op_frames.specs.declared.reply.Reply.TheVariants as replies
use Rattle.s3_rows.specs.Batches.{tables_after}
use Rattle.s3_rows.specs.Rows.{Inode, Parameters}
use Rattle.tree_rows.specs.Attrs.{attr_of_row}
use Rattle.ref_counts.specs.declared.plan.Plan.{Plan}
use Rattle.ref_counts.specs.declared.plan.Plan.TheVariants as plans
use Rattle.ref_counts.proofs.Told.{IfTold-all, IfTold-weaker, IfTold-weaker2}
use Rattle.tree_copy.specs.CopiedFiles.{fit_from, placed_from}
use Rattle.tree_copy.specs.CopiedRows.{copied_row}
use Rattle.tree_copy.specs.CopyPlans.{IsCopyPlan}
use Rattle.tree_copy.proofs.PlannedCopy.{copy_planned, files_worn, some_seen}
use Rattle.tree_copy.proofs.plans.with_files.Goals as goal

pub returns-then-not-branch-clause-plan : goal.returns-then-not-branch-clause-plan
returns-then-not-branch-clause-plan g c =
    let number = ap (λ (p : Parameters). p.next_inode) c.params.view_is in
    IfTold-weaker (g.K.Keeper.told c.args.keeper.now) _ _
    (λ t fits whole pass source parent name directory copied k copy there seen.
    files_worn t whole source parent c.args.now name c.args.top.now directory c.args.params.now k pass copied copy
    (subst (λ (xs : List ℕ). c.args.params.now.next_inode + length xs ≤ 2 ^ 62) (sym seen) c.requires.room) c.args.batch there
    (sym c.if-not-branch.true ∙ fits k.valid.ordered ∙ (λ i. fit_from t (number i) (sym seen i) (tables_after c.args.batch t))))
    c.in_ok-copy_files.ensures.fits

pub returns-clause-plan : goal.returns-clause-plan
returns-clause-plan g c =
    let number = ap (λ (p : Parameters). p.next_inode) c.params.view_is in
    IfTold-weaker2 (g.K.Keeper.told c.args.keeper.now) _ _ _
    (λ t fits added whole pass source parent name directory copied k copy there seen.
    subst (λ (q : Plan). IsCopyPlan t whole pass source parent name c.args.now q)
    (sym (c.attributed.ensures.plan ∙ ap (λ (r : Inode). plans.Commit c.copy_files.new.batch (replies.Attr (attr_of_row r)) [])
    (c.row_of_copy-row.ensures ∙ ap (λ n. copied_row n c.args.now c.args.top.now) number)))
    (copy_planned t whole source parent c.args.now name c.args.top.now directory c.args.params.now k pass copied copy
    (subst (λ (xs : List ℕ). c.args.params.now.next_inode + length xs ≤ 2 ^ 62) (sym seen) c.requires.room) c.args.batch there c.copy_files.new.batch
    (sym c.if-not-branch.false ∙ fits k.valid.ordered ∙ (λ i. fit_from t (number i) (sym seen i) (tables_after c.args.batch t)))
    (added k.valid.ordered c.if-not-branch.false ∙ (λ i. c.args.batch ++ placed_from t (number i) (sym seen i) (tables_after c.args.batch t)))))
    c.in_ok-copy_files.ensures.fits c.in_ok-copy_files.ensures.copied

pub returns-then-next-ge-LIMIT-clause-plan : goal.returns-then-next-ge-LIMIT-clause-plan
returns-then-next-ge-LIMIT-clause-plan g c =
    let number : c.params.inside.next_inode ≡ c.args.params.now.next_inode = ap (λ (p : Parameters). p.next_inode) c.params.view_is in
    IfTold-all (g.K.Keeper.told c.args.keeper.now) _
    (λ t whole pass source parent name directory copied k copy there seen.
    let some : 0 < length c.args.seen.now =
    subst (λ (xs : List ℕ). 0 < length xs) seen (some_seen t whole source parent c.args.now name c.args.top.now directory c.args.params.now k pass copied copy) in
    absurd (omega (arith, some, number, c.requires.room, c.if-next-ge-LIMIT.true)))

use Rattle.std.proofs.Common.{◌≡◌, List, ◌++◌, None, Some, sym, ap, ◌∙◌, subst}
use Rattle.s3_rows.specs.declared.change.Change.{Change}
use Rattle.s3_rows.specs.Batches.{tables_after}
use Rattle.s3_rows.specs.Rows.{Inode, Parameters}
use Rattle.ref_counts.specs.Names.{StaysUnique}
use Rattle.ref_counts.proofs.Told.{IfTold-same, IfTold-weaker, IfTold-weaker2, IfTold-weaker4}
use Rattle.tree_copy.specs.CopiedRows.{entry_copied}
use Rattle.tree_copy.specs.CopyWalks.{source_batch}
use Rattle.tree_copy.proofs.SourceBatch.{source_added, source_entry_worn, source_node_worn, touch_unique}
use Rattle.tree_copy.proofs.ToldFacts.{IfTold-both}
use Rattle.tree_copy.proofs.source.copy_source.Goals as goal

pub returns-then-not-branch-clause-copied : goal.returns-then-not-branch-clause-copied
returns-then-not-branch-clause-copied g c =
    IfTold-weaker (g.K.Keeper.told c.args.keeper.now) _ _
    (λ t fits o unique attrs name made.
    subst (λ n. None ≡ source_batch t n c.args.now c.args.top.now c.args.directory.now c.args.name.now) (ap (λ (p : Parameters). p.next_inode) c.params.view_is)
    (source_node_worn t c.params.inside.next_inode c.args.now c.args.top.now c.args.directory.now c.args.name.now c.new-batch.result c.new-batch.ensures
    (sym c.if-not-branch.true ∙ fits o (subst (λ (b : List Change). StaysUnique b t) (sym c.new-batch.ensures) unique) attrs)))
    c.in_ok-copy_node.ensures.fits

pub returns-then-not-branch-2-clause-copied : goal.returns-then-not-branch-2-clause-copied
returns-then-not-branch-2-clause-copied g c =
    let told = g.K.Keeper.told c.args.keeper.now in
    IfTold-weaker4 told _ _ _ _ _
    (λ t fits copied one entry o unique attrs name made.
    let start : StaysUnique c.new-batch.result t = subst (λ (b : List Change). StaysUnique b t) (sym c.new-batch.ensures) unique in
    subst (λ n. None ≡ source_batch t n c.args.now c.args.top.now c.args.directory.now c.args.name.now) (ap (λ (p : Parameters). p.next_inode) c.params.view_is)
    (source_entry_worn t c.params.inside.next_inode c.args.now c.args.top.now c.args.directory.now c.args.name.now c.new-batch.result c.copy_node.new.batch c.new-batch.ensures
    (sym c.if-not-branch.false ∙ fits o start attrs) (copied o start attrs c.if-not-branch.false)
    (sym c.if-not-branch-2.true ∙ entry o (one o start attrs c.if-not-branch.false) name)))
    c.in_ok-copy_node.ensures.fits c.in_ok-copy_node.ensures.copied c.in_ok-copy_node.ensures.unique
    (IfTold-same told _ _ c.in_ok-copy_node.ensures.same c.in_ok-copy_entry.ensures.fits)

pub returns-clause-copied : goal.returns-clause-copied
returns-clause-copied g c =
    let told = g.K.Keeper.told c.args.keeper.now in
    IfTold-weaker4 told _ _ _ _ _
    (λ t fits copied one both o unique attrs name made.
    let start : StaysUnique c.new-batch.result t = subst (λ (b : List Change). StaysUnique b t) (sym c.new-batch.ensures) unique in
    let after : StaysUnique c.copy_node.new.batch t = one o start attrs c.if-not-branch.false in
    subst (λ n. Some c.touch.new.batch ≡ source_batch t n c.args.now c.args.top.now c.args.directory.now c.args.name.now) (ap (λ (p : Parameters). p.next_inode) c.params.view_is)
    (source_added t c.params.inside.next_inode c.args.now c.args.top.now c.args.directory.now c.args.name.now c.new-batch.result c.copy_node.new.batch c.copy_entry.new.batch c.touch.new.batch c.new-batch.ensures
    (sym c.if-not-branch.false ∙ fits o start attrs) (copied o start attrs c.if-not-branch.false)
    (sym c.if-not-branch-2.false ∙ both.0 o after name) (subst (λ (d : Inode). c.copy_entry.new.batch ≡ c.copy_node.new.batch ++ entry_copied d.id c.args.name.now c.params.inside.next_inode (tables_after c.copy_node.new.batch t)) c.directory.view_is
    (both.1 o after name c.if-not-branch-2.false)) c.in_ok-touch.ensures))
    c.in_ok-copy_node.ensures.fits c.in_ok-copy_node.ensures.copied c.in_ok-copy_node.ensures.unique
    (IfTold-both told _ _ (IfTold-same told _ _ c.in_ok-copy_node.ensures.same c.in_ok-copy_entry.ensures.fits)
    (IfTold-same told _ _ c.in_ok-copy_node.ensures.same c.in_ok-copy_entry.ensures.copied))

pub returns-clause-unique : goal.returns-clause-unique
returns-clause-unique g c =
    let told = g.K.Keeper.told c.args.keeper.now in
    IfTold-weaker2 told _ _ _
    (λ t one entry o unique attrs name cs is.
    let start : StaysUnique c.new-batch.result t = subst (λ (b : List Change). StaysUnique b t) (sym c.new-batch.ensures) unique in
    touch_unique t c.copy_entry.new.batch c.touch.new.batch cs _ (entry o (one o start attrs c.if-not-branch.false) name c.if-not-branch-2.false) c.in_ok-touch.ensures is)
    c.in_ok-copy_node.ensures.unique (IfTold-same told _ _ c.in_ok-copy_node.ensures.same c.in_ok-copy_entry.ensures.unique)

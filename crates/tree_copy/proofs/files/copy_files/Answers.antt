use Rattle.std.proofs.Common.{refl, sym, ◌∙◌, arith}
use Rattle.ref_counts.proofs.Told.{IfTold-all, IfTold-same, IfTold-weaker2, IfTold-weaker3}
use Rattle.tree_copy.proofs.FilesInTurn.{inodes_first, inodes_more, inodes_worn}
use Rattle.tree_copy.proofs.files.copy_files.Goals as goal

pub loop-inode-init : goal.loop-inode-init
loop-inode-init g c = record {
  told = refl;
  later = omega arith;
  number = omega arith;
  left = IfTold-all (g.K.Keeper.told c.args.keeper.now) _ (λ t o. inodes_first t c.args.next c.args.seen.now c.args.batch.now);
}

pub loop-inode-preserved : goal.loop-inode-preserved
loop-inode-preserved g c =
    let told = g.K.Keeper.told c.args.keeper.now in
    record {
      told = c.in_ok-copy_places.ensures.same ∙ c.loop-inode.invariant.told;
      later = omega (arith, c.in_ok-copy_places.ensures.cause.later, c.loop-inode.invariant.later);
      number = omega (arith, c.loop-inode.invariant.number);
      left =
          IfTold-weaker3 told _ _ _ _
          (λ t fits added left o.
          inodes_more t c.loop-inode.copy c.args.next c.args.seen.now c.args.batch.now c.loop-inode.batch c.copy_places.new.batch c.loop-inode.inode-index (omega arith) (left o)
          (sym c.if-not-branch.false ∙ fits o) (added o c.if-not-branch.false))
          (IfTold-same told _ _ c.loop-inode.invariant.told c.in_ok-copy_places.ensures.fits)
          (IfTold-same told _ _ c.loop-inode.invariant.told c.in_ok-copy_places.ensures.copied)
          c.loop-inode.invariant.left;
    }

pub returns-then-not-branch-clause-fits : goal.returns-then-not-branch-clause-fits
returns-then-not-branch-clause-fits g c =
    let told = g.K.Keeper.told c.args.keeper.now in
    IfTold-weaker2 told _ _ _
    (λ t fits left o.
    inodes_worn t c.loop-inode.copy c.args.next c.args.seen.now c.args.batch.now c.loop-inode.batch c.loop-inode.inode-index (omega arith) (left o) (sym c.if-not-branch.true ∙ fits o))
    (IfTold-same told _ _ c.loop-inode.invariant.told c.in_ok-copy_places.ensures.fits) c.loop-inode.invariant.left

use Rattle.std.proofs.Common.{◌∙◌, ◌+◌, ◌++◌, drop, sym, ap, arith}
use Rattle.s3_rows.specs.Batches.{tables_after}
use Rattle.ref_counts.specs.Links.{places_dropped, places_of}
use Rattle.ref_counts.proofs.Told.{IfTold-same, IfTold-weaker2}
use Rattle.inode_ops.specs.Nameless.{nameless}
use Rattle.inode_ops.proofs.Closed.{drop_next, nameless_places_next}
use Rattle.inode_ops.proofs.handles_of.drop_all_nameless_links.Goals as goal

pub loop-inode-preserved : goal.loop-inode-preserved
loop-inode-preserved g c =
    let told = g.K.Keeper.told c.args.keeper.now in
    record {
      told = c.in_ok-drop_nameless_links.ensures.same ∙ c.loop-inode.invariant.told;
      later = omega (arith, c.in_ok-drop_nameless_links.ensures.cause.later, c.loop-inode.invariant.later);
      partly =
          IfTold-weaker2 told _ _ _
          (λ t dropped partly o.
          nameless_places_next t c.loop-inode.batch c.drop_nameless_links.new.batch _ (drop (c.loop-inode.inode-index + 1) c.args.inodes.now) (dropped o)
          ∙ ap (λ xs. c.loop-inode.batch ++ places_dropped (places_of t (nameless t xs)) (tables_after c.loop-inode.batch t))
          (sym (drop_next c.args.inodes.now c.loop-inode.inode-index c.loop-inode-test.true))
          ∙ partly o)
          (IfTold-same told _ _ c.loop-inode.invariant.told c.in_ok-drop_nameless_links.ensures.dropped) c.loop-inode.invariant.partly;
    }

use Rattle.std.proofs.Common.{◌==◌, Some, sym, ap, ◌∙◌, arith, eq-eqb}
use Rattle.s3_rows.specs.Rows.{Content}
use Rattle.row_lists.specs.Listing.{by_place}
use Rattle.row_lists.proofs.ListingLeast.{least-more}
use Rattle.row_lists.proofs.listing.holder.holder_of_inode.Goals as goal

pub loop-left-preserved-then-row-inode : goal.loop-left-preserved-then-row-inode
loop-left-preserved-then-row-inode g c = record {
  within = omega (arith, c.loop-left.invariant.within);
  least =
      ap (λ (r : Content). Some r) c.lesser_of.ensures
      ∙ least-more (by_place (g.N.NameTable.rows c.args.names.now)) (λ (r : Content). r.inode == c.args.inode) c.args.contents.now c.loop-left.left c.index-contents-left.result c.loop-left.holder c.loop-left-test.true
      c.loop-left.invariant.within c.index-contents-left.is (eq-eqb c.index-contents-left.result.inode c.args.inode (sym (ap (λ (r : Content). r.inode) c.row.view_is) ∙ c.if-row-inode.true)) c.loop-left.invariant.least;
}

use Rattle.std.proofs.Common.{◌∙◌}
use Rattle.s3_rows.specs.declared.table_rows.TableName.TheVariants as tables
use Rattle.s3_rows.specs.Tables.{Tables, IsOrdered}
use Rattle.s3_rows.specs.Selections.{rows_of}
use Rattle.ref_counts.proofs.Told.{IfTold-weaker2, IfTold-weaker4, IfTold-same}
use Rattle.inode_ops.specs.Tallies.{IsCounted}
use Rattle.inode_ops.proofs.RowCounts.{are_counted}
use Rattle.inode_ops.proofs.row_stats.stats.Goals as goal

pub returns-clause-counted : goal.returns-clause-counted
returns-clause-counted g c =
    let told = g.K.Keeper.told c.args.keeper.now in
    let second = c.in_ok-inodes.ensures.same in
    let third = c.in_ok-entries.ensures.same ∙ second in
    let fourth = c.in_ok-links.ensures.same ∙ third in
    let fifth = c.in_ok-blocks.ensures.same ∙ fourth in
    let of_inodes : Tables → Type 0 = λ t. IsOrdered t → IsCounted (rows_of t tables.Inodes) c.in_ok-inodes.inodes in
    let of_entries : Tables → Type 0 = λ t. IsOrdered t → IsCounted (rows_of t tables.Contents) c.in_ok-entries.entries in
    let of_links : Tables → Type 0 = λ t. IsOrdered t → IsCounted (rows_of t tables.InodeBlocks) c.in_ok-links.links in
    let of_blocks : Tables → Type 0 = λ t. IsOrdered t → IsCounted (rows_of t tables.Blocks) c.in_ok-blocks.blocks in
    let of_objects : Tables → Type 0 = λ t. IsOrdered t → IsCounted (rows_of t tables.Objects) c.in_ok-objects.objects in
    IfTold-weaker4 told (λ t. of_inodes t × of_entries t) of_links of_blocks of_objects _
    (λ t names links blocks objects o.
    are_counted t c.in_ok-inodes.inodes c.in_ok-entries.entries c.in_ok-links.links c.in_ok-blocks.blocks c.in_ok-objects.objects (names.0 o) (names.1 o) (links o) (blocks o) (objects o))
    (IfTold-weaker2 told of_inodes of_entries (λ t. of_inodes t × of_entries t) (λ t a b. (a, b)) c.in_ok-inodes.ensures.counted (IfTold-same told _ of_entries second c.in_ok-entries.ensures.counted))
    (IfTold-same told _ of_links third c.in_ok-links.ensures.counted) (IfTold-same told _ of_blocks fourth c.in_ok-blocks.ensures.counted) (IfTold-same told _ of_objects fifth c.in_ok-objects.ensures.counted)

-- The numbers of five tables, from what is counted of each.
use Rattle.std.proofs.Common.{◌≡◌, List, length, Bool, sym, ap, ◌∙◌}
use Rattle.std.specs.Prelude.{◌==◌, filter, map, sum_by}
use Rattle.std.proofs.lemmas.List.{length-map}
use Rattle.std.proofs.lemmas.List.Sums.{length-filter}
use Rattle.plain_tree.specs.Attributes.{at_most_u64}
use Rattle.s3_rows.specs.declared.table_rows.Row.{Row}
use Rattle.s3_rows.specs.declared.table_rows.Row.TheVariants as rows
use Rattle.s3_rows.specs.declared.table_rows.TableName.TheVariants as tables
use Rattle.s3_rows.specs.Rows.{Object}
use Rattle.s3_rows.specs.Tables.{Tables}
use Rattle.s3_rows.specs.Selections.{rows_of}
use Rattle.row_lemmas.proofs.Sums.{sum_by-map}
use Rattle.inode_ops.specs.declared.counting.Tally.{Tally}
use Rattle.inode_ops.specs.Tallies.{IsCounted, AreCounted, weight_of_row}

abbrev is_free : Object → Bool
is_free o = o.refcount == 0

-- as many rows as the table has
row_count : {R : Type 0} (made : R → Row) (rs : List R) (c : Tally) → IsCounted (map made rs) c → c.rows ≡ at_most_u64 (length rs)
row_count made rs c counted = counted.0 ∙ ap at_most_u64 (length-map rs made)

-- the weight of objects is how many of them are free
free_weight : (os : List Object) → sum_by weight_of_row (map rows.Object os) ≡ length (filter is_free os)
free_weight os = sum_by-map weight_of_row rows.Object os ∙ sym (length-filter is_free os)

pub are_counted : (t : Tables) (inodes entries links blocks objects : Tally) → IsCounted (rows_of t tables.Inodes) inodes → IsCounted (rows_of t tables.Contents) entries
    → IsCounted (rows_of t tables.InodeBlocks) links → IsCounted (rows_of t tables.Blocks) blocks → IsCounted (rows_of t tables.Objects) objects
    → AreCounted t (record { inodes = inodes.rows; entries = entries.rows; links = links.rows; blocks = blocks.rows; objects = objects.rows; free = objects.weight })
are_counted t inodes entries links blocks objects of_inodes of_entries of_links of_blocks of_objects = record {
  inodes = row_count rows.Inode t.inodes inodes of_inodes;
  entries = row_count rows.Content t.contents entries of_entries;
  links = row_count rows.InodeBlock t.inode_blocks links of_links;
  blocks = row_count rows.Block t.blocks blocks of_blocks;
  objects = row_count rows.Object t.objects objects of_objects;
  free = of_objects.1 ∙ ap at_most_u64 (free_weight t.objects);
}

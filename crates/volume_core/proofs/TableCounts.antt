-- The numbers of tables are those of their tree.
use Rattle.std.proofs.Common.{◌≡◌, ℕ, ◌+◌, length, Bool, Option, Some, refl, sym, ap, ◌∙◌, subst, arith}
use Rattle.std.specs.Prelude.{◌==◌, not, filter}
use Rattle.std.proofs.lemmas.List.{length-map}
use Rattle.std.proofs.lemmas.List.Filters.{length-filter_both}
use Rattle.plain_tree.specs.Tree.{Tree}
use Rattle.plain_tree.specs.Attributes.{at_most_u64}
use Rattle.s3_rows.specs.declared.table_rows.Row.TheVariants as rows
use Rattle.s3_rows.specs.Rows.{Object}
use Rattle.s3_rows.specs.Tables.{Tables, IsOrdered}
use Rattle.s3_rows.specs.Told.{Told, IfTold}
use Rattle.s3_rows.specs.Validity.{IsValid}
use Rattle.tree_rows.specs.Shapes.{Represents}
use Rattle.inode_ops.specs.declared.row_stats.RowStats.{RowStats}
use Rattle.inode_ops.specs.Tallies.{AreCounted}
use Rattle.inode_ops.proofs.Sums.{nodes_are, entries_are}
use Rattle.volume_core.specs.Stats.{AreOfTree, AreOfBlocks}

abbrev is_free : Object → Bool
is_free o = o.refcount == 0

abbrev is_used : Object → Bool
is_used o = not (o.refcount == 0)

module _ (t : Tables) (s : RowStats) (counted : AreCounted t s) where
  pub of_tree : (whole : Tree) → IsValid t → Represents t whole → AreOfTree whole s
  of_tree whole valid same = record {
    inodes = counted.inodes ∙ ap at_most_u64 (sym (nodes_are t whole same ∙ length-map t.inodes rows.Inode));
    entries = counted.entries ∙ ap at_most_u64 (sym (entries_are t whole valid same ∙ length-map t.contents rows.Content));
  }

  pub of_blocks : (many : ℕ) → length t.blocks ≡ many → length (filter is_used t.objects) ≡ length t.blocks → AreOfBlocks many s
  of_blocks many blocks used =
      let parted : length (filter is_free t.objects) + length (filter is_used t.objects) ≡ length t.objects = length-filter_both is_free is_used (λ o. refl) t.objects in
      let all : length t.objects ≡ many + length (filter is_free t.objects) = omega (arith, parted, used, blocks) in
      record {
        blocks = counted.blocks ∙ ap at_most_u64 blocks;
        unused = length (filter is_free t.objects);
        free = counted.free;
        objects = counted.objects ∙ ap at_most_u64 all;
      }

-- what is counted where the tables are told
pub of_told : (told : Option Told) (s : RowStats) (now : Told) → told ≡ Some now → IsValid now.tables → IfTold told (λ t. IsOrdered t → AreCounted t s) → AreCounted now.tables s
of_told told s now tells valid counted = subst (λ (x : Option Told). IfTold x (λ t. IsOrdered t → AreCounted t s)) tells counted valid.ordered

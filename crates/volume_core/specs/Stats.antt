-- What the numbers of tables say of their tree.
use Rattle.std.specs.Prelude.{◌≡◌, ℕ, ◌+◌, length}
use Rattle.plain_tree.specs.Tree.{Tree}
use Rattle.plain_tree.specs.Attributes.{at_most_u64, entry_count}
use Rattle.inode_ops.specs.declared.row_stats.RowStats.{RowStats}

-- nodes and entries are counted, each number as far as its field holds it
pub record AreOfTree (whole : Tree) (s : RowStats) : Type 0 where
  pub inodes : s.inodes ≡ at_most_u64 (length whole.nodes)
  pub entries : s.entries ≡ at_most_u64 (entry_count whole)

-- there are so many blocks, and an object for each of them beside the free ones
pub record AreOfBlocks (blocks_there : ℕ) (s : RowStats) : Type 0 where
  pub blocks : s.blocks ≡ at_most_u64 blocks_there
  -- how many objects no block has
  pub unused : ℕ
  pub free : s.free ≡ at_most_u64 unused
  pub objects : s.objects ≡ at_most_u64 (blocks_there + unused)

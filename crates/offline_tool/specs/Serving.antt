-- The core of a replay, with its store.
use Rattle.std.specs.Prelude.{ℕ, ◌+◌, ◌*◌, ◌<◌, ◌≤◌, [], Option, Some}
use Rattle.sha2.specs.Sha256.{sha256}
use Rattle.plain_tree.specs.Calls.{Answered, tree_after_reply}
use Rattle.plain_tree.specs.Tree.{Tree}
use Rattle.s3_rows.specs.Stores.{AreHeld}
use Rattle.s3_rows.specs.Told.{Told}
use Rattle.s3_devices.specs.Keys.{generation_key, objects_in}
use Rattle.s3_devices.specs.Objects.{Objects, with_object}
use Rattle.keeper_dump.specs.Dump.{dump_of}
use Rattle.mkfs_ops.specs.Making.{first_tables}
use Rattle.tree_rows.specs.Contents.{Contents}
use Rattle.block_steps.specs.Owed.{next_block_of}
use Rattle.core_model.specs.Bytes.{no_overlay}
use Rattle.core_model.specs.Exact.{IsExact}
use Rattle.core_model.specs.Occurring.{KnowsAll, blocks_in}
use Rattle.file_ops.specs.FileChanges.{next_object_of}
use Rattle.ref_counts.specs.Plans.{next_name_of}
use Rattle.tree_laws.specs.Growth.{HaveFewNames}
use Rattle.volume_core.specs.Backed.{IsBacked}
use Rattle.volume_core.specs.Standing.{StandsFor}
use Rattle.offline_tool.specs.declared.served.Served.{Served}
use Rattle.offline_tool.specs.Runs.{IsLikeReply, IsSameReply}

-- the store of a file system that was just made at time 0: its first generation, and no object
abbrev pub made_store : ℕ → ℕ → Objects
made_store block_size slots =
    with_object (generation_key 1) (dump_of (first_tables (record { block_size = block_size; slots = slots; now = 0 }))) []

-- what the keeper tells
abbrev pub told_by : Told → Option Told
told_by s = Some s

-- The core stands for the tree, and the store holds the object of each block. At this place of the input no more names were drawn than
-- there were bytes, beside the one of the file system that was just made, no inode is named more often, and no more than 34 times as many
-- numbers of blocks and objects were drawn.
pub record Serves (s : Served) (place : ℕ) (whole : Tree) : Type 0 where
  pub stands : StandsFor told_by s.core whole
  pub size : 4096 ≤ whole.block_size
  pub held : AreHeld sha256 (objects_in s.link) s.core.keeper.tables.blocks
  pub names : next_name_of s.core.keeper.tables ≤ place + 2
  pub links : HaveFewNames (place + 1) whole
  pub blocks : next_block_of s.core.keeper.tables ≤ 34 * place + 1
  pub objects : next_object_of s.core.keeper.tables ≤ 34 * place + 1

-- tables and store have the bytes of the tree, for these contents, and each block of a file that is not all zeros has its row
pub record HasBytesOf (m : Contents) (s : Served) (whole : Tree) : Type 0 where
  pub backed : IsBacked m s.core.keeper.tables s.link whole
  pub exact : IsExact sha256 s.core.keeper.tables no_overlay whole

-- What an answered call leaves, at a place behind it: the core serves the tree after it. Its reply is like that of the rules; and for
-- contents that know the blocks of the tree after it, it is the very same, and the bytes of that tree are there.
pub record IsServed (before after : Served) (behind : ℕ) (whole : Tree) (a : Answered) : Type 0 where
  pub serves : Serves after behind (tree_after_reply whole a)
  pub like : IsLikeReply whole a
  pub backed : (m : Contents) → HasBytesOf m before whole → KnowsAll sha256 m (blocks_in (tree_after_reply whole a))
      → IsSameReply whole a × HasBytesOf m after (tree_after_reply whole a)

-- A core that was just opened, at the beginning of an input.
pub record IsBegun (s : Served) (whole : Tree) : Type 0 where
  pub serves : Serves s 0 whole
  pub backed : (m : Contents) → HasBytesOf m s whole

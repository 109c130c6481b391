-- Files that share the blocks of files that were there.
use Rattle.std.specs.Prelude.{◌≡◌, ◌⊎◌, ℕ, List, [], None, Some}
use Rattle.plain_tree.specs.Tree.{Tree}
use Rattle.plain_tree.specs.Files.{file_at}
use Rattle.s3_rows.specs.Tables.{Tables}
use Rattle.tree_rows.specs.Spots.{form_at}
use Rattle.ref_counts.specs.Links.{AreRowsOf}

-- a file has the bytes of one that was there, itself or another, and its places have the forms of that one's
pub record HasFormsOf (t after : Tables) (whole : Tree) (inode : ℕ) (bytes : List ℕ) : Type 0 where
  pub of : ℕ
  pub same : file_at whole of ≡ Some bytes
  pub forms : (blockno : ℕ) → form_at after inode blockno ≡ form_at t of blockno

-- it is empty, and no place of it names a block
abbrev pub HasNoForms : Tables → ℕ → List ℕ → Type 0
HasNoForms after inode bytes = (bytes ≡ []) × ((blockno : ℕ) → form_at after inode blockno ≡ None)

-- What an operation that stores no block makes of files: each shares the blocks of one that was there, or has none. Each block row
-- has the digest, the size and the object of one that was there.
pub record SharesBlocks (t after : Tables) (whole next : Tree) : Type 0 where
  pub size : next.block_size ≡ whole.block_size
  pub files : (inode : ℕ) (bytes : List ℕ) → file_at next inode ≡ Some bytes → HasFormsOf t after whole inode bytes ⊎ HasNoForms after inode bytes
  pub rows : AreRowsOf t after

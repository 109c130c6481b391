-- What a copy makes of the files of a tree, and where blocks may wait to be linked while it is made.
use Rattle.std.specs.Prelude.{◌≡◌, ◌≤◌, ◌<◌, ℕ, List, true, None, Some}
use Rattle.plain_tree.specs.Below.{at_and_below, is_at_or_below}
use Rattle.plain_tree.specs.Files.{file_at}
use Rattle.plain_tree.specs.Subtrees.{copy_number}
use Rattle.plain_tree.specs.Tree.{Tree}
use Rattle.core_model.specs.Bytes.{Overlay}

-- The files that were there are as before. Each at or below the source has a copy with its bytes, and no other file is new.
pub record CopiesFiles (whole : Tree) (source : ℕ) (next : Tree) : Type 0 where
  pub size : next.block_size ≡ whole.block_size
  pub old : (inode : ℕ) → inode < whole.next_inode → file_at next inode ≡ file_at whole inode
  pub copied : (inode : ℕ) → is_at_or_below whole source inode ≡ true
      → file_at next (copy_number whole.next_inode (at_and_below whole source) inode) ≡ file_at whole inode
  pub new : (inode : ℕ) (bytes : List ℕ) → whole.next_inode ≤ inode → file_at next inode ≡ Some bytes
      → (of : ℕ) × (is_at_or_below whole source of ≡ true) × (inode ≡ copy_number whole.next_inode (at_and_below whole source) of)

-- no block of a file at or below the source waits to be linked, and none under an inode number that was not given
pub record WaitsElsewhere (whole : Tree) (source : ℕ) (over : Overlay) : Type 0 where
  pub clean : (inode blockno : ℕ) → is_at_or_below whole source inode ≡ true → over inode blockno ≡ None
  pub given : (inode blockno : ℕ) → whole.next_inode ≤ inode → over inode blockno ≡ None

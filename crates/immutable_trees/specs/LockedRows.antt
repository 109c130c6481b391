-- The rows of all at and below a directory, and the batch that locks them.
use Rattle.std.specs.Prelude.{◌≡◌, ℕ, ◌==◌, List, map, Bool, true, Some}
use Rattle.std.specs.List.{AllByRecursion, list_any}
use Rattle.plain_tree.specs.Below.{is_at_or_below}
use Rattle.plain_tree.specs.Tree.{Tree}
use Rattle.s3_rows.specs.declared.change.Change.{Change}
use Rattle.s3_rows.specs.declared.change.Change.TheVariants as changes
use Rattle.s3_rows.specs.Rows.{Inode}
use Rattle.s3_rows.specs.Selections.{inode_at}
use Rattle.s3_rows.specs.Tables.{Tables}

-- the row, locked
abbrev pub locked_row : Inode → Inode
locked_row r = record r { locked = true }

-- each of the rows is put again, locked
abbrev pub locking : List Inode → List Change
locking rows = map (λ r. changes.PutInode (locked_row r)) rows

-- a row of the inode is among them
abbrev pub is_listed : List Inode → ℕ → Bool
is_listed rows inode = list_any (λ r. r.id == inode) rows

-- rows of the tables, in any order, each once or more often: those of the inodes at and below one, and no others
pub record AreRowsBelow (t : Tables) (whole : Tree) (top : ℕ) (rows : List Inode) : Type 0 where
  pub there : AllByRecursion (λ r. inode_at t r.id ≡ Some r) rows
  pub below : (inode : ℕ) → is_listed rows inode ≡ is_at_or_below whole top inode

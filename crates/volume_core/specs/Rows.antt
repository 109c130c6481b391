-- Rows of files that operations find.
use Rattle.std.specs.Prelude.{◌≡◌, ℕ, [], ◌∷◌, Option, None, Some, option_and_then, Result, Ok, Err}
use Rattle.s3_base.specs.declared.errors.Errno.{Errno}
use Rattle.plain_tree.specs.Checks.{first_failure}
use Rattle.s3_rows.specs.Rows.{Inode}
use Rattle.s3_rows.specs.Tables.{Tables}
use Rattle.s3_rows.specs.Selections.{inode_at}
use Rattle.op_checks.specs.Rows.{row_check, file_row_check, lock_row_check}
use Rattle.volume_core.specs.declared.refusal.Refusal.{Refusal}
use Rattle.volume_core.specs.declared.refusal.Refusal.TheVariants.{Refused, Worn, Keeper, Link, Lost, Memory}

-- the checks on a file that is to be changed
abbrev pub file_checks : Option Inode → Option ℕ
file_checks found = first_failure (row_check found ∷ file_row_check found ∷ lock_row_check found ∷ [])

-- the row that was found, where no check on it fails, or else the error of the first that does
abbrev pub IsCheckedRow : (Option Inode → Option ℕ) → Option Inode → Result Inode Errno → Type 0
IsCheckedRow check found (Ok r) = (found ≡ Some r) × (check found ≡ None)
IsCheckedRow check found (Err errno) = check found ≡ Some errno.0

-- the row of the inode of a handle
abbrev pub row_of : Tables → Option ℕ → Option Inode
row_of t inode = option_and_then (inode_at t) inode

-- what was found, or why nothing was, but for want of memory and faults of the keeper
abbrev pub IsFound : (Result Inode Errno → Type 0) → Result Inode Refusal → Type 0
IsFound P (Ok r) = P (Ok r)
IsFound P (Err (Refused errno)) = P (Err errno)
IsFound P (Err Worn) = ⊥
IsFound P (Err Keeper) = Unit {0}
IsFound P (Err Link) = ⊥
IsFound P (Err (Lost object kept got)) = ⊥
IsFound P (Err Memory) = Unit {0}

-- what stands in the way of the size of a block
abbrev pub IsSizeRefusal : Refusal → Type 0
IsSizeRefusal (Refused errno) = ⊥
IsSizeRefusal Worn = Unit {0}
IsSizeRefusal Keeper = Unit {0}
IsSizeRefusal Link = ⊥
IsSizeRefusal (Lost object kept got) = ⊥
IsSizeRefusal Memory = Unit {0}

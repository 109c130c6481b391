-- How far a walk through a directory and all below it has come.
use Rattle.std.specs.Prelude.{◌≡◌, ℕ, ◌+◌, ◌*◌, ◌-◌, ◌^◌, ◌==◌, List, [], ◌∷◌, length, Bool, true, ◌&&◌, ◌||◌, IsTrue, Option, None, Some, if◌then◌else◌}
use Rattle.std.specs.List.{AllByRecursion, list_all, list_any}
use Rattle.std.specs.Ordering.{is_lt}
use Rattle.op_frames.specs.declared.reply.Reply.TheVariants as replies
use Rattle.plain_tree.specs.Below.{is_at_or_below}
use Rattle.plain_tree.specs.Entries.{entry_at}
use Rattle.plain_tree.specs.Tree.{Tree}
use Rattle.s3_rows.specs.declared.change.Change.{Change}
use Rattle.s3_rows.specs.Rows.{Inode}
use Rattle.s3_rows.specs.Selections.{bytes_cmp, inode_at}
use Rattle.s3_rows.specs.Tables.{Tables}
use Rattle.s3_rows.specs.Validity.{has_inode, is_directory}
use Rattle.ref_counts.specs.declared.plan.Plan.{Plan}
use Rattle.ref_counts.specs.declared.plan.Plan.TheVariants as plans
use Rattle.immutable_trees.specs.declared.walk.Level.{Level}
use Rattle.immutable_trees.specs.LockedRows.{AreRowsBelow, is_listed, locking}

-- some level is in the directory, and has not come to the name
abbrev pub waits : List Level → ℕ → List ℕ → Bool
waits levels parent name = list_any (λ l. l.directory == parent && is_lt (bytes_cmp l.last name)) levels

-- before all names of a directory
abbrev pub first_level : ℕ → Level
first_level directory = record { directory = directory; last = [] }

-- behind an entry: its directory, and the inode that it names, where that is one
abbrev pub levels_behind : ℕ → List ℕ → Inode → List Level
levels_behind directory name r =
    record { directory = directory; last = name } ∷ (if is_directory r.kind then first_level r.id ∷ [] else [])

-- a directory at or below another
abbrev pub is_directory_within : Tables → Tree → ℕ → ℕ → Bool
is_directory_within t whole top directory = has_inode is_directory t directory && is_at_or_below whole top directory

-- The batch locks rows of inodes at or below the first directory, and its own. What an entry of a directory among them names is
-- among them too, or some level has yet to come to the entry.
pub record HasCome (t : Tables) (whole : Tree) (top : ℕ) (batch : List Change) (levels : List Level) : Type 0 where
  pub rows : List Inode
  pub is : batch ≡ locking rows
  pub there : AllByRecursion (λ r. inode_at t r.id ≡ Some r) rows
  pub below : IsTrue (list_all (λ r. is_at_or_below whole top r.id) rows)
  pub first : is_listed rows top ≡ true
  pub folders : IsTrue (list_all (λ l. is_directory_within t whole top l.directory) levels)
  pub left : (parent inode : ℕ) (name : List ℕ) → is_listed rows parent ≡ true → entry_at whole parent name ≡ Some inode
      → (is_listed rows inode || waits levels parent name) ≡ true

-- Each entry adds a change to the batch, which is no longer than a number of its type says, and at most two levels to those left.
abbrev pub steps_left : List Change → List Level → ℕ
steps_left batch levels = 2 * (2 ^ 64 - length batch) + length levels

-- the batch locks all at and below a directory
abbrev pub IsLockOf : Tables → Tree → ℕ → Option (List Change) → Type 0
IsLockOf t whole top None = ⊥
IsLockOf t whole top (Some batch) = (rows : List Inode) × (batch ≡ locking rows) × AreRowsBelow t whole top rows

-- the batch is committed, and the reply is Done; none where an entry names no inode
abbrev pub lock_plan : Option (List Change) → Plan
lock_plan None = plans.Worn
lock_plan (Some batch) = plans.Commit batch replies.Done []

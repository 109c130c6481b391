-- How many names inodes have.
use Rattle.std.specs.Prelude.{ℕ, ◌≤◌}
use Rattle.plain_tree.specs.Tree.{Tree}
use Rattle.plain_tree.specs.WellFormed.{entries_naming}

-- no inode is named by more entries
abbrev pub HaveFewNames : ℕ → Tree → Type 0
HaveFewNames most t = (inode : ℕ) → entries_naming t inode ≤ most

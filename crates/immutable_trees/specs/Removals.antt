-- What the plan of a RemoveTree works on, once its entry is found.
use Rattle.std.specs.Prelude.{◌≡◌, ℕ, List, [], None, Some}
use Rattle.plain_tree.specs.Checks.{first_failure}
use Rattle.plain_tree.specs.Operations.{drop_checks}
use Rattle.plain_tree.specs.Tree.{Tree}
use Rattle.plain_tree.specs.WellFormed.{IsWellFormed}
use Rattle.s3_rows.specs.Rows.{Content, Inode}
use Rattle.s3_rows.specs.Selections.{bytes_of_name, inode_at}
use Rattle.s3_rows.specs.Tables.{Tables}
use Rattle.s3_rows.specs.Validity.{HasUniqueNames, IsValid}
use Rattle.tree_rows.specs.Shapes.{Represents}
use Rattle.immutable_trees.specs.Branches.{IsThere}

-- Valid tables without slots of a well-formed tree, where no check of an entry that goes fails: the entry's row, and that of the
-- inode that it names.
pub record FindsEntry (told : Tables) (whole : Tree) (parent : ℕ) (name : List ℕ) (entry : Content) (child : Inode) : Type 0 where
  pub valid : IsValid told
  pub unique : HasUniqueNames told
  pub same : Represents told whole
  pub well : IsWellFormed whole
  pub slots : told.slots ≡ []
  pub passes : first_failure (drop_checks whole parent name) ≡ None
  pub there : IsThere told entry
  pub directory : entry.parent ≡ parent
  pub bytes : bytes_of_name told entry.name_id ≡ name
  pub inode : inode_at told entry.inode ≡ Some child

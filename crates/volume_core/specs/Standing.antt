-- When a core over rows stands for a tree, and what is told after its calls.
use Rattle.std.specs.Prelude.{◌≡◌, ◌≤◌, ℕ, ◌+◌, List, [], ◌∷◌, Bool, true, false, IsTrue, Option, Some, is_some, option_map}
use Rattle.plain_tree.specs.Tree.{Tree}
use Rattle.plain_tree.specs.WellFormed.{IsWellFormed}
use Rattle.s3_rows.specs.declared.params.State.TheVariants as states
use Rattle.s3_rows.specs.declared.change.Change.{Change}
use Rattle.s3_rows.specs.declared.change.Change.TheVariants as changes
use Rattle.s3_rows.specs.Rows.{Inode}
use Rattle.s3_rows.specs.Selections.{block_at, inode_at}
use Rattle.s3_rows.specs.Tables.{Tables}
use Rattle.s3_rows.specs.Batches.{after_change, tables_after}
use Rattle.s3_rows.specs.Told.{Told, IfTold, with_batch}
use Rattle.s3_rows.specs.Validity.{IsValid, HasUniqueNames}
use Rattle.s3_devices.specs.Told.{Becomes}
use Rattle.tree_rows.specs.Shapes.{Represents}
use Rattle.tree_rows.specs.Spots.{form_at}
use Rattle.block_steps.specs.Owed.{KeepsNames}
use Rattle.file_ops.specs.FileChanges.{AreFew}
use Rattle.file_ops.specs.Placed.{ArePrepared}
use Rattle.ref_counts.specs.Handles.{HasHandles}
use Rattle.ref_counts.specs.Plans.{LeavesRest, IsSmall, next_inode_of, next_name_of, settings}
use Rattle.tree_copy.specs.CopySteps.{uncounted}
use Rattle.volume_core.specs.declared.row_core.RowCore.{RowCore}

-- Tables on which a core works: valid, names unique, and no slot of a cache disk.
pub record AreServed (t : Tables) : Type 0 where
  pub valid : IsValid t
  pub unique : HasUniqueNames t
  pub slots : t.slots ≡ []

abbrev pub IsMounted : Tables → Type 0
IsMounted t = option_map (λ p. p.state) t.params ≡ Some states.Mounted

-- The tree is well formed, the keeper tells tables that represent it, but for the bytes of its files, and the core has its handles.
pub record StandsFor {K : Type 0} (told : K → Option Told) (core : RowCore K) (whole : Tree) : Type 0 where
  pub now : Told
  pub tells : told core.keeper ≡ Some now
  pub served : AreServed now.tables
  pub mounted : IsMounted now.tables
  pub represents : Represents now.tables whole
  pub well : IsWellFormed whole
  pub handles : HasHandles core.handles whole

-- what a batch, where it has a change, makes of what is told
abbrev pub IsCommitted : List Change → Option Told → Option Told → Type 0
IsCommitted [] before after = after ≡ before
IsCommitted (c ∷ cs) before after = after ≡ option_map (with_batch (c ∷ cs)) before

-- At most 34 blocks and objects were drawn, and as many places came: a Write has at most 131,072 bytes, and a block at least 4,096.
abbrev pub AreFewTold : Option Told → Option Told → Type 0
AreFewTold before after = IfTold before (λ t. IfTold after (λ u. AreFew 34 t u))

-- One batch more. It leaves alone what the operation does not speak of, and draws no more names than it needs.
abbrev pub AreRowsTold : ℕ → Option Told → Option Told → Type 0
AreRowsTold drawn before after =
    (batch : List Change) × (after ≡ option_map (with_batch batch) before) × IfTold before (λ t. LeavesRest t (tables_after batch t) × IsSmall drawn t (tables_after batch t))
    × AreFewTold before after

-- What a copy of a tree leaves alone: settings, objects, slots, and all next numbers but those of inodes and names, which do not fall. At
-- most one name is drawn. No block comes or goes, and none changes but in its count; each inode that was there keeps the forms of its
-- places.
pub record LeavesCopied (t after : Tables) : Type 0 where
  pub params : option_map settings after.params ≡ option_map settings t.params
  pub next_inode : next_inode_of t ≤ next_inode_of after
  pub next_name : next_name_of t ≤ next_name_of after
  pub names : next_name_of after ≤ next_name_of t + 1
  pub objects : after.objects ≡ t.objects
  pub slots : after.slots ≡ t.slots
  pub blocks : (id : ℕ) → option_map uncounted (block_at after id) ≡ option_map uncounted (block_at t id)
  pub forms : (inode blockno : ℕ) → IsTrue (is_some (inode_at t inode)) → form_at after inode blockno ≡ form_at t inode blockno

-- One batch more, of a copy of a tree.
abbrev pub AreCopiesTold : Option Told → Option Told → Type 0
AreCopiesTold before after =
    (batch : List Change) × (after ≡ option_map (with_batch batch) before) × IfTold before (λ t. LeavesCopied t (tables_after batch t))

-- Objects may have been drawn, by one batch, and one batch more changes the row of one inode, places, blocks and objects alone.
abbrev pub IsFileTold : Option Told → Option Told → Type 0
IsFileTold before after =
    (middle : Option Told) × (batch : List Change) × Becomes ArePrepared before middle × (after ≡ option_map (with_batch batch) middle)
    × IfTold middle (λ t. (new : Inode) × KeepsNames (after_change (changes.PutInode new) t) (tables_after batch t)) × AreFewTold before after

-- what is told after a call that changes rows, or none: of the bytes of a file, of a copy of a tree, or of names and inodes
abbrev pub IsToldAfter : Bool → Bool → Bool → ℕ → Option Told → Option Told → Type 0
IsToldAfter false writes copies drawn before after = after ≡ before
IsToldAfter true true copies drawn before after = IsFileTold before after
IsToldAfter true false true drawn before after = AreCopiesTold before after
IsToldAfter true false false drawn before after = AreRowsTold drawn before after

-- what is told after a call that changed nothing of the tree: where it was to write blocks, objects may have been drawn for them
abbrev pub IsToldAlike : Bool → Option Told → Option Told → Type 0
IsToldAlike false before after = after ≡ before
IsToldAlike true before after = Becomes ArePrepared before after × AreFewTold before after

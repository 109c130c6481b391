-- When a core may be opened.
use Rattle.std.specs.Prelude.{◌≡◌, ◌==◌, Bool, true, false, not, [], ◌∷◌, IsTrue, Option, None, Some}
use Rattle.std.specs.List.{list_all}
use Rattle.plain_tree.specs.Tree.{Tree}
use Rattle.s3_rows.specs.declared.change.Change.TheVariants as changes
use Rattle.s3_rows.specs.declared.params.State.TheVariants as states
use Rattle.s3_rows.specs.Rows.{Parameters}
use Rattle.s3_rows.specs.Tables.{Tables}
use Rattle.s3_rows.specs.Told.{Told, with_batch}
use Rattle.volume_core.specs.Standing.{AreServed}
use Rattle.volume_core.specs.declared.row_core.OpenFault.{OpenFault}
use Rattle.volume_core.specs.declared.row_core.OpenFault.TheVariants as faults

-- every inode has a name, so no file is kept by handles alone
abbrev pub AreNamed : Tables → Type 0
AreNamed t = IsTrue (list_all (λ r. not (r.refcount == 0)) t.inodes)

-- tables whose inodes have names, since nobody has handles yet
pub record AreReady (t : Tables) : Type 0 where
  pub served : AreServed t
  pub named : AreNamed t

-- a tree that was just opened: without handles
abbrev pub IsOpened : Tree → Type 0
IsOpened whole = (whole.next_handle ≡ 1) × (whole.handles ≡ [])

-- the parameters of a file system that is served
abbrev pub mounted : Parameters → Parameters
mounted p = record p { state = states.Mounted }

-- it was closed in order, and one batch says that it is mounted
abbrev pub IsMounting : Told → Option Told → Type 0
IsMounting before after =
    (p : Parameters) × (before.tables.params ≡ Some p) × (p.state ≡ states.Clean) × (after ≡ Some (with_batch (changes.SetParams (mounted p) ∷ []) before))

-- the refusal by which the keeper has failed
abbrev pub is_keeper_fault : OpenFault → Bool
is_keeper_fault faults.Keeper = true
is_keeper_fault faults.NoFileSystem = false
is_keeper_fault faults.Unclean = false
is_keeper_fault faults.Memory = false

-- the parameters for which opening is refused so
abbrev pub IsCauseOf : OpenFault → Option Parameters → Type 0
IsCauseOf faults.NoFileSystem params = params ≡ None
IsCauseOf faults.Unclean params = (p : Parameters) × (params ≡ Some p) × (p.state ≡ states.Clean → ⊥)
IsCauseOf faults.Keeper params = Unit {0}
IsCauseOf faults.Memory params = Unit {0}

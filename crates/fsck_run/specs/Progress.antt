-- How far a check is, in tables and a store that are told.
use Rattle.std.specs.Prelude.{ℕ, List, []}
use Rattle.s3_rows.specs.declared.change.Change.{Change}
use Rattle.s3_rows.specs.Told.{Told}
use Rattle.s3_devices.specs.declared.key_list.KeyItem.{KeyItem}
use Rattle.s3_devices.specs.Objects.{Objects}
use Rattle.fsck_run.specs.declared.stage.Batched.{Batched}
use Rattle.fsck_run.specs.declared.stage.Batched.TheVariants as batched
use Rattle.fsck_run.specs.declared.stage.Stage.{Stage}
use Rattle.fsck_run.specs.declared.stage.Stage.TheVariants as stages
use Rattle.fsck_run.specs.declared.stages.Check.{Check}
use Rattle.fsck_run.specs.DoomedKeys.{left}

-- what comes next; the keys of the store as the check began, and the lines so far; the keys that are still to go of objects that no block
-- has, the rows of these, and other keys that are still to go; and the tables and the store as they are by now
pub record Progress : Type 0 where
  pub stage : Stage
  pub keys : List KeyItem
  pub lines : List (List ℕ)
  pub unused : List (List ℕ)
  pub rows : List Change
  pub strays : List (List ℕ)
  pub told : Told
  pub store : Objects

-- nothing is done
abbrev pub begun : Told → Objects → Progress
begun t o = record { stage = stages.Start; keys = []; lines = []; unused = []; rows = []; strays = []; told = t; store = o }

-- how far a check of the program is
abbrev pub progress_of : Check → Told → Objects → Progress
progress_of c t o =
    record { stage = c.stage; keys = c.keys; lines = c.findings; unused = left c.unused; rows = c.rows; strays = left c.strays; told = t; store = o }

abbrev pub at_stage : Stage → Progress → Progress
at_stage stage s = record s { stage = stage }

-- the stage behind a pass
abbrev pub behind : Batched → Stage
behind batched.Names = stages.Batch batched.Rows
behind batched.Rows = stages.Batch batched.Objects
behind batched.Objects = stages.Batch batched.Losses
behind batched.Losses = stages.Batch batched.Counts
behind batched.Counts = stages.Store

-- Each entry brings a walk nearer to its end.
use Rattle.std.proofs.Common.{◌<◌, ◌≤◌, ◌^◌, ℕ, List, [], ◌∷◌, ◌++◌, length, Bool, true, false, cond, arith, length-append}
use Rattle.s3_rows.specs.declared.change.Change.{Change}
use Rattle.s3_rows.specs.Rows.{Inode}
use Rattle.s3_rows.specs.Validity.{is_directory}
use Rattle.immutable_trees.specs.declared.walk.Level.{Level}
use Rattle.immutable_trees.specs.Levels.{first_level, levels_behind, steps_left}

one_at_most : (b : Bool) (level : Level) → length (cond b (level ∷ []) []) ≤ 1
one_at_most true level = omega arith
one_at_most false level = omega arith

-- a change more and the levels behind its entry, where the batch stays short
pub steps_left-behind : (batch : List Change) (c : Change) (levels : List Level) (directory : ℕ) (name : List ℕ) (r : Inode) → length (batch ++ c ∷ []) < 2 ^ 64
    → steps_left (batch ++ c ∷ []) (levels ++ levels_behind directory name r) ≤ steps_left batch levels
steps_left-behind batch c levels directory name r short =
    let few = one_at_most (is_directory r.kind) (first_level r.id) in
    omega (arith, short, few, length-append batch (c ∷ []), length-append levels (levels_behind directory name r))

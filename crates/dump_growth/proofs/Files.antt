-- The rows of files, committed one file after the other.
use Rattle.std.proofs.Common.{◌≡◌, ℕ, ◌+◌, List, [], ◌++◌, Option, Some, refl, ap, ◌∙◌, add-one}
use Rattle.std.specs.Prelude.{option_map, Result, Ok, Err, OnOk}
use Rattle.s3_rows.specs.declared.change.Change.{Change}
use Rattle.s3_rows.specs.declared.digest.Digest.{Digest}
use Rattle.s3_rows.specs.Told.{Told, with_batch}
use Rattle.dump_growth.specs.Growth.{entry_changes, block_changes, IsFile, IsGrown}

-- the batch of a file, once it was committed
pub committed : {E : Type 0} (result : Result (Unit {0}) E) (file : ℕ) (name : List ℕ) (digest : Digest) (first second : List Change) (before after : Option Told)
    → first ≡ [] ++ entry_changes file name → second ≡ first ++ block_changes file digest
    → OnOk result (after ≡ option_map (with_batch second) before)
    → OnOk result ((s : Told) → before ≡ Some s → (batch : List Change) × (is : IsFile file batch) × (after ≡ Some (with_batch batch s)))
committed (Err e) file name digest first second before after entry both is = tt
committed (Ok x) file name digest first second before after entry both is =
    λ s told.
    let batch : IsFile file second = record { name = name; digest = digest; changes_are = both ∙ ap (λ (b : List Change). b ++ block_changes file digest) entry } in
    (second, batch, is ∙ ap (option_map (with_batch second)) told)

-- one file more
pub goes_on : (file : ℕ) (s mid : Told) (batch : List Change) → IsGrown file s mid → IsFile file batch → IsGrown (file + 1) s (with_batch batch mid)
goes_on file s mid batch grown is = rw add-one (mid, batch, grown, is, refl)

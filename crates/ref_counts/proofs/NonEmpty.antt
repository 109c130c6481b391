-- Batches that have a change.
use Rattle.std.proofs.Common.{◌≡◌, List, [], ◌∷◌, ◌++◌, length, Bool, true, false, refl, arith, eqb-true}
use Rattle.std.specs.Prelude.{◌==◌}
use Rattle.s3_rows.specs.declared.change.Change.{Change}

pub some_change : (c : Change) (cs : List Change) → (length (c ∷ cs) == 0) ≡ false
some_change c cs = by_case (length (c ∷ cs) == 0) refl
  where
    by_case : (b : Bool) → (length (c ∷ cs) == 0) ≡ b → b ≡ false
    by_case true none = absurd (omega (arith, eqb-true (length (c ∷ cs)) 0 none))
    by_case false none = refl

pub some_before : (some rest : List Change) → (length some == 0) ≡ false → (length (some ++ rest) == 0) ≡ false
some_before [] rest is = absurd (cc is)
some_before (x ∷ xs) rest is = some_change x (xs ++ rest)

pub some_behind : (before some : List Change) → (length some == 0) ≡ false → (length (before ++ some) == 0) ≡ false
some_behind [] some is = is
some_behind (x ∷ xs) some is = some_change x (xs ++ some)

pub some_changes : (before : List Change) (c : Change) (cs : List Change) → (length (before ++ c ∷ cs) == 0) ≡ false
some_changes before c cs = some_behind before (c ∷ cs) (some_change c cs)

pub some_between : (before : List Change) (c : Change) (cs rest : List Change) → (length (before ++ c ∷ cs ++ rest) == 0) ≡ false
some_between before c cs rest = some_before (before ++ c ∷ cs) rest (some_changes before c cs)

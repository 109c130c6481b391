-- The first failure of checks, and of others behind them.
use Rattle.std.proofs.Common.{◌≡◌, ℕ, List, [], ◌∷◌, ◌++◌, Option, None, Some, refl}
use Rattle.plain_tree.specs.Checks.{first_failure}

-- checks behind others that do not fail
pub first_failure-behind : (others checks : List (Option ℕ)) → first_failure others ≡ None → first_failure (others ++ checks) ≡ first_failure checks
first_failure-behind [] checks passes = refl
first_failure-behind (None ∷ others) checks passes = first_failure-behind others checks passes
first_failure-behind (Some errno ∷ others) checks passes = absurd (cc passes)

-- the first that fails, whatever comes behind it
pub failure_stays : (others checks : List (Option ℕ)) (errno : ℕ) → first_failure others ≡ Some errno → first_failure (others ++ checks) ≡ Some errno
failure_stays [] checks errno fails = absurd (cc fails)
failure_stays (None ∷ others) checks errno fails = failure_stays others checks errno fails
failure_stays (Some own ∷ others) checks errno fails = fails

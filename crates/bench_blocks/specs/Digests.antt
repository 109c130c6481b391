-- The digests of pieces that differ in their numbers.
use Rattle.std.specs.Prelude.{ℕ, zero, suc, List, [], ◌++◌}
use Rattle.std.specs.Int.{to_be_bytes, w64}
use Rattle.sha2.specs.Sha256.{sha256}

-- those of the numbers below one, one behind the other
abbrev pub digests_below : List ℕ → ℕ → List ℕ
digests_below rest zero = []
digests_below rest (suc n) = digests_below rest n ++ sha256 (to_be_bytes w64 n ++ rest)

-- What a writer holds after a sink over it was given bytes.
use Rattle.std.specs.Prelude.{ℕ, ◌≤◌, List, length, take, Option, Result, MatchResult}
use Rattle.std.specs.Io.KnownBytes.{Appends}

-- where the writer tells its bytes: all of these were appended, or a front of them by a call that failed
abbrev pub WritesAll : {T E : Type 0} → Option (List ℕ) → Option (List ℕ) → Result T E → List ℕ → Type 0
WritesAll before after r bytes = MatchResult r (λ _. Appends before after bytes) (λ _. (n : ℕ) × (n ≤ length bytes) × Appends before after (take n bytes))

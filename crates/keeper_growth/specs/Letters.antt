-- The letters of names.
use Rattle.std.specs.Prelude.{ℕ, ◌≤◌}

-- a to p
abbrev pub IsLetter : ℕ → Type 0
IsLetter b = (97 ≤ b) × (b ≤ 112)

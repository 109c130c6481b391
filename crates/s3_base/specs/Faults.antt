-- Counts of faults: a call of a device may answer a fault only where its count rose in that call.
use Rattle.std.specs.Prelude.{ℕ, ◌+◌, ◌-◌, ◌^◌, ◌≤◌, min, Bool, IsTrue}

-- the count rose, or stands at the end of its type
abbrev pub HasRisen : ℕ → ℕ → Type 0
HasRisen before now = min (before + 1) (2 ^ 64 - 1) ≤ now

-- a count of faults never falls, and has risen where the call failed
pub record HasCause (before now : ℕ) (failed : Bool) : Type 0 where
  pub later : before ≤ now
  pub risen : IsTrue failed → HasRisen before now

-- What a source and a sink tell of their bytes, and how a call changes it.
use Rattle.std.specs.Prelude.{◌≡◌, ℕ, ◌≤◌, List, [], ◌++◌, length, take, drop, Option, None, Some, MatchOption}

-- the bytes of a source: those taken so far, and those that are left
pub record Stream : Type 0 where
  pub taken : List ℕ
  pub left : List ℕ

-- the stream after n more bytes were taken
abbrev pub advanced : ℕ → Stream → Stream
advanced n s = record { taken = s.taken ++ take n s.left; left = drop n s.left }

-- the first n bytes that were left are now taken and stand in the front of the buffer; none only at the end
pub record TakesFront (n : ℕ) (buffer : List ℕ) (before : Stream) (after : Option Stream) : Type 0 where
  pub bytes : take n buffer ≡ take n before.left
  pub there : n ≤ length before.left
  pub ended : n ≡ 0 → before.left ≡ []
  pub moved : after ≡ Some (advanced n before)

-- the same where the source tells its bytes; one that does not goes on so
abbrev pub Takes : ℕ → List ℕ → Option Stream → Option Stream → Type 0
Takes n buffer before after = MatchOption before (after ≡ None) (λ s. TakesFront n buffer s after)

-- all of the bytes are appended, where the sink tells what was written
abbrev pub Appends : List ℕ → Option (List ℕ) → Option (List ℕ) → Type 0
Appends bytes before after = MatchOption before (after ≡ None) (λ w. after ≡ Some (w ++ bytes))

-- a front of the bytes is appended
abbrev pub AppendsFront : List ℕ → Option (List ℕ) → Option (List ℕ) → Type 0
AppendsFront bytes before after = MatchOption before (after ≡ None) (λ w. (n : ℕ) × (n ≤ length bytes) × (after ≡ Some (w ++ take n bytes)))

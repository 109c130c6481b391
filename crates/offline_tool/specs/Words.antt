-- The words of a command.
use Rattle.std.specs.Prelude.{ℕ, ◌*◌, ◌^◌, ◌==◌, List, [], ◌∷◌, Bool, false, not, ◌&&◌, nat_le, nat_eq, Option, None, Some, codes, if◌then◌else◌}
use Rattle.std.specs.List.{list_all}
use Rattle.std.specs.Cmp.Lexicographic.{pointwise}
use Rattle.std.specs.Str.Parse.{digits_value}

abbrev pub is_digit : ℕ → Bool
is_digit b = nat_le 48 b && nat_le b 57

-- decimal digits, without a sign and without a leading zero
abbrev pub is_numeral : List ℕ → Bool
is_numeral [] = false
is_numeral (b ∷ []) = is_digit b
is_numeral (b ∷ c ∷ bs) = not (b == 48) && list_all is_digit (b ∷ c ∷ bs)

-- the number that a word spells, if it is from low to high
abbrev pub number_within : ℕ → ℕ → List ℕ → Option ℕ
number_within low high word =
    if is_numeral word && nat_le low (digits_value 10 word) && nat_le (digits_value 10 word) high then Some (digits_value 10 word) else None

-- what a replay's words say: the size of a block in bytes, the entries of the cache, and the slots of the cache disk
pub record Limits : Type 0 where
  pub block_size : ℕ
  pub cache : ℕ
  pub slots : ℕ

-- the blocks of the cache, and those of the slots, take at most 2^32 bytes
abbrev pub limits_from : Option ℕ → Option ℕ → Option ℕ → Option Limits
limits_from (Some b) (Some c) (Some s) =
    if nat_le (c * b) (2 ^ 32) && nat_le (s * b) (2 ^ 32) then Some (record { block_size = b; cache = c; slots = s }) else None
limits_from (Some b) (Some c) None = None
limits_from (Some b) None s = None
limits_from None c s = None

-- `replay` and three numbers
abbrev pub limits_of : List (List ℕ) → Option Limits
limits_of (word ∷ b ∷ c ∷ s ∷ []) =
    if pointwise nat_eq word (codes "replay") then limits_from (number_within 4096 10485760 b) (number_within 64 4096 c) (number_within 0 65536 s)
    else None
limits_of _ = None

-- How often numbers were counted.
use Rattle.std.specs.Prelude.{ℕ, ◌==◌, Bool, false, Option, None, Some, unwrap_or}
use Rattle.std.specs.Ordering.{nat_cmp}
use Rattle.std.specs.BTreeMap.{get}
use Rattle.fsck_tables.specs.declared.tally.Tally.{Tally}

abbrev pub tally_at : Tally → ℕ → ℕ
tally_at tally id = unwrap_or (get nat_cmp tally.counts id) 0

-- the option has this number
abbrev pub is_of : Option ℕ → ℕ → Bool
is_of None id = false
is_of (Some n) id = n == id

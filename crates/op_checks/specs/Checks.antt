-- How a check ends.
use Rattle.std.specs.Prelude.{◌≡◌, ℕ, Option, None, Some, Result, Ok, Err}
use Rattle.s3_base.specs.declared.errors.Errno.{Errno}

-- a check answers Ok where it does not fail, and else its error number
abbrev pub Checks : {A : Type 0} → Result A Errno → Option ℕ → Type 0
Checks (Ok x) check = check ≡ None
Checks (Err errno) check = check ≡ Some errno.0

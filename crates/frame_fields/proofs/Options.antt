-- The laws of a value that may be missing.
use Rattle.std.proofs.Common.{ℕ, suc, Option, None, Some, refl, arith}
use Rattle.frame_fields.specs.Format.{Format, option_spelling, option_allowed, option_behind, optional, between}
use Rattle.frame_fields.proofs.Formats.{IsFormat, nothing, nothing_is}
use Rattle.frame_fields.proofs.Tagged.{IsCase, Reads, first_of_row, last_of_row, Written, write_case, tagged_is}

module _ {A : Type 0} (f : Format A) (most : ℕ) (is : IsFormat f most) where
  none : IsCase most (option_spelling f) (option_allowed f) 0 nothing (λ x. None)
  none = record { spelled = λ v. refl; allowed = λ v. refl; most = 0; short = omega arith; format = nothing_is }

  some : IsCase most (option_spelling f) (option_allowed f) 1 f Some
  some = record { spelled = λ v. refl; allowed = λ v. refl; most = most; short = omega arith; format = is }

  reads : Reads (option_spelling f) (option_allowed f) (between 0 1) (option_behind f)
  reads = first_of_row 1 none (last_of_row some)

  written : (o : Option A) → Written most (option_spelling f) (option_allowed f) (between 0 1) (option_behind f) o
  written None = write_case (between 0 1) (option_behind f) none tt refl (λ r. refl)
  written (Some x) = write_case (between 0 1) (option_behind f) some x refl (λ r. refl)

  pub optional_is : IsFormat (optional f) (suc most)
  optional_is = tagged_is most (option_spelling f) (option_allowed f) (between 0 1) (option_behind f) reads written

-- The keys of data objects and generations: each is of one number, none is of both, and none is too long.
use Rattle.std.proofs.Common.{◌≡◌, ◌≢◌, ℕ, zero, suc, ◌-◌, ◌^◌, ◌<◌, ◌≤◌, List, [], ◌++◌, length, get_or, false, refl, sym, ap, ◌∙◌, arith, append-nil, length-append}
use Rattle.std.proofs.Math.Nat.{sub-zero}
use Rattle.std.specs.Prelude.{codes, replicate}
use Rattle.std.specs.Fmt.{decimal, padded_integral, format_spec, char_count}
use Rattle.std.specs.Str.Parse.{digits_value}
use Rattle.std.proofs.lemmas.Fmt.{decimal_injective, decimal_is_IsNumeral, length-decimal-le}
use Rattle.std.proofs.lemmas.List.{append_cancel_left, length-replicate}
use Rattle.s3_devices.specs.Objects.{Objects, KeepsOthers}
use Rattle.s3_devices.specs.LinkAnswers.{key_limit}
use Rattle.s3_devices.specs.Keys.{data_key, twenty_digits, generation_key, objects_in}

-- ---- twenty_digits

-- what a hole of twenty digits writes
pub padded_integral-twenty : (n : ℕ) → padded_integral (format_spec 32 0 4 20 (2 ^ 64 - 1)) false [] (decimal n) ≡ twenty_digits n
unfolding padded_integral char_count
padded_integral-twenty n = simp (sub-zero, append-nil)

digits_value-zeros : (k : ℕ) (ds : List ℕ) → digits_value 10 (replicate k 48 ++ ds) ≡ digits_value 10 ds
digits_value-zeros zero ds = refl
digits_value-zeros (suc k) ds = digits_value-zeros k ds

pub digits_value-twenty_digits : (n : ℕ) → n < 2 ^ 64 → digits_value 10 (twenty_digits n) ≡ n
digits_value-twenty_digits n small = digits_value-zeros (20 - length (decimal n)) (decimal n) ∙ (decimal_is_IsNumeral n small).1

length-decimal : (n : ℕ) → n < 2 ^ 64 → length (decimal n) ≤ 20
length-decimal n small = length-decimal-le 20 n (omega arith) (omega arith) small

pub length-twenty_digits : (n : ℕ) → n < 2 ^ 64 → length (twenty_digits n) ≡ 20
length-twenty_digits n small =
    omega (arith, length-decimal n small, length-append (replicate (20 - length (decimal n)) 48) (decimal n), length-replicate {A = ℕ} (20 - length (decimal n)) 48)

-- ---- data_key, generation_key

pub data_key_injective : (a b : ℕ) → a < 2 ^ 64 → b < 2 ^ 64 → data_key a ≡ data_key b → a ≡ b
data_key_injective a b small_a small_b same =
    decimal_injective a b small_a small_b (append_cancel_left (codes "s3ql_data_") (decimal a) (decimal b) same)

pub generation_key_injective : (a b : ℕ) → a < 2 ^ 64 → b < 2 ^ 64 → generation_key a ≡ generation_key b → a ≡ b
generation_key_injective a b small_a small_b same =
    sym (digits_value-twenty_digits a small_a)
    ∙ ap (digits_value 10) (append_cancel_left (codes "s3ql_metadata_") (twenty_digits a) (twenty_digits b) same)
    ∙ digits_value-twenty_digits b small_b

pub data_key_apart : (id number : ℕ) → data_key id ≢ generation_key number
data_key_apart id number same = let letters : 100 ≡ 109 = ap (λ (key : List ℕ). get_or key 5 0) same in omega (arith, letters)

pub length-data_key : (id : ℕ) → id < 2 ^ 64 → length (data_key id) ≤ key_limit
length-data_key id small = omega (arith, length-decimal id small, length-append (codes "s3ql_data_") (decimal id))

pub length-generation_key : (number : ℕ) → number < 2 ^ 64 → length (generation_key number) ≡ 34
length-generation_key number small =
    omega (arith, length-twenty_digits number small, length-append (codes "s3ql_metadata_") (twenty_digits number))

-- ---- objects_in

pub objects_in_other : (id other : ℕ) (before after : Objects) → id < 2 ^ 64 → other < 2 ^ 64 → other ≢ id
    → KeepsOthers (data_key id) before after → objects_in after other ≡ objects_in before other
objects_in_other id other before after small_id small_other differ keeps =
    keeps.others (data_key other) (λ same. differ (data_key_injective other id small_other small_id same))

pub objects_in_generation : (number id : ℕ) (before after : Objects) → KeepsOthers (generation_key number) before after
    → objects_in after id ≡ objects_in before id
objects_in_generation number id before after keeps = keeps.others (data_key id) (data_key_apart id number)

-- Keys and the numbers that they name: a generation has one key, and no key that names anything comes before its prefix.
use Rattle.std.proofs.Common.{◌≡◌, ℕ, zero, suc, ◌+◌, ◌-◌, ◌^◌, ◌<◌, ◌≤◌, max, Bool, true, false, cond, List, [], ◌∷◌, ◌++◌, length, get_or, take, drop, Option, None, Some, refl, sym, ap, ◌∙◌, subst, arith, eqb-true, length-append}
use Rattle.std.specs.Prelude.{◌==◌, ◌&&◌, not, nat_le, nat_lt, codes, replicate, filter, slice_index, if◌then◌else◌}
use Rattle.std.specs.List.{list_all, filter_map, cons_option}
use Rattle.std.specs.Cmp.Lexicographic.{same_text}
use Rattle.std.specs.Ordering.{is_lt}
use Rattle.std.specs.Fmt.{decimal}
use Rattle.std.specs.Str.Parse.{digits_value}
use Rattle.std.proofs.lemmas.Bool.{and_parts, and_from, leb-true, le-leb, ltb-true, lt-ltb}
use Rattle.std.proofs.lemmas.Bool.Decides.{nat_tests}
use Rattle.std.proofs.lemmas.Fmt.{decimal-digits_value, digits_decimal, digits_value-decimal, first_decimal}
use Rattle.std.proofs.lemmas.List.{take-append-drop, length-drop}
use Rattle.std.proofs.lemmas.List.Folds.{list_all-append}
use Rattle.std.proofs.lemmas.Str.Parse.{IsDigitsTest, IsNumeralModel, numerals_by_value}
use Rattle.s3_rows.specs.Rows.{IsId}
use Rattle.s3_devices.specs.Keys.{data_key, twenty_digits, generation_key}
use Rattle.s3_devices.specs.Objects.{key_cmp}
use Rattle.s3_devices.proofs.KeyLemmas.{digits_value-twenty_digits, length-twenty_digits, length-generation_key}
use Rattle.metadata_backup.specs.Survey.{object_end, objects_end}
use Rattle.metadata_backup.specs.Numbers.{is_digit, number_of, begins_with, generation_of, object_of}
use Rattle.metadata_backup.proofs.SurveyLaws.{objects_end_positive}

-- ---- tests

if_some : {A : Type 0} (b : Bool) (x : Option A) (y : A) → (if b then x else None) ≡ Some y → (b ≡ true) × (x ≡ Some y)
if_some true x y is = (refl, is)
if_some false x y is = absurd (cc is)

-- ---- digits

tells : IsDigitsTest (λ ds. list_all is_digit ds ≡ true)
tells = record {
  empty = refl;
  parts = λ c cs all.
      let parts = and_parts (is_digit c) (list_all is_digit cs) all in
      let range = and_parts (nat_le 48 c) (nat_le c 57) parts.0 in
      ((leb-true 48 c range.0, leb-true c 57 range.1), parts.1);
  more = λ c cs range all. and_from (is_digit c) (list_all is_digit cs) (and_from (nat_le 48 c) (nat_le c 57) (le-leb 48 c range.0) (le-leb c 57 range.1)) all;
}

own : IsNumeralModel (λ ds. list_all is_digit ds ≡ true) (digits_value 10)
own = numerals_by_value (λ ds. list_all is_digit ds ≡ true) tells

zeros_are_digits : (k : ℕ) → list_all is_digit (replicate k 48) ≡ true
zeros_are_digits zero = refl
zeros_are_digits (suc k) = zeros_are_digits k

twenty_are_digits : (n : ℕ) → n < 2 ^ 64 → list_all is_digit (twenty_digits n) ≡ true
twenty_are_digits n small =
    list_all-append is_digit (replicate (20 - length (decimal n)) 48) (decimal n)
    ∙ ap (λ (b : Bool). b && list_all is_digit (decimal n)) (zeros_are_digits (20 - length (decimal n)))
    ∙ digits_decimal own n small

padded : (ds : List ℕ) → decimal (digits_value 10 ds) ≡ ds
    → replicate (length ds - length (decimal (digits_value 10 ds))) 48 ++ decimal (digits_value 10 ds) ≡ ds
padded ds is =
    let none : length ds - length (decimal (digits_value 10 ds)) ≡ 0 = omega (arith, ap (λ (xs : List ℕ). length xs) is) in
    ap (λ (k : ℕ). replicate k 48 ++ decimal (digits_value 10 ds)) none ∙ is

shorter : (k : ℕ) (xs ys : List ℕ) → replicate k 48 ++ xs ≡ ys → length xs ≤ length ys
shorter k xs ys is = omega (arith, length-append (replicate k 48) xs, ap (λ (zs : List ℕ). length zs) is)

-- digits are their number, with zeros before it
padded_digits : (ds : List ℕ) → list_all is_digit ds ≡ true → 0 < length ds → digits_value 10 ds < 2 ^ 64
    → replicate (length ds - length (decimal (digits_value 10 ds))) 48 ++ decimal (digits_value 10 ds) ≡ ds
padded_digits [] all some small = absurd (omega arith)
padded_digits (d ∷ []) all some small = padded (d ∷ []) (decimal-digits_value own (d ∷ []) all (omega arith) (λ first. refl) small)
padded_digits (d ∷ e ∷ es) all some small =
    by_case (padded_digits (e ∷ es) (and_parts (is_digit d) (list_all is_digit (e ∷ es)) all).1 (omega arith)) (d == 48) refl
  where
    one_more : (xs : List ℕ) → replicate (length xs - length (decimal (digits_value 10 xs))) 48 ++ decimal (digits_value 10 xs) ≡ xs
        → replicate (length (48 ∷ xs) - length (decimal (digits_value 10 (48 ∷ xs)))) 48 ++ decimal (digits_value 10 (48 ∷ xs)) ≡ 48 ∷ xs
    one_more xs rest =
        let short = shorter (length xs - length (decimal (digits_value 10 xs))) (decimal (digits_value 10 xs)) xs rest in
        let more : length (48 ∷ xs) - length (decimal (digits_value 10 xs)) ≡ suc (length xs - length (decimal (digits_value 10 xs))) = omega (arith, short) in
        ap (λ (k : ℕ). replicate k 48 ++ decimal (digits_value 10 xs)) more ∙ ap (λ (ys : List ℕ). 48 ∷ ys) rest

    by_case : (digits_value 10 (e ∷ es) < 2 ^ 64
        → replicate (length (e ∷ es) - length (decimal (digits_value 10 (e ∷ es)))) 48 ++ decimal (digits_value 10 (e ∷ es)) ≡ e ∷ es)
        → (b : Bool) → (d == 48) ≡ b
        → replicate (length (d ∷ e ∷ es) - length (decimal (digits_value 10 (d ∷ e ∷ es)))) 48 ++ decimal (digits_value 10 (d ∷ e ∷ es)) ≡ d ∷ e ∷ es
    by_case others true is =
        let zero_first : 48 ≡ d = sym (eqb-true d 48 is) in
        let zero_small : digits_value 10 (48 ∷ e ∷ es) < 2 ^ 64 = subst (λ (x : ℕ). digits_value 10 (x ∷ e ∷ es) < 2 ^ 64) (sym zero_first) small in
        subst (λ (x : ℕ). replicate (length (x ∷ e ∷ es) - length (decimal (digits_value 10 (x ∷ e ∷ es)))) 48 ++ decimal (digits_value 10 (x ∷ e ∷ es)) ≡ x ∷ e ∷ es) zero_first
        (one_more (e ∷ es) (others zero_small))
    by_case others false differs =
        padded (d ∷ e ∷ es) (decimal-digits_value own (d ∷ e ∷ es) all (omega arith)
        (λ first. absurd (let clash : true ≡ false = sym (ap (λ (x : ℕ). x == 48) first) ∙ differs in cc clash)) small)

-- ---- number_of

number_of-parts : (ds : List ℕ) (n : ℕ) → number_of ds ≡ Some n → (list_all is_digit ds ≡ true) × (digits_value 10 ds ≡ n) × IsId n
unfolding number_of
number_of-parts ds n is =
    let v = digits_value 10 ds in
    let parts = if_some (list_all is_digit ds && nat_lt 0 v && nat_lt v (2 ^ 62)) (Some v) n is in
    let same : v ≡ n = cc (parts.1) in
    let two = and_parts (list_all is_digit ds && nat_lt 0 v) (nat_lt v (2 ^ 62)) parts.0 in
    let one = and_parts (list_all is_digit ds) (nat_lt 0 v) two.0 in
    (one.0, same, subst IsId same (ltb-true 0 v one.1, ltb-true v (2 ^ 62) two.1))

number_of-digits : (ds : List ℕ) (n : ℕ) → list_all is_digit ds ≡ true → digits_value 10 ds ≡ n → IsId n → number_of ds ≡ Some n
unfolding number_of
number_of-digits ds n all value id =
    ap (λ (b : Bool). if b && nat_lt 0 (digits_value 10 ds) && nat_lt (digits_value 10 ds) (2 ^ 62) then Some (digits_value 10 ds) else None) all
    ∙ ap (λ (v : ℕ). if nat_lt 0 v && nat_lt v (2 ^ 62) then Some v else None) value
    ∙ ap (λ (b : Bool). if b && nat_lt n (2 ^ 62) then Some n else None) (lt-ltb 0 n id.0)
    ∙ ap (λ (b : Bool). if b then Some n else None) (lt-ltb n (2 ^ 62) id.1)

number_of-twenty_digits : (n : ℕ) → IsId n → number_of (twenty_digits n) ≡ Some n
number_of-twenty_digits n id =
    let small : n < 2 ^ 64 = omega (arith, id.1) in
    number_of-digits (twenty_digits n) n (twenty_are_digits n small) (digits_value-twenty_digits n small) id

-- ---- generation_of

pub generation_of-generation_key : (n : ℕ) → IsId n → generation_of (generation_key n) ≡ Some n
unfolding generation_of
generation_of-generation_key n id =
    ap (λ (l : ℕ). if l == 34 then number_of (twenty_digits n) else None) (length-generation_key n (omega (arith, id.1)))
    ∙ number_of-twenty_digits n id

-- behind a prefix that a key begins with
behind_prefix : (prefix key : List ℕ) → begins_with prefix key ≡ true → key ≡ prefix ++ drop (length prefix) key
behind_prefix prefix key begins =
    sym (take-append-drop (length prefix) key) ∙ ap (λ (xs : List ℕ). xs ++ drop (length prefix) key) (same_text (take (length prefix) key) prefix (sym begins))

pub key_of_generation : (key : List ℕ) (n : ℕ) → generation_of key ≡ Some n → (key ≡ generation_key n) × IsId n
unfolding generation_of
key_of_generation key n is =
    let parts = if_some (begins_with (codes "s3ql_metadata_") key && length key == 34) (number_of (drop 14 key)) n is in
    let tests = and_parts (begins_with (codes "s3ql_metadata_") key) (length key == 34) parts.0 in
    let number = number_of-parts (drop 14 key) n parts.1 in
    let all : length key ≡ 34 = eqb-true (length key) 34 tests.1 in
    let twenty : length (drop 14 key) ≡ 20 = omega (arith, length-drop 14 key) in
    let small : digits_value 10 (drop 14 key) < 2 ^ 64 = omega (arith, number.1, number.2.1) in
    let some : 0 < length (drop 14 key) = omega (arith, twenty) in
    let digits : twenty_digits n ≡ drop 14 key =
    ap (λ (v : ℕ). replicate (20 - length (decimal v)) 48 ++ decimal v) (sym number.1)
    ∙ ap (λ (l : ℕ). replicate (l - length (decimal (digits_value 10 (drop 14 key)))) 48 ++ decimal (digits_value 10 (drop 14 key))) (sym twenty)
    ∙ padded_digits (drop 14 key) number.0 some small in
    (behind_prefix (codes "s3ql_metadata_") key tests.0 ∙ ap (λ (ds : List ℕ). codes "s3ql_metadata_" ++ ds) (sym digits), number.2)

-- ---- the keys past the prefixes

past_metadata : (ds : List ℕ) → 0 < length ds → is_lt (key_cmp (codes "s3ql_metadata_") (codes "s3ql_metadata_" ++ ds)) ≡ true
past_metadata [] some = absurd (omega arith)
past_metadata (d ∷ ds) some = refl

pub is_past_metadata : (key : List ℕ) (n : ℕ) → generation_of key ≡ Some n → is_lt (key_cmp (codes "s3ql_metadata_") key) ≡ true
is_past_metadata key n is =
    let parts = key_of_generation key n is in
    ap (λ (k : List ℕ). is_lt (key_cmp (codes "s3ql_metadata_") k)) parts.0
    ∙ past_metadata (twenty_digits n) (omega (arith, length-twenty_digits n (omega (arith, parts.1.1))))

-- a filter that passes all that name a number
pub filter_map-filter : (f : List ℕ → Option ℕ) (p : List ℕ → Bool) → ((k : List ℕ) (n : ℕ) → f k ≡ Some n → p k ≡ true)
    → (ks : List (List ℕ)) → filter_map f (filter p ks) ≡ filter_map f ks
filter_map-filter f p passes [] = refl
filter_map-filter f p passes (k ∷ ks) = by_case (filter_map-filter f p passes ks) (p k) refl (f k) refl
  where
    by_case : filter_map f (filter p ks) ≡ filter_map f ks → (b : Bool) → p k ≡ b → (o : Option ℕ) → f k ≡ o
        → filter_map f (cond b (k ∷ filter p ks) (filter p ks)) ≡ cons_option o (filter_map f ks)
    by_case rest true passed o is = ap (λ (x : Option ℕ). cons_option x (filter_map f (filter p ks))) is ∙ ap (λ (ns : List ℕ). cons_option o ns) rest
    by_case rest false failed None is = rest
    by_case rest false failed (Some n) is = absurd (let clash : true ≡ false = sym (passes k n is) ∙ failed in cc clash)

pub is_past_s3ql : (key : List ℕ) (n : ℕ) → generation_of key ≡ Some n → is_lt (key_cmp (codes "s3ql_") key) ≡ true
is_past_s3ql key n is = ap (λ (k : List ℕ). is_lt (key_cmp (codes "s3ql_") k)) (key_of_generation key n is).0

-- ---- object_of

pub object_of-data_key : (id : ℕ) → IsId id → object_of (data_key id) ≡ Some id
unfolding object_of
object_of-data_key id is =
    let small : id < 2 ^ 64 = omega (arith, is.1) in
    let first = first_decimal id is.0 small in
    let differs : (get_or (decimal id) 0 0 == 48) ≡ false = other (get_or (decimal id) 0 0) first in
    ap (λ (b : Bool). if not b then number_of (decimal id) else None) differs
    ∙ number_of-digits (decimal id) id (digits_decimal own id small) (digits_value-decimal own id small) is
  where
    other : (x : ℕ) → 48 < x → (x == 48) ≡ false
    other x above = grind (arith, nat_tests)

pub key_of_object : (key : List ℕ) (id : ℕ) → object_of key ≡ Some id → (key ≡ data_key id) × IsId id
unfolding object_of
key_of_object key id is =
    let ds = drop 10 key in
    let parts = if_some (begins_with (codes "s3ql_data_") key && not (slice_index key 10 == 48)) (number_of ds) id is in
    let tests = and_parts (begins_with (codes "s3ql_data_") key) (not (slice_index key 10 == 48)) parts.0 in
    let number = number_of-parts ds id parts.1 in
    let small : digits_value 10 ds < 2 ^ 64 = omega (arith, number.1, number.2.1) in
    let behind = behind_prefix (codes "s3ql_data_") key tests.0 in
    let digits : decimal id ≡ ds = ap decimal (sym number.1) ∙ decimal-digits_value own ds number.0 (some_digits ds (omega (arith, number.1, number.2.0))) (first key ds behind tests.1) small in
    (behind ∙ ap (λ (xs : List ℕ). codes "s3ql_data_" ++ xs) (sym digits), number.2)
  where
    some_digits : (xs : List ℕ) → 0 < digits_value 10 xs → 0 < length xs
    some_digits [] some = some
    some_digits (x ∷ xs) some = omega arith

    first : (k xs : List ℕ) → k ≡ codes "s3ql_data_" ++ xs → not (slice_index k 10 == 48) ≡ true → get_or xs 0 0 ≡ 48 → length xs ≡ 1
    first k xs same test is_zero =
        let at : slice_index k 10 ≡ 48 = ap (λ (ys : List ℕ). slice_index ys 10) same ∙ is_zero in
        absurd (let clash : false ≡ true = sym (ap (λ (x : ℕ). not (x == 48)) at) ∙ test in cc clash)

pub is_object_past_s3ql : (key : List ℕ) (id : ℕ) → object_of key ≡ Some id → is_lt (key_cmp (codes "s3ql_") key) ≡ true
is_object_past_s3ql key id is = ap (λ (k : List ℕ). is_lt (key_cmp (codes "s3ql_") k)) (key_of_object key id is).0

-- a filter that passes all that name a data object
pub objects_end-filter : (p : List ℕ → Bool) → ((k : List ℕ) (id : ℕ) → object_of k ≡ Some id → p k ≡ true)
    → (ks : List (List ℕ)) → objects_end (filter p ks) ≡ objects_end ks
objects_end-filter p passes [] = refl
objects_end-filter p passes (k ∷ ks) = by_case (objects_end-filter p passes ks) (p k) refl (object_of k) refl
  where
    by_case : objects_end (filter p ks) ≡ objects_end ks → (b : Bool) → p k ≡ b → (o : Option ℕ) → object_of k ≡ o
        → objects_end (cond b (k ∷ filter p ks) (filter p ks)) ≡ max (object_end k) (objects_end ks)
    by_case rest true passed o is = ap (λ (n : ℕ). max (object_end k) n) rest
    by_case rest false failed None is =
        let one : object_end k ≡ 1 = ap (λ (o : Option ℕ). elim o [ Some id ↦ id + 1 | None ↦ 1 ]) is in
        let positive = objects_end_positive ks in
        omega (arith, rest, one, positive)
    by_case rest false failed (Some id) is = absurd (let clash : true ≡ false = sym (passes k id is) ∙ failed in cc clash)

-- The laws of the fields of rows.
use Rattle.std.proofs.Common.{◌≡◌, ℕ, ◌+◌, ◌-◌, ◌*◌, ◌^◌, ◌≤◌, Bool, true, false, ◌&&◌, cond, eqb, ltb, leb, List, ◌++◌, length, Option, None, Some, Result, Ok, Err, refl, sym, ap, ap₂, subst, ◌∙◌, append_assoc, arith, inl, inr}
use Rattle.std.specs.Prelude.{◌||◌}
use Rattle.std.specs.Int.{w16, w32, w64}
use Rattle.std.proofs.lemmas.Bool.{and_parts, and_from, or_cases, or_left, lt-ltb, leb-true, eqb-true, ne_eqb}
use Rattle.std.proofs.lemmas.List.{length-append}
use Rattle.s3_rows.specs.declared.params.State.{State}
use Rattle.s3_rows.specs.declared.params.State.TheVariants as states
use Rattle.frame_fields.specs.declared.fault.FrameFault.{FrameFault}
use Rattle.frame_fields.specs.declared.fault.FrameFault.TheVariants as faults
use Rattle.frame_fields.specs.Format.{Rest, Format, ◌>>=◌, checked, made, number, between, fixed}
use Rattle.frame_fields.specs.Fields.{u32_field}
use Rattle.frame_fields.proofs.Within.{cond_has, stand, Within-then, stayed, checked_within}
use Rattle.frame_fields.proofs.Formats.{On, On-then, Goes, Goes-then, behind, with_behind, Took, Took-then, IsFormat, number16_is, number32_is, number64_is, counted_is, fixed_is, seen_is, shaped_is, ComesBack, numbered_is, ◌then◌}
use Rattle.frame_fields.proofs.FieldLemmas.{u32_is, mode_is, digest_is, node_kind_is, flag_is}
use Rattle.keeper_dump.specs.RowFields.{only, followed, id_field, count_field, next_field, blockno_field, block_size_field, file_size_field, is_text, text_field, value_field, slot_number_field, slot_length_field, revision_field, sizes_field, state_code, state_of_code, state_field, generations_field, parameters_field, inode_field, name_field, content_field, inode_block_field, block_field, no_size, size_code, size_of_code, is_size, object_size_field, object_field, target_field, attr_field, slot_field}

checked_more : {A : Type 0} (rest : List ℕ) (allowed : Bool) (place : ℕ) (x : A × Rest)
    → Goes (with_behind rest) (checked allowed place x) (checked allowed place (with_behind rest x))
checked_more rest true place x = refl
checked_more rest false place x = refl

only_is : {A : Type 0} (rule : A → Bool) (f : Format A) (most : ℕ) → IsFormat f most → IsFormat (only rule f) most
only_is {A} rule f most is = record {
  takes = λ r fits.
      let Taken = λ (x : A × Rest). ((f.allows x.0 && rule x.0) ≡ true) × Took (f.spell x.0) r x.1 in
      On-then (λ x. (f.allows x.0 ≡ true) × Took (f.spell x.0) r x.1) Taken (f.read r) (λ x. checked (rule x.0) r.place x) (is.takes r fits)
      (λ x h. cond_has (On Taken) (rule x.0) (Ok x) (Err (faults.Bad r.place)) (λ yes. (and_from _ _ h.0 yes, h.1)) (λ no. tt));
  onward = λ r. On-then (λ x. r.place ≤ x.1.place) (λ x. r.place ≤ x.1.place) (f.read r) (λ x. checked (rule x.0) r.place x) (is.onward r)
      (λ x h. cond_has (On (λ (y : A × Rest). r.place ≤ y.1.place)) (rule x.0) (Ok x) (Err (faults.Bad r.place)) (λ yes. h) (λ no. tt));
  within = λ r. Within-then r (f.read r) (λ x. checked (rule x.0) r.place x) (is.within r) (λ x m. checked_within r x.1 (rule x.0) x.0 m);
  again = λ x place room rest h le.
      let parts = and_parts (f.allows x) (rule x) h in
      let end = stand (place + length (f.spell x)) (room - length (f.spell x)) rest in
      ap (λ (z : Result (A × Rest) FrameFault). z >>= λ y. checked (rule y.0) place y) (is.again x place room rest parts.0 le)
      ∙ ap (λ (b : Bool). checked b place (x, end)) parts.1;
  more = λ rest r. Goes-then (with_behind rest) (with_behind rest) (f.read r) (f.read (behind rest r)) (λ x. checked (rule x.0) r.place x)
      (λ x. checked (rule x.0) r.place x) (is.more rest r) (λ x. checked_more rest (rule x.0) r.place x);
  bounded = λ x h. is.bounded x (and_parts (f.allows x) (rule x) h).0;
}

followed_is : {A B : Type 0} (f : Format A) (g : A → Format B) (m n : ℕ) (most : A → ℕ) → IsFormat f m → ((a : A) → IsFormat (g a) (most a))
    → ((a : A) → f.allows a ≡ true → most a ≤ n) → IsFormat (followed f g) (m + n)
followed_is {A} {B} f g m n most p q limit = record {
  takes = λ r fits.
      let Taken = λ (z : (A × B) × Rest). ((f.allows z.0.0 && (g z.0.0).allows z.0.1) ≡ true) × Took (f.spell z.0.0 ++ (g z.0.0).spell z.0.1) r z.1 in
      On-then (λ x. (f.allows x.0 ≡ true) × Took (f.spell x.0) r x.1) Taken (f.read r) (λ x. (g x.0).read x.1 >>= λ y. Ok ((x.0, y.0), y.1)) (p.takes r fits)
      (λ x h. On-then (λ y. ((g x.0).allows y.0 ≡ true) × Took ((g x.0).spell y.0) x.1 y.1) Taken ((g x.0).read x.1) (λ y. Ok ((x.0, y.0), y.1)) ((q x.0).takes x.1 h.1.fits)
      (λ y k. (and_from _ _ h.0 k.0, Took-then (f.spell x.0) ((g x.0).spell y.0) r x.1 y.1 h.1 k.1)));
  onward = λ r. On-then (λ x. r.place ≤ x.1.place) (λ z. r.place ≤ z.1.place) (f.read r) (λ x. (g x.0).read x.1 >>= λ y. Ok ((x.0, y.0), y.1)) (p.onward r)
      (λ x h. On-then (λ y. x.1.place ≤ y.1.place) (λ z. r.place ≤ z.1.place) ((g x.0).read x.1) (λ y. Ok ((x.0, y.0), y.1)) ((q x.0).onward x.1) (λ y k. omega (arith, h, k)));
  within = λ r. Within-then r (f.read r) (λ x. (g x.0).read x.1 >>= λ y. Ok ((x.0, y.0), y.1)) (p.within r)
      (λ x m. Within-then x.1 ((g x.0).read x.1) (λ y. Ok ((x.0, y.0), y.1)) ((q x.0).within x.1) (λ y n. stayed y.1));
  again = λ x place room rest h le.
      let allowed = and_parts (f.allows x.0) ((g x.0).allows x.1) h in
      let s = f.spell x.0 in
      let t = (g x.0).spell x.1 in
      let len : length (s ++ t) ≡ length s + length t = length-append s t in
      let one : f.read (stand place room ((s ++ t) ++ rest)) ≡ Ok (x.0, stand (place + length s) (room - length s) (t ++ rest)) =
      ap (λ (b : List ℕ). f.read (stand place room b)) (append_assoc s t rest) ∙ p.again x.0 place room (t ++ rest) allowed.0 (omega (arith, len, le)) in
      let two : (g x.0).read (stand (place + length s) (room - length s) (t ++ rest)) ≡ Ok (x.1, stand (place + length s + length t) (room - length s - length t) rest) =
      (q x.0).again x.1 (place + length s) (room - length s) rest allowed.1 (omega (arith, len, le)) in
      let places : place + length s + length t ≡ place + length (s ++ t) = omega (arith, len) in
      let rooms : room - length s - length t ≡ room - length (s ++ t) = omega (arith, len) in
      ap (λ (z : Result (A × Rest) FrameFault). z >>= λ x. (g x.0).read x.1 >>= λ y. Ok ((x.0, y.0), y.1)) one
      ∙ ap (λ (z : Result (B × Rest) FrameFault). z >>= λ y. Ok ((x.0, y.0), y.1)) two
      ∙ ap₂ (λ (a b : ℕ). Ok (x, stand a b rest)) places rooms;
  more = λ rest r. Goes-then (with_behind rest) (with_behind rest) (f.read r) (f.read (behind rest r)) (λ x. (g x.0).read x.1 >>= λ y. Ok ((x.0, y.0), y.1))
      (λ x. (g x.0).read x.1 >>= λ y. Ok ((x.0, y.0), y.1)) (p.more rest r)
      (λ x. Goes-then (with_behind rest) (with_behind rest) ((g x.0).read x.1) ((g x.0).read (behind rest x.1)) (λ y. Ok ((x.0, y.0), y.1)) (λ y. Ok ((x.0, y.0), y.1)) ((q x.0).more rest x.1) (λ y. refl));
  bounded = λ x h.
      let allowed = and_parts (f.allows x.0) ((g x.0).allows x.1) h in
      let a = p.bounded x.0 allowed.0 in
      let b = (q x.0).bounded x.1 allowed.1 in
      let c = limit x.0 allowed.0 in
      omega (arith, a, b, c, length-append (f.spell x.0) ((g x.0).spell x.1));
}

-- ---- fields

id_is : IsFormat id_field 8
unfolding id_field
id_is = number64_is (between 1 (2 ^ 62 - 1))

count_is : IsFormat count_field 8
unfolding count_field
count_is = number64_is (between 0 (2 ^ 62 - 1))

next_is : IsFormat next_field 8
unfolding next_field
next_is = number64_is (between 1 (2 ^ 62))

blockno_is : IsFormat blockno_field 8
unfolding blockno_field
blockno_is = number64_is (between 0 (2 ^ 38 - 1))

file_size_is : IsFormat file_size_field 8
unfolding file_size_field
file_size_is = number64_is (between 0 (2 ^ 50))

block_size_is : IsFormat block_size_field 4
unfolding block_size_field
block_size_is = number32_is (between 1 10485760)

slot_number_is : IsFormat slot_number_field 4
unfolding slot_number_field
slot_number_is = number32_is (between 0 65535)

slot_length_is : IsFormat slot_length_field 4
unfolding slot_length_field
slot_length_is = number32_is (between 0 10485760)

revision_is : IsFormat revision_field 4
unfolding revision_field
revision_is = number32_is (between 1 1)

-- the highest value of a number that is checked
at_most : (n limit low high : ℕ) → (ltb n limit && between low high n) ≡ true → n ≤ high
at_most n limit low high h = leb-true n high (and_parts (leb low n) (leb n high) (and_parts (ltb n limit) (between low high n) h).1).1

value_is : IsFormat value_field 65540
unfolding value_field
value_is = counted_is (number w32 (between 0 65536)) 4 65536 (number32_is (between 0 65536)) (λ n h. at_most n (2 ^ 32) 0 65536 h)

text_is : (limit : ℕ) → IsFormat (text_field limit) (2 + limit)
unfolding text_field
text_is limit =
    let size = number w16 (between 1 limit) in
    let both = followed size (λ n. only is_text (fixed n)) in
    seen_is both (2 + limit)
    (followed_is size (λ n. only is_text (fixed n)) 2 limit (λ n. n) (number16_is (between 1 limit)) (λ n. only_is is_text (fixed n) n (fixed_is n)) (λ n h. at_most n (2 ^ 16) 1 limit h))
    (λ x. x.1) (λ bytes. (length bytes, bytes)) (λ bytes. both.allows (length bytes, bytes)) (λ bytes. refl)
    (λ x h. sized x h) (λ bytes h. h) (λ x h. ap (λ z. both.allows z) (sized x h) ∙ h)
  where
    sized : (x : ℕ × List ℕ) → (followed (number w16 (between 1 limit)) (λ n. only is_text (fixed n))).allows x ≡ true → (length x.1, x.1) ≡ x
    sized x h = ap (λ (n : ℕ). (n, x.1)) (eqb-true (length x.1) x.0 (and_parts (eqb (length x.1) x.0) (is_text x.1) (and_parts ((number w16 (between 1 limit)).allows x.0) (eqb (length x.1) x.0 && is_text x.1) h).1).0)

sizes_is : IsFormat sizes_field 8
unfolding sizes_field
sizes_is = followed_is (number w32 (between 4096 10485760)) (λ size. number w32 (λ slots. leb slots 65536 && leb (slots * size) (2 ^ 32))) 4 4 (λ size. 4)
    (number32_is (between 4096 10485760)) (λ size. number32_is (λ slots. leb slots 65536 && leb (slots * size) (2 ^ 32))) (λ size h. omega arith)

generations_is : IsFormat generations_field 16
unfolding generations_field
generations_is = followed_is count_field (λ generation. number w64 (between 0 generation)) 8 8 (λ generation. 8) count_is (λ generation. number64_is (between 0 generation)) (λ generation h. omega arith)

state_back : (state : State) → ComesBack 0 2 state_of_code state_code state
state_back states.Clean = (refl, refl)
state_back states.Mounted = (refl, refl)
state_back states.Restored = (refl, refl)

state_is : IsFormat state_field 1
unfolding state_field
state_is = numbered_is 0 2 state_of_code state_code state_back refl

pub parameters_is : IsFormat parameters_field 61
parameters_is = shaped_is _ _ _ 61 (revision_is then sizes_is then state_is then next_is then next_is then next_is then next_is then generations_is) (λ p. refl) (λ x. refl)

-- ---- rows

pub inode_is : IsFormat inode_field 52
inode_is = shaped_is _ _ _ 52 (id_is then node_kind_is then mode_is then u32_is then u32_is then count_is then count_is then count_is then file_size_is then flag_is) (λ r. refl) (λ x. refl)

pub name_row_is : IsFormat name_field 273
name_row_is = shaped_is _ _ _ 273 (id_is then count_is then text_is 255) (λ r. refl) (λ x. refl)

pub content_is : IsFormat content_field 24
content_is = shaped_is _ _ _ 24 (id_is then id_is then id_is) (λ r. refl) (λ x. refl)

pub inode_block_is : IsFormat inode_block_field 24
inode_block_is = shaped_is _ _ _ 24 (id_is then blockno_is then id_is) (λ r. refl) (λ x. refl)

pub block_is : IsFormat block_field 60
block_is = shaped_is _ _ _ 60 (id_is then digest_is then count_is then block_size_is then id_is) (λ r. refl) (λ x. refl)

pub target_is : IsFormat target_field 4105
target_is = shaped_is _ _ _ 4105 (id_is then text_is 4095) (λ r. refl) (λ x. refl)

pub attr_is : IsFormat attr_field 65556
attr_is = shaped_is _ _ _ 65556 (id_is then id_is then value_is) (λ r. refl) (λ x. refl)

pub slot_is : IsFormat slot_field 32
slot_is = shaped_is _ _ _ 32 (slot_number_is then id_is then blockno_is then next_is then slot_length_is) (λ r. refl) (λ x. refl)

-- ---- the size of an object

-- what is read is a value with these parts, and each value that is allowed has parts that are allowed and make it
kept_is : {A B : Type 0} (f : Format A) (most : ℕ) → IsFormat f most → (make : A → B) (parts : B → A) (allows : B → Bool)
    → ((y : B) → allows y ≡ true → make (parts y) ≡ y) → ((x : A) → f.allows x ≡ true → parts (make x) ≡ x)
    → ((y : B) → allows y ≡ true → f.allows (parts y) ≡ true) → ((x : A) → f.allows x ≡ true → allows (make x) ≡ true)
    → IsFormat (record { spell = λ y. f.spell (parts y); allows = allows; read = λ r. made make (f.read r) }) most
kept_is {A} {B} f most is make parts allows there back known allowed = record {
  takes = λ r fits. On-then (λ x. (f.allows x.0 ≡ true) × Took (f.spell x.0) r x.1) (λ y. (allows y.0 ≡ true) × Took (f.spell (parts y.0)) r y.1) (f.read r) (λ x. Ok (make x.0, x.1)) (is.takes r fits)
      (λ x h. (allowed x.0 h.0, subst (λ (z : A). Took (f.spell z) r x.1) (sym (back x.0 h.0)) h.1));
  onward = λ r. On-then (λ x. r.place ≤ x.1.place) (λ y. r.place ≤ y.1.place) (f.read r) (λ x. Ok (make x.0, x.1)) (is.onward r) (λ x h. h);
  within = λ r. Within-then r (f.read r) (λ x. Ok (make x.0, x.1)) (is.within r) (λ x m. stayed x.1);
  again = λ y place room rest h le.
      ap (made make) (is.again (parts y) place room rest (known y h) le)
      ∙ ap (λ (z : B). Ok (z, stand (place + length (f.spell (parts y))) (room - length (f.spell (parts y))) rest)) (there y h);
  more = λ rest r. Goes-then (with_behind rest) (with_behind rest) (f.read r) (f.read (behind rest r)) (λ x. Ok (make x.0, x.1)) (λ x. Ok (make x.0, x.1)) (is.more rest r) (λ x. refl);
  bounded = λ y h. is.bounded (parts y) (known y h);
}

abbrev is_code : ℕ → Bool
is_code n = between 1 10485760 n || eqb n no_size

size_there : (y : Option ℕ) → is_size y ≡ true → size_of_code (size_code y) ≡ y
size_there None h = refl
size_there (Some n) h =
    let most : n ≤ 10485760 = leb-true n 10485760 (and_parts (leb 1 n) (leb n 10485760) h).1 in
    let other : eqb n no_size ≡ false = ne_eqb n no_size (λ e. omega (arith, most, e)) in
    ap (λ (b : Bool). cond b None (Some n)) other

size_back : (n : ℕ) → size_code (size_of_code n) ≡ n
size_back n = cond_has (λ (s : Option ℕ). size_code s ≡ n) (eqb n no_size) None (Some n) (λ yes. sym (eqb-true n no_size yes)) (λ no. refl)

size_known : (y : Option ℕ) → is_size y ≡ true → (ltb (size_code y) (2 ^ 32) && is_code (size_code y)) ≡ true
size_known None h = refl
size_known (Some n) h =
    let most : n ≤ 10485760 = leb-true n 10485760 (and_parts (leb 1 n) (leb n 10485760) h).1 in
    and_from _ _ (lt-ltb n (2 ^ 32) (omega (arith, most))) (or_left (between 1 10485760 n) (eqb n no_size) h)

size_allowed : (n : ℕ) → (ltb n (2 ^ 32) && is_code n) ≡ true → is_size (size_of_code n) ≡ true
size_allowed n h =
    cond_has (λ (s : Option ℕ). is_size s ≡ true) (eqb n no_size) None (Some n) (λ yes. refl)
    (λ no. elim (or_cases (between 1 10485760 n) (eqb n no_size) (and_parts (ltb n (2 ^ 32)) (is_code n) h).1) [
      | inl sized ↦ sized
      | inr none ↦ let clash : true ≡ false = sym none ∙ no in absurd (cc clash)
    ])

object_size_is : IsFormat object_size_field 4
unfolding object_size_field u32_field
object_size_is = kept_is (number w32 is_code) 4 (number32_is is_code) size_of_code size_code is_size size_there (λ n h. size_back n) size_known size_allowed

pub object_is : IsFormat object_field 20
object_is = shaped_is _ _ _ 20 (id_is then count_is then object_size_is) (λ r. refl) (λ x. refl)

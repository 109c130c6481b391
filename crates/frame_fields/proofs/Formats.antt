-- What each format keeps: what is read is spelled so and allowed, what is spelled so is read again, and bytes behind
-- what was read, or behind a fault, change nothing.
use Rattle.std.proofs.Common.{◌≡◌, ℕ, zero, suc, ◌+◌, ◌-◌, ◌^◌, ◌<◌, ◌≤◌, Bool, true, false, ◌&&◌, cond, eqb, ltb, leb, List, [], ◌∷◌, ◌++◌, length, get_or, take, drop, Result, Ok, Err, refl, sym, ap, ap₂, subst, ◌∙◌, append_assoc, arith, inl, inr}
use Rattle.std.specs.Int.{w16, w32, w64, byte_len, from_be_bytes, to_be_bytes}
use Rattle.std.proofs.lemmas.Bool.{cases_lt, ltb-false, ltb-true, lt-ltb, le-ltb, leb-true, eqb-true, eqb-false, eq-eqb, and_from, and_parts}
use Rattle.std.proofs.lemmas.List.{take_at, drop_at, take-append-drop, length-append, length-take, get_or-drop, get_or-take, get_or_past, take-append-le, drop-append-le}
use Rattle.std.proofs.lemmas.Nat.{be_bytes_2, be_bytes_4, be_bytes_8, from_be_bytes-to_be_bytes_2, from_be_bytes-to_be_bytes_4, from_be_bytes-to_be_bytes_8}
use Rattle.frame_fields.specs.declared.fault.FrameFault.{FrameFault}
use Rattle.frame_fields.specs.declared.fault.FrameFault.TheVariants as faults
use Rattle.frame_fields.specs.Format.{Rest, past, ◌>>=◌, Format, front, checked, between, byte, number, counted, ◌▸◌, made, shaped, coded, fixed}
use Rattle.frame_fields.proofs.Within.{cond_has, stand, Within, Within-then, stayed, front_within, checked_within}

abbrev pub IsBytes : List ℕ → Type 0
IsBytes bytes = (i : ℕ) → get_or bytes i 0 < 256

IsBytes-drop : (n : ℕ) (bytes : List ℕ) → IsBytes bytes → IsBytes (drop n bytes)
IsBytes-drop n bytes h i = rw get_or-drop (h (n + i))

IsBytes-take : (n : ℕ) (bytes : List ℕ) → IsBytes bytes → IsBytes (take n bytes)
IsBytes-take n bytes h i =
    elim (cases_lt i n) [
      | inl lt ↦ rw (get_or-take n bytes i 0 lt) (h i)
      | inr le ↦ rw (get_or_past (take n bytes) i 0 (omega (arith, length-take n bytes))) (omega arith)
    ]

-- ---- results, step after step

-- what holds of the value, if there is one
abbrev pub On : {A : Type 0} → (A → Type 0) → Result A FrameFault → Type 0
On P (Ok x) = P x
On P (Err e) = Unit {0}

pub On-then : {A B : Type 0} (P : A → Type 0) (Q : B → Type 0) (x : Result A FrameFault) (k : A → Result B FrameFault) → On P x → ((v : A) → P v → On Q (k v)) → On Q (x >>= k)
On-then P Q (Ok v) k p next = next v p
On-then P Q (Err e) k p next = tt

pub On-map : {A : Type 0} (P Q : A → Type 0) (x : Result A FrameFault) → On P x → ((v : A) → P v → On Q (Ok v)) → On Q x
On-map P Q (Ok v) p next = next v p
On-map P Q (Err e) p next = tt

-- the second result is the first, with its value seen by g, unless bytes were missing
abbrev pub Goes : {A : Type 0} → (A → A) → Result A FrameFault → Result A FrameFault → Type 0
Goes g (Ok x) y = y ≡ Ok (g x)
Goes g (Err faults.Short) y = Unit {0}
Goes g (Err (faults.Bad place)) y = y ≡ Err (faults.Bad place)
Goes g (Err faults.Memory) y = y ≡ Err faults.Memory

pub Goes-then : {A B : Type 0} (g : A → A) (h : B → B) (x y : Result A FrameFault) (k l : A → Result B FrameFault) → Goes g x y → ((v : A) → Goes h (k v) (l (g v))) → Goes h (x >>= k) (y >>= l)
Goes-then g h (Ok v) y k l e next = subst (λ (z : Result _ FrameFault). Goes h (k v) (z >>= l)) (sym e) (next v)
Goes-then g h (Err faults.Short) y k l e next = tt
Goes-then g h (Err (faults.Bad place)) y k l e next = ap (λ (z : Result _ FrameFault). z >>= l) e
Goes-then g h (Err faults.Memory) y k l e next = ap (λ (z : Result _ FrameFault). z >>= l) e

-- ---- readers

-- with more bytes behind
abbrev pub behind : List ℕ → Rest → Rest
behind rest r = record { place = r.place; room = r.room; bytes = r.bytes ++ rest }

abbrev pub with_behind : {A : Type 0} → List ℕ → A × Rest → A × Rest
with_behind rest x = (x.0, behind rest x.1)

-- a reader took this text from the front
pub record Took (text : List ℕ) (r s : Rest) : Type 0 where
  pub parts : r.bytes ≡ text ++ s.bytes
  pub place : s.place ≡ r.place + length text
  pub room : s.room + length text ≡ r.room
  pub fits : IsBytes s.bytes

pub Took-then : (a b : List ℕ) (r s t : Rest) → Took a r s → Took b s t → Took (a ++ b) r t
Took-then a b r s t p q = record {
  parts = p.parts ∙ ap (λ (x : List ℕ). a ++ x) q.parts ∙ sym (append_assoc a b t.bytes);
  place = omega (arith, p.place, q.place, length-append a b);
  room = omega (arith, p.room, q.room, length-append a b);
  fits = q.fits;
}

-- the laws of a format
pub record IsFormat {A : Type 0} (f : Format A) (most : ℕ) : Type 0 where
  pub takes : (r : Rest) → IsBytes r.bytes → On (λ x. (f.allows x.0 ≡ true) × Took (f.spell x.0) r x.1) (f.read r)
  pub onward : (r : Rest) → On (λ x. r.place ≤ x.1.place) (f.read r)
  pub within : (r : Rest) → Within r (f.read r)
  pub again : (x : A) (place room : ℕ) (rest : List ℕ) → f.allows x ≡ true → length (f.spell x) ≤ room
      → f.read (stand place room (f.spell x ++ rest)) ≡ Ok (x, stand (place + length (f.spell x)) (room - length (f.spell x)) rest)
  pub more : (rest : List ℕ) (r : Rest) → Goes (with_behind rest) (f.read r) (f.read (behind rest r))
  pub bounded : (x : A) → f.allows x ≡ true → length (f.spell x) ≤ most

-- ---- so many bytes

front_took : (n : ℕ) (r : Rest) → IsBytes r.bytes → On (λ b. (length b.0 ≡ n) × IsBytes b.0 × Took b.0 r b.1) (front n r)
front_took n r fits =
    let P = λ (b : List ℕ × Rest). (length b.0 ≡ n) × IsBytes b.0 × Took b.0 r b.1 in
    cond_has (On P) (ltb r.room n) (Err (faults.Bad r.place)) (cond (ltb (length r.bytes) n) (Err faults.Short) (Ok (take n r.bytes, past n r))) (λ h. tt)
    (λ h. cond_has (On P) (ltb (length r.bytes) n) (Err faults.Short) (Ok (take n r.bytes, past n r)) (λ k. tt)
    (λ k.
    let roomy : n ≤ r.room = ltb-false _ _ h in
    let long : n ≤ length r.bytes = ltb-false _ _ k in
    let len : length (take n r.bytes) ≡ n = omega (arith, length-take n r.bytes) in
    (len, IsBytes-take n r.bytes fits, record { parts = sym (take-append-drop n r.bytes); place = omega (arith, len); room = omega (arith, len, roomy); fits = IsBytes-drop n r.bytes fits })))

front_onward : (n : ℕ) (r : Rest) → On (λ b. r.place ≤ b.1.place) (front n r)
front_onward n r =
    let P = λ (b : List ℕ × Rest). r.place ≤ b.1.place in
    cond_has (On P) (ltb r.room n) (Err (faults.Bad r.place)) (cond (ltb (length r.bytes) n) (Err faults.Short) (Ok (take n r.bytes, past n r))) (λ h. tt)
    (λ h. cond_has (On P) (ltb (length r.bytes) n) (Err faults.Short) (Ok (take n r.bytes, past n r)) (λ k. tt) (λ k. omega arith))

front_again : (n : ℕ) (text : List ℕ) (place room : ℕ) (rest : List ℕ) → length text ≡ n → n ≤ room → front n (stand place room (text ++ rest)) ≡ Ok (text, stand (place + n) (room - n) rest)
front_again n text place room rest len le =
    let roomy : ltb room n ≡ false = le-ltb _ _ le in
    let long : ltb (length (text ++ rest)) n ≡ false = le-ltb _ _ (omega (arith, length-append text rest)) in
    rw (roomy, long, take_at text rest n len, drop_at text rest n len) refl

front_more : (n : ℕ) (rest : List ℕ) (r : Rest) → Goes (with_behind rest) (front n r) (front n (behind rest r))
front_more n rest r =
    elim (cases_lt r.room n) [
      | inl lt ↦ let small : ltb r.room n ≡ true = lt-ltb _ _ lt in rw small refl
      | inr le ↦ let roomy : ltb r.room n ≡ false = le-ltb _ _ le in
          elim (cases_lt (length r.bytes) n) [
            | inl lt ↦ let short : ltb (length r.bytes) n ≡ true = lt-ltb _ _ lt in rw (roomy, short) tt
            | inr ge ↦
                let long : ltb (length r.bytes) n ≡ false = le-ltb _ _ ge in
                let longer : ltb (length (r.bytes ++ rest)) n ≡ false = le-ltb _ _ (omega (arith, length-append r.bytes rest)) in
                rw (roomy, long, longer, take-append-le n r.bytes rest ge, drop-append-le n r.bytes rest ge) refl
          ]
    ]

-- ---- numbers

-- n bytes that spell a number below the limit
pub record IsWide (n limit : ℕ) (spell : ℕ → List ℕ) (value : List ℕ → ℕ) : Type 0 where
  pub len : (x : ℕ) → length (spell x) ≡ n
  pub back : (bytes : List ℕ) → length bytes ≡ n → IsBytes bytes → spell (value bytes) ≡ bytes
  pub again : (x : ℕ) → x < limit → value (spell x) ≡ x
  pub below : (bytes : List ℕ) → IsBytes bytes → value bytes < limit

abbrev leaf : (n limit : ℕ) → (ℕ → List ℕ) → (List ℕ → ℕ) → (ℕ → Bool) → Format ℕ
leaf n limit spell value allowed = record {
  spell = λ x. spell x;
  allows = λ x. ltb x limit && allowed x;
  read = λ r. front n r >>= λ b. checked (allowed (value b.0)) r.place (value b.0, b.1);
}

checked_more : {A : Type 0} (rest : List ℕ) (allowed : Bool) (place : ℕ) (x : A) (r : Rest) → Goes (with_behind rest) (checked allowed place (x, r)) (checked allowed place (x, behind rest r))
checked_more rest true place x r = refl
checked_more rest false place x r = refl

le_from_eq : (a b : ℕ) → a ≡ b → a ≤ b
le_from_eq a b e = omega arith

leaf_is : (n limit : ℕ) (spell : ℕ → List ℕ) (value : List ℕ → ℕ) (allowed : ℕ → Bool) → IsWide n limit spell value → IsFormat (leaf n limit spell value allowed) n
leaf_is n limit spell value allowed wide = record {
  takes = λ r fits. On-then (λ b. (length b.0 ≡ n) × IsBytes b.0 × Took b.0 r b.1) (λ x. ((ltb x.0 limit && allowed x.0) ≡ true) × Took (spell x.0) r x.1) (front n r) (λ b. checked (allowed (value b.0)) r.place (value b.0, b.1)) (front_took n r fits)
      (λ b h. cond_has (On (λ x. ((ltb x.0 limit && allowed x.0) ≡ true) × Took (spell x.0) r x.1)) (allowed (value b.0)) (Ok (value b.0, b.1)) (Err (faults.Bad r.place))
      (λ yes. (and_from (ltb (value b.0) limit) (allowed (value b.0)) (lt-ltb _ _ (wide.below b.0 h.1)) yes, subst (λ (t : List ℕ). Took t r b.1) (sym (wide.back b.0 h.0 h.1)) h.2))
      (λ no. tt));
  onward = λ r. On-then (λ b. r.place ≤ b.1.place) (λ x. r.place ≤ x.1.place) (front n r) (λ b. checked (allowed (value b.0)) r.place (value b.0, b.1)) (front_onward n r)
      (λ b h. cond_has (On (λ x. r.place ≤ x.1.place)) (allowed (value b.0)) (Ok (value b.0, b.1)) (Err (faults.Bad r.place)) (λ yes. h) (λ no. tt));
  within = λ r. Within-then r (front n r) (λ b. checked (allowed (value b.0)) r.place (value b.0, b.1)) (front_within n r) (λ b m. checked_within r b.1 (allowed (value b.0)) (value b.0) m);
  again = λ x place room rest h le.
      let parts = and_parts (ltb x limit) (allowed x) h in
      let len : length (spell x) ≡ n = wide.len x in
      let value-is : value (spell x) ≡ x = wide.again x (ltb-true _ _ parts.0) in
      let yes : allowed x ≡ true = parts.1 in
      rw (front_again n (spell x) place room rest len (omega (arith, len, le)), value-is, yes, len) refl;
  more = λ rest r. Goes-then (with_behind rest) (with_behind rest) (front n r) (front n (behind rest r)) (λ b. checked (allowed (value b.0)) r.place (value b.0, b.1)) (λ b. checked (allowed (value b.0)) r.place (value b.0, b.1)) (front_more n rest r)
      (λ b. checked_more rest (allowed (value b.0)) r.place (value b.0) b.1);
  bounded = λ x h. le_from_eq (length (spell x)) n (wide.len x);
}

byte_back : (bytes : List ℕ) → length bytes ≡ 1 → IsBytes bytes → get_or bytes 0 0 ∷ [] ≡ bytes
byte_back [] len fits = absurd (omega arith)
byte_back (b ∷ []) len fits = refl
byte_back (b ∷ c ∷ bytes) len fits = absurd (omega arith)

byte_wide : IsWide 1 256 (λ n. n ∷ []) (λ b. get_or b 0 0)
byte_wide = record {
  len = λ x. refl;
  back = byte_back;
  again = λ x lt. refl;
  below = λ bytes fits. fits 0;
}

wide16 : IsWide (byte_len w16) (2 ^ 16) (to_be_bytes w16) (from_be_bytes w16)
wide16 = record {
  len = λ n. refl;
  back = λ bytes len fits. be_bytes_2 bytes _ len fits refl;
  again = λ n lt. from_be_bytes-to_be_bytes_2 n lt;
  below = λ bytes fits. omega (arith, fits 0, fits 1);
}

wide32 : IsWide (byte_len w32) (2 ^ 32) (to_be_bytes w32) (from_be_bytes w32)
wide32 = record {
  len = λ n. refl;
  back = λ bytes len fits. be_bytes_4 bytes _ len fits refl;
  again = λ n lt. from_be_bytes-to_be_bytes_4 n lt;
  below = λ bytes fits. omega (arith, fits 0, fits 1, fits 2, fits 3);
}

wide64 : IsWide (byte_len w64) (2 ^ 64) (to_be_bytes w64) (from_be_bytes w64)
wide64 = record {
  len = λ n. refl;
  back = λ bytes len fits. be_bytes_8 bytes _ len fits refl;
  again = λ n lt. from_be_bytes-to_be_bytes_8 n lt;
  below = λ bytes fits. omega (arith, fits 0, fits 1, fits 2, fits 3, fits 4, fits 5, fits 6, fits 7);
}

pub byte_is : (allowed : ℕ → Bool) → IsFormat (byte allowed) 1
byte_is allowed = leaf_is 1 256 (λ n. n ∷ []) (λ b. get_or b 0 0) allowed byte_wide

pub number16_is : (allowed : ℕ → Bool) → IsFormat (number w16 allowed) 2
number16_is allowed = leaf_is (byte_len w16) (2 ^ 16) (to_be_bytes w16) (from_be_bytes w16) allowed wide16

pub number32_is : (allowed : ℕ → Bool) → IsFormat (number w32 allowed) 4
number32_is allowed = leaf_is (byte_len w32) (2 ^ 32) (to_be_bytes w32) (from_be_bytes w32) allowed wide32

pub number64_is : (allowed : ℕ → Bool) → IsFormat (number w64 allowed) 8
number64_is allowed = leaf_is (byte_len w64) (2 ^ 64) (to_be_bytes w64) (from_be_bytes w64) allowed wide64

-- ---- a length, and so many bytes

pub counted_is : (size : Format ℕ) (most longest : ℕ) → IsFormat size most → ((n : ℕ) → size.allows n ≡ true → n ≤ longest) → IsFormat (counted size) (most + longest)
counted_is size most longest is limit = record {
  takes = λ r fits. On-then (λ n. (size.allows n.0 ≡ true) × Took (size.spell n.0) r n.1) (λ x. (size.allows (length x.0) ≡ true) × Took (size.spell (length x.0) ++ x.0) r x.1) (size.read r) (λ n. front n.0 n.1) (is.takes r fits)
      (λ n h. On-map (λ b. (length b.0 ≡ n.0) × IsBytes b.0 × Took b.0 n.1 b.1) (λ x. (size.allows (length x.0) ≡ true) × Took (size.spell (length x.0) ++ x.0) r x.1) (front n.0 n.1) (front_took n.0 n.1 h.1.fits)
      (λ b k. subst (λ (m : ℕ). (size.allows m ≡ true) × Took (size.spell m ++ b.0) r b.1) (sym k.0) (h.0, Took-then (size.spell n.0) b.0 r n.1 b.1 h.1 k.2)));
  onward = λ r. On-then (λ n. r.place ≤ n.1.place) (λ x. r.place ≤ x.1.place) (size.read r) (λ n. front n.0 n.1) (is.onward r)
      (λ n h. On-map (λ b. n.1.place ≤ b.1.place) (λ x. r.place ≤ x.1.place) (front n.0 n.1) (front_onward n.0 n.1) (λ b k. omega (arith, h, k)));
  within = λ r. Within-then r (size.read r) (λ n. front n.0 n.1) (is.within r) (λ n m. front_within n.0 n.1);
  again = λ x place room rest h le.
      let s = size.spell (length x) in
      let len : length (s ++ x) ≡ length s + length x = length-append s x in
      let one : size.read (stand place room ((s ++ x) ++ rest)) ≡ Ok (length x, stand (place + length s) (room - length s) (x ++ rest)) =
      ap (λ (b : List ℕ). size.read (stand place room b)) (append_assoc s x rest) ∙ is.again (length x) place room (x ++ rest) h (omega (arith, len, le)) in
      let two : front (length x) (stand (place + length s) (room - length s) (x ++ rest)) ≡ Ok (x, stand (place + length s + length x) (room - length s - length x) rest) =
      front_again (length x) x (place + length s) (room - length s) rest refl (omega (arith, len, le)) in
      let places : place + length s + length x ≡ place + length (s ++ x) = omega (arith, len) in
      let rooms : room - length s - length x ≡ room - length (s ++ x) = omega (arith, len) in
      rw one (two ∙ ap₂ (λ (p q : ℕ). Ok (x, stand p q rest)) places rooms);
  more = λ rest r. Goes-then (with_behind rest) (with_behind rest) (size.read r) (size.read (behind rest r)) (λ n. front n.0 n.1) (λ n. front n.0 n.1) (is.more rest r) (λ n. front_more n.0 rest n.1);
  bounded = λ x h. let a = is.bounded (length x) h in let b = limit (length x) h in omega (arith, a, b, length-append (size.spell (length x)) x);
}

-- ---- one behind the other

pub then_is : {A B : Type 0} (f : Format A) (g : Format B) (m n : ℕ) → IsFormat f m → IsFormat g n → IsFormat (f ▸ g) (m + n)
then_is {A} {B} f g m n p q = record {
  takes = λ r fits. On-then (λ x. (f.allows x.0 ≡ true) × Took (f.spell x.0) r x.1) (λ z. ((f.allows z.0.0 && g.allows z.0.1) ≡ true) × Took (f.spell z.0.0 ++ g.spell z.0.1) r z.1) (f.read r) (λ x. g.read x.1 >>= λ y. Ok ((x.0, y.0), y.1)) (p.takes r fits)
      (λ x h. On-then (λ y. (g.allows y.0 ≡ true) × Took (g.spell y.0) x.1 y.1) (λ z. ((f.allows z.0.0 && g.allows z.0.1) ≡ true) × Took (f.spell z.0.0 ++ g.spell z.0.1) r z.1) (g.read x.1) (λ y. Ok ((x.0, y.0), y.1)) (q.takes x.1 h.1.fits)
      (λ y k. (and_from _ _ h.0 k.0, Took-then (f.spell x.0) (g.spell y.0) r x.1 y.1 h.1 k.1)));
  onward = λ r. On-then (λ x. r.place ≤ x.1.place) (λ z. r.place ≤ z.1.place) (f.read r) (λ x. g.read x.1 >>= λ y. Ok ((x.0, y.0), y.1)) (p.onward r)
      (λ x h. On-then (λ y. x.1.place ≤ y.1.place) (λ z. r.place ≤ z.1.place) (g.read x.1) (λ y. Ok ((x.0, y.0), y.1)) (q.onward x.1) (λ y k. omega (arith, h, k)));
  within = λ r. Within-then r (f.read r) (λ x. g.read x.1 >>= λ y. Ok ((x.0, y.0), y.1)) (p.within r) (λ x m. Within-then x.1 (g.read x.1) (λ y. Ok ((x.0, y.0), y.1)) (q.within x.1) (λ y n. stayed y.1));
  again = λ x place room rest h le.
      let allowed = and_parts (f.allows x.0) (g.allows x.1) h in
      let s = f.spell x.0 in
      let t = g.spell x.1 in
      let len : length (s ++ t) ≡ length s + length t = length-append s t in
      let one : f.read (stand place room ((s ++ t) ++ rest)) ≡ Ok (x.0, stand (place + length s) (room - length s) (t ++ rest)) =
      ap (λ (b : List ℕ). f.read (stand place room b)) (append_assoc s t rest) ∙ p.again x.0 place room (t ++ rest) allowed.0 (omega (arith, len, le)) in
      let two : g.read (stand (place + length s) (room - length s) (t ++ rest)) ≡ Ok (x.1, stand (place + length s + length t) (room - length s - length t) rest) =
      q.again x.1 (place + length s) (room - length s) rest allowed.1 (omega (arith, len, le)) in
      let places : place + length s + length t ≡ place + length (s ++ t) = omega (arith, len) in
      let rooms : room - length s - length t ≡ room - length (s ++ t) = omega (arith, len) in
      rw (one, two) (ap₂ (λ (p q : ℕ). Ok ((x.0, x.1), stand p q rest)) places rooms);
  more = λ rest r. Goes-then (with_behind rest) (with_behind rest) (f.read r) (f.read (behind rest r)) (λ x. g.read x.1 >>= λ y. Ok ((x.0, y.0), y.1)) (λ x. g.read x.1 >>= λ y. Ok ((x.0, y.0), y.1)) (p.more rest r)
      (λ x. Goes-then (with_behind rest) (with_behind rest) (g.read x.1) (g.read (behind rest x.1)) (λ y. Ok ((x.0, y.0), y.1)) (λ y. Ok ((x.0, y.0), y.1)) (q.more rest x.1) (λ y. refl));
  bounded = λ x h.
      let allowed = and_parts (f.allows x.0) (g.allows x.1) h in
      let a = p.bounded x.0 allowed.0 in
      let b = q.bounded x.1 allowed.1 in
      omega (arith, a, b, length-append (f.spell x.0) (g.spell x.1));
}

-- ---- values made of parts

-- the parts are read and made a value, which has these parts again
pub seen_is : {A B : Type 0} (f : Format A) (most : ℕ) → IsFormat f most → (make : A → B) (parts : B → A) (allows : B → Bool) → ((y : B) → make (parts y) ≡ y) → ((x : A) → f.allows x ≡ true → parts (make x) ≡ x)
    → ((y : B) → allows y ≡ true → f.allows (parts y) ≡ true) → ((x : A) → f.allows x ≡ true → allows (make x) ≡ true) → IsFormat (record { spell = λ y. f.spell (parts y); allows = allows; read = λ r. made make (f.read r) }) most
seen_is {A} {B} f most is make parts allows there back known allowed = record {
  takes = λ r fits. On-then (λ x. (f.allows x.0 ≡ true) × Took (f.spell x.0) r x.1) (λ y. (allows y.0 ≡ true) × Took (f.spell (parts y.0)) r y.1) (f.read r) (λ x. Ok (make x.0, x.1)) (is.takes r fits)
      (λ x h. (allowed x.0 h.0, subst (λ (z : A). Took (f.spell z) r x.1) (sym (back x.0 h.0)) h.1));
  onward = λ r. On-then (λ x. r.place ≤ x.1.place) (λ y. r.place ≤ y.1.place) (f.read r) (λ x. Ok (make x.0, x.1)) (is.onward r) (λ x h. h);
  within = λ r. Within-then r (f.read r) (λ x. Ok (make x.0, x.1)) (is.within r) (λ x m. stayed x.1);
  again = λ y place room rest h le.
      ap (made make) (is.again (parts y) place room rest (known y h) le)
      ∙ ap (λ (z : B). Ok (z, stand (place + length (f.spell (parts y))) (room - length (f.spell (parts y))) rest)) (there y);
  more = λ rest r. Goes-then (with_behind rest) (with_behind rest) (f.read r) (f.read (behind rest r)) (λ x. Ok (make x.0, x.1)) (λ x. Ok (make x.0, x.1)) (is.more rest r) (λ x. refl);
  bounded = λ y h. is.bounded (parts y) (known y h);
}

pub shaped_is : {A B : Type 0} (make : A → B) (parts : B → A) (f : Format A) (most : ℕ) → IsFormat f most → ((y : B) → make (parts y) ≡ y) → ((x : A) → parts (make x) ≡ x) → IsFormat (shaped make parts f) most
shaped_is make parts f most is there back = seen_is f most is make parts (λ y. f.allows (parts y)) there (λ x h. back x) (λ y h. h) (λ x h. ap (λ z. f.allows z) (back x) ∙ h)

pub coded_is : {T : Type 0} (known : ℕ → Bool) (value : ℕ → T) (code : T → ℕ) → ((x : T) → value (code x) ≡ x) → ((x : T) → (ltb (code x) 256 && known (code x)) ≡ true) → ((c : ℕ) → known c ≡ true → code (value c) ≡ c) → IsFormat (coded known value code) 1
coded_is known value code there inside back =
    seen_is (byte known) 1 (byte_is known) value code (λ x. true) there (λ c h. back c (and_parts (ltb c 256) (known c) h).1) (λ x h. inside x) (λ c h. refl)

-- a test of so many numbers in a row
abbrev pub all_from : (ℕ → Bool) → ℕ → ℕ → Bool
all_from test low zero = true
all_from test low (suc count) = test low && all_from test (low + 1) count

passes_at : (test : ℕ → Bool) (low count : ℕ) → all_from test low count ≡ true → (c : ℕ) → low ≤ c → c < low + count → test c ≡ true
passes_at test low zero all c le lt = absurd (omega (arith, le, lt))
passes_at test low (suc count) all c le lt = by_case (passes_at test (low + 1) count (and_parts (test low) (all_from test (low + 1) count) all).1 c) (eqb c low) refl
  where
    by_case : (low + 1 ≤ c → c < (low + 1) + count → test c ≡ true) → (b : Bool) → eqb c low ≡ b → test c ≡ true
    by_case rest true here = subst (λ k. test k ≡ true) (sym (eqb-true c low here)) (and_parts (test low) (all_from test (low + 1) count) all).0
    by_case rest false other = let apart : c ≡ low → ⊥ = eqb-false c low other in rest (omega (arith, le, apart)) (omega (arith, lt))

-- a value has a code from low to high, a byte, and comes back from it
abbrev pub ComesBack : {T : Type 0} → ℕ → ℕ → (ℕ → T) → (T → ℕ) → T → Type 0
ComesBack low high value code x = (value (code x) ≡ x) × ((ltb (code x) 256 && between low high (code x)) ≡ true)

-- a value whose codes are all numbers from low to high
pub numbered_is : {T : Type 0} (low high : ℕ) (value : ℕ → T) (code : T → ℕ) → ((x : T) → ComesBack low high value code x)
    → all_from (λ c. eqb (code (value c)) c) low (high + 1 - low) ≡ true → IsFormat (coded (between low high) value code) 1
numbered_is low high value code each back =
    coded_is (between low high) value code (λ x. (each x).0) (λ x. (each x).1) (λ c h.
    let parts = and_parts (leb low c) (leb c high) h in
    let le : low ≤ c = leb-true low c parts.0 in
    let most : c ≤ high = leb-true c high parts.1 in
    eqb-true (code (value c)) c (passes_at (λ k. eqb (code (value k)) k) low (high + 1 - low) back c le (omega (arith, le, most))))

-- ---- so many bytes, whose number is not told

pub fixed_is : (n : ℕ) → IsFormat (fixed n) n
fixed_is n = record {
  takes = λ r fits. On-map (λ b. (length b.0 ≡ n) × IsBytes b.0 × Took b.0 r b.1) (λ x. (eqb (length x.0) n ≡ true) × Took x.0 r x.1) (front n r) (front_took n r fits) (λ b h. (eq-eqb (length b.0) n h.0, h.2));
  onward = λ r. front_onward n r;
  within = λ r. front_within n r;
  again = λ x place room rest h le.
      let len : length x ≡ n = eqb-true (length x) n h in
      front_again n x place room rest len (omega (arith, len, le)) ∙ ap (λ (k : ℕ). Ok (x, stand (place + k) (room - k) rest)) (sym len);
  more = λ rest r. front_more n rest r;
  bounded = λ x h. le_from_eq (length x) n (eqb-true (length x) n h);
}

-- ---- no fields, and fields in a row by their laws

-- no fields
abbrev pub nothing : Format (Unit {0})
nothing = record { spell = λ x. []; allows = λ x. true; read = λ r. Ok (tt, r) }

pub plus_none : (n : ℕ) → n ≡ n + 0
plus_none n = omega arith

pub minus_none : (n : ℕ) → n ≡ n - 0
minus_none n = omega arith

pub nothing_is : IsFormat nothing 0
nothing_is = record {
  takes = λ r fits. (refl, record { parts = refl; place = omega arith; room = omega arith; fits = fits });
  onward = λ r. omega arith;
  within = λ r. stayed r;
  again = λ x place room rest h le. ap₂ (λ (p q : ℕ). Ok (tt, stand p q rest)) (plus_none place) (minus_none room);
  more = λ rest r. refl;
  bounded = λ x h. omega arith;
}

infixr 12 ◌then◌
abbrev pub ◌then◌ : {A B : Type 0} {f : Format A} {g : Format B} {m n : ℕ} → IsFormat f m → IsFormat g n → IsFormat (f ▸ g) (m + n)
p then q = then_is _ _ _ _ p q

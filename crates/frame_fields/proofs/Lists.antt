-- The laws of several values in a row.
use Rattle.std.proofs.Common.{◌≡◌, ℕ, zero, suc, ◌+◌, ◌-◌, ◌*◌, ◌<◌, ◌≤◌, Bool, true, ◌&&◌, List, [], ◌∷◌, ◌++◌, length, flat_map, Result, Ok, Err, refl, sym, ap, ap₂, subst, ◌∙◌, append_assoc, arith}
use Rattle.std.specs.List.{list_all}
use Rattle.std.proofs.Math.Nat.{mul-le-mul_right}
use Rattle.std.proofs.lemmas.Bool.{and_parts, and_from}
use Rattle.std.proofs.lemmas.List.{append-nil, length-append}
use Rattle.frame_fields.specs.declared.fault.FrameFault.{FrameFault}
use Rattle.frame_fields.specs.declared.fault.FrameFault.TheVariants as faults
use Rattle.frame_fields.specs.Format.{Rest, ◌>>=◌, Format, items_of, listed, Fails}
use Rattle.frame_fields.proofs.Within.{stand, Within, Within-then, stayed}
use Rattle.frame_fields.proofs.Formats.{IsBytes, On, On-then, On-map, Goes, Goes-then, behind, with_behind, Took, Took-then, IsFormat, plus_none, minus_none}

-- n values were taken
record ItemsTook {A : Type 0} (f : Format A) (n : ℕ) (r : Rest) (x : List A × Rest) : Type 0 where
  len : length x.0 ≡ n
  allowed : list_all f.allows x.0 ≡ true
  took : Took (flat_map f.spell x.0) r x.1

items_take : {A : Type 0} (f : Format A) (most : ℕ) → IsFormat f most → (n : ℕ) (r : Rest) → IsBytes r.bytes → On (ItemsTook f n r) (items_of f n r)
unfolding items_of
items_take f most is zero r fits = record { len = refl; allowed = refl; took = record { parts = refl; place = omega arith; room = omega arith; fits = fits } }
items_take f most is (suc n) r fits =
    On-then (λ x. (f.allows x.0 ≡ true) × Took (f.spell x.0) r x.1) (ItemsTook f (suc n) r) (f.read r) (λ x. items_of f n x.1 >>= λ xs. Ok (x.0 ∷ xs.0, xs.1)) (is.takes r fits)
    (λ x h. On-then (ItemsTook f n x.1) (ItemsTook f (suc n) r) (items_of f n x.1) (λ xs. Ok (x.0 ∷ xs.0, xs.1)) (items_take f most is n x.1 h.1.fits)
    (λ xs k. record { len = ap suc k.len; allowed = and_from _ _ h.0 k.allowed; took = Took-then (f.spell x.0) (flat_map f.spell xs.0) r x.1 xs.1 h.1 k.took }))

items_onward : {A : Type 0} (f : Format A) (most : ℕ) → IsFormat f most → (n : ℕ) (r : Rest) → On (λ x. r.place ≤ x.1.place) (items_of f n r)
unfolding items_of
items_onward f most is zero r = omega arith
items_onward f most is (suc n) r =
    On-then (λ x. r.place ≤ x.1.place) (λ xs. r.place ≤ xs.1.place) (f.read r) (λ x. items_of f n x.1 >>= λ xs. Ok (x.0 ∷ xs.0, xs.1)) (is.onward r)
    (λ x h. On-then (λ xs. x.1.place ≤ xs.1.place) (λ xs. r.place ≤ xs.1.place) (items_of f n x.1) (λ xs. Ok (x.0 ∷ xs.0, xs.1)) (items_onward f most is n x.1) (λ xs k. omega (arith, h, k)))

items_within : {A : Type 0} (f : Format A) (most : ℕ) → IsFormat f most → (n : ℕ) (r : Rest) → Within r (items_of f n r)
unfolding items_of
items_within f most is zero r = stayed r
items_within f most is (suc n) r =
    Within-then r (f.read r) (λ x. items_of f n x.1 >>= λ xs. Ok (x.0 ∷ xs.0, xs.1)) (is.within r)
    (λ x m. Within-then x.1 (items_of f n x.1) (λ xs. Ok (x.0 ∷ xs.0, xs.1)) (items_within f most is n x.1) (λ xs k. stayed xs.1))

items_again : {A : Type 0} (f : Format A) (most : ℕ) → IsFormat f most → (xs : List A) (place room : ℕ) (rest : List ℕ) → list_all f.allows xs ≡ true → length (flat_map f.spell xs) ≤ room
    → items_of f (length xs) (stand place room (flat_map f.spell xs ++ rest)) ≡ Ok (xs, stand (place + length (flat_map f.spell xs)) (room - length (flat_map f.spell xs)) rest)
unfolding items_of
items_again f most is [] place room rest h le = ap₂ (λ (p q : ℕ). Ok ([], stand p q rest)) (plus_none place) (minus_none room)
items_again {A} f most is (x ∷ xs) place room rest h le =
    let allowed = and_parts (f.allows x) (list_all f.allows xs) h in
    let s = f.spell x in
    let t = flat_map f.spell xs in
    let len : length (s ++ t) ≡ length s + length t = length-append s t in
    let one : f.read (stand place room ((s ++ t) ++ rest)) ≡ Ok (x, stand (place + length s) (room - length s) (t ++ rest)) =
    ap (λ (b : List ℕ). f.read (stand place room b)) (append_assoc s t rest) ∙ is.again x place room (t ++ rest) allowed.0 (omega (arith, len, le)) in
    let two : items_of f (length xs) (stand (place + length s) (room - length s) (t ++ rest)) ≡ Ok (xs, stand (place + length s + length t) (room - length s - length t) rest) =
    items_again f most is xs (place + length s) (room - length s) rest allowed.1 (omega (arith, len, le)) in
    let places : place + length s + length t ≡ place + length (s ++ t) = omega (arith, len) in
    let rooms : room - length s - length t ≡ room - length (s ++ t) = omega (arith, len) in
    ap (λ (z : Result (A × Rest) FrameFault). z >>= λ x. items_of f (length xs) x.1 >>= λ ys. Ok (x.0 ∷ ys.0, ys.1)) one
    ∙ ap (λ (z : Result (List A × Rest) FrameFault). z >>= λ ys. Ok (x ∷ ys.0, ys.1)) two
    ∙ ap₂ (λ (p q : ℕ). Ok (x ∷ xs, stand p q rest)) places rooms

items_more : {A : Type 0} (f : Format A) (most : ℕ) → IsFormat f most → (n : ℕ) (rest : List ℕ) (r : Rest) → Goes (with_behind rest) (items_of f n r) (items_of f n (behind rest r))
unfolding items_of
items_more f most is zero rest r = refl
items_more f most is (suc n) rest r =
    Goes-then (with_behind rest) (with_behind rest) (f.read r) (f.read (behind rest r)) (λ x. items_of f n x.1 >>= λ xs. Ok (x.0 ∷ xs.0, xs.1)) (λ x. items_of f n x.1 >>= λ xs. Ok (x.0 ∷ xs.0, xs.1)) (is.more rest r)
    (λ x. Goes-then (with_behind rest) (with_behind rest) (items_of f n x.1) (items_of f n (behind rest x.1)) (λ xs. Ok (x.0 ∷ xs.0, xs.1)) (λ xs. Ok (x.0 ∷ xs.0, xs.1)) (items_more f most is n rest x.1) (λ xs. refl))

next_times : (n most : ℕ) → suc n * most ≡ most + n * most
next_times n most = omega arith

-- the lengths of pieces, each of at most so many bytes
pub pieces_length : {X : Type 0} (most : ℕ) (f : X → List ℕ) (ok : X → Bool) → ((x : X) → ok x ≡ true → length (f x) ≤ most) → (xs : List X) → list_all ok xs ≡ true → length (flat_map f xs) ≤ length xs * most
pieces_length most f ok short [] h = omega arith
pieces_length most f ok short (x ∷ xs) h =
    let parts = and_parts (ok x) (list_all ok xs) h in
    let one = short x parts.0 in
    let others = pieces_length most f ok short xs parts.1 in
    omega (arith, one, others, length-append (f x) (flat_map f xs), next_times (length xs) most)

pub listed_is : {A : Type 0} (size : Format ℕ) (f : Format A) (m count most : ℕ) → IsFormat size m → ((n : ℕ) → size.allows n ≡ true → n ≤ count) → IsFormat f most → IsFormat (listed size f) (m + count * most)
listed_is {A} size f m count most sized limit is = record {
  takes = λ r fits. On-then (λ n. (size.allows n.0 ≡ true) × Took (size.spell n.0) r n.1) (λ x. ((size.allows (length x.0) && list_all f.allows x.0) ≡ true) × Took (size.spell (length x.0) ++ flat_map f.spell x.0) r x.1) (size.read r) (λ n. items_of f n.0 n.1) (sized.takes r fits)
      (λ n h. On-map (ItemsTook f n.0 n.1) (λ x. ((size.allows (length x.0) && list_all f.allows x.0) ≡ true) × Took (size.spell (length x.0) ++ flat_map f.spell x.0) r x.1) (items_of f n.0 n.1) (items_take f most is n.0 n.1 h.1.fits)
      (λ xs k. subst (λ (len : ℕ). ((size.allows len && list_all f.allows xs.0) ≡ true) × Took (size.spell len ++ flat_map f.spell xs.0) r xs.1) (sym k.len) (and_from _ _ h.0 k.allowed, Took-then (size.spell n.0) (flat_map f.spell xs.0) r n.1 xs.1 h.1 k.took)));
  onward = λ r. On-then (λ n. r.place ≤ n.1.place) (λ x. r.place ≤ x.1.place) (size.read r) (λ n. items_of f n.0 n.1) (sized.onward r)
      (λ n h. On-map (λ x. n.1.place ≤ x.1.place) (λ x. r.place ≤ x.1.place) (items_of f n.0 n.1) (items_onward f most is n.0 n.1) (λ x k. omega (arith, h, k)));
  within = λ r. Within-then r (size.read r) (λ n. items_of f n.0 n.1) (sized.within r) (λ n k. items_within f most is n.0 n.1);
  again = λ xs place room rest h le.
      let allowed = and_parts (size.allows (length xs)) (list_all f.allows xs) h in
      let s = size.spell (length xs) in
      let t = flat_map f.spell xs in
      let len : length (s ++ t) ≡ length s + length t = length-append s t in
      let one : size.read (stand place room ((s ++ t) ++ rest)) ≡ Ok (length xs, stand (place + length s) (room - length s) (t ++ rest)) =
      ap (λ (b : List ℕ). size.read (stand place room b)) (append_assoc s t rest) ∙ sized.again (length xs) place room (t ++ rest) allowed.0 (omega (arith, len, le)) in
      let two : items_of f (length xs) (stand (place + length s) (room - length s) (t ++ rest)) ≡ Ok (xs, stand (place + length s + length t) (room - length s - length t) rest) =
      items_again f most is xs (place + length s) (room - length s) rest allowed.1 (omega (arith, len, le)) in
      let places : place + length s + length t ≡ place + length (s ++ t) = omega (arith, len) in
      let rooms : room - length s - length t ≡ room - length (s ++ t) = omega (arith, len) in
      ap (λ (z : Result (ℕ × Rest) FrameFault). z >>= λ n. items_of f n.0 n.1) one ∙ two ∙ ap₂ (λ (p q : ℕ). Ok (xs, stand p q rest)) places rooms;
  more = λ rest r. Goes-then (with_behind rest) (with_behind rest) (size.read r) (size.read (behind rest r)) (λ n. items_of f n.0 n.1) (λ n. items_of f n.0 n.1) (sized.more rest r) (λ n. items_more f most is n.0 rest n.1);
  bounded = λ xs h.
      let allowed = and_parts (size.allows (length xs)) (list_all f.allows xs) h in
      let a = sized.bounded (length xs) allowed.0 in
      let b = pieces_length most f.spell f.allows is.bounded xs allowed.1 in
      let c = mul-le-mul_right most (limit (length xs) allowed.0) in
      omega (arith, a, b, c, length-append (size.spell (length xs)) (flat_map f.spell xs));
}

-- ---- a loop that reads one value after the other

-- what was read so far, before the others
abbrev pub with_others : {A : Type 0} → List A → Result (List A × Rest) FrameFault → Result (List A × Rest) FrameFault
with_others done others = others >>= λ xs. Ok (done ++ xs.0, xs.1)

with_none : {A : Type 0} (others : Result (List A × Rest) FrameFault) → others ≡ with_others [] others
with_none (Ok xs) = refl
with_none (Err e) = refl

pub items_begin : {A : Type 0} (f : Format A) (count : ℕ) (r : Rest) → items_of f count r ≡ with_others [] (items_of f (count - 0) r)
items_begin f count r = with_none (items_of f count r) ∙ ap (λ (n : ℕ). with_others [] (items_of f n r)) (minus_none count)

one_more : {A : Type 0} (done : List A) (x : A) (others : Result (List A × Rest) FrameFault) → with_others done (others >>= λ xs. Ok (x ∷ xs.0, xs.1)) ≡ with_others (done ++ x ∷ []) others
one_more done x (Ok xs) = ap (λ (ys : List _). Ok (ys, xs.1)) (sym (append_assoc done (x ∷ []) xs.0))
one_more done x (Err e) = refl

-- the values that are left, the next one first
abbrev item_first : {A : Type 0} → Format A → ℕ → Result (A × Rest) FrameFault → Result (List A × Rest) FrameFault
item_first f n read = read >>= λ x. items_of f n x.1 >>= λ xs. Ok (x.0 ∷ xs.0, xs.1)

items_left : {A : Type 0} (f : Format A) (count i : ℕ) (r : Rest) → i < count → items_of f (count - i) r ≡ item_first f (count - (i + 1)) (f.read r)
unfolding items_of
items_left f count i r lt =
    let left : count - i ≡ suc (count - (i + 1)) = omega arith in
    ap (λ (n : ℕ). items_of f n r) left

pub items_next : {A : Type 0} (f : Format A) (done : List A) (count i : ℕ) (r s : Rest) (x : A) (whole : Result (List A × Rest) FrameFault) → whole ≡ with_others done (items_of f (count - i) r) → i < count → f.read r ≡ Ok (x, s)
    → whole ≡ with_others (done ++ x ∷ []) (items_of f (count - (i + 1)) s)
items_next f done count i r s x whole so_far lt read =
    so_far ∙ ap (with_others done) (items_left f count i r lt ∙ ap (item_first f (count - (i + 1))) read) ∙ one_more done x (items_of f (count - (i + 1)) s)

fails_all : {A : Type 0} (f : Format A) (done : List A) (n : ℕ) (e : FrameFault) (read : Result (A × Rest) FrameFault) → Fails e read → Fails e (with_others done (item_first f n read))
fails_all f done n faults.Memory read h = tt
fails_all f done n faults.Short read h = ap (λ z. with_others done (item_first f n z)) h
fails_all f done n (faults.Bad place) read h = ap (λ z. with_others done (item_first f n z)) h

pub items_fail : {A : Type 0} (f : Format A) (done : List A) (count i : ℕ) (r : Rest) (e : FrameFault) (whole : Result (List A × Rest) FrameFault) → whole ≡ with_others done (items_of f (count - i) r) → i < count → Fails e (f.read r) → Fails e whole
items_fail f done count i r e whole so_far lt h =
    subst (Fails e) (sym (so_far ∙ ap (with_others done) (items_left f count i r lt))) (fails_all f done (count - (i + 1)) e (f.read r) h)

none_left : {A : Type 0} (f : Format A) (count i : ℕ) (r : Rest) → count ≤ i → items_of f (count - i) r ≡ Ok ([], r)
unfolding items_of
none_left f count i r le = let none : count - i ≡ 0 = omega arith in ap (λ (n : ℕ). items_of f n r) none

pub items_end : {A : Type 0} (f : Format A) (done : List A) (count i : ℕ) (r : Rest) (whole : Result (List A × Rest) FrameFault) → whole ≡ with_others done (items_of f (count - i) r) → count ≤ i → whole ≡ Ok (done, r)
items_end f done count i r whole so_far le =
    so_far ∙ ap (with_others done) (none_left f count i r le) ∙ ap (λ (ys : List _). Ok (ys, r)) (append-nil done)

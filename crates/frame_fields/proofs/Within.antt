-- How far a reading can go: bytes are missing only where they end before the frame does, and a field outside its rule begins
-- at most at the frame's end.
use Rattle.std.proofs.Common.{◌≡◌, ℕ, ◌+◌, ◌<◌, ◌≤◌, Bool, true, false, cond, ltb, List, length, take, Result, Ok, Err, refl, arith}
use Rattle.std.proofs.lemmas.Bool.{ltb-false, ltb-true}
use Rattle.std.proofs.lemmas.List.{length-drop}
use Rattle.frame_fields.specs.declared.fault.FrameFault.{FrameFault}
use Rattle.frame_fields.specs.declared.fault.FrameFault.TheVariants as faults
use Rattle.frame_fields.specs.Format.{Rest, past, ◌>>=◌, front, checked}

-- by cases on a test
pub cond_has : {A : Type 0} (P : A → Type 0) (b : Bool) (x y : A) → (b ≡ true → P x) → (b ≡ false → P y) → P (cond b x y)
cond_has P true x y p q = p refl
cond_has P false x y p q = q refl

abbrev pub stand : ℕ → ℕ → List ℕ → Rest
stand place room bytes = record { place = place; room = room; bytes = bytes }

-- the frame's end stayed where it is, and the bytes went with the room
pub record Moved (r s : Rest) : Type 0 where
  pub place : s.place + s.room ≡ r.place + r.room
  pub bytes : length s.bytes + r.room ≡ length r.bytes + s.room

abbrev pub Within : {A : Type 0} → Rest → Result (A × Rest) FrameFault → Type 0
Within r (Ok x) = Moved r x.1
Within r (Err faults.Short) = length r.bytes < r.room
Within r (Err (faults.Bad place)) = place ≤ r.place + r.room
Within r (Err faults.Memory) = Unit {0}

pub stayed : (r : Rest) → Moved r r
stayed r = record { place = refl; bytes = refl }

carry : {A : Type 0} (r s : Rest) (y : Result (A × Rest) FrameFault) → Moved r s → Within s y → Within r y
carry r s (Ok x) m h = record { place = omega (arith, m.place, h.place); bytes = omega (arith, m.bytes, h.bytes) }
carry r s (Err faults.Short) m h = omega (arith, m.bytes, h)
carry r s (Err (faults.Bad place)) m h = omega (arith, m.place, h)
carry r s (Err faults.Memory) m h = tt

pub Within-then : {A B : Type 0} (r : Rest) (x : Result (A × Rest) FrameFault) (k : A × Rest → Result (B × Rest) FrameFault) → Within r x → ((v : A × Rest) → Moved r v.1 → Within v.1 (k v)) → Within r (x >>= k)
Within-then r (Ok v) k p next = carry r v.1 (k v) p (next v p)
Within-then r (Err faults.Short) k p next = p
Within-then r (Err (faults.Bad place)) k p next = p
Within-then r (Err faults.Memory) k p next = tt

past_moved : (n : ℕ) (r : Rest) → n ≤ r.room → n ≤ length r.bytes → Moved r (past n r)
past_moved n r roomy long = record { place = omega (arith, roomy); bytes = omega (arith, roomy, long, length-drop n r.bytes) }

pub front_within : (n : ℕ) (r : Rest) → Within r (front n r)
front_within n r =
    cond_has (Within r) (ltb r.room n) (Err (faults.Bad r.place)) (cond (ltb (length r.bytes) n) (Err faults.Short) (Ok (take n r.bytes, past n r))) (λ h. omega arith)
    (λ h. cond_has (Within r) (ltb (length r.bytes) n) (Err faults.Short) (Ok (take n r.bytes, past n r))
    (λ k. let roomy : n ≤ r.room = ltb-false _ _ h in let short : length r.bytes < n = ltb-true _ _ k in omega (arith, roomy, short))
    (λ k. past_moved n r (ltb-false _ _ h) (ltb-false _ _ k)))

pub checked_within : {A : Type 0} (r s : Rest) (allowed : Bool) (x : A) → Moved r s → Within s (checked allowed r.place (x, s))
checked_within r s true x m = stayed s
checked_within r s false x m = omega (arith, m.place)

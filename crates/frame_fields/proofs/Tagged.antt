-- A byte that says which fields follow, and those fields.
use Rattle.std.proofs.Common.{◌≡◌, ℕ, suc, ◌+◌, ◌-◌, ◌≤◌, Bool, true, false, ◌&&◌, ◌||◌, ◌⊎◌, cond, eqb, ltb, leb, List, [], ◌∷◌, ◌++◌, length, Result, Ok, refl, sym, ap, ap₂, subst, ◌∙◌, inl, inr, arith}
use Rattle.std.proofs.lemmas.Bool.{eqb-true, eqb-false, eq-eqb, leb-true, leb-false, le-leb, and_parts, and_from}
use Rattle.frame_fields.specs.declared.fault.FrameFault.{FrameFault}
use Rattle.frame_fields.specs.Format.{Rest, ◌>>=◌, Format, byte, made, between}
use Rattle.frame_fields.proofs.Within.{cond_has, stand, Within, Within-then, stayed}
use Rattle.frame_fields.proofs.Formats.{IsBytes, On, On-then, On-map, Goes, Goes-then, behind, with_behind, Took, Took-then, IsFormat, byte_is}

-- what is spelled by the code and the fields of f, which have at most limit bytes
pub record IsCase {T A : Type 0} (limit : ℕ) (spell : T → List ℕ) (allows : T → Bool) (code : ℕ) (f : Format A) (make : A → T) : Type 0 where
  pub spelled : (v : A) → spell (make v) ≡ code ∷ f.spell v
  pub allowed : (v : A) → allows (make v) ≡ f.allows v
  pub most : ℕ
  pub short : most ≤ limit
  pub format : IsFormat f most

-- the fields behind a code were taken
pub record Behind {T : Type 0} (spell : T → List ℕ) (allows : T → Bool) (code : ℕ) (r : Rest) (x : T × Rest) : Type 0 where
  pub allowed : allows x.0 ≡ true
  pub text : List ℕ
  pub spelled : spell x.0 ≡ code ∷ text
  pub took : Took text r x.1

-- reading what is behind each known code
pub record Reads {T : Type 0} (spell : T → List ℕ) (allows : T → Bool) (known : ℕ → Bool) (read : ℕ → Rest → Result (T × Rest) FrameFault) : Type 0 where
  pub takes : (code : ℕ) (r : Rest) → known code ≡ true → IsBytes r.bytes → On (Behind spell allows code r) (read code r)
  pub onward : (code : ℕ) (r : Rest) → On (λ x. r.place ≤ x.1.place) (read code r)
  pub within : (code : ℕ) (r : Rest) → Within r (read code r)
  pub more : (code : ℕ) (rest : List ℕ) (r : Rest) → Goes (with_behind rest) (read code r) (read code (behind rest r))

-- ---- one code

case_takes : {T A : Type 0} (limit : ℕ) (spell : T → List ℕ) (allows : T → Bool) (code : ℕ) (f : Format A) (make : A → T) → IsCase limit spell allows code f make → (r : Rest) → IsBytes r.bytes → On (Behind spell allows code r) (made make (f.read r))
case_takes limit spell allows code f make case r fits =
    On-then (λ v. (f.allows v.0 ≡ true) × Took (f.spell v.0) r v.1) (Behind spell allows code r) (f.read r) (λ v. Ok (make v.0, v.1)) (case.format.takes r fits)
    (λ v h. record { allowed = case.allowed v.0 ∙ h.0; text = f.spell v.0; spelled = case.spelled v.0; took = h.1 })

case_onward : {T A : Type 0} (f : Format A) (make : A → T) (most : ℕ) → IsFormat f most → (r : Rest) → On (λ (x : T × Rest). r.place ≤ x.1.place) (made make (f.read r))
case_onward f make most is r = On-then (λ v. r.place ≤ v.1.place) (λ x. r.place ≤ x.1.place) (f.read r) (λ v. Ok (make v.0, v.1)) (is.onward r) (λ v h. h)

case_within : {T A : Type 0} (f : Format A) (make : A → T) (most : ℕ) → IsFormat f most → (r : Rest) → Within r (made make (f.read r))
case_within f make most is r = Within-then r (f.read r) (λ v. Ok (make v.0, v.1)) (is.within r) (λ v m. stayed v.1)

case_more : {T A : Type 0} (f : Format A) (make : A → T) (most : ℕ) → IsFormat f most → (rest : List ℕ) (r : Rest) → Goes (with_behind rest) (made make (f.read r)) (made make (f.read (behind rest r)))
case_more f make most is rest r = Goes-then (with_behind rest) (with_behind rest) (f.read r) (f.read (behind rest r)) (λ v. Ok (make v.0, v.1)) (λ v. Ok (make v.0, v.1)) (is.more rest r) (λ v. refl)

cond_goes : {A : Type 0} (g : A → A) (b : Bool) (x y z w : Result A FrameFault) → Goes g x y → Goes g z w → Goes g (cond b x z) (cond b y w)
cond_goes g true x y z w p q = p
cond_goes g false x y z w p q = q

other_known : (b c : Bool) → (b || c) ≡ true → b ≡ false → c ≡ true
other_known true c e f = absurd cc
other_known false c e f = e

-- the last code of a table
pub only_case : {T A : Type 0} {limit : ℕ} {spell : T → List ℕ} {allows : T → Bool} {code : ℕ} {f : Format A} {make : A → T} → IsCase limit spell allows code f make → Reads spell allows (λ c. eqb c code) (λ c r. made make (f.read r))
only_case {T} {A} {limit} {spell} {allows} {code} {f} {make} case = record {
  takes = λ c r known fits. subst (λ (k : ℕ). On (Behind spell allows k r) (made make (f.read r))) (sym (eqb-true c code known)) (case_takes limit spell allows code f make case r fits);
  onward = λ c r. case_onward f make case.most case.format r;
  within = λ c r. case_within f make case.most case.format r;
  more = λ c rest r. case_more f make case.most case.format rest r;
}

-- a code before the others of a table
pub or_case : {T A : Type 0} {limit : ℕ} {spell : T → List ℕ} {allows : T → Bool} {code : ℕ} {f : Format A} {make : A → T} {known : ℕ → Bool} {read : ℕ → Rest → Result (T × Rest) FrameFault} → IsCase limit spell allows code f make → Reads spell allows known read
    → Reads spell allows (λ c. eqb c code || known c) (λ c r. cond (eqb c code) (made make (f.read r)) (read c r))
or_case {T} {A} {limit} {spell} {allows} {code} {f} {make} {known} {read} case others = record {
  takes = λ c r is_known fits. cond_has (On (Behind spell allows c r)) (eqb c code) (made make (f.read r)) (read c r)
      (λ same. subst (λ (k : ℕ). On (Behind spell allows k r) (made make (f.read r))) (sym (eqb-true c code same)) (case_takes limit spell allows code f make case r fits))
      (λ other. others.takes c r (other_known (eqb c code) (known c) is_known other) fits);
  onward = λ c r. cond_has (On (λ x. r.place ≤ x.1.place)) (eqb c code) (made make (f.read r)) (read c r) (λ same. case_onward f make case.most case.format r) (λ other. others.onward c r);
  within = λ c r. cond_has (Within r) (eqb c code) (made make (f.read r)) (read c r) (λ same. case_within f make case.most case.format r) (λ other. others.within c r);
  more = λ c rest r. cond_goes (with_behind rest) (eqb c code) (made make (f.read r)) (made make (f.read (behind rest r))) (read c r) (read c (behind rest r)) (case_more f make case.most case.format rest r) (others.more c rest r);
}

-- fewer codes
pub fewer_codes : {T : Type 0} {spell : T → List ℕ} {allows : T → Bool} {known also : ℕ → Bool} {read : ℕ → Rest → Result (T × Rest) FrameFault} → ((c : ℕ) → also c ≡ true → known c ≡ true) → Reads spell allows known read → Reads spell allows also read
fewer_codes known_too reads = record {
  takes = λ c r is_known fits. reads.takes c r (known_too c is_known) fits;
  onward = reads.onward;
  within = reads.within;
  more = reads.more;
}

-- ---- codes in a row

-- a code of a row is the first or lies above it
above : (first c : ℕ) → first ≤ c → eqb c first ≡ false → suc first ≤ c
above first c low other =
    let apart : c ≡ first → ⊥ = eqb-false c first other in
    omega (arith, low, apart)

is_only_code : (code c : ℕ) → between code code c ≡ true → eqb c code ≡ true
is_only_code code c h =
    let parts = and_parts (leb code c) (leb c code) h in
    let low : code ≤ c = leb-true code c parts.0 in
    let high : c ≤ code = leb-true c code parts.1 in
    eq-eqb c code (omega arith)

either : (b : Bool) → (b ≡ true) ⊎ (b ≡ false)
either true = inl refl
either false = inr refl

first_or_above : (first last c : ℕ) → between first last c ≡ true → (eqb c first || between (suc first) last c) ≡ true
first_or_above first last c h =
    let parts = and_parts (leb first c) (leb c last) h in
    let low : first ≤ c = leb-true first c parts.0 in
    let P : Bool → Type 0 = λ b. (b || between (suc first) last c) ≡ true in
    elim (either (eqb c first)) [ inl same ↦ subst P (sym same) refl | inr other ↦ subst P (sym other) (and_from (leb (suc first) c) (leb c last) (le-leb (suc first) c (above first c low other)) parts.1) ]

-- the last code of a row
pub last_of_row : {T A : Type 0} {limit : ℕ} {spell : T → List ℕ} {allows : T → Bool} {code : ℕ} {f : Format A} {make : A → T} → IsCase limit spell allows code f make → Reads spell allows (between code code) (λ c r. made make (f.read r))
last_of_row {T} {A} {limit} {spell} {allows} {code} case = fewer_codes (is_only_code code) (only_case case)

-- the first code of a row, before the others
pub first_of_row : {T A : Type 0} {limit : ℕ} {spell : T → List ℕ} {allows : T → Bool} {code : ℕ} {f : Format A} {make : A → T} (last : ℕ) {read : ℕ → Rest → Result (T × Rest) FrameFault} → IsCase limit spell allows code f make → Reads spell allows (between (suc code) last) read
    → Reads spell allows (between code last) (λ c r. cond (eqb c code) (made make (f.read r)) (read c r))
first_of_row {T} {A} {limit} {spell} {allows} {code} {f} {make} last case others = fewer_codes (first_or_above code last) (or_case case others)

-- two rows, one behind the other
pub rows : {T : Type 0} {spell : T → List ℕ} {allows : T → Bool} (first middle last : ℕ) {low high : ℕ → Rest → Result (T × Rest) FrameFault} → Reads spell allows (between first middle) low → Reads spell allows (between (suc middle) last) high
    → Reads spell allows (between first last) (λ c r. cond (leb c middle) (low c r) (high c r))
rows {T} {spell} {allows} first middle last {low} {high} p q = record {
  takes = λ c r known fits.
      let parts = and_parts (leb first c) (leb c last) known in
      cond_has (On (Behind spell allows c r)) (leb c middle) (low c r) (high c r)
      (λ is_low. p.takes c r (and_from (leb first c) (leb c middle) parts.0 is_low) fits)
      (λ is_high. q.takes c r (and_from (leb (suc middle) c) (leb c last) (le-leb (suc middle) c (leb-false c middle is_high)) parts.1) fits);
  onward = λ c r. cond_has (On (λ x. r.place ≤ x.1.place)) (leb c middle) (low c r) (high c r) (λ is_low. p.onward c r) (λ is_high. q.onward c r);
  within = λ c r. cond_has (Within r) (leb c middle) (low c r) (high c r) (λ is_low. p.within c r) (λ is_high. q.within c r);
  more = λ c rest r. cond_goes (with_behind rest) (leb c middle) (low c r) (low c (behind rest r)) (high c r) (high c (behind rest r)) (p.more c rest r) (q.more c rest r);
}

-- ---- the byte and the fields

-- reading a byte, and what is behind it
abbrev pub tagged : {T : Type 0} → (ℕ → Bool) → (ℕ → Rest → Result (T × Rest) FrameFault) → Rest → Result (T × Rest) FrameFault
tagged known read r = (byte known).read r >>= λ c. read c.0 c.1

-- what is written of one value
pub record Written {T : Type 0} (limit : ℕ) (spell : T → List ℕ) (allows : T → Bool) (known : ℕ → Bool) (read : ℕ → Rest → Result (T × Rest) FrameFault) (x : T) : Type 0 where
  pub again : (place room : ℕ) (rest : List ℕ) → allows x ≡ true → length (spell x) ≤ room
      → tagged known read (stand place room (spell x ++ rest)) ≡ Ok (x, stand (place + length (spell x)) (room - length (spell x)) rest)
  pub some : 1 ≤ length (spell x)
  pub bounded : allows x ≡ true → length (spell x) ≤ suc limit

pub write_case : {T A : Type 0} {limit : ℕ} {spell : T → List ℕ} {allows : T → Bool} {code : ℕ} {f : Format A} {make : A → T} (known : ℕ → Bool) (read : ℕ → Rest → Result (T × Rest) FrameFault) → IsCase limit spell allows code f make → (v : A)
    → (ltb code 256 && known code) ≡ true → ((r : Rest) → read code r ≡ made make (f.read r)) → Written limit spell allows known read (make v)
write_case {T} {A} {limit} {spell} {allows} {code} {f} {make} known read case v is_known reads =
    let len : length (spell (make v)) ≡ suc (length (f.spell v)) = ap (λ (t : List ℕ). length t) (case.spelled v) in
    record {
      again = λ place room rest h le.
          let allowed : f.allows v ≡ true = sym (case.allowed v) ∙ h in
          let one : (byte known).read (stand place room (code ∷ (f.spell v ++ rest))) ≡ Ok (code, stand (place + 1) (room - 1) (f.spell v ++ rest)) = (byte_is known).again code place room (f.spell v ++ rest) is_known (omega (arith, len, le)) in
          let two : f.read (stand (place + 1) (room - 1) (f.spell v ++ rest)) ≡ Ok (v, stand (place + 1 + length (f.spell v)) (room - 1 - length (f.spell v)) rest) = case.format.again v (place + 1) (room - 1) rest allowed (omega (arith, len, le)) in
          let places : place + 1 + length (f.spell v) ≡ place + length (spell (make v)) = omega (arith, len) in
          let rooms : room - 1 - length (f.spell v) ≡ room - length (spell (make v)) = omega (arith, len) in
          ap (λ (t : List ℕ). tagged known read (stand place room (t ++ rest))) (case.spelled v)
          ∙ ap (λ (x : Result (ℕ × Rest) FrameFault). x >>= λ c. read c.0 c.1) one
          ∙ reads (stand (place + 1) (room - 1) (f.spell v ++ rest))
          ∙ ap (made make) two
          ∙ ap₂ (λ (p q : ℕ). Ok (make v, stand p q rest)) places rooms;
      some = omega (arith, len);
      bounded = λ h. let b = case.format.bounded v (sym (case.allowed v) ∙ h) in let s = case.short in omega (arith, len, b, s);
    }

pub tagged_is : {T : Type 0} (limit : ℕ) (spell : T → List ℕ) (allows : T → Bool) (known : ℕ → Bool) (read : ℕ → Rest → Result (T × Rest) FrameFault) → Reads spell allows known read → ((x : T) → Written limit spell allows known read x)
    → IsFormat (record { spell = spell; allows = allows; read = tagged known read }) (suc limit)
tagged_is limit spell allows known read reads written = record {
  takes = λ r fits. On-then (λ c. ((ltb c.0 256 && known c.0) ≡ true) × Took (c.0 ∷ []) r c.1) (λ x. (allows x.0 ≡ true) × Took (spell x.0) r x.1) ((byte known).read r) (λ c. read c.0 c.1) ((byte_is known).takes r fits)
      (λ c h. On-map (Behind spell allows c.0 c.1) (λ x. (allows x.0 ≡ true) × Took (spell x.0) r x.1) (read c.0 c.1) (reads.takes c.0 c.1 (and_parts (ltb c.0 256) (known c.0) h.0).1 h.1.fits)
      (λ x b. (b.allowed, subst (λ (t : List ℕ). Took t r x.1) (sym b.spelled) (Took-then (c.0 ∷ []) b.text r c.1 x.1 h.1 b.took))));
  onward = λ r. On-then (λ c. r.place ≤ c.1.place) (λ x. r.place ≤ x.1.place) ((byte known).read r) (λ c. read c.0 c.1) ((byte_is known).onward r)
      (λ c h. On-map (λ x. c.1.place ≤ x.1.place) (λ x. r.place ≤ x.1.place) (read c.0 c.1) (reads.onward c.0 c.1) (λ x k. omega (arith, h, k)));
  within = λ r. Within-then r ((byte known).read r) (λ c. read c.0 c.1) ((byte_is known).within r) (λ c m. reads.within c.0 c.1);
  again = λ x place room rest h le. (written x).again place room rest h le;
  more = λ rest r. Goes-then (with_behind rest) (with_behind rest) ((byte known).read r) ((byte known).read (behind rest r)) (λ c. read c.0 c.1) (λ c. read c.0 c.1) ((byte_is known).more rest r) (λ c. reads.more c.0 rest c.1);
  bounded = λ x h. (written x).bounded h;
}

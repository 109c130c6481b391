-- The laws of parts: what is read is spelled so and allowed, and what is spelled so is read again.
use Rattle.std.proofs.Common.{◌≡◌, ℕ, zero, suc, ◌+◌, ◌-◌, ◌≤◌, ◌<◌, Bool, true, false, ◌&&◌, cond, List, [], ◌∷◌, ◌++◌, length, flat_map, Result, Ok, Err, refl, sym, ap, ap₂, subst, ◌∙◌, append_assoc, arith}
use Rattle.std.specs.Prelude.{◌==◌}
use Rattle.std.specs.List.{list_all}
use Rattle.std.specs.Ordering.{is_lt, nat_cmp}
use Rattle.std.specs.Cmp.{nat_cmp_total}
use Rattle.std.proofs.lemmas.Bool.{and_parts, and_from}
use Rattle.std.proofs.lemmas.List.{append-nil, length-append}
use Rattle.s3_rows.specs.declared.table_rows.RowKey.{RowKey}
use Rattle.s3_rows.specs.declared.table_rows.RowKey.TheVariants as keys
use Rattle.s3_rows.specs.Keyed.{Order, pair_cmp, is_past, rises}
use Rattle.row_lemmas.proofs.Tests.{less_from_is_lt, list_all_weaker}
use Rattle.row_lemmas.proofs.Tables.{pair_cmp_total}
use Rattle.frame_fields.specs.declared.fault.FrameFault.{FrameFault}
use Rattle.frame_fields.specs.declared.fault.FrameFault.TheVariants as frames
use Rattle.frame_fields.specs.Format.{Rest, Format}
use Rattle.frame_fields.specs.Fields.{u64_field}
use Rattle.frame_fields.proofs.Within.{cond_has, stand}
use Rattle.frame_fields.proofs.Formats.{IsBytes, On, Took, Took-then, IsFormat, plus_none, minus_none}
use Rattle.frame_fields.proofs.FieldLemmas.{u64_is}
use Rattle.keeper_dump.specs.declared.fault.DumpFault.{DumpFault}
use Rattle.keeper_dump.specs.declared.fault.DumpFault.TheVariants as faults
use Rattle.keeper_dump.specs.Part.{Refuses, of_field, ◌⟫◌, Part, plain, ◌▹◌, RowFormat, is_key_past, keys_rise, unless_low, row_fault, judged, row_after, rows_after, table}

-- what holds of the value, if there is one
abbrev pub Holds : {A : Type 0} → (A → Type 0) → Result A DumpFault → Type 0
Holds P (Ok x) = P x
Holds P (Err e) = Unit {0}

pub Holds-then : {A B : Type 0} (P : A → Type 0) (Q : B → Type 0) (x : Result A DumpFault) (k : A → Result B DumpFault)
    → Holds P x → ((v : A) → P v → Holds Q (k v)) → Holds Q (x ⟫ k)
Holds-then P Q (Ok v) k p next = next v p
Holds-then P Q (Err e) k p next = tt

Holds-map : {A : Type 0} (P Q : A → Type 0) (x : Result A DumpFault) → Holds P x → ((v : A) → P v → Q v) → Holds Q x
Holds-map P Q (Ok v) p next = next v p
Holds-map P Q (Err e) p next = tt

Holds-both : {A : Type 0} (P Q : A → Type 0) (x : Result A DumpFault) → Holds P x → Holds Q x → Holds (λ v. P v × Q v) x
Holds-both P Q (Ok v) p q = (p, q)
Holds-both P Q (Err e) p q = tt

of_field_holds : {A : Type 0} (P : A → Type 0) (x : Result A FrameFault) → On P x → Holds P (of_field x)
of_field_holds P (Ok x) h = h
of_field_holds P (Err e) h = tt

-- where a reader stands behind a text
abbrev pub behind_text : List ℕ → ℕ → ℕ → List ℕ → Rest
behind_text text place room rest = stand (place + length text) (room - length text) rest

-- the laws of a part
pub record IsPart {A : Type 0} (p : Part A) : Type 0 where
  pub takes : (r : Rest) → IsBytes r.bytes → Holds (λ x. (p.allows x.0 ≡ true) × Took (p.spell x.0) r x.1) (p.read r)
  pub again : (x : A) (place room : ℕ) (rest : List ℕ) → p.allows x ≡ true → length (p.spell x) ≤ room
      → p.read (stand place room (p.spell x ++ rest)) ≡ Ok (x, behind_text (p.spell x) place room rest)

pub plain_is : {A : Type 0} (f : Format A) (most : ℕ) → IsFormat f most → IsPart (plain f)
plain_is {A} f most is = record {
  takes = λ r fits. of_field_holds (λ (x : A × Rest). (f.allows x.0 ≡ true) × Took (f.spell x.0) r x.1) (f.read r) (is.takes r fits);
  again = λ x place room rest h le. ap of_field (is.again x place room rest h le);
}

-- behind one text and then another
behind_both : (s t : List ℕ) (place room : ℕ) (rest : List ℕ)
    → behind_text t (place + length s) (room - length s) rest ≡ behind_text (s ++ t) place room rest
behind_both s t place room rest =
    let places : place + length s + length t ≡ place + length (s ++ t) = omega (arith, length-append s t) in
    let rooms : room - length s - length t ≡ room - length (s ++ t) = omega (arith, length-append s t) in
    ap₂ (λ (p q : ℕ). stand p q rest) places rooms

infixr 12 ◌and_then◌
pub ◌and_then◌ : {A B : Type 0} {p : Part A} {q : Part B} → IsPart p → IsPart q → IsPart (p ▹ q)
◌and_then◌ {A} {B} {p} {q} one two = record {
  takes = λ r fits. Holds-then (λ x. (p.allows x.0 ≡ true) × Took (p.spell x.0) r x.1)
      (λ z. ((p.allows z.0.0 && q.allows z.0.1) ≡ true) × Took (p.spell z.0.0 ++ q.spell z.0.1) r z.1) (p.read r)
      (λ x. q.read x.1 ⟫ λ y. Ok ((x.0, y.0), y.1)) (one.takes r fits)
      (λ x h. Holds-then (λ y. (q.allows y.0 ≡ true) × Took (q.spell y.0) x.1 y.1)
      (λ z. ((p.allows z.0.0 && q.allows z.0.1) ≡ true) × Took (p.spell z.0.0 ++ q.spell z.0.1) r z.1) (q.read x.1)
      (λ y. Ok ((x.0, y.0), y.1)) (two.takes x.1 h.1.fits)
      (λ y k. (and_from _ _ h.0 k.0, Took-then (p.spell x.0) (q.spell y.0) r x.1 y.1 h.1 k.1)));
  again = λ x place room rest h le.
      let allowed = and_parts (p.allows x.0) (q.allows x.1) h in
      let s = p.spell x.0 in
      let t = q.spell x.1 in
      let len : length (s ++ t) ≡ length s + length t = length-append s t in
      let first : p.read (stand place room ((s ++ t) ++ rest)) ≡ Ok (x.0, behind_text s place room (t ++ rest)) =
      ap (λ (b : List ℕ). p.read (stand place room b)) (append_assoc s t rest) ∙ one.again x.0 place room (t ++ rest) allowed.0 (omega (arith, len, le)) in
      let second : q.read (behind_text s place room (t ++ rest)) ≡ Ok (x.1, behind_text t (place + length s) (room - length s) rest) =
      two.again x.1 (place + length s) (room - length s) rest allowed.1 (omega (arith, len, le)) in
      ap (λ (z : Result (A × Rest) DumpFault). z ⟫ λ x. q.read x.1 ⟫ λ y. Ok ((x.0, y.0), y.1)) first
      ∙ ap (λ (z : Result (B × Rest) DumpFault). z ⟫ λ y. Ok ((x.0, y.0), y.1)) second
      ∙ ap (λ (e : Rest). Ok (x, e)) (behind_both s t place room rest);
}

-- ---- keys in order

-- a key past a second that is past a first
pub key_past_trans : (a b c : RowKey) → is_key_past a b ≡ true → is_key_past b c ≡ true → is_key_past a c ≡ true
key_past_trans keys.Start b c p q = refl
key_past_trans (keys.One a) (keys.One b) (keys.One c) p q =
    ap is_lt (nat_cmp_total.trans a b c (less_from_is_lt (nat_cmp a b) p) (less_from_is_lt (nat_cmp b c) q))
key_past_trans (keys.Two a b) (keys.Two c d) (keys.Two e f) p q =
    ap is_lt (pair_cmp_total.trans (a, b) (c, d) (e, f) (less_from_is_lt (pair_cmp (a, b) (c, d)) p) (less_from_is_lt (pair_cmp (c, d) (e, f)) q))
key_past_trans (keys.One a) keys.Start c p q = absurd (cc p)
key_past_trans (keys.One a) (keys.Two b c) d p q = absurd (cc p)
key_past_trans (keys.Two a b) keys.Start d p q = absurd (cc p)
key_past_trans (keys.Two a b) (keys.One c) d p q = absurd (cc p)
key_past_trans (keys.One a) (keys.One b) keys.Start p q = absurd (cc q)
key_past_trans (keys.One a) (keys.One b) (keys.Two c d) p q = absurd (cc q)
key_past_trans (keys.Two a b) (keys.Two c d) keys.Start p q = absurd (cc q)
key_past_trans (keys.Two a b) (keys.Two c d) (keys.One e) p q = absurd (cc q)

-- two spellings of one order
pub keys_rise-rises : {K R : Type 0} (o : Order K R) (key : R → RowKey) → ((a b : R) → is_key_past (key a) (key b) ≡ is_past o (o.key a) b)
    → (rows : List R) → keys_rise key rows ≡ rises o rows
keys_rise-rises o key same [] = refl
keys_rise-rises o key same (r ∷ rs) = ap₂ (λ (a b : Bool). a && b) (tests rs) (keys_rise-rises o key same rs)
  where
    tests : (xs : List _) → list_all (λ x. is_key_past (key r) (key x)) xs ≡ list_all (is_past o (o.key r)) xs
    tests [] = refl
    tests (x ∷ xs) = ap₂ (λ (a b : Bool). a && b) (same r x) (tests xs)

-- ---- rows

module _ {R : Type 0} (f : RowFormat R) where
  -- all keys come after the one before
  abbrev all_past : RowKey → List R → Bool
  all_past before rows = list_all (λ x. is_key_past before (f.key x)) rows

  -- what holds of a row that was read, and whose key comes after the one before, holds of the row in front
  judged_holds : (P : R × Rest → Type 0) (before : RowKey) (r : Rest) (x : Result (R × Rest) FrameFault)
      → On (λ x. is_key_past before (f.key x.0) ≡ true → P x) x → Holds P (judged f before r x)
  judged_holds P before r (Ok x) h =
      cond_has (Holds P) (is_key_past before (f.key x.0)) (Ok x) (Err (faults.OutOfOrder r.place)) h (λ no. tt)
  judged_holds P before r (Err e) h = refused e
    where
      low : (k : Result (RowKey × Rest) FrameFault) (d : DumpFault) → Holds P (unless_low before k r.place d)
      low (Ok k) d = cond_has (Holds P) (is_key_past before k.0) (Err d) (Err (faults.OutOfOrder r.place)) (λ yes. tt) (λ no. tt)
      low (Err e) d = tt

      refused : (e : FrameFault) → Holds P (row_fault before (f.front r) r.place e)
      refused frames.Short = low (f.front r) faults.Short
      refused (frames.Bad bad) =
          cond_has (Holds P) (bad == r.place) (Err (faults.Bad bad)) (unless_low before (f.front r) r.place (faults.Bad bad))
          (λ yes. tt) (λ no. low (f.front r) (faults.Bad bad))
      refused frames.Memory = tt

  On-past : (before : RowKey) (x : Result (R × Rest) FrameFault)
      → On (λ x. is_key_past before (f.key x.0) ≡ true → is_key_past before (f.key x.0) ≡ true) x
  On-past before (Ok x) = λ past. past
  On-past before (Err e) = tt

  -- the keys that were read rise
  pub rows_rise : (n : ℕ) (before : RowKey) (r : Rest)
      → Holds (λ x. (all_past before x.0 ≡ true) × (keys_rise f.key x.0 ≡ true)) (rows_after f n before r)
  unfolding rows_after row_after
  rows_rise zero before r = (refl, refl)
  rows_rise (suc n) before r =
      Holds-then (λ x. is_key_past before (f.key x.0) ≡ true) (λ xs. (all_past before xs.0 ≡ true) × (keys_rise f.key xs.0 ≡ true))
      (judged f before r (f.fields.read r)) (λ x. rows_after f n (f.key x.0) x.1 ⟫ λ xs. Ok (x.0 ∷ xs.0, xs.1))
      (judged_holds (λ x. is_key_past before (f.key x.0) ≡ true) before r (f.fields.read r) (On-past before (f.fields.read r)))
      (λ x past. Holds-then (λ xs. (all_past (f.key x.0) xs.0 ≡ true) × (keys_rise f.key xs.0 ≡ true))
      (λ xs. (all_past before xs.0 ≡ true) × (keys_rise f.key xs.0 ≡ true)) (rows_after f n (f.key x.0) x.1)
      (λ xs. Ok (x.0 ∷ xs.0, xs.1)) (rows_rise n (f.key x.0) x.1)
      (λ xs k. (and_from _ _ past (list_all_weaker (λ y. is_key_past (f.key x.0) (f.key y)) (λ y. is_key_past before (f.key y)) (λ y q. key_past_trans before (f.key x.0) (f.key y) past q) xs.0 k.0), and_from _ _ k.0 k.1)))

module _ {R : Type 0} (f : RowFormat R) (most : ℕ) (is : IsFormat f.fields most) where
  -- n rows were taken
  record RowsTook (n : ℕ) (r : Rest) (x : List R × Rest) : Type 0 where
    len : length x.0 ≡ n
    allowed : list_all f.fields.allows x.0 ≡ true
    took : Took (flat_map f.fields.spell x.0) r x.1

  On-always : (P : R × Rest → Type 0) (before : RowKey) (x : Result (R × Rest) FrameFault) → On P x
      → On (λ x. is_key_past before (f.key x.0) ≡ true → P x) x
  On-always P before (Ok x) h = λ past. h
  On-always P before (Err e) h = tt

  rows_take : (n : ℕ) (before : RowKey) (r : Rest) → IsBytes r.bytes → Holds (RowsTook n r) (rows_after f n before r)
  unfolding rows_after row_after
  rows_take zero before r fits = record { len = refl; allowed = refl; took = record { parts = refl; place = omega arith; room = omega arith; fits = fits } }
  rows_take (suc n) before r fits =
      let Taken = λ (x : R × Rest). (f.fields.allows x.0 ≡ true) × Took (f.fields.spell x.0) r x.1 in
      Holds-then Taken (RowsTook (suc n) r) (judged f before r (f.fields.read r))
      (λ x. rows_after f n (f.key x.0) x.1 ⟫ λ xs. Ok (x.0 ∷ xs.0, xs.1))
      (judged_holds f Taken before r (f.fields.read r) (On-always Taken before (f.fields.read r) (is.takes r fits)))
      (λ x h. Holds-then (RowsTook n x.1) (RowsTook (suc n) r) (rows_after f n (f.key x.0) x.1)
      (λ xs. Ok (x.0 ∷ xs.0, xs.1)) (rows_take n (f.key x.0) x.1 h.1.fits)
      (λ xs k. record {
        len = ap suc k.len;
        allowed = and_from _ _ h.0 k.allowed;
        took = Took-then (f.fields.spell x.0) (flat_map f.fields.spell xs.0) r x.1 xs.1 h.1 k.took;
      }))

  row_again : (x : R) (before : RowKey) (place room : ℕ) (rest : List ℕ) → f.fields.allows x ≡ true → is_key_past before (f.key x) ≡ true
      → length (f.fields.spell x) ≤ room
      → row_after f before (stand place room (f.fields.spell x ++ rest)) ≡ Ok (x, behind_text (f.fields.spell x) place room rest)
  unfolding row_after
  row_again x before place room rest h past le =
      let r = stand place room (f.fields.spell x ++ rest) in
      ap (judged f before r) (is.again x place room rest h le)
      ∙ ap (λ (b : Bool). cond b (Ok (x, behind_text (f.fields.spell x) place room rest)) (Err (faults.OutOfOrder place))) past

  rows_again : (xs : List R) (before : RowKey) (place room : ℕ) (rest : List ℕ) → list_all f.fields.allows xs ≡ true
      → all_past f before xs ≡ true → keys_rise f.key xs ≡ true → length (flat_map f.fields.spell xs) ≤ room
      → rows_after f (length xs) before (stand place room (flat_map f.fields.spell xs ++ rest))
      ≡ Ok (xs, behind_text (flat_map f.fields.spell xs) place room rest)
  unfolding rows_after
  rows_again [] before place room rest h past up le = ap₂ (λ (p q : ℕ). Ok ([], stand p q rest)) (plus_none place) (minus_none room)
  rows_again (x ∷ xs) before place room rest h past up le =
      let allowed = and_parts (f.fields.allows x) (list_all f.fields.allows xs) h in
      let pasts = and_parts (is_key_past before (f.key x)) (all_past f before xs) past in
      let ups = and_parts (all_past f (f.key x) xs) (keys_rise f.key xs) up in
      let s = f.fields.spell x in
      let t = flat_map f.fields.spell xs in
      let len : length (s ++ t) ≡ length s + length t = length-append s t in
      let first : row_after f before (stand place room ((s ++ t) ++ rest)) ≡ Ok (x, behind_text s place room (t ++ rest)) =
      ap (λ (b : List ℕ). row_after f before (stand place room b)) (append_assoc s t rest)
      ∙ row_again x before place room (t ++ rest) allowed.0 pasts.0 (omega (arith, len, le)) in
      let others = rows_again xs (f.key x) (place + length s) (room - length s) rest allowed.1 ups.0 ups.1 (omega (arith, len, le)) in
      ap (λ (z : Result (R × Rest) DumpFault). z ⟫ λ x. rows_after f (length xs) (f.key x.0) x.1 ⟫ λ ys. Ok (x.0 ∷ ys.0, ys.1)) first
      ∙ ap (λ (z : Result (List R × Rest) DumpFault). z ⟫ λ ys. Ok (x ∷ ys.0, ys.1)) others
      ∙ ap (λ (e : Rest). Ok (x ∷ xs, e)) (behind_both s t place room rest)

  -- every key is past the start
  past_start : (xs : List R) → all_past f keys.Start xs ≡ true
  past_start [] = refl
  past_start (x ∷ xs) = past_start xs

  pub table_is : IsPart (table f)
  unfolding table
  table_is = record {
    takes = λ r fits.
        let Taken = λ (x : List R × Rest). ((u64_field.allows (length x.0) && list_all f.fields.allows x.0 && keys_rise f.key x.0) ≡ true)
        × Took (u64_field.spell (length x.0) ++ flat_map f.fields.spell x.0) r x.1 in
        Holds-then (λ (n : ℕ × Rest). (u64_field.allows n.0 ≡ true) × Took (u64_field.spell n.0) r n.1) Taken (of_field (u64_field.read r))
        (λ n. rows_after f n.0 keys.Start n.1)
        (of_field_holds (λ (n : ℕ × Rest). (u64_field.allows n.0 ≡ true) × Took (u64_field.spell n.0) r n.1) (u64_field.read r) (u64_is.takes r fits))
        (λ n h. Holds-map (λ xs. RowsTook n.0 n.1 xs × ((all_past f keys.Start xs.0 ≡ true) × (keys_rise f.key xs.0 ≡ true))) Taken (rows_after f n.0 keys.Start n.1)
        (Holds-both (RowsTook n.0 n.1) (λ xs. (all_past f keys.Start xs.0 ≡ true) × (keys_rise f.key xs.0 ≡ true)) (rows_after f n.0 keys.Start n.1) (rows_take n.0 keys.Start n.1 h.1.fits) (rows_rise f n.0 keys.Start n.1))
        (λ xs k. subst (λ (len : ℕ). ((u64_field.allows len && list_all f.fields.allows xs.0 && keys_rise f.key xs.0) ≡ true)
        × Took (u64_field.spell len ++ flat_map f.fields.spell xs.0) r xs.1) (sym k.0.len)
        (and_from _ _ (and_from _ _ h.0 k.0.allowed) k.1.1, Took-then (u64_field.spell n.0) (flat_map f.fields.spell xs.0) r n.1 xs.1 h.1 k.0.took)));
    again = λ xs place room rest h le.
        let parts = and_parts (u64_field.allows (length xs) && list_all f.fields.allows xs) (keys_rise f.key xs) h in
        let sized = and_parts (u64_field.allows (length xs)) (list_all f.fields.allows xs) parts.0 in
        let s = u64_field.spell (length xs) in
        let t = flat_map f.fields.spell xs in
        let len : length (s ++ t) ≡ length s + length t = length-append s t in
        let first : u64_field.read (stand place room ((s ++ t) ++ rest)) ≡ Ok (length xs, behind_text s place room (t ++ rest)) =
        ap (λ (b : List ℕ). u64_field.read (stand place room b)) (append_assoc s t rest) ∙ u64_is.again (length xs) place room (t ++ rest) sized.0 (omega (arith, len, le)) in
        let others = rows_again xs keys.Start (place + length s) (room - length s) rest sized.1 (past_start xs) parts.1 (omega (arith, len, le)) in
        ap (λ (z : Result (ℕ × Rest) FrameFault). of_field z ⟫ λ n. rows_after f n.0 keys.Start n.1) first ∙ others
        ∙ ap (λ (e : Rest). Ok (xs, e)) (behind_both s t place room rest);
  }

-- ---- one row after the other

module _ {R : Type 0} (f : RowFormat R) where
  pub row_found : (before : RowKey) (r s : Rest) (x : R) → f.fields.read r ≡ Ok (x, s) → is_key_past before (f.key x) ≡ true
      → row_after f before r ≡ Ok (x, s)
  unfolding row_after
  row_found before r s x read past =
      ap (judged f before r) read ∙ ap (λ (b : Bool). cond b (Ok (x, s)) (Err (faults.OutOfOrder r.place))) past

  pub row_low : (before : RowKey) (r s : Rest) (x : R) → f.fields.read r ≡ Ok (x, s) → is_key_past before (f.key x) ≡ false
      → row_after f before r ≡ Err (faults.OutOfOrder r.place)
  unfolding row_after
  row_low before r s x read low =
      ap (judged f before r) read ∙ ap (λ (b : Bool). cond b (Ok (x, s)) (Err (faults.OutOfOrder r.place))) low

  pub row_refused : (before : RowKey) (r : Rest) (d : DumpFault) → Refuses d (judged f before r (f.fields.read r)) → Refuses d (row_after f before r)
  unfolding row_after
  row_refused before r d h = h

  -- what was read so far, before the others
  abbrev pub with_rows : List R → Result (List R × Rest) DumpFault → Result (List R × Rest) DumpFault
  with_rows done others = others ⟫ λ xs. Ok (done ++ xs.0, xs.1)

  with_none : (others : Result (List R × Rest) DumpFault) → others ≡ with_rows [] others
  with_none (Ok xs) = refl
  with_none (Err e) = refl

  pub rows_begin : (count : ℕ) (r : Rest) → rows_after f count keys.Start r ≡ with_rows [] (rows_after f (count - 0) keys.Start r)
  rows_begin count r = with_none (rows_after f count keys.Start r) ∙ ap (λ (n : ℕ). with_rows [] (rows_after f n keys.Start r)) (minus_none count)

  one_more : (done : List R) (x : R) (others : Result (List R × Rest) DumpFault)
      → with_rows done (others ⟫ λ xs. Ok (x ∷ xs.0, xs.1)) ≡ with_rows (done ++ x ∷ []) others
  one_more done x (Ok xs) = ap (λ (ys : List R). Ok (ys, xs.1)) (sym (append_assoc done (x ∷ []) xs.0))
  one_more done x (Err e) = refl

  -- the rows that are left, the next one first
  abbrev row_first : ℕ → Result (R × Rest) DumpFault → Result (List R × Rest) DumpFault
  row_first n read = read ⟫ λ x. rows_after f n (f.key x.0) x.1 ⟫ λ xs. Ok (x.0 ∷ xs.0, xs.1)

  rows_left : (count i : ℕ) (before : RowKey) (r : Rest) → i < count → rows_after f (count - i) before r ≡ row_first (count - (i + 1)) (row_after f before r)
  unfolding rows_after
  rows_left count i before r lt =
      let left : count - i ≡ suc (count - (i + 1)) = omega arith in
      ap (λ (n : ℕ). rows_after f n before r) left

  pub rows_next : (done : List R) (count i : ℕ) (before : RowKey) (r s : Rest) (x : R) (whole : Result (List R × Rest) DumpFault)
      → whole ≡ with_rows done (rows_after f (count - i) before r) → i < count → row_after f before r ≡ Ok (x, s)
      → whole ≡ with_rows (done ++ x ∷ []) (rows_after f (count - (i + 1)) (f.key x) s)
  rows_next done count i before r s x whole so_far lt read =
      so_far ∙ ap (with_rows done) (rows_left count i before r lt ∙ ap (row_first (count - (i + 1))) read)
      ∙ one_more done x (rows_after f (count - (i + 1)) (f.key x) s)

  fails_all : (done : List R) (n : ℕ) (d : DumpFault) (read : Result (R × Rest) DumpFault) → Refuses d read → Refuses d (with_rows done (row_first n read))
  fails_all done n faults.Memory read h = tt
  fails_all done n faults.Short read h = ap (λ z. with_rows done (row_first n z)) h
  fails_all done n (faults.Bad place) read h = ap (λ z. with_rows done (row_first n z)) h
  fails_all done n (faults.OutOfOrder place) read h = ap (λ z. with_rows done (row_first n z)) h

  pub rows_fail : (done : List R) (count i : ℕ) (before : RowKey) (r : Rest) (d : DumpFault) (whole : Result (List R × Rest) DumpFault)
      → whole ≡ with_rows done (rows_after f (count - i) before r) → i < count → Refuses d (row_after f before r) → Refuses d whole
  rows_fail done count i before r d whole so_far lt h =
      subst (Refuses d) (sym (so_far ∙ ap (with_rows done) (rows_left count i before r lt))) (fails_all done (count - (i + 1)) d (row_after f before r) h)

  none_left : (count i : ℕ) (before : RowKey) (r : Rest) → count ≤ i → rows_after f (count - i) before r ≡ Ok ([], r)
  unfolding rows_after
  none_left count i before r le = let none : count - i ≡ 0 = omega arith in ap (λ (n : ℕ). rows_after f n before r) none

  pub rows_end : (done : List R) (count i : ℕ) (before : RowKey) (r : Rest) (whole : Result (List R × Rest) DumpFault)
      → whole ≡ with_rows done (rows_after f (count - i) before r) → count ≤ i → whole ≡ Ok (done, r)
  rows_end done count i before r whole so_far le =
      so_far ∙ ap (with_rows done) (none_left count i before r le) ∙ ap (λ (ys : List R). Ok (ys, r)) (append-nil done)

  pub rows_ordered : (count : ℕ) (r s : Rest) (xs : List R) → rows_after f count keys.Start r ≡ Ok (xs, s) → keys_rise f.key xs ≡ true
  rows_ordered count r s xs read =
      (subst (Holds (λ (x : List R × Rest). (all_past f keys.Start x.0 ≡ true) × (keys_rise f.key x.0 ≡ true))) read (rows_rise f count keys.Start r)).1

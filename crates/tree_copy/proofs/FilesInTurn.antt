-- The places of the copies of inodes come in turn.
use Rattle.std.proofs.Common.{◌≡◌, ◌<◌, ℕ, ◌+◌, List, [], ◌∷◌, ◌++◌, length, drop, get_or, Bool, true, false, cond, refl, sym, ap, ◌∙◌, subst, arith, append_assoc, add-one, drop-cons, eq-eqb, eqb-true, length-append}
use Rattle.std.proofs.lemmas.Bool.{and_parts, both_ways, false_from_ne_true, or_from, or_left, or_parts, or_right}
use Rattle.std.proofs.lemmas.List.{append-nil}
use Rattle.std.specs.List.{list_any}
use Rattle.std.specs.Prelude.{IsTrue, ◌&&◌, ◌==◌, not}
use Rattle.plain_tree.specs.Below.{is_among}
use Rattle.plain_tree.specs.Subtrees.{copy_number, place_of}
use Rattle.s3_rows.specs.declared.change.Change.{Change}
use Rattle.s3_rows.specs.Batches.{tables_after}
use Rattle.s3_rows.specs.Tables.{Tables}
use Rattle.s3_rows.specs.Validity.{differ}
use Rattle.row_lemmas.proofs.Tables.{tables_after-tables_after}
use Rattle.ref_counts.specs.Links.{places_from}
use Rattle.tree_copy.specs.CopiedFiles.{fit_from, placed_from}
use Rattle.tree_copy.specs.CopiedPlaces.{file_copied, file_fits, files_copied, files_fit}

-- what is left makes of the batch what all makes of the first
pub record AreInodesLeft (t : Tables) (copy : ℕ) (rest : List ℕ) (next : ℕ) (seen : List ℕ) (first batch : List Change) : Type 0 where
  pub added : batch ++ placed_from t copy rest (tables_after batch t) ≡ first ++ placed_from t next seen (tables_after first t)
  pub fits : fit_from t copy rest (tables_after batch t) ≡ fit_from t next seen (tables_after first t)

pub inodes_first : (t : Tables) (next : ℕ) (seen : List ℕ) (batch : List Change) → AreInodesLeft t next (drop 0 seen) next seen batch batch
inodes_first t next seen batch = record { added = refl; fits = refl }

-- the next inode's places fit
pub inodes_more : (t : Tables) (copy next : ℕ) (seen : List ℕ) (first batch after : List Change) (i : ℕ) → i < length seen
    → AreInodesLeft t copy (drop i seen) next seen first batch → true ≡ file_fits copy (places_from t (get_or seen i 0) 0) (tables_after batch t)
    → after ≡ batch ++ file_copied copy (places_from t (get_or seen i 0) 0) (tables_after batch t) → AreInodesLeft t (copy + 1) (drop (i + 1) seen) next seen first after
inodes_more t copy next seen first batch after i less left fits added =
    let x : ℕ = get_or seen i 0 in
    let this : List Change = file_copied copy (places_from t x 0) (tables_after batch t) in
    let rest : List ℕ = drop (i + 1) seen in
    let rows : drop i seen ≡ x ∷ rest = drop-cons seen i 0 less ∙ ap (λ n. x ∷ drop n seen) (sym (add-one i)) in
    let joined : tables_after this (tables_after batch t) ≡ tables_after (batch ++ this) t = tables_after-tables_after batch this t in
    record {
      added =
          ap (λ (b : List Change). b ++ placed_from t (copy + 1) rest (tables_after b t)) added
          ∙ ap (λ (u : Tables). batch ++ this ++ placed_from t (copy + 1) rest u) (sym joined)
          ∙ append_assoc batch this (placed_from t (copy + 1) rest (tables_after this (tables_after batch t)))
          ∙ ap (λ (xs : List ℕ). batch ++ placed_from t copy xs (tables_after batch t)) (sym rows) ∙ left.added;
      fits =
          ap (λ (b : List Change). fit_from t (copy + 1) rest (tables_after b t)) added ∙ ap (fit_from t (copy + 1) rest) (sym joined)
          ∙ ap (λ b. b && fit_from t (copy + 1) rest (tables_after this (tables_after batch t))) fits
          ∙ ap (λ (xs : List ℕ). fit_from t copy xs (tables_after batch t)) (sym rows) ∙ left.fits;
    }

-- they do not
pub inodes_worn : (t : Tables) (copy next : ℕ) (seen : List ℕ) (first batch : List Change) (i : ℕ) → i < length seen
    → AreInodesLeft t copy (drop i seen) next seen first batch → false ≡ file_fits copy (places_from t (get_or seen i 0) 0) (tables_after batch t)
    → false ≡ fit_from t next seen (tables_after first t)
inodes_worn t copy next seen first batch i less left fits =
    let x : ℕ = get_or seen i 0 in
    let rest : List ℕ = drop (i + 1) seen in
    let rows : drop i seen ≡ x ∷ rest = drop-cons seen i 0 less ∙ ap (λ n. x ∷ drop n seen) (sym (add-one i)) in
    ap (λ b. b && fit_from t (copy + 1) rest (tables_after (file_copied copy (places_from t x 0) (tables_after batch t)) (tables_after batch t))) fits
    ∙ ap (λ (xs : List ℕ). fit_from t copy xs (tables_after batch t)) (sym rows) ∙ left.fits

-- none is left
pub inodes_none : (t : Tables) (copy next : ℕ) (seen : List ℕ) (first batch : List Change) (rest : List ℕ) → rest ≡ [] → AreInodesLeft t copy rest next seen first batch
    → (batch ≡ first ++ placed_from t next seen (tables_after first t)) × (true ≡ fit_from t next seen (tables_after first t))
inodes_none t copy next seen first batch rest none left = (
  sym (append-nil batch) ∙ ap (λ (xs : List ℕ). batch ++ placed_from t copy xs (tables_after batch t)) (sym none) ∙ left.added,
  ap (λ (xs : List ℕ). fit_from t copy xs (tables_after batch t)) (sym none) ∙ left.fits,
)

-- ---- these are the places of all that was seen

-- an inode behind others has the place behind them
place_behind : (pre xs : List ℕ) (x : ℕ) → is_among pre x ≡ false → place_of x (pre ++ x ∷ xs) ≡ length pre
place_behind [] xs x out = ap (λ b. cond b 0 (place_of x xs + 1)) (eq-eqb x x refl)
place_behind (i ∷ pre) xs x out =
    let parts = or_parts (i == x) (is_among pre x) out in
    ap (λ b. cond b 0 (place_of x (pre ++ x ∷ xs) + 1)) parts.0 ∙ omega (arith, place_behind pre xs x parts.1)

-- each is seen once
abbrev AreNew : List ℕ → List ℕ → Type 0
AreNew pre [] = Unit {0}
AreNew pre (x ∷ xs) = (is_among pre x ≡ false) × AreNew (pre ++ x ∷ []) xs

pub placed_is : (t : Tables) (next : ℕ) (pre xs : List ℕ) (u : Tables) → AreNew pre xs → placed_from t (next + length pre) xs u ≡ files_copied t next (pre ++ xs) xs u
placed_is t next pre [] u new = refl
placed_is t next pre (x ∷ xs) u new =
    let number : next + length pre ≡ copy_number next (pre ++ x ∷ xs) x = ap (λ n. next + n) (sym (place_behind pre xs x new.0)) in
    let one : List Change = file_copied (next + length pre) (places_from t x 0) u in
    let after : Tables = tables_after one u in
    let shift : next + length pre + 1 ≡ next + length (pre ++ x ∷ []) = omega (arith, length-append pre (x ∷ [])) in
    ap (λ n. one ++ placed_from t n xs after) shift
    ∙ ap (λ (cs : List Change). one ++ cs) (placed_is t next (pre ++ x ∷ []) xs after new.1)
    ∙ ap (λ (s : List ℕ). one ++ files_copied t next s xs after) (append_assoc pre (x ∷ []) xs)
    ∙ ap (λ n. file_copied n (places_from t x 0) u ++ files_copied t next (pre ++ x ∷ xs) xs (tables_after (file_copied n (places_from t x 0) u) u)) number

pub fit_is : (t : Tables) (next : ℕ) (pre xs : List ℕ) (u : Tables) → AreNew pre xs → fit_from t (next + length pre) xs u ≡ files_fit t next (pre ++ xs) xs u
fit_is t next pre [] u new = refl
fit_is t next pre (x ∷ xs) u new =
    let number : next + length pre ≡ copy_number next (pre ++ x ∷ xs) x = ap (λ n. next + n) (sym (place_behind pre xs x new.0)) in
    let one : Bool = file_fits (next + length pre) (places_from t x 0) u in
    let after : Tables = tables_after (file_copied (next + length pre) (places_from t x 0) u) u in
    let shift : next + length pre + 1 ≡ next + length (pre ++ x ∷ []) = omega (arith, length-append pre (x ∷ [])) in
    ap (λ n. one && fit_from t n xs after) shift
    ∙ ap (λ b. one && b) (fit_is t next (pre ++ x ∷ []) xs after new.1)
    ∙ ap (λ (s : List ℕ). one && files_fit t next s xs after) (append_assoc pre (x ∷ []) xs)
    ∙ ap (λ n. file_fits n (places_from t x 0) u && files_fit t next (pre ++ x ∷ xs) xs (tables_after (file_copied n (places_from t x 0) u) u)) number

-- inodes that differ
neither : (a b : Bool) → IsTrue (not a) → (a ≡ false)
neither true b is = absurd (cc is)
neither false b is = refl

apart : (xs : List ℕ) (pre : List ℕ) → IsTrue (differ (λ a b. b == a) (pre ++ xs)) → AreNew pre xs
apart [] pre is = tt
apart (x ∷ xs) pre is =
    (before pre xs x is, apart xs (pre ++ x ∷ []) (subst (λ (l : List ℕ). IsTrue (differ (λ a b. b == a) l)) (sym (append_assoc pre (x ∷ []) xs)) is))
  where
    before : (ps ys : List ℕ) (y : ℕ) → IsTrue (differ (λ a b. b == a) (ps ++ y ∷ ys)) → is_among ps y ≡ false
    before [] ys y own = refl
    before (q ∷ ps) ys y own =
        let parts = and_parts (not (list_any (λ b. b == q) (ps ++ y ∷ ys))) (differ (λ a b. b == a) (ps ++ y ∷ ys)) own in
        or_from (q == y) (is_among ps y)
        (false_from_ne_true (q == y) (λ same. both_ways (list_any (λ b. b == q) (ps ++ y ∷ ys)) (neither _ true parts.0) (there ps ys y q (eqb-true q y same)))) (before ps ys y parts.1)
      where
        there : (ps ys : List ℕ) (y q : ℕ) → q ≡ y → list_any (λ b. b == q) (ps ++ y ∷ ys) ≡ true
        there [] ys y q same = or_left (y == q) (list_any (λ b. b == q) ys) (eq-eqb y q (sym same))
        there (p ∷ ps) ys y q same = or_right (p == q) (list_any (λ b. b == q) (ps ++ y ∷ ys)) (there ps ys y q same)

-- the places of inodes that differ, numbered from the next one on
pub files_in_turn : (t : Tables) (next : ℕ) (seen : List ℕ) (u : Tables) → IsTrue (differ (λ a b. b == a) seen)
    → (placed_from t next seen u ≡ files_copied t next seen seen u) × (fit_from t next seen u ≡ files_fit t next seen seen u)
files_in_turn t next seen u is =
    let new : AreNew [] seen = apart seen [] is in
    let none : next ≡ next + length {A = ℕ} [] = omega arith in (
      ap (λ n. placed_from t n seen u) none ∙ placed_is t next [] seen u new,
      ap (λ n. fit_from t n seen u) none ∙ fit_is t next [] seen u new,
    )

-- The bytes of a file after a write, and after a truncation.
use Rattle.std.proofs.Common.{◌≡◌, ℕ, ◌+◌, ◌≤◌, List, [], ◌++◌, sym, ap, ◌∙◌, inl, inr}
use Rattle.std.proofs.Math.ListN.{drop_of_length-le}
use Rattle.std.proofs.Math.Nat.{add-sub_of_le, le_of_lt, sub-eq-zero_of_le, min-le_left, min-le_right}
use Rattle.std.proofs.Math.Seq.{take-length, take-append_seam, drop-append_seam, drop-append-add}
use Rattle.std.proofs.lemmas.Bool.{cases_lt}
use Rattle.std.proofs.lemmas.List.{append_assoc, length-take-le, take-append-le, take-take}
use Rattle.std.specs.Prelude.{◌-◌, length, take, drop, replicate, min}
use Rattle.block_math.specs.Changes.{padded, written_at, resized}
use Rattle.block_math.proofs.LengthLemmas.{length-padded, le-padded, length-resized}
use Rattle.tree_laws.specs.Files.{HasBytesAt}

-- ---- a list behind another, whose length is given

front : (n : ℕ) (head rest : List ℕ) → length head ≡ n → take n (head ++ rest) ≡ head
front n head rest long = sym (ap (λ k. take k (head ++ rest)) long) ∙ take-append_seam head rest

back : (n : ℕ) (head rest : List ℕ) → length head ≡ n → drop n (head ++ rest) ≡ rest
back n head rest long = sym (ap (λ k. drop k (head ++ rest)) long) ∙ drop-append_seam head rest

back-add : (n m : ℕ) (head rest : List ℕ) → length head ≡ n → drop (n + m) (head ++ rest) ≡ drop m rest
back-add n m head rest long = sym (ap (λ k. drop (k + m) (head ++ rest)) long) ∙ drop-append-add head rest m

-- ---- a write

-- the bytes after a write
pub written_bytes : (offset : ℕ) (text old : List ℕ) → HasBytesAt offset text old (written_at offset text old)
written_bytes offset text old =
    let head : List ℕ = take offset (padded offset old) in
    let tail : List ℕ = drop (offset + length text) old in
    let long : length head ≡ offset = length-take-le offset (padded offset old) (le-padded offset old) in
    let parts : written_at offset text old ≡ head ++ (text ++ tail) = append_assoc head text tail in
    record {
      front = ap (take offset) parts ∙ front offset head (text ++ tail) long;
      there = ap (λ new. take (length text) (drop offset new)) parts ∙ ap (take (length text)) (back offset head (text ++ tail) long) ∙ take-append_seam text tail;
      back = ap (drop (offset + length text)) parts ∙ back-add offset (length text) head (text ++ tail) long ∙ drop-append_seam text tail;
    }

-- ---- a truncation

pub front-resized : (size : ℕ) (old : List ℕ) → take (min size (length old)) (resized size old) ≡ take (min size (length old)) old
front-resized size old =
    take-take (min size (length old)) size (padded size old) (min-le_left size (length old))
    ∙ take-append-le (min size (length old)) old (replicate (size - length old) 0) (min-le_right size (length old))

take-all : (n : ℕ) (bytes : List ℕ) → length bytes ≡ n → take n bytes ≡ bytes
take-all n bytes long = sym (ap (λ k. take k bytes) long) ∙ take-length bytes

no_gap : (size : ℕ) (old : List ℕ) → size ≤ length old → replicate {A = ℕ} (size - length old) 0 ≡ []
no_gap size old short = ap (λ k. replicate {A = ℕ} k 0) (sub-eq-zero_of_le short)

pub zeros-resized : (size : ℕ) (old : List ℕ) → drop (length old) (resized size old) ≡ replicate (size - length old) 0
zeros-resized size old =
    elim (cases_lt (length old) size) [
      | inl longer ↦
          let exact : length (padded size old) ≡ size = length-padded size old ∙ add-sub_of_le (le_of_lt longer) in
          ap (drop (length old)) (take-all size (padded size old) exact) ∙ drop-append_seam old (replicate (size - length old) 0)
      | inr shorter ↦ drop_of_length-le (resized size old) (rw (length-resized size old) shorter) ∙ sym (no_gap size old shorter)
    ]

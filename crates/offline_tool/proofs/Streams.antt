-- Bytes that are taken from a stream in pieces, into the front of a buffer.
use Rattle.std.proofs.Common.{◌≡◌, ℕ, ◌+◌, ◌-◌, ◌≤◌, List, [], ◌∷◌, ◌++◌, length, take, drop, Option, Some, refl, sym, ap, ap₂, subst, ◌∙◌, append_assoc, arith}
use Rattle.std.proofs.Math.Seq.{take-add, take-append-add}
use Rattle.std.proofs.lemmas.List.{drop-drop, length-append, length-take, length-drop, take-append-le}
use borrow.Rule.Slice.PartMut.{put_mid, post_of}
use Rattle.s3_base.specs.Stream.{Stream, advanced, Takes, TakesFront}
use Rattle.offline_tool.specs.Reading.{FillsFront}

pub advanced-advanced : (m n : ℕ) (s : Stream) → advanced n (advanced m s) ≡ advanced (m + n) s
advanced-advanced m n s =
    let front : (s.taken ++ take m s.left) ++ take n (drop m s.left) ≡ s.taken ++ take (m + n) s.left = append_assoc s.taken (take m s.left) (take n (drop m s.left)) ∙ ap (λ (x : List ℕ). s.taken ++ x) (sym (take-add m n s.left)) in
    ap₂ (λ (t l : List ℕ). record { taken = t; left = l }) front (drop-drop n m s.left)

pub length-taken : (a : ℕ) (xs : List ℕ) → a ≤ length xs → length (take a xs) ≡ a
length-taken a xs le = omega (arith, length-take a xs)

pub length-put_mid : (a k : ℕ) (xs ys : List ℕ) → a + k ≡ length xs → length ys ≡ k → length (put_mid a k xs ys) ≡ length xs
length-put_mid a k xs ys whole len = omega (arith, length-append (take a xs) (ys ++ post_of a k xs), length-append ys (post_of a k xs), length-take a xs, length-drop k (drop a xs), length-drop a xs)

pub part_length : (a : ℕ) (xs : List ℕ) → a ≤ length xs → length (take (length xs - a) (drop a xs)) ≡ length xs - a
part_length a xs low = omega (arith, length-take (length xs - a) (drop a xs), length-drop a xs)

-- a front that goes on by the front of what was written behind it
pub grown : (a n k : ℕ) (xs ys left : List ℕ) → a ≤ length xs → n ≤ length ys → take a xs ≡ take a left → take n ys ≡ take n (drop a left) → take (a + n) (put_mid a k xs ys) ≡ take (a + n) left
grown a n k xs ys left low short same more =
    let len : length (take a xs) ≡ a = length-taken a xs low in
    let cut : take (a + n) (take a xs ++ (ys ++ post_of a k xs)) ≡ take a xs ++ take n (ys ++ post_of a k xs) =
    ap (λ (m : ℕ). take (m + n) (take a xs ++ (ys ++ post_of a k xs))) (sym len) ∙ take-append-add (take a xs) (ys ++ post_of a k xs) n in
    cut ∙ ap₂ (λ (x y : List ℕ). x ++ y) same (take-append-le n ys (post_of a k xs) short ∙ more) ∙ sym (take-add a n left)

-- what is filled so far, of the bytes of a stream
pub record Filled (a : ℕ) (buffer : List ℕ) (s : Stream) (after : Option Stream) : Type 0 where
  pub fits : a ≤ length s.left
  pub bytes : take a buffer ≡ take a s.left
  pub moved : after ≡ Some (advanced a s)

-- one more piece
pub filled_more : (a n k : ℕ) (xs ys : List ℕ) (s : Stream) (before after : Option Stream) → a ≤ length xs → n ≤ length ys → Filled a xs s before → Takes n ys before after → Filled (a + n) (put_mid a k xs ys) s after
filled_more a n k xs ys s before after low short so_far taken =
    let one : TakesFront n ys (advanced a s) after = subst (λ (o : Option Stream). Takes n ys o after) so_far.moved taken in
    record {
      fits = omega (arith, one.there, so_far.fits, length-drop a s.left);
      bytes = grown a n k xs ys s.left low short so_far.bytes one.bytes;
      moved = one.moved ∙ ap Some (advanced-advanced a n s);
    }

nil_length : (xs : List ℕ) → xs ≡ [] → length xs ≡ 0
nil_length xs e = ap length e

-- the end of the stream: a piece without bytes
pub filled_ended : (a k : ℕ) (xs ys : List ℕ) (s : Stream) (before after : Option Stream) (n : ℕ) → n ≡ 0 → a ≤ length xs → length (put_mid a k xs ys) ≡ length xs → Filled a xs s before → Takes n ys before after → FillsFront a (put_mid a k xs ys) s after
filled_ended a k xs ys s before after n none low same so_far taken =
    let one : TakesFront n ys (advanced a s) after = subst (λ (o : Option Stream). Takes n ys o after) so_far.moved taken in
    let over : length (drop a s.left) ≡ 0 = nil_length (drop a s.left) (one.ended none) in
    let more = filled_more a n k xs ys s before after low (omega (arith, none)) so_far taken in
    let still : a + n ≡ a = omega (arith, none) in
    record {
      count = omega (arith, over, so_far.fits, length-drop a s.left, same);
      bytes = subst (λ (m : ℕ). take m (put_mid a k xs ys) ≡ take m s.left) still more.bytes;
      moved = subst (λ (m : ℕ). after ≡ Some (advanced m s)) still more.moved;
    }

pub filled_all : (a : ℕ) (xs : List ℕ) (s : Stream) (after : Option Stream) → length xs ≤ a → a ≤ length xs → Filled a xs s after → FillsFront a xs s after
filled_all a xs s after high low so_far = record { count = omega (arith, so_far.fits); bytes = so_far.bytes; moved = so_far.moved }

pub filled_none : (xs : List ℕ) (s : Stream) (after : Option Stream) → after ≡ Some s → Filled 0 xs s after
filled_none xs s after e = record { fits = omega arith; bytes = refl; moved = e ∙ ap Some (stays s) }
  where
    append_nil : (xs : List ℕ) → xs ≡ xs ++ []
    append_nil [] = refl
    append_nil (x ∷ xs) = ap (λ (t : List ℕ). x ∷ t) (append_nil xs)

    stays : (s : Stream) → s ≡ advanced 0 s
    stays s = ap (λ (t : List ℕ). record { taken = t; left = s.left }) (append_nil s.taken)

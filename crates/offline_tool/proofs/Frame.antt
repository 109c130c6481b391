-- A frame is taken in two pieces: its length, and its body.
use Rattle.std.proofs.Common.{◌≡◌, ℕ, ◌+◌, ◌-◌, ◌<◌, ◌≤◌, List, ◌++◌, length, take, drop, min, Option, Some, sym, ap, subst, ◌∙◌, arith, inl, inr}
use Rattle.std.specs.Int.{w32, from_be_bytes}
use Rattle.std.proofs.lemmas.Bool.{cases_lt}
use Rattle.std.proofs.lemmas.List.{length-append, length-take, length-drop, take-append-le, take-take}
use borrow.Rule.Slice.PartMut.{put_mid, post_of}
use Rattle.s3_base.specs.Stream.{Stream, advanced}
use Rattle.frame_fields.specs.Frames.{said_length}
use Rattle.offline_tool.specs.Reading.{FillsFront, TakesFrame}
use Rattle.offline_tool.proofs.Streams.{advanced-advanced, length-taken, grown}

-- the length that is said depends on the first four bytes alone
said_front : (n : ℕ) (xs ys : List ℕ) → 4 ≤ n → take 4 xs ≡ take 4 ys → said_length (take n xs) ≡ said_length (take 4 ys)
said_front n xs ys le same = ap (from_be_bytes w32) (take-take 4 n xs le ∙ same ∙ sym (take-take 4 4 ys (omega arith)))

-- the first four bytes are all there
pub record HasHead (buffer : List ℕ) (room : ℕ) (s : Stream) (after : Option Stream) : Type 0 where
  pub long : 4 ≤ length buffer
  pub roomy : 4 ≤ room
  pub there : 4 ≤ length s.left
  pub bytes : take 4 buffer ≡ take 4 s.left
  pub moved : after ≡ Some (advanced 4 s)

pub has_head : (head room first : ℕ) (piece others : List ℕ) (s : Stream) (after : Option Stream) → head ≡ min 4 room → length piece ≡ head → 4 ≤ first → FillsFront first piece s after → HasHead (piece ++ others) room s after
has_head head room first piece others s after least size le filled =
    let four : first ≡ 4 = omega (arith, filled.count) in
    let long : 4 ≤ length piece = omega (arith, filled.count) in
    record {
      long = omega (arith, long, length-append piece others);
      roomy = omega (arith, long);
      there = omega (arith, filled.count);
      bytes = take-append-le 4 piece others long ∙ subst (λ (n : ℕ). take n piece ≡ take n s.left) four filled.bytes;
      moved = subst (λ (n : ℕ). after ≡ Some (advanced n s)) four filled.moved;
    }

-- a length outside its rule ends the frame
pub takes_head : (room body : ℕ) (buffer : List ℕ) (s : Stream) (after : Option Stream) → HasHead buffer room s after → body ≡ said_length (take 4 buffer) → 262144 < body → TakesFrame 4 buffer (take room s.left) s after
takes_head room body buffer s after head said long =
    record {
      bytes = head.bytes ∙ sym (take-take 4 room s.left head.roomy);
      within = omega (arith, length-take room s.left, head.roomy, head.there);
      at_most = λ h. omega arith;
      enough = inr (omega arith, λ short. absurd (omega (arith, said, long, short)));
      moved = head.moved;
    }

-- the body behind it, or what there is of it
pub takes_body : (room body rest second k : ℕ) (buffer piece : List ℕ) (s : Stream) (middle after : Option Stream) → HasHead buffer room s middle → body ≡ said_length (take 4 buffer) → rest ≡ min body (room - 4) → length piece ≡ rest
    → FillsFront second piece (advanced 4 s) after → TakesFrame (4 + second) (put_mid 4 k buffer piece) (take room s.left) s after
takes_body room body rest second k buffer piece s middle after head said least size filled =
    let left = length-drop 4 s.left in
    let short : second ≤ length piece = omega (arith, filled.count) in
    let all : second ≤ length s.left - 4 = omega (arith, filled.count, left) in
    let roomy : 4 + second ≤ room = omega (arith, short, size, least, head.roomy) in
    let in_room : length (take room s.left) ≡ min room (length s.left) = length-take room s.left in
    let front : take 4 (put_mid 4 k buffer piece) ≡ take 4 buffer = take-append-le 4 (take 4 buffer) (piece ++ post_of 4 k buffer) (omega (arith, length-taken 4 buffer head.long)) ∙ take-take 4 4 buffer (omega arith) in
    let same : said_length (take (4 + second) (put_mid 4 k buffer piece)) ≡ body = said_front (4 + second) (put_mid 4 k buffer piece) buffer (omega arith) front ∙ sym said in
    record {
      bytes = grown 4 second k buffer piece s.left head.long short head.bytes filled.bytes ∙ sym (take-take (4 + second) room s.left roomy);
      within = omega (arith, in_room, roomy, all, head.there);
      at_most = λ h. omega (arith, same, short, size, least);
      enough = elim (cases_lt second (length s.left - 4)) [
        | inr over ↦ inl (omega (arith, in_room, roomy, all, over, head.there))
        | inl under ↦ elim (cases_lt (room - 4) body) [
          | inl cut ↦ inl (omega (arith, in_room, under, filled.count, left, size, least, cut, head.roomy))
          | inr whole ↦ inr (omega arith, λ h. omega (arith, same, filled.count, left, under, size, least, whole))
        ]
      ];
      moved = filled.moved ∙ ap Some (advanced-advanced 4 second s);
    }

-- a part of a buffer whose front was written
pub part_behind : (head rest : ℕ) (piece buffer : List ℕ) → length piece ≡ head → head ≤ 4 → rest ≤ 262144 → length buffer ≡ 4 + 262144 → length (take (4 + rest - 4) (drop 4 (piece ++ drop head buffer))) ≡ rest
part_behind head rest piece buffer size low short whole =
    omega (arith, length-take (4 + rest - 4) (drop 4 (piece ++ drop head buffer)), length-drop 4 (piece ++ drop head buffer), length-append piece (drop head buffer), length-drop head buffer)

-- What a call takes, in plain lists: the bytes from `at` on, as many as fit.
use Rattle.std.proofs.Common.{◌≡◌, ℕ, ◌<◌, ◌≤◌, ◌+◌, ◌-◌, List, ◌++◌, length, take, drop, min, Some, refl, ap, ◌∙◌, arith}
use Rattle.std.proofs.Math.Seq.{take-add}
use Rattle.std.proofs.lemmas.List.{drop-drop, length-drop, length-take-le, nil_from_length, take_all, take-append-le}
use Rattle.s3_base.specs.Stream.{TakesFront}
use Rattle.s3_base.proofs.memory.MemSourceSource.next.Goals as goal

taken_front : (bs buf rest copied : List ℕ) (at n : ℕ) → at ≤ length bs → rest ≡ drop at bs → n ≡ min (length rest) (length buf) → 0 < length buf → copied ≡ take n rest → TakesFront n (copied ++ drop n buf) record { taken = take at bs; left = drop at bs } (Some record { taken = take (at + n) bs; left = drop (at + n) bs })
taken_front bs buf rest copied at n low whole size room copy =
    let fits : n ≤ length (drop at bs) = omega (arith, ap length whole) in
    let same : copied ≡ take n (drop at bs) = copy ∙ ap (take n) whole in
    let long : length (take n (drop at bs)) ≡ n = length-take-le n (drop at bs) fits in
    record {
      bytes = take-append-le n copied (drop n buf) (omega (arith, ap length same)) ∙ take_all n copied (omega (arith, ap length same)) ∙ same;
      there = fits;
      ended = λ none. nil_from_length _ (omega (arith, ap length whole));
      moved = rw (take-add at n bs, ← drop-drop n at bs) refl;
    }

pub returns-clause-taken : goal.returns-clause-taken
returns-clause-taken c =
    let from = c.self.inside.at in
    let bytes = c.self.inside.bytes in
    let held : c.as_slice.result.now ≡ bytes = c.as_slice.ensures in
    let low : from ≤ length bytes = c.self.invariant in
    let whole : take (length c.as_slice.result.now - from) (drop from c.as_slice.result.now) ≡ drop from bytes =
    take_all _ _ (omega (arith, length-drop from c.as_slice.result.now)) ∙ ap (drop from) held in
    rw (← c.self.view_is) (taken_front bytes c.args.buf.now _ c.copy_from_slice.new.self from c.min-n.result low whole c.min-n.ensures c.requires c.copy_from_slice.ensures.after)

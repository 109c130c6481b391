-- A write takes a front of the rest, which joins what was handed on before.
use Rattle.std.proofs.Common.{◌≡◌, ℕ, ◌≤◌, ◌+◌, ◌-◌, List, length, take, drop, Option, ap, ◌∙◌, arith}
use Rattle.std.proofs.Math.Seq.{take-add}
use Rattle.std.proofs.KnownBytes.{Appends-trans}
use Rattle.std.proofs.lemmas.List.{drop-drop, length-drop, take_all}
use Rattle.std.specs.Io.KnownBytes.{Appends}
use Rattle.s3_base.proofs.standard.write_all.Goals as goal

-- the invariant after a write of the first n bytes of the rest
record Handed (first after : Option (List ℕ)) (total later : List ℕ) : Type 0 where
  short : length later ≤ length total
  rest : later ≡ drop (length total - length later) total
  written : Appends first after (take (length total - length later) total)

handed : (first held after : Option (List ℕ)) (total rest later : List ℕ) (n : ℕ) → length rest ≤ length total → rest ≡ drop (length total - length rest) total → n ≤ length rest → later ≡ drop n rest → Appends first held (take (length total - length rest) total) → Appends held after (take n rest) → Handed first after total later
handed first held after total rest later n short is fits next before more =
    let k = length total - length rest in
    let size : length later ≡ length rest - n = ap length next ∙ length-drop n rest in
    let at : length total - length later ≡ k + n = omega arith in
    record {
      short = omega arith;
      rest = rw at (next ∙ ap (drop n) is ∙ drop-drop n k total);
      written = rw (at, take-add k n total) (Appends-trans first held after _ _ before (rw is at more));
    }

pub loop-rest-preserved : goal.loop-rest-preserved
loop-rest-preserved g c =
    let n = c.in-Ok.n in
    let rest = c.loop-rest.rest.now in
    let fits : n ≤ length rest = c.in-Ok.ensures.bound in
    let next = take_all (length rest - n) (drop n rest) (omega (arith, length-drop n rest)) in
    let h = handed _ _ _ c.args.bytes.now rest _ n c.loop-rest.invariant.short c.loop-rest.invariant.rest fits next c.loop-rest.invariant.written c.in-Ok.ensures.bytes in
    record { short = h.short; rest = h.rest; written = h.written }

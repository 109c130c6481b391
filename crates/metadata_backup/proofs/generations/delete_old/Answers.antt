use Rattle.std.proofs.Common.{◌≡◌, ◌<◌, take, length, get_or, true, false, sym, ap, ◌∙◌, arith}
use Rattle.std.specs.Prelude.{nat_le}
use Rattle.std.proofs.lemmas.Bool.{le-leb, lt-leb}
use Rattle.std.proofs.lemmas.List.Elements.{All-take}
use Rattle.s3_rows.specs.Rows.{IsId}
use Rattle.metadata_backup.proofs.GenerationLaws.{counted_more, gone_less, gone_more, gone_none, left_after_refusal, left_from_gone, up_to-high}
use Rattle.metadata_backup.proofs.generations.delete_old.Goals as goal
use Rattle.metadata_backup.proofs.generations.delete_old.Goals.{then-number-limit+in_ok-delete_generation, else-number-limit}

pub loop-number-init : goal.loop-number-init
loop-number-init g c = record {
  gone = gone_none c.args.limit (g.L.Link.told c.args.link.now);
  counted = omega arith;
  few = omega arith;
  later = omega arith;
}

pub returns-in_err-delete_generation-clause-left : goal.returns-in_err-delete_generation-clause-left
returns-in_err-delete_generation-clause-left g c =
    let numbers = c.args.generations.now in
    let i = c.loop-number.number-index in
    let within : i < length numbers = c.loop-number-test.true in
    let before = g.L.Link.told c.args.link.now in
    let mid = g.L.Link.told c.loop-number.link in
    left_after_refusal c.args.limit (get_or numbers i 0) before mid (g.L.Link.told c.delete_generation.new.link) (c.requires i 0 within)
    (le-leb (get_or numbers i 0) c.args.limit c.if-number-limit.true)
    (left_from_gone c.args.limit (take i numbers) before mid (All-take IsId i numbers c.requires) c.loop-number.invariant.gone)
    c.in_err-delete_generation.ensures.err

pub returns-clause-left : goal.returns-clause-left
returns-clause-left g c =
    let numbers = c.args.generations.now in
    let i = c.loop-number.number-index in
    left_from_gone c.args.limit (take i numbers) (g.L.Link.told c.args.link.now) (g.L.Link.told c.loop-number.link) (All-take IsId i numbers c.requires) c.loop-number.invariant.gone

pub loop-number-preserved : goal.loop-number-preserved
loop-number-preserved g c =
    let numbers = c.args.generations.now in
    let i = c.loop-number.number-index in
    let limit = c.args.limit in
    let within : i < length numbers = c.loop-number-test.true in
    let before = g.L.Link.told c.args.link.now in
    let mid = g.L.Link.told c.loop-number.link in
    elim c.if-number-limit.branch [
      | then-number-limit+in_ok-delete_generation w ↦
          let low : nat_le (get_or numbers i 0) limit ≡ true = le-leb (get_or numbers i 0) limit w.if-number-limit.true in
          let more = counted_more limit numbers i within c.loop-number.count low c.loop-number.invariant.counted in
          record {
            gone = ap g.L.Link.told w.link-is
                ∙ gone_more limit numbers i within before mid (g.L.Link.told w.delete_generation.new.link) low c.loop-number.invariant.gone w.in_ok-delete_generation.ensures.ok;
            counted = w.count-is ∙ more;
            few = omega (arith, w.count-is, c.loop-number.invariant.few);
            later = omega (arith, ap g.L.Link.faults w.link-is, w.in_ok-delete_generation.ensures.cause.later, c.loop-number.invariant.later);
          }
      | else-number-limit w ↦
          let high : nat_le (get_or numbers i 0) limit ≡ false = lt-leb (get_or numbers i 0) limit w.if-number-limit.false in
          record {
            gone = ap g.L.Link.told w.link-is ∙ gone_less limit numbers i within before mid high c.loop-number.invariant.gone;
            counted = w.count-is ∙ c.loop-number.invariant.counted ∙ ap (λ ns. length ns) (sym (up_to-high limit numbers i within high));
            few = omega (arith, w.count-is, c.loop-number.invariant.few);
            later = omega (arith, ap g.L.Link.faults w.link-is, c.loop-number.invariant.later);
          }
    ]

use Rattle.std.proofs.Common.{◌≡◌, List, refl, sym, ap, ◌∙◌, subst, arith, IsTrue, length, Option}
use Rattle.s3_rows.specs.declared.table_rows.Row.{Row}
use Rattle.s3_rows.specs.Tables.{IsOrdered}
use Rattle.s3_rows.specs.Selections.{rows_of, page_of}
use Rattle.s3_rows.specs.Told.{Told, IfTold, is_page_of}
use Rattle.ref_counts.proofs.Told.{IfTold-weaker2, IfTold-all}
use Rattle.inode_ops.proofs.Counted.{IsPartly, page_counted, all_counted, none_yet, page_nearer, page_fits, page_short}
use Rattle.inode_ops.proofs.counting.count.Goals as goal

pub pages-init : goal.pages-init
pages-init g c = record {
  told = refl;
  later = omega arith;
  fits = refl;
  short = refl;
  partly = IfTold-all (g.K.Keeper.told c.args.keeper.now) (λ t. IsOrdered t → IsPartly (rows_of t c.args.table) _) (λ t o. none_yet (rows_of t c.args.table));
}

pub pages-smaller : goal.pages-smaller
pages-smaller g c =
    let same : c.as_slice.result.now ≡ c.in_ok-page.page = c.as_slice.ensures in
    let some : length c.as_slice.result.now ≡ 0 → ⊥ = λ (none : length c.as_slice.result.now ≡ 0). c.if-len-eq0.false (c.len.ensures ∙ ap length (sym same) ∙ none) in
    page_nearer c.pages.tally c.add_page-tally.result c.as_slice.result.now c.args.table 256 some c.add_page-tally.ensures.added c.pages.invariant.short c.add_page-tally.ensures.short
    (subst (λ (rows : List Row). IsTrue (is_page_of c.args.table c.pages.tally.after 256 rows)) (sym same) c.in_ok-page.ensures.page)

pub pages-preserved : goal.pages-preserved
pages-preserved g c =
    let same : c.as_slice.result.now ≡ c.in_ok-page.page = c.as_slice.ensures in
    let page : IsTrue (is_page_of c.args.table c.pages.tally.after 256 c.as_slice.result.now) =
    subst (λ (rows : List Row). IsTrue (is_page_of c.args.table c.pages.tally.after 256 rows)) (sym same) c.in_ok-page.ensures.page in
    record {
      told = c.in_ok-page.ensures.same ∙ c.pages.invariant.told;
      later = omega (arith, c.in_ok-page.ensures.cause.later, c.pages.invariant.later);
      fits = page_fits c.pages.tally c.add_page-tally.result c.as_slice.result.now c.args.table 256 c.add_page-tally.ensures.added c.pages.invariant.fits page;
      short = page_short c.pages.tally c.add_page-tally.result c.as_slice.result.now c.add_page-tally.ensures.added c.pages.invariant.short c.add_page-tally.ensures.short;
      partly =
          IfTold-weaker2 (g.K.Keeper.told c.args.keeper.now) _ _ _
          (λ t partly is o. page_counted t c.args.table c.pages.tally c.add_page-tally.result c.as_slice.result.now 256 o (partly o) (same ∙ is) c.add_page-tally.ensures.added)
          c.pages.invariant.partly
          (subst (λ (told : Option Told). IfTold told (λ t. c.in_ok-page.page ≡ page_of t c.args.table c.pages.tally.after 256)) c.pages.invariant.told c.in_ok-page.ensures.rows);
    }

pub returns-then-len-eq0-clause-counted : goal.returns-then-len-eq0-clause-counted
returns-then-len-eq0-clause-counted g c =
    IfTold-weaker2 (g.K.Keeper.told c.args.keeper.now) _ _ _
    (λ t partly is o. all_counted t c.args.table c.pages.tally c.in_ok-page.page 256 (omega arith) (partly o) is (sym c.len.ensures ∙ c.if-len-eq0.true))
    c.pages.invariant.partly
    (subst (λ (told : Option Told). IfTold told (λ t. c.in_ok-page.page ≡ page_of t c.args.table c.pages.tally.after 256)) c.pages.invariant.told c.in_ok-page.ensures.rows)

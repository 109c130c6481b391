use Rattle.std.proofs.Common.{List, sym, ap, ◌∙◌, subst}
use Rattle.std.specs.List.{slice_get}
use Rattle.std.specs.Option.{ForSome, option_copied}
use Rattle.std.specs.Prelude.{IsTrue}
use Rattle.s3_rows.specs.declared.table_rows.Row.{Row}
use Rattle.s3_rows.specs.declared.table_rows.RowKey.TheVariants as keys
use Rattle.s3_rows.specs.Selections.{is_pair_past}
use Rattle.ref_counts.proofs.AttrKeys.{first_is_past, found_is_next, none_is_next}
use Rattle.ref_counts.proofs.Told.{IfTold-weaker}
use Rattle.ref_counts.proofs.removal.next_attr.Goals as goal

pub returns-in-Some-clause-next : goal.returns-in-Some-clause-next
returns-in-Some-clause-next g c =
    IfTold-weaker (g.K.Keeper.told c.args.keeper.now) _ _
    (λ t is. c.attr_key.ensures.key ∙ found_is_next t c.args.last c.in_ok-page.page is _ (c.in-Some.ensures.value ∙ ap (λ (l : List Row). slice_get l 0) c.as_slice.ensures))
    c.in_ok-page.ensures.rows

pub returns-in-Some-clause-past : goal.returns-in-Some-clause-past
returns-in-Some-clause-past g c =
    subst (λ found. ForSome found (λ k. IsTrue (is_pair_past (keys.Two c.args.last.0 c.args.last.1) k))) (sym c.attr_key.ensures.key)
    (first_is_past c.args.last.0 c.args.last.1 1 c.in_ok-page.page _ (c.in-Some.ensures.value ∙ ap (λ (l : List Row). slice_get l 0) c.as_slice.ensures) c.in_ok-page.ensures.page)

pub returns-clause-next : goal.returns-clause-next
returns-clause-next g c =
    IfTold-weaker (g.K.Keeper.told c.args.keeper.now) _ _
    (λ t is.
    none_is_next t c.args.last c.in_ok-page.page is
    (sym (ap option_copied c.in-None.is) ∙ c.first.ensures.value ∙ ap (λ (l : List Row). slice_get l 0) c.as_slice.ensures))
    c.in_ok-page.ensures.rows

use Rattle.std.proofs.Common.{◌≡◌, IsTrue, List, ap, ◌∙◌, sym, subst}
use Rattle.std.specs.Prelude.{◌==◌}
use Rattle.std.proofs.lemmas.Bool.{eqb-true}
use Rattle.s3_rows.specs.declared.table_rows.RowKey.{RowKey}
use Rattle.s3_rows.specs.declared.table_rows.TableName.{TableName}
use Rattle.s3_rows.specs.Selections.{page_of}
use Rattle.s3_rows.specs.Told.{is_page_of}
use Rattle.keeper_dump.specs.Part.{keys_rise}
use Rattle.keeper_dump.specs.Kept.{IsReadPage, last_key}
use Rattle.keeper_dump.proofs.PageLaws.{last_fits, page_rises, page_read, told_weaker}
use Rattle.keeper_dump.proofs.pages.read_page.Goals as goal

pub page-requires-clause-fits : goal.page-requires-clause-fits
page-requires-clause-fits g c = rw (c.table.ensures, c.key_of_last-after.ensures, c.as_slice.ensures) (last_fits g.T.TableRow.format.key g.T.KeptRow.kept c.requires c.args.rows.now)

pub returns-clause-order : goal.returns-clause-order
returns-clause-order g c = λ up.
    let key = g.T.TableRow.format.key in
    let k = g.T.KeptRow.kept in
    let here : c.key_of_last-after.result ≡ last_key key c.args.rows.now = c.key_of_last-after.ensures ∙ ap (last_key key) c.as_slice.ensures in
    let page : IsTrue (is_page_of k.table (last_key key c.args.rows.now) 256 c.in_ok-page.page) =
    subst (λ (b : RowKey). IsTrue (is_page_of k.table b 256 c.in_ok-page.page)) here
    (subst (λ (n : TableName). IsTrue (is_page_of n c.key_of_last-after.result 256 c.in_ok-page.page)) c.table.ensures c.in_ok-page.ensures.page) in
    subst (λ (rows : List _). IsTrue (keys_rise key rows)) (sym c.in_ok-keep_rows.ensures)
    (page_rises key k c.requires c.args.rows.now 256 c.in_ok-page.page page up)

pub returns-clause-read : goal.returns-clause-read
returns-clause-read g c =
    let key = g.T.TableRow.format.key in
    let k = g.T.KeptRow.kept in
    let here : c.key_of_last-after.result ≡ last_key key c.args.rows.now = c.key_of_last-after.ensures ∙ ap (last_key key) c.as_slice.ensures in
    told_weaker (g.K.Keeper.told c.args.keeper.now) (λ t. c.in_ok-page.page ≡ page_of t c.table.result c.key_of_last-after.result 256) _
    (λ t given up start.
    let page : c.in_ok-page.page ≡ page_of t k.table (last_key key c.args.rows.now) 256 =
    given ∙ ap (λ (n : TableName). page_of t n c.key_of_last-after.result 256) c.table.ensures ∙ ap (λ (b : RowKey). page_of t k.table b 256) here in
    subst (λ (rows : List _). IsReadPage (c.len-last.result == 0) rows (k.listed t)) (sym c.in_ok-keep_rows.ensures)
    (page_read key k c.requires t c.args.rows.now 255 c.in_ok-page.page (c.len-last.result == 0) page
    (λ last. sym c.len-last.ensures ∙ eqb-true c.len-last.result 0 last) up start))
    c.in_ok-page.ensures.rows

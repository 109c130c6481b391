use Rattle.std.proofs.Common.{◌≡◌, List, sym, subst, true}
use Rattle.std.proofs.lemmas.Result.{IfOk-weaker}
use Rattle.s3_rows.specs.declared.table_rows.Row.{Row}
use Rattle.s3_rows.specs.declared.table_rows.Row.TheVariants as rows
use Rattle.s3_rows.specs.declared.table_rows.TableName.TheVariants as tables
use Rattle.s3_rows.specs.Tables.{by_slot}
use Rattle.s3_rows.specs.Told.{is_page_of}
use Rattle.row_lists.proofs.ListingPages.{paged, parts, table_of_slots}
use Rattle.row_lists.proofs.listing.pages.page_of_slots.Goals as goal

pub page_of_rows-requires : goal.page_of_rows-requires
page_of_rows-requires c = parts by_slot tables.Slots rows.Slot table_of_slots c.args.after.now c.args.rows.now c.requires

pub returns-clause-page : goal.returns-clause-page
returns-clause-page c =
    IfOk-weaker c.page_of_rows.result _ _
    (λ l is. subst (λ (page : List Row). is_page_of tables.Slots c.args.after.now c.args.max page ≡ true) (sym is)
    (paged by_slot tables.Slots rows.Slot table_of_slots c.args.after.now c.args.max c.args.rows.now c.requires)) c.page_of_rows.ensures

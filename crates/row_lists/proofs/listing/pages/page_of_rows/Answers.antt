use Rattle.std.proofs.Common.{rules, ◌≡◌, not, true, false, ◌∙◌}
use Rattle.std.specs.List.Sorted.{IsPartitionPoint}
use Rattle.std.proofs.lemmas.List.Sorted.{IsPartitionPoint-from_clause}
use Rattle.s3_rows.specs.Selections.{is_row_past}
use Rattle.row_lists.proofs.ListingPages.{copied}
use Rattle.row_lists.proofs.listing.pages.page_of_rows.Goals as goal

pub returns : goal.returns
returns g c =
    let point : IsPartitionPoint (λ (x : g.row.T.Denot). not (is_row_past c.args.after.now (g.T.TableRow.row_of x)) ≡ true) (λ (x : g.row.T.Denot). not (is_row_past c.args.after.now (g.T.TableRow.row_of x)) ≡ false) c.args.rows.now c.partition_point-start.result =
    IsPartitionPoint-from_clause (λ x. not (is_row_past c.args.after.now (g.T.TableRow.row_of x))) _ _ c.partition_point-start.ensures.partitioned c.requires (λ a r q k. search rules) in
    c.loop-row.invariant
    ∙ copied g.T.TableRow.row_of (is_row_past c.args.after.now) c.args.rows.now c.partition_point-start.result c.args.max c.min-count.result c.loop-row.row-index
    c.partition_point-start.ensures.bound point c.min-count.ensures c.loop-row-test.false

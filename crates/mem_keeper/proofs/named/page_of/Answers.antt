use Rattle.std.proofs.Common.{◌≡◌, ◌<◌, ◌&&◌, List, [], true, filter_map, filter, ◌==◌, sym, ap, ◌∙◌, subst}
use Rattle.std.specs.List.{list_all}
use Rattle.std.proofs.lemmas.Bool.{and_from}
use Rattle.std.proofs.lemmas.Cmp.{nat_list_cmp_total}
use Rattle.std.proofs.lemmas.List.Elements.{recursion_from_All}
use Rattle.s3_rows.specs.Keyed.{rows_past, sorted_by}
use Rattle.s3_rows.specs.Told.{has_short_name, is_page}
use Rattle.row_lists.specs.Listing.{by_bytes, with_name}
use Rattle.row_lists.proofs.ListingLeast.{least-paged}
use Rattle.mem_keeper.specs.Table.{rows_of}
use Rattle.mem_keeper.proofs.Found.{no_own, take_none}
use Rattle.mem_keeper.proofs.named.page_of.Goals as goal

pub returns-then-owner-eq18446744073709551615-clause-rows : goal.returns-then-owner-eq18446744073709551615-clause-rows
returns-then-owner-eq18446744073709551615-clause-rows g c =
    let names = rows_of c.args.names.now.map.entries in
    let rows = rows_of c.args.table.now.entries in
    let item = with_name (λ r. (g.R.Keyed.key r).1) g.T.NamedFrom.made names in
    let none : filter (λ r. (g.R.Keyed.key r).0 == c.args.owner) rows ≡ [] =
    ap (λ n. filter (λ r. (g.R.Keyed.key r).0 == n) rows) c.if-owner-eq18446744073709551615.true
    ∙ no_own g.R.Keyed.key 18446744073709551615 rows (recursion_from_All (λ r. (g.R.Keyed.key r).0 < 18446744073709551615) rows c.requires.low) in
    c.new.ensures
    ∙ sym (take_none c.args.max (rows_past (by_bytes g.T.Named.name_of) c.args.after.now (sorted_by (by_bytes g.T.Named.name_of) (filter_map item (filter (λ r. (g.R.Keyed.key r).0 == c.args.owner) rows))))
    (ap (λ l. rows_past (by_bytes g.T.Named.name_of) c.args.after.now (sorted_by (by_bytes g.T.Named.name_of) (filter_map item l))) none))

pub returns-clause-page : goal.returns-clause-page
returns-clause-page g c =
    subst (λ (l : List g.row.T.Denot). (is_page (by_bytes g.T.Named.name_of) c.args.after.now c.args.max l && list_all (λ x. has_short_name (g.T.Named.name_of x)) l) ≡ true) (sym c.from.ensures)
    (and_from (is_page (by_bytes g.T.Named.name_of) c.args.after.now c.args.max c.in_ok-items.items.items) (list_all (λ x. has_short_name (g.T.Named.name_of x)) c.in_ok-items.items.items)
    (subst (λ (l : List g.row.T.Denot). is_page (by_bytes g.T.Named.name_of) c.args.after.now c.args.max l ≡ true) (sym c.in_ok-items.ensures.items)
    (least-paged (by_bytes g.T.Named.name_of) nat_list_cmp_total c.args.after.now c.args.max
    (filter_map (with_name (λ r. (g.R.Keyed.key r).1) g.T.NamedFrom.made (rows_of c.args.names.now.map.entries)) (filter (λ r. (g.R.Keyed.key r).0 == c.args.owner) (rows_of c.args.table.now.entries)))))
    c.in_ok-items.ensures.short)

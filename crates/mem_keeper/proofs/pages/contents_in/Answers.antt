use Rattle.std.proofs.Common.{◌≡◌, List, Bool, take, refl, sym, ap, ◌∙◌, subst}
use Rattle.std.specs.Prelude.{IsTrue, filter}
use Rattle.row_lemmas.proofs.Tables.{pair_cmp_total}
use Rattle.s3_rows.specs.declared.table_rows.Row.TheVariants as rows
use Rattle.s3_rows.specs.Rows.{Content}
use Rattle.s3_rows.specs.Keyed.{rises}
use Rattle.s3_rows.specs.Tables.{by_entry}
use Rattle.s3_rows.specs.Selections.{is_row_past}
use Rattle.row_lemmas.proofs.Keyed.Rises.{rises-take, rises-filter}
use Rattle.mem_keeper.specs.Table.{rows_of}
use Rattle.mem_keeper.specs.Store.{tables_in}
use Rattle.mem_keeper.proofs.Standing.{if_ok_at}
use Rattle.mem_keeper.proofs.Tabled.{rises-rows_of}
use Rattle.mem_keeper.proofs.Parts.{filter_agree, paged_again}
use Rattle.mem_keeper.proofs.pages.contents_in.Goals as goal

pub page_of_contents-requires : goal.page_of_contents-requires
page_of_contents-requires c =
    let all : List Content = rows_of c.args.maps.now.contents.entries in
    subst (λ (l : List Content). IsTrue (rises by_entry l)) (sym (c.deref.ensures.value ∙ c.in_ok-rows.ensures))
    (rises-take by_entry c.args.max (filter _ all) (rises-filter by_entry _ all (rises-rows_of by_entry pair_cmp_total c.args.maps.now.contents.entries c.requires.maps.contents)))

pub returns-clause-rows : goal.returns-clause-rows
returns-clause-rows c =
    let all : List Content = rows_of c.args.maps.now.contents.entries in
    let test : Content → Bool = λ r. is_row_past c.args.after.now (rows.Content r) in
    let part : c.deref.result.now ≡ take c.args.max (filter test all) =
    c.deref.ensures.value ∙ c.in_ok-rows.ensures ∙ ap (take c.args.max) (filter_agree (λ (r : Content). Unit {0}) _ test (λ r any. c.past_pair.ensures (r.parent, r.name_id)) all (λ i d below. tt)) in
    if_ok_at c.page_of_contents.result _ _
    (λ l h. h (record (tables_in c.args.maps.now) { contents = c.deref.result.now }) refl
    ∙ paged_again rows.Content (is_row_past c.args.after.now) c.args.max all c.deref.result.now part)
    c.page_of_contents.ensures.rows

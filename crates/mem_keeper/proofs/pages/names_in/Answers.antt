use Rattle.std.proofs.Common.{◌≡◌, List, Bool, take, refl, sym, ap, ◌∙◌, subst}
use Rattle.std.specs.Prelude.{IsTrue, filter}
use Rattle.std.specs.Cmp.{nat_cmp_total}
use Rattle.s3_rows.specs.declared.table_rows.Row.TheVariants as rows
use Rattle.s3_rows.specs.Rows.{Name}
use Rattle.s3_rows.specs.Keyed.{rises}
use Rattle.s3_rows.specs.Tables.{by_name}
use Rattle.s3_rows.specs.Selections.{is_row_past}
use Rattle.row_lemmas.proofs.Keyed.Rises.{rises-take, rises-filter}
use Rattle.mem_keeper.specs.Table.{rows_of}
use Rattle.mem_keeper.specs.Store.{tables_in}
use Rattle.mem_keeper.proofs.Standing.{if_ok_at}
use Rattle.mem_keeper.proofs.Tabled.{rises-rows_of}
use Rattle.mem_keeper.proofs.Parts.{filter_agree, paged_again}
use Rattle.mem_keeper.proofs.pages.names_in.Goals as goal

pub page_of_names-requires : goal.page_of_names-requires
page_of_names-requires c =
    let all : List Name = rows_of c.args.maps.now.names.map.entries in
    subst (λ (l : List Name). IsTrue (rises by_name l)) (sym (c.deref.ensures.value ∙ c.in_ok-rows.ensures))
    (rises-take by_name c.args.max (filter _ all) (rises-filter by_name _ all (rises-rows_of by_name nat_cmp_total c.args.maps.now.names.map.entries c.requires.maps.names)))

pub returns-clause-rows : goal.returns-clause-rows
returns-clause-rows c =
    let all : List Name = rows_of c.args.maps.now.names.map.entries in
    let test : Name → Bool = λ r. is_row_past c.args.after.now (rows.Name r) in
    let part : c.deref.result.now ≡ take c.args.max (filter test all) =
    c.deref.ensures.value ∙ c.in_ok-rows.ensures ∙ ap (take c.args.max) (filter_agree (λ (r : Name). Unit {0}) _ test (λ r any. c.past_number.ensures r.id) all (λ i d below. tt)) in
    if_ok_at c.page_of_names.result _ _
    (λ l h. h (record (tables_in c.args.maps.now) { names = c.deref.result.now }) refl
    ∙ paged_again rows.Name (is_row_past c.args.after.now) c.args.max all c.deref.result.now part)
    c.page_of_names.ensures.rows

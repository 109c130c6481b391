use Rattle.std.proofs.Common.{◌≡◌, List, Bool, take, refl, sym, ap, ◌∙◌, subst}
use Rattle.std.specs.Prelude.{IsTrue, filter}
use Rattle.row_lemmas.proofs.Tables.{pair_cmp_total}
use Rattle.s3_rows.specs.declared.table_rows.Row.TheVariants as rows
use Rattle.s3_rows.specs.Rows.{Attr}
use Rattle.s3_rows.specs.Keyed.{rises}
use Rattle.s3_rows.specs.Tables.{by_attr}
use Rattle.s3_rows.specs.Selections.{is_row_past}
use Rattle.row_lemmas.proofs.Keyed.Rises.{rises-take, rises-filter}
use Rattle.mem_keeper.specs.Table.{rows_of}
use Rattle.mem_keeper.specs.Store.{tables_in}
use Rattle.mem_keeper.proofs.Standing.{if_ok_at}
use Rattle.mem_keeper.proofs.Tabled.{rises-rows_of}
use Rattle.mem_keeper.proofs.Parts.{filter_agree, paged_again}
use Rattle.mem_keeper.proofs.pages.attrs_in.Goals as goal

pub page_of_attrs-requires : goal.page_of_attrs-requires
page_of_attrs-requires c =
    let all : List Attr = rows_of c.args.maps.now.attrs.entries in
    subst (λ (l : List Attr). IsTrue (rises by_attr l)) (sym (c.deref.ensures.value ∙ c.in_ok-rows.ensures))
    (rises-take by_attr c.args.max (filter _ all) (rises-filter by_attr _ all (rises-rows_of by_attr pair_cmp_total c.args.maps.now.attrs.entries c.requires.maps.attrs)))

pub returns-clause-rows : goal.returns-clause-rows
returns-clause-rows c =
    let all : List Attr = rows_of c.args.maps.now.attrs.entries in
    let test : Attr → Bool = λ r. is_row_past c.args.after.now (rows.Attr r) in
    let part : c.deref.result.now ≡ take c.args.max (filter test all) =
    c.deref.ensures.value ∙ c.in_ok-rows.ensures ∙ ap (take c.args.max) (filter_agree (λ (r : Attr). Unit {0}) _ test (λ r any. c.past_pair.ensures (r.inode, r.name_id)) all (λ i d below. tt)) in
    if_ok_at c.page_of_attrs.result _ _
    (λ l h. h (record (tables_in c.args.maps.now) { attrs = c.deref.result.now }) refl
    ∙ paged_again rows.Attr (is_row_past c.args.after.now) c.args.max all c.deref.result.now part)
    c.page_of_attrs.ensures.rows

use Rattle.std.proofs.Common.{◌≡◌, List, Bool, take, refl, sym, ap, ◌∙◌, subst, arith}
use Rattle.std.specs.Prelude.{IsTrue, filter}
use Rattle.std.specs.Cmp.{nat_cmp_total}
use Rattle.s3_rows.specs.declared.table_rows.Row.TheVariants as rows
use Rattle.s3_rows.specs.Rows.{Slot, IsSlot}
use Rattle.s3_rows.specs.Keyed.{rises}
use Rattle.s3_rows.specs.Tables.{by_slot}
use Rattle.s3_rows.specs.Selections.{is_row_past}
use Rattle.row_lemmas.proofs.Keyed.Rises.{rises-take, rises-filter}
use Rattle.mem_keeper.specs.Table.{rows_of}
use Rattle.mem_keeper.specs.Store.{tables_in}
use Rattle.mem_keeper.proofs.Standing.{if_ok_at}
use Rattle.mem_keeper.proofs.Tabled.{rises-rows_of}
use Rattle.mem_keeper.proofs.Parts.{filter_agree, paged_again}
use Rattle.mem_keeper.proofs.pages.slots_in.Goals as goal

pub page_of_slots-requires : goal.page_of_slots-requires
page_of_slots-requires c =
    let all : List Slot = rows_of c.args.maps.now.slots.entries in
    subst (λ (l : List Slot). IsTrue (rises by_slot l)) (sym (c.deref.ensures.value ∙ c.in_ok-rows.ensures))
    (rises-take by_slot c.args.max (filter _ all) (rises-filter by_slot _ all (rises-rows_of by_slot nat_cmp_total c.args.maps.now.slots.entries c.requires.maps.slots)))

pub returns-clause-rows : goal.returns-clause-rows
returns-clause-rows c =
    let all : List Slot = rows_of c.args.maps.now.slots.entries in
    let test : Slot → Bool = λ r. is_row_past c.args.after.now (rows.Slot r) in
    let part : c.deref.result.now ≡ take c.args.max (filter test all) =
    c.deref.ensures.value ∙ c.in_ok-rows.ensures ∙ ap (take c.args.max) (filter_agree IsSlot _ test (λ r fits. c.past_slot.ensures r.slot (omega (arith, fits.slot))) all c.requires.ranges.slots) in
    if_ok_at c.page_of_slots.result _ _
    (λ l h. h (record (tables_in c.args.maps.now) { slots = c.deref.result.now }) refl
    ∙ paged_again rows.Slot (is_row_past c.args.after.now) c.args.max all c.deref.result.now part)
    c.page_of_slots.ensures.rows

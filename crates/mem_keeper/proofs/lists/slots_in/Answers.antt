use Rattle.std.proofs.Common.{◌≡◌, List, Bool, nat_le, take, refl, sym, ap, ◌∙◌, subst}
use Rattle.std.specs.Prelude.{IsTrue, filter}
use Rattle.std.specs.Cmp.{nat_cmp_total}
use Rattle.s3_rows.specs.Rows.{Slot}
use Rattle.s3_rows.specs.Keyed.{rises}
use Rattle.s3_rows.specs.Tables.{by_slot}
use Rattle.row_lemmas.proofs.Keyed.Rises.{rises-take, rises-filter}
use Rattle.mem_keeper.specs.Table.{rows_of}
use Rattle.mem_keeper.specs.Store.{tables_in}
use Rattle.mem_keeper.proofs.Standing.{if_ok_at}
use Rattle.mem_keeper.proofs.Tabled.{rises-rows_of}
use Rattle.mem_keeper.proofs.Parts.{filter_agree, listed_again, from_number}
use Rattle.mem_keeper.proofs.lists.slots_in.Goals as goal

pub slots_of-requires : goal.slots_of-requires
slots_of-requires c =
    let all : List Slot = rows_of c.args.maps.now.slots.entries in
    subst (λ (l : List Slot). IsTrue (rises by_slot l)) (sym (c.deref.ensures.value ∙ c.in_ok-rows.ensures))
    (rises-take by_slot c.args.max (filter _ all) (rises-filter by_slot _ all (rises-rows_of by_slot nat_cmp_total c.args.maps.now.slots.entries c.requires.slots)))

pub returns-clause-rows : goal.returns-clause-rows
returns-clause-rows c =
    let all : List Slot = rows_of c.args.maps.now.slots.entries in
    let test : Slot → Bool = λ r. nat_le c.args.from r.slot in
    let part : c.deref.result.now ≡ take c.args.max (filter test all) =
    c.deref.ensures.value ∙ c.in_ok-rows.ensures
    ∙ ap (take c.args.max) (filter_agree (λ (r : Slot). Unit {0}) _ test (λ r any. from_number c.args.from r.slot) all (λ i d below. tt)) in
    if_ok_at c.slots_of.result _ _
    (λ l h. h (record (tables_in c.args.maps.now) { slots = c.deref.result.now }) refl ∙ listed_again test c.args.max all c.deref.result.now part)
    c.slots_of.ensures.rows

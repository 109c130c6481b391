use Rattle.std.proofs.Common.{rules, ◌≡◌, nat_lt, nat_le, true, false, length, ◌-◌, List, take, drop, sym, ap, ◌∙◌, subst, arith}
use Rattle.std.specs.List.{filter}
use Rattle.std.specs.List.Sorted.{IsPartitionPoint}
use Rattle.std.proofs.lemmas.Bool.Decides.{nat_tests}
use Rattle.std.proofs.lemmas.List.{take_rest}
use Rattle.std.proofs.lemmas.List.Sorted.{IsPartitionPoint-from_clause}
use Rattle.std.proofs.lemmas.Result.{IfOk-weaker}
use Rattle.s3_rows.specs.Rows.{Slot}
use Rattle.s3_rows.specs.Tables.{by_slot}
use Rattle.s3_rows.specs.Keyed.{is_past}
use Rattle.s3_rows.specs.Told.{is_run_of_slots}
use Rattle.row_lemmas.proofs.Tests.{list_all_true}
use Rattle.row_lists.proofs.ListingOrder.{parted, behind, first-filtered}
use Rattle.row_lists.proofs.listing.slots_of.Goals as goal

rest : (c : goal.After-first_rows) → filter (λ (r : Slot). nat_le c.args.from r.slot) c.args.slots.now ≡ drop c.partition_point-start.result c.args.slots.now
rest c =
    let back : (x y : Slot) → true ≡ true → is_past by_slot (by_slot.key x) y ≡ true → nat_lt y.slot c.args.from ≡ true → nat_lt x.slot c.args.from ≡ true = λ x y _ is below. grind (arith, nat_tests) in
    let point : IsPartitionPoint (λ (y : Slot). nat_lt y.slot c.args.from ≡ true) (λ (y : Slot). nat_lt y.slot c.args.from ≡ false) c.args.slots.now c.partition_point-start.result =
    IsPartitionPoint-from_clause (λ (r : Slot). nat_lt r.slot c.args.from) _ _ c.partition_point-start.ensures.partitioned
    (parted by_slot (λ (r : Slot). true) (λ (r : Slot). nat_lt r.slot c.args.from) c.args.slots.now c.requires (list_all_true c.args.slots.now) back)
    (λ a r q k. search rules) in
    behind (λ (r : Slot). nat_le c.args.from r.slot) (λ (r : Slot). nat_lt r.slot c.args.from) (λ x. grind (arith, nat_tests)) c.args.slots.now c.partition_point-start.result
    c.partition_point-start.ensures.bound point

listed : (c : goal.After-first_rows) → take c.args.max (take (length c.args.slots.now - c.partition_point-start.result) (drop c.partition_point-start.result c.args.slots.now)) ≡ take c.args.max (filter (λ (r : Slot). nat_le c.args.from r.slot) c.args.slots.now)
listed c = ap (take c.args.max) (take_rest c.args.slots.now c.partition_point-start.result ∙ sym (rest c))

pub returns-clause-rows : goal.returns-clause-rows
returns-clause-rows c =
    IfOk-weaker c.first_rows.result _ _
    (λ l is t same. is ∙ listed c ∙ ap (λ (rows : List Slot). take c.args.max (filter (λ (r : Slot). nat_le c.args.from r.slot) rows)) (sym same)) c.first_rows.ensures

pub returns-clause-page : goal.returns-clause-page
returns-clause-page c =
    IfOk-weaker c.first_rows.result _ _
    (λ l is. subst (λ (rows : List Slot). is_run_of_slots c.args.from c.args.max rows ≡ true) (sym (is ∙ listed c))
    (first-filtered by_slot (λ (r : Slot). nat_le c.args.from r.slot) c.args.max c.args.slots.now c.requires)) c.first_rows.ensures

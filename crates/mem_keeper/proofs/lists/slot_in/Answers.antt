use Rattle.std.proofs.Common.{◌≡◌, List, Bool, ◌&&◌, ◌==◌, refl, ap, ◌∙◌}
use Rattle.std.specs.Prelude.{filter, find}
use Rattle.s3_rows.specs.Rows.{Slot}
use Rattle.mem_keeper.specs.Table.{rows_of}
use Rattle.mem_keeper.specs.Store.{tables_in}
use Rattle.mem_keeper.proofs.Parts.{filter_within, find-filter_same}
use Rattle.mem_keeper.proofs.lists.slot_in.Goals as goal

pub returns : goal.returns
returns c =
    let all : List Slot = rows_of c.args.maps.now.slots.entries in
    let test : Slot → Bool = λ r. r.inode == c.args.inode && r.blockno == c.args.blockno in
    let part : c.deref.result.now ≡ filter test all =
    c.deref.ensures.value ∙ c.in_ok-rows.ensures ∙ filter_within (λ (r : Slot). Unit {0}) _ test (λ r any own. refl) all (λ i d below. tt) in
    c.slot_of.ensures (record (tables_in c.args.maps.now) { slots = c.deref.result.now }) refl
    ∙ ap (find test) part ∙ find-filter_same test all

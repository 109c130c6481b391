use Rattle.std.proofs.Common.{subst}
use Rattle.std.specs.Prelude.{IsSome, OnOk}
use Rattle.std.specs.BTreeMap.{get}
use Rattle.s3_rows.specs.Keyed.{pair_cmp}
use Rattle.mem_keeper.proofs.store.hold_change.Goals as goal

pub returns-in-PutContent-clause-held : goal.returns-in-PutContent-clause-held
returns-in-PutContent-clause-held c =
    rw c.in-PutContent.is (subst (λ k. OnOk c.hold_place-in-PutContent.result (IsSome (get pair_cmp c.hold_place-in-PutContent.new.table k))) c.key-in-PutContent.ensures.key c.hold_place-in-PutContent.ensures.held)

pub returns-in-PutInodeBlock-clause-held : goal.returns-in-PutInodeBlock-clause-held
returns-in-PutInodeBlock-clause-held c =
    rw c.in-PutInodeBlock.is (subst (λ k. OnOk c.hold_place-in-PutInodeBlock.result (IsSome (get pair_cmp c.hold_place-in-PutInodeBlock.new.table k))) c.key-in-PutInodeBlock.ensures.key c.hold_place-in-PutInodeBlock.ensures.held)

pub returns-in-PutAttr-clause-held : goal.returns-in-PutAttr-clause-held
returns-in-PutAttr-clause-held c =
    rw c.in-PutAttr.is (subst (λ k. OnOk c.hold_place-in-PutAttr.result (IsSome (get pair_cmp c.hold_place-in-PutAttr.new.table k))) c.key-in-PutAttr.ensures.key c.hold_place-in-PutAttr.ensures.held)

use Rattle.std.proofs.Common.{subst}
use Rattle.std.specs.Prelude.{IsSome, OnOk}
use Rattle.std.specs.BTreeMap.{get}
use Rattle.mem_keeper.specs.Holders.{holder_cmp, holder_key}
use Rattle.mem_keeper.proofs.holders.add_holder.Goals as goal

pub returns-clause-kept : goal.returns-clause-kept
returns-clause-kept c = λ r there. c.hold_key.ensures.kept (holder_key r) there

pub returns-clause-added : goal.returns-clause-added
returns-clause-added c =
    subst (λ p. OnOk c.hold_key.result (IsSome (get holder_cmp c.hold_key.new.keys p))) c.place_of.ensures c.hold_key.ensures.held

use Rattle.std.proofs.Common.{reverse, refl, sym, ◌∙◌}
use Rattle.ref_counts.proofs.Named.{if_ok}
use Rattle.ref_counts.proofs.Told.{IfTold-weaker}
use Rattle.immutable_trees.proofs.TakenSteps.{taken_up}
use Rattle.immutable_trees.proofs.uproot.turn.Goals as goal

pub returns-in-Some-clause-taken : goal.returns-in-Some-clause-taken
returns-in-Some-clause-taken g c =
    if_ok _ _ (λ there own.
    IfTold-weaker (g.K.Keeper.told c.args.keeper.now) _ _
    (λ t taken whole parent top name can has is_next not_end. taken whole parent top name can has (sym is_next ∙ c.in-Some.is)) own)
    c.take_next.result c.take_next.ensures.taken

pub returns-in-Some-own-clause-taken : goal.returns-in-Some-own-clause-taken
returns-in-Some-own-clause-taken g c =
    IfTold-weaker (g.K.Keeper.told c.args.keeper.now) _ _
    (λ t taken whole parent top name can has is_next not_end. (
      refl,
      taken_up t whole can.valid can.same can.well parent top c.args.now name can.names can.folder can.slots c.args.batch.now c.args.branch (sym is_next ∙ c.in-None.is)
          (reverse c.args.branches.now.items) has c.in-Some-own.own c.in-Some-own.is c.take_folder.new.batch (taken can.valid.ordered),
    ))
    c.in_ok-take_folder-in-Some-own.ensures.taken

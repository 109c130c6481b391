use Rattle.std.proofs.Common.{List, [], ◌∷◌, reverse, refl, sym, ap, ◌∙◌, subst}
use Rattle.std.proofs.lemmas.List.{reverse-append}
use Rattle.ref_counts.proofs.Told.{IfTold-weaker}
use Rattle.immutable_trees.specs.declared.uproot.Branch.{Branch}
use Rattle.immutable_trees.specs.Branches.{HasTaken, moved}
use Rattle.immutable_trees.proofs.TakenSteps.{taken_file}
use Rattle.immutable_trees.proofs.uproot.take_here.Goals as goal

pub returns-clause-taken : goal.returns-clause-taken
returns-clause-taken g c =
    let b = c.args.branch in
    let e = c.args.entry in
    let items = c.args.branches.now.items in
    IfTold-weaker (g.K.Keeper.told c.args.keeper.now) _ _
    (λ t added whole parent top name can has is_next found other. (
      refl,
      subst (λ (bs : List Branch). HasTaken t whole top c.args.now c.take_file.new.batch bs)
          (sym (ap (λ (bs : List Branch). reverse bs) c.in_ok-go_behind.ensures ∙ reverse-append items (moved b e.name ∷ [])))
          (taken_file t whole can.valid can.same can.well parent top c.args.now name can.names can.folder can.slots c.args.batch.now b (reverse items) has e is_next c.args.child.now found other
          c.args.handles.now can.held c.is_kept-kept.result c.is_kept-kept.ensures c.take_file.new.batch (added can.valid.ordered)),
    ))
    c.in_ok-take_file.ensures.taken

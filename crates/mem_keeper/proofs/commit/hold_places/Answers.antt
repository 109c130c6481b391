use Rattle.std.proofs.Common.{All, take_all, subst, ◌∙◌}
use Rattle.mem_keeper.specs.Store.{HasPlace}
use Rattle.mem_keeper.proofs.Least.{all_step}
use Rattle.mem_keeper.proofs.Places.{place_stays}
use Rattle.mem_keeper.proofs.commit.hold_places.Goals as goal

pub loop-change-preserved : goal.loop-change-preserved
loop-change-preserved c = record {
  maps = c.hold_change.ensures.maps;
  tables = c.hold_change.ensures.tables ∙ c.loop-change.invariant.tables;
  held = all_step (HasPlace c.loop-change.maps) (HasPlace c.hold_change.new.maps) c.args.changes.now c.loop-change.change-index c.change-item.result c.loop-change-test.true (place_stays c.loop-change.maps c.hold_change.new.maps c.hold_change.ensures.kept) c.loop-change.invariant.held c.change-item.is c.in_ok-hold_change.ensures.held;
}

pub returns-clause-held : goal.returns-clause-held
returns-clause-held c = subst (All (HasPlace c.loop-change.maps)) (take_all c.loop-change.change-index c.args.changes.now c.loop-change-test.false) c.loop-change.invariant.held

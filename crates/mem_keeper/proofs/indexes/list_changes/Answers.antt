use Rattle.std.proofs.Common.{All, take_all, subst, ◌∙◌}
use Rattle.mem_keeper.proofs.Least.{all_step}
use Rattle.mem_keeper.proofs.Standing.{change_stays, stays_joined}
use Rattle.mem_keeper.specs.Indexes.{IsListedChange}
use Rattle.mem_keeper.proofs.indexes.list_changes.Goals as goal

pub loop-change-preserved : goal.loop-change-preserved
loop-change-preserved c = record {
  listed = all_step (IsListedChange c.loop-change.indexes) (IsListedChange c.list_change.new.indexes) c.args.changes.now c.loop-change.change-index c.change-item.result c.loop-change-test.true (change_stays c.loop-change.indexes c.list_change.new.indexes c.list_change.ensures.kept) c.loop-change.invariant.listed c.change-item.is c.in_ok-list_change.ensures.ok;
  kept = stays_joined c.args.indexes.now c.loop-change.indexes c.list_change.new.indexes c.loop-change.invariant.kept c.list_change.ensures.kept;
  same = c.list_change.ensures.same ∙ c.loop-change.invariant.same;
}

pub returns-clause-ok : goal.returns-clause-ok
returns-clause-ok c = subst (All (IsListedChange c.loop-change.indexes)) (take_all c.loop-change.change-index c.args.changes.now c.loop-change-test.false) c.loop-change.invariant.listed

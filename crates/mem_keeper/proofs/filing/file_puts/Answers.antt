use Rattle.std.proofs.Common.{All, take_all, subst, ◌∙◌}
use Rattle.std.specs.Prelude.{IfSome}
use Rattle.mem_keeper.specs.Filed.{IsFiled}
use Rattle.mem_keeper.specs.Table.{rows_of}
use Rattle.mem_keeper.proofs.Least.{all_step}
use Rattle.mem_keeper.proofs.Stays.{put_stays, stay_joined}
use Rattle.mem_keeper.proofs.filing.file_puts.Goals as goal

pub loop-change-preserved : goal.loop-change-preserved
loop-change-preserved g c = record {
  kept = stay_joined c.args.filing.now c.loop-change.filing c.file_put.new.filing c.loop-change.invariant.kept c.file_put.ensures.kept;
  filed =
      all_step (λ d. IfSome (g.R.Owned.put_by d) (λ r. IsFiled c.loop-change.filing (rows_of c.args.names.now.map.entries) (g.R.Keyed.key r))) (λ d. IfSome (g.R.Owned.put_by d) (λ r. IsFiled c.file_put.new.filing (rows_of c.args.names.now.map.entries) (g.R.Keyed.key r)))
      c.args.changes.now c.loop-change.change-index c.change-item.result c.loop-change-test.true
      (λ d filed. put_stays g.R.Keyed.key c.loop-change.filing c.file_put.new.filing (rows_of c.args.names.now.map.entries) c.file_put.ensures.kept (g.R.Owned.put_by d) filed)
      c.loop-change.invariant.filed c.change-item.is c.in_ok-file_put.ensures.filed;
  same = c.file_put.ensures.same ∙ c.loop-change.invariant.same;
}

pub returns-clause-filed : goal.returns-clause-filed
returns-clause-filed g c =
    subst (All (λ d. IfSome (g.R.Owned.put_by d) (λ r. IsFiled c.loop-change.filing (rows_of c.args.names.now.map.entries) (g.R.Keyed.key r)))) (take_all c.loop-change.change-index c.args.changes.now c.loop-change-test.false) c.loop-change.invariant.filed

pub returns-in_err-file_put-clause-kept : goal.returns-in_err-file_put-clause-kept
returns-in_err-file_put-clause-kept g c =
    stay_joined c.args.filing.now c.loop-change.filing c.file_put.new.filing c.loop-change.invariant.kept c.file_put.ensures.kept

pub returns-in_err-file_put-clause-same : goal.returns-in_err-file_put-clause-same
returns-in_err-file_put-clause-same g c = c.file_put.ensures.same ∙ c.loop-change.invariant.same

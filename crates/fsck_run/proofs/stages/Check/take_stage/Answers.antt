use Rattle.std.proofs.Common.{refl}
use Rattle.fsck_run.specs.Progress.{progress_of}
use Rattle.fsck_run.proofs.StepStages.{keeper_stopped, link_stopped, over_staged}
use Rattle.fsck_run.proofs.stages.Check.take_stage.Goals as goal

pub returns-in-Batch-clause-stopped : goal.returns-in-Batch-clause-stopped
returns-in-Batch-clause-stopped g c =
    keeper_stopped c.take_batch_stage.result (progress_of c.args.self.now) (g.K.Keeper.told c.args.keeper.now) (g.K.Keeper.told c.take_batch_stage.new.keeper)
    (g.L.Link.told c.args.link.now) c.take_batch_stage.ensures.stopped

pub returns-in-Store-clause-stopped : goal.returns-in-Store-clause-stopped
returns-in-Store-clause-stopped g c =
    keeper_stopped c.take_store.result (progress_of c.args.self.now) (g.K.Keeper.told c.args.keeper.now) (g.K.Keeper.told c.take_store.new.keeper)
    (g.L.Link.told c.args.link.now) c.take_store.ensures.stopped

pub returns-in-UnusedKeys-clause-stopped : goal.returns-in-UnusedKeys-clause-stopped
returns-in-UnusedKeys-clause-stopped g c =
    link_stopped c.delete_unused.result (progress_of c.args.self.now) (g.K.Keeper.told c.args.keeper.now) (g.L.Link.told c.args.link.now)
    (g.L.Link.told c.delete_unused.new.link) c.delete_unused.ensures.stopped

pub returns-in-UnusedRows-clause-stopped : goal.returns-in-UnusedRows-clause-stopped
returns-in-UnusedRows-clause-stopped g c =
    keeper_stopped c.delete_rows.result (progress_of c.args.self.now) (g.K.Keeper.told c.args.keeper.now) (g.K.Keeper.told c.delete_rows.new.keeper)
    (g.L.Link.told c.args.link.now) c.delete_rows.ensures.stopped

pub returns-in-StrayKeys-clause-stopped : goal.returns-in-StrayKeys-clause-stopped
returns-in-StrayKeys-clause-stopped g c =
    link_stopped c.delete_stray.result (progress_of c.args.self.now) (g.K.Keeper.told c.args.keeper.now) (g.L.Link.told c.args.link.now)
    (g.L.Link.told c.delete_stray.new.link) c.delete_stray.ensures.stopped

pub returns-in-Finish-clause-stopped : goal.returns-in-Finish-clause-stopped
returns-in-Finish-clause-stopped g c =
    keeper_stopped c.take_finish.result (progress_of c.args.self.now) (g.K.Keeper.told c.args.keeper.now) (g.K.Keeper.told c.take_finish.new.keeper)
    (g.L.Link.told c.args.link.now) c.take_finish.ensures.stopped

pub returns-in-Over-clause-staged : goal.returns-in-Over-clause-staged
returns-in-Over-clause-staged g c = λ t o told held ordered keys_ordered. over_staged _ _ _ _ told held (λ u p. refl)

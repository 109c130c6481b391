use Rattle.volume_core.proofs.row_core.RowCore.answer.Goals as goal

pub returns-clause-answer : goal.returns-clause-answer
returns-clause-answer g c whole s = (c.reply_to-reply.ensures.answer whole s).answer

pub returns-clause-stored : goal.returns-clause-stored
returns-clause-stored g c whole s = (c.reply_to-reply.ensures.answer whole s).stored

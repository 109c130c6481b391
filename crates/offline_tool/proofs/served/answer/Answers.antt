use Rattle.op_frames.specs.Replay.{Request}
use Rattle.offline_tool.proofs.Answering.{served}
use Rattle.offline_tool.proofs.LimitLaws.{LimitLaws}
use Rattle.offline_tool.proofs.served.answer.Goals as goal

pub returns-clause-answer : goal.returns-clause-answer
returns-clause-answer c place behind whole serves further within =
    let call : Request = record { pass = c.args.pass; now = c.args.now; op = c.args.op.now } in
    let limits : LimitLaws = record {
      names = c.worn_names_are_full.ensures;
      copies = c.worn_copies_are_full.ensures;
      blocks = c.worn_blocks_are_full.ensures;
      growth = c.names_of_inodes_grow_by_one.ensures.grows;
    } in
    served c.args.served.now _ place behind whole call c.answer.result serves c.requires.op further within limits c.operations_on_names_keep_bytes.ensures.size
    (c.answer.ensures.stands whole serves.stands) (c.answer.ensures.answer whole serves.stands) (c.answer.ensures.stored whole serves.stands) (c.answer.ensures.bytes whole serves.stands)

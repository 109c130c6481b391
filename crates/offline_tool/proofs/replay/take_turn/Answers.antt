use Rattle.std.proofs.Common.{subst}
use Rattle.offline_tool.specs.declared.reader.Next.{Next}
use Rattle.offline_tool.specs.Reading.{IsOnward}
use Rattle.op_frames.specs.Replay.{Request}
use Rattle.plain_tree.specs.Calls.{tree_at_end}
use Rattle.plain_tree.specs.Tree.{made_tree}
use Rattle.offline_tool.proofs.Runs.{OccurringLaws}
use Rattle.offline_tool.proofs.Turn.{answer_cut, goes_on, is_ended, is_refused, read_cut, refusal_cut}
use Rattle.offline_tool.proofs.replay.take_turn.Goals as goal

pub returns-in-Ok-clause-output : goal.returns-in-Ok-clause-output
returns-in-Ok-clause-output g c = λ s size input before out told is midway.
    let call : Request = record { pass = c.in-Ok-Call.pass; now = c.in-Ok-Call.now; op = c.in-Ok-Call.op } in
    let laws : OccurringLaws = record {
      longer = c.longer_runs_have_more_blocks.ensures;
      last = c.trees_on_the_way_occur.ensures.last;
      all = c.contents_of_blocks_know_them.ensures.all;
      fewer = c.contents_of_blocks_know_them.ensures.fewer;
      known = c.contents_of_blocks_know_them.ensures.known;
    } in
    let served = c.answer-reply.ensures.answer c.args.place c.in-Ok-Call.behind (tree_at_end (made_tree size 0) midway.run) midway.serves (subst (λ (x : Next). IsOnward c.args.place x) c.in-Ok-Call.field-0-is c.in-Ok-Call.ensures.onward).2 c.requires.place in
    goes_on size input laws before out c.args.served.now _ c.args.place c.in-Ok-Call.behind s call c.answer-reply.result c.in-Ok-Call.field-0 _ _ _ midway c.in-Ok-Call.field-0-is (c.in-Ok-Call.ensures.next s told) served c.answer-reply.ensures.reply is c.in-Ok.ensures.ok

pub returns-in-Ok-Call-clause-output : goal.returns-in-Ok-Call-clause-output
returns-in-Ok-Call-clause-output g c = λ s size input before out told is midway.
    let call : Request = record { pass = c.in-Ok-Call.pass; now = c.in-Ok-Call.now; op = c.in-Ok-Call.op } in
    let laws : OccurringLaws = record {
      longer = c.longer_runs_have_more_blocks.ensures;
      last = c.trees_on_the_way_occur.ensures.last;
      all = c.contents_of_blocks_know_them.ensures.all;
      fewer = c.contents_of_blocks_know_them.ensures.fewer;
      known = c.contents_of_blocks_know_them.ensures.known;
    } in
    let served = c.answer-reply.ensures.answer c.args.place c.in-Ok-Call.behind (tree_at_end (made_tree size 0) midway.run) midway.serves (subst (λ (x : Next). IsOnward c.args.place x) c.in-Ok-Call.field-0-is c.in-Ok-Call.ensures.onward).2 c.requires.place in
    answer_cut size input laws before out c.args.served.now _ c.args.place c.in-Ok-Call.behind s call c.answer-reply.result c.in-Ok-Call.field-0 _ _ _ midway c.in-Ok-Call.field-0-is (c.in-Ok-Call.ensures.next s told) served c.answer-reply.ensures.reply is
    c.in-Err-put_answer.stop _ c.stopped.ensures c.in-Err-put_answer.ensures.err

pub returns-in-Ok-End-clause-output : goal.returns-in-Ok-End-clause-output
returns-in-Ok-End-clause-output g c = λ s size input before out told is midway.
    is_ended size input before out c.args.served.now c.args.place s midway c.in-Ok-End.field-0 _ _ c.in-Ok-End.field-0-is (c.in-Ok-End.ensures.next s told) is

pub returns-in-Ok-put_bad_input-clause-output : goal.returns-in-Ok-put_bad_input-clause-output
returns-in-Ok-put_bad_input-clause-output g c = λ s size input before out told is midway.
    is_refused size input before out c.args.served.now c.args.place s midway c.in-Ok-Refused.at c.in-Ok-Refused.field-0 _ _ _ c.in-Ok-Refused.field-0-is (c.in-Ok-Refused.ensures.next s told) is c.in-Ok-put_bad_input.ensures.ok

pub returns-in-Ok-Refused-clause-output : goal.returns-in-Ok-Refused-clause-output
returns-in-Ok-Refused-clause-output g c = λ s size input before out told is midway.
    refusal_cut size input before out c.args.served.now c.args.place s midway c.in-Ok-Refused.at c.in-Ok-Refused.field-0 _ _ _ c.in-Ok-Refused.field-0-is (c.in-Ok-Refused.ensures.next s told) is c.in-Err-put_bad_input.stop _ c.stopped-in-Err-put_bad_input.ensures c.in-Err-put_bad_input.ensures.err

pub returns-clause-output : goal.returns-clause-output
returns-clause-output g c = λ s size input before out told is midway.
    read_cut size input before out c.args.served.now c.args.place s midway _ c.in-Err.stop _ _ _ is c.stopped-in-Err.ensures

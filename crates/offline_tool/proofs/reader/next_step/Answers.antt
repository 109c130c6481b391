use Rattle.std.proofs.Common.{◌≡◌, ◌≤◌, ◌+◌, ap, Err, sym, subst, length, take, drop, arith}
use Rattle.std.proofs.lemmas.List.{length-take}
use Rattle.offline_tool.specs.declared.reader.Next.{Next}
use Rattle.offline_tool.specs.Input.{input_left}
use Rattle.offline_tool.specs.Reading.{IsOnward}
use Rattle.offline_tool.proofs.Next.{bad_replays, goes_onward, next_from, next_is, refused_is, short_is, short_replays}
use Rattle.offline_tool.proofs.reader.next_step.Goals as goal

pub returns-in-Ok-decode_call-clause-onward : goal.returns-in-Ok-decode_call-clause-onward
returns-in-Ok-decode_call-clause-onward g c =
    let n = c.in-Ok.n in
    let buffer = c.take_frame.new.buffer in
    let small : n ≤ 4 + 262144 = c.in-Ok.ensures.within.0 in
    let len : length (take n buffer) ≡ n = omega (arith, length-take n buffer, c.take_frame.auto.buffer, c.requires.buffer, small) in
    subst (λ (x : Next). IsOnward c.args.place x) (sym c.next_of.ensures) (goes_onward c.args.place n c.in-Ok-decode_call.length (take n buffer) c.in-Ok-decode_call.step len small c.in-Ok.ensures.within.1 c.requires.place c.in-Ok-decode_call.ensures.found)

pub returns-in-Ok-decode_call-clause-next : goal.returns-in-Ok-decode_call-clause-next
returns-in-Ok-decode_call-clause-next g c = λ s e.
    let n = c.in-Ok.n in
    next_from _ _ c.args.place s _ c.next_of.ensures (next_is c.args.place n c.in-Ok-decode_call.length c.take_frame.new.buffer s _ c.in-Ok-decode_call.step c.in-Ok.ensures.within.0 c.requires.place (c.in-Ok.ensures.taken s e) c.in-Ok-decode_call.ensures.found (c.in-Ok-decode_call.ensures.replay c.args.place (drop n (input_left c.args.place s))))

pub returns-in-Err-Bad-clause-next : goal.returns-in-Err-Bad-clause-next
returns-in-Err-Bad-clause-next g c = λ s e.
    let n = c.in-Ok.n in
    let rest = drop n (input_left c.args.place s) in
    refused_is c.args.place n c.in-Err-Bad.at c.take_frame.new.buffer s _ (c.in-Ok.ensures.taken s e)
    (bad_replays c.in-Err-Bad.field-0 c.in-Err-Bad.at c.args.place (take n c.take_frame.new.buffer) rest c.in-Err-Bad.field-0-is (c.in-Err-Bad.ensures.replay c.args.place rest))

pub returns-in-Err-Short-clause-next : goal.returns-in-Err-Short-clause-next
returns-in-Err-Short-clause-next g c = λ s e.
    let n = c.in-Ok.n in
    let rest = drop n (input_left c.args.place s) in
    short_is c.args.place n c.take_frame.new.buffer s _ (c.in-Ok.ensures.taken s e) (c.in-Err-Short.ensures.short (ap Err c.in-Err-Short.field-0-is))
    (short_replays c.in-Err-Short.field-0 c.args.place (take n c.take_frame.new.buffer) rest c.in-Err-Short.field-0-is (c.in-Err-Short.ensures.replay c.args.place rest))

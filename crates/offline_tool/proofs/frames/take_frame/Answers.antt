use Rattle.std.proofs.Common.{◌≡◌, ◌≤◌, ◌∙◌, length, arith}
use Rattle.offline_tool.proofs.Streams.{length-taken}
use Rattle.offline_tool.proofs.Frame.{has_head, takes_head, takes_body, part_behind}
use Rattle.offline_tool.proofs.frames.take_frame.Goals as goal

pub returns-then-body-gt-MAX_BODY-clause-taken : goal.returns-then-body-gt-MAX_BODY-clause-taken
returns-then-body-gt-MAX_BODY-clause-taken g c = λ s e.
    let size : length c.fill.new.buffer ≡ c.min-head.result = c.fill.auto.buffer ∙ length-taken c.min-head.result c.args.buffer.now (omega (arith, c.min-head.ensures, c.requires)) in
    let head = has_head c.min-head.result c.args.room c.in_ok-first.first c.fill.new.buffer _ s _ c.min-head.ensures size c.if-first-lt-HEAD.false (c.in_ok-first.ensures.filled s e) in
    takes_head c.args.room c.said_length-body.result _ s _ head c.said_length-body.ensures c.if-body-gt-MAX_BODY.true

pub returns-clause-taken : goal.returns-clause-taken
returns-clause-taken g c = λ s e.
    let low : c.min-head.result ≤ 4 = omega (arith, c.min-head.ensures) in
    let size : length c.fill.new.buffer ≡ c.min-head.result = c.fill.auto.buffer ∙ length-taken c.min-head.result c.args.buffer.now (omega (arith, low, c.requires)) in
    let head = has_head c.min-head.result c.args.room c.in_ok-first.first c.fill.new.buffer _ s _ c.min-head.ensures size c.if-first-lt-HEAD.false (c.in_ok-first.ensures.filled s e) in
    let short : c.min-rest.result ≤ 262144 = omega (arith, c.min-rest.ensures, c.if-body-gt-MAX_BODY.false) in
    let behind = part_behind c.min-head.result c.min-rest.result c.fill.new.buffer c.args.buffer.now size low short c.requires in
    takes_body c.args.room c.said_length-body.result c.min-rest.result c.in_ok-second.second _ _ c.fill-2.new.buffer s _ _ head c.said_length-body.ensures c.min-rest.ensures (c.fill-2.auto.buffer ∙ behind) (c.in_ok-second.ensures.filled _ head.moved)

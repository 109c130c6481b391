use Rattle.core_cases.proofs.Allowed.{op_allowed, time_allowed}
use Rattle.core_cases.proofs.serving.call.Goals as goal

pub answered-requires-clause-op : goal.answered-requires-clause-op
answered-requires-clause-op c =
    let found = c.in-Ok-Call-default in
    op_allowed found.pass found.now found.op found.field-0-0 found.field-0-0-is found.ensures.found.allowed

pub answered-requires-clause-now : goal.answered-requires-clause-now
answered-requires-clause-now c =
    let found = c.in-Ok-Call-default in
    time_allowed found.pass found.now found.op found.field-0-0 found.field-0-0-is found.ensures.found.allowed

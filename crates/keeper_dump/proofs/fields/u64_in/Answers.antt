use Rattle.std.specs.Int.{w64}
use Rattle.frame_fields.specs.Unread.{rest_of}
use Rattle.keeper_dump.proofs.Ranges.{least_of, most_of}
use Rattle.keeper_dump.proofs.fields.u64_in.Goals as goal

pub returns-clause-least : goal.returns-clause-least
returns-clause-least c = least_of w64 c.args.low c.args.high (rest_of c.args.unread) c.u64_between.result c.u64_between.ensures

pub returns-clause-most : goal.returns-clause-most
returns-clause-most c = most_of w64 c.args.low c.args.high (rest_of c.args.unread) c.u64_between.result c.u64_between.ensures

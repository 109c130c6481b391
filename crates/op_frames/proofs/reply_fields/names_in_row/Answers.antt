use Rattle.std.proofs.Common.{◌<◌, ◌≤◌, arith, rules}
use Rattle.frame_fields.specs.Format.{items_of}
use Rattle.frame_fields.specs.Fields.{short_name_field}
use Rattle.frame_fields.specs.Unread.{rest_of}
use Rattle.frame_fields.proofs.Lists.{items_begin, items_next, items_fail, items_end}
use Rattle.op_frames.proofs.reply_fields.names_in_row.Goals as goal

pub loop-taken-init : goal.loop-taken-init
loop-taken-init c = rw c.new-names.ensures (items_begin short_name_field c.args.count (rest_of c.args.unread))

pub returns-in_err-name : goal.returns-in_err-name
returns-in_err-name c =
    let lt : c.loop-taken._taken < c.args.count = omega arith in
    let whole = items_fail short_name_field c.loop-taken.names c.args.count c.loop-taken._taken (rest_of c.loop-taken.rest) c.in_err-name.field-0.0 (items_of short_name_field c.args.count (rest_of c.args.unread)) c.loop-taken.invariant lt c.in_err-name.ensures in
    search rules

pub loop-taken-preserved : goal.loop-taken-preserved
loop-taken-preserved c =
    let lt : c.loop-taken._taken < c.args.count = omega arith in
    rw c.in_ok-push.ensures.ok (items_next short_name_field c.loop-taken.names c.args.count c.loop-taken._taken (rest_of c.loop-taken.rest) (rest_of c.in_ok-name.after) c.in_ok-name.name (items_of short_name_field c.args.count (rest_of c.args.unread)) c.loop-taken.invariant lt c.in_ok-name.ensures)

pub returns : goal.returns
returns c =
    let le : c.args.count ≤ c.loop-taken._taken = omega arith in
    items_end short_name_field c.loop-taken.names c.args.count c.loop-taken._taken (rest_of c.loop-taken.rest) (items_of short_name_field c.args.count (rest_of c.args.unread)) c.loop-taken.invariant le

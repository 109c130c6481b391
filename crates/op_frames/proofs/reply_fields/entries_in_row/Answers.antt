use Rattle.std.proofs.Common.{◌<◌, ◌≤◌, arith, rules}
use Rattle.frame_fields.specs.Format.{items_of}
use Rattle.op_frames.specs.Replies.{entry_field}
use Rattle.frame_fields.specs.Unread.{rest_of}
use Rattle.frame_fields.proofs.Lists.{items_begin, items_next, items_fail, items_end}
use Rattle.op_frames.proofs.reply_fields.entries_in_row.Goals as goal

pub loop-taken-init : goal.loop-taken-init
loop-taken-init c = rw c.new-entries.ensures (items_begin entry_field c.args.count (rest_of c.args.unread))

pub returns-in_err-entry : goal.returns-in_err-entry
returns-in_err-entry c =
    let lt : c.loop-taken._taken < c.args.count = omega arith in
    let whole = items_fail entry_field c.loop-taken.entries c.args.count c.loop-taken._taken (rest_of c.loop-taken.rest) c.in_err-entry.field-0.0 (items_of entry_field c.args.count (rest_of c.args.unread)) c.loop-taken.invariant lt c.in_err-entry.ensures in
    search rules

pub loop-taken-preserved : goal.loop-taken-preserved
loop-taken-preserved c =
    let lt : c.loop-taken._taken < c.args.count = omega arith in
    rw c.in_ok-push.ensures.ok (items_next entry_field c.loop-taken.entries c.args.count c.loop-taken._taken (rest_of c.loop-taken.rest) (rest_of c.in_ok-entry.after) c.in_ok-entry.entry (items_of entry_field c.args.count (rest_of c.args.unread)) c.loop-taken.invariant lt c.in_ok-entry.ensures)

pub returns : goal.returns
returns c =
    let le : c.args.count ≤ c.loop-taken._taken = omega arith in
    items_end entry_field c.loop-taken.entries c.args.count c.loop-taken._taken (rest_of c.loop-taken.rest) (items_of entry_field c.args.count (rest_of c.args.unread)) c.loop-taken.invariant le

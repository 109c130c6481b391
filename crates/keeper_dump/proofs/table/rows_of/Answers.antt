use Rattle.std.proofs.Common.{◌<◌, ◌≤◌, arith, rules}
use Rattle.s3_rows.specs.declared.table_rows.RowKey.TheVariants as keys
use Rattle.frame_fields.specs.Unread.{rest_of}
use Rattle.keeper_dump.specs.Part.{rows_after}
use Rattle.keeper_dump.proofs.PartLaws.{rows_begin, rows_next, rows_fail, rows_end, rows_ordered}
use Rattle.keeper_dump.proofs.table.rows_of.Goals as goal

pub loop-taken-init : goal.loop-taken-init
loop-taken-init g c = rw c.new-rows.ensures (rows_begin g.T.TableRow.format c.args.count (rest_of c.args.unread))

pub returns-in_err-row-clause-read : goal.returns-in_err-row-clause-read
returns-in_err-row-clause-read g c =
    let f = g.T.TableRow.format in
    let lt : c.loop-taken._taken < c.args.count = omega arith in
    let whole = rows_fail f c.loop-taken.rows c.args.count c.loop-taken._taken c.loop-taken.before (rest_of c.loop-taken.rest) c.in_err-row.field-0.0 (rows_after f c.args.count keys.Start (rest_of c.args.unread)) c.loop-taken.invariant lt c.in_err-row.ensures in
    search rules

pub loop-taken-preserved : goal.loop-taken-preserved
loop-taken-preserved g c =
    let f = g.T.TableRow.format in
    let lt : c.loop-taken._taken < c.args.count = omega arith in
    rw (c.in_ok-push.ensures.ok, c.key-before.ensures) (rows_next f c.loop-taken.rows c.args.count c.loop-taken._taken c.loop-taken.before (rest_of c.loop-taken.rest) (rest_of c.in_ok-row.after) c.in_ok-row.row (rows_after f c.args.count keys.Start (rest_of c.args.unread)) c.loop-taken.invariant lt c.in_ok-row.ensures)

pub returns-clause-read : goal.returns-clause-read
returns-clause-read g c =
    let f = g.T.TableRow.format in
    let le : c.args.count ≤ c.loop-taken._taken = omega arith in
    rows_end f c.loop-taken.rows c.args.count c.loop-taken._taken c.loop-taken.before (rest_of c.loop-taken.rest) (rows_after f c.args.count keys.Start (rest_of c.args.unread)) c.loop-taken.invariant le

pub returns-clause-order : goal.returns-clause-order
returns-clause-order g c =
    let f = g.T.TableRow.format in
    let le : c.args.count ≤ c.loop-taken._taken = omega arith in
    rows_ordered f c.args.count (rest_of c.args.unread) (rest_of c.loop-taken.rest) c.loop-taken.rows
    (rows_end f c.loop-taken.rows c.args.count c.loop-taken._taken c.loop-taken.before (rest_of c.loop-taken.rest) (rows_after f c.args.count keys.Start (rest_of c.args.unread)) c.loop-taken.invariant le)

use Rattle.std.proofs.Common.{◌≡◌, true, false}
use Rattle.frame_fields.specs.Unread.{rest_of}
use Rattle.keeper_dump.specs.Part.{is_key_past}
use Rattle.keeper_dump.proofs.PartLaws.{row_found, row_low, row_refused}
use Rattle.keeper_dump.proofs.table.row_of.Goals as goal

pub returns-then-not-comes_past : goal.returns-then-not-comes_past
returns-then-not-comes_past g c =
    let f = g.T.TableRow.format in
    let low : is_key_past c.args.before (f.key c.in-Ok.row) ≡ false = cc in
    row_low f c.args.before (rest_of c.args.unread) (rest_of c.in-Ok.after) c.in-Ok.row c.in-Ok.ensures low

pub returns-else-not-comes_past : goal.returns-else-not-comes_past
returns-else-not-comes_past g c =
    let f = g.T.TableRow.format in
    let past : is_key_past c.args.before (f.key c.in-Ok.row) ≡ true = cc in
    row_found f c.args.before (rest_of c.args.unread) (rest_of c.in-Ok.after) c.in-Ok.row c.in-Ok.ensures past

pub returns-in-Err : goal.returns-in-Err
returns-in-Err g c =
    let f = g.T.TableRow.format in
    let r = rest_of c.args.unread in
    row_refused f c.args.before r c.fault_of.result (c.fault_of.ensures (f.fields.read r) c.in-Err.ensures)

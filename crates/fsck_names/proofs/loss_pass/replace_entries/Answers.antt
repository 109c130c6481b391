use Rattle.std.proofs.Common.{Option, Result, Ok, Err}
use Rattle.s3_rows.specs.Tables.{Tables}
use Rattle.fsck_findings.specs.declared.finding.Finding.TheVariants as findings
use Rattle.fsck_findings.specs.declared.repair.PassFault.{PassFault}
use Rattle.fsck_names.specs.Made.{Made, finding, ◌then◌}
use Rattle.fsck_names.specs.Entries.{delete_entries}
use Rattle.fsck_names.specs.Losses as losses
use Rattle.fsck_names.specs.Losses.{count_one, enter_lost, names_it}
use Rattle.fsck_names.proofs.Taken.{gives_err, gives_then}
use Rattle.fsck_names.proofs.loss_pass.replace_entries.Goals as goal

pub returns : goal.returns
returns c =
    let a : Tables → Option Made = finding (findings.Moved c.args.inode) in
    let b : Tables → Option Made = count_one c.args.inode in
    let d : Tables → Option Made = delete_entries (names_it c.args.inode) in
    let e : Tables → Option Made = enter_lost c.args.free c.args.inode in
    let done : Result (Unit {0}) PassFault = Ok tt in
    let t0 = c.args.tables.now in
    let t2 = c.count_one.new.tables in
    let t3 = c.delete_entries_of.new.tables in
    let t4 = c.enter_lost.new.tables in
    let r0 = c.args.repair.now in
    let r1 = c.tell_moved.new.repair in
    let r2 = c.count_one.new.repair in
    let r3 = c.delete_entries_of.new.repair in
    let r4 = c.enter_lost.new.repair in
    let two = gives_then a b done t0 t0 t2 r0 r1 r2 c.in_ok-tell_moved.ensures c.in_ok-count_one.ensures in
    let three = gives_then (a then b) d done t0 t2 t3 r0 r2 r3 two c.in_ok-delete_entries_of.ensures in
    gives_then ((a then b) then d) e done t0 t3 t4 r0 r3 r4 three c.in_ok-enter_lost.ensures

pub returns-in_err-enter_lost : goal.returns-in_err-enter_lost
returns-in_err-enter_lost c =
    let a : Tables → Option Made = finding (findings.Moved c.args.inode) in
    let b : Tables → Option Made = count_one c.args.inode in
    let d : Tables → Option Made = delete_entries (names_it c.args.inode) in
    let e : Tables → Option Made = enter_lost c.args.free c.args.inode in
    let done : Result (Unit {0}) PassFault = Ok tt in
    let t0 = c.args.tables.now in
    let t2 = c.count_one.new.tables in
    let t3 = c.delete_entries_of.new.tables in
    let t4 = c.enter_lost.new.tables in
    let r0 = c.args.repair.now in
    let r1 = c.tell_moved.new.repair in
    let r2 = c.count_one.new.repair in
    let r3 = c.delete_entries_of.new.repair in
    let r4 = c.enter_lost.new.repair in
    let two = gives_then a b done t0 t0 t2 r0 r1 r2 c.in_ok-tell_moved.ensures c.in_ok-count_one.ensures in
    let three = gives_then (a then b) d done t0 t2 t3 r0 r2 r3 two c.in_ok-delete_entries_of.ensures in
    gives_err c.from_residual-in_err-enter_lost.result c.in_err-enter_lost.field-0.0 (losses.replace_entries c.args.free c.args.inode t0) t0 t4 r0 r4 c.from_residual-in_err-enter_lost.ensures.1
    (gives_then ((a then b) then d) e (Err c.in_err-enter_lost.field-0.0) t0 t3 t4 r0 r3 r4 three c.in_err-enter_lost.ensures)

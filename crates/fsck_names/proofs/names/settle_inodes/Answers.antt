use Rattle.std.proofs.Common.{Option, Result, Ok, Err}
use Rattle.s3_rows.specs.Tables.{Tables}
use Rattle.fsck_findings.specs.declared.repair.PassFault.{PassFault}
use Rattle.fsck_names.specs.Made.{Made, ◌then◌}
use Rattle.fsck_names.specs.Entries.{delete_entries, names_empty_link}
use Rattle.fsck_names.specs.Pass as pass
use Rattle.fsck_names.proofs.Taken.{gives_err, gives_then}
use Rattle.fsck_names.proofs.names.settle_inodes.Goals as goal

pub returns : goal.returns
returns c =
    let a : Tables → Option Made = pass.each_inode pass.is_lost_directory (pass.move_directory c.args.free) in
    let b : Tables → Option Made = pass.each_inode pass.is_lost_file (pass.put_away c.args.free) in
    let d : Tables → Option Made = delete_entries names_empty_link in
    let e : Tables → Option Made = pass.each_inode pass.is_empty_link pass.remove_inode in
    let done : Result (Unit {0}) PassFault = Ok tt in
    let t0 = c.args.tables.now in
    let t1 = c.each_inode.new.tables in
    let t2 = c.each_inode-2.new.tables in
    let t3 = c.delete_entries.new.tables in
    let t4 = c.each_inode-3.new.tables in
    let r0 = c.args.repair.now in
    let r1 = c.each_inode.new.repair in
    let r2 = c.each_inode-2.new.repair in
    let r3 = c.delete_entries.new.repair in
    let r4 = c.each_inode-3.new.repair in
    let two = gives_then a b done t0 t1 t2 r0 r1 r2 c.in_ok-each_inode.ensures c.in_ok-each_inode-2.ensures in
    let three = gives_then (a then b) d done t0 t2 t3 r0 r2 r3 two c.in_ok-delete_entries.ensures in
    gives_then ((a then b) then d) e done t0 t3 t4 r0 r3 r4 three c.in_ok-each_inode-3.ensures

pub returns-in_err-each_inode-3 : goal.returns-in_err-each_inode-3
returns-in_err-each_inode-3 c =
    let a : Tables → Option Made = pass.each_inode pass.is_lost_directory (pass.move_directory c.args.free) in
    let b : Tables → Option Made = pass.each_inode pass.is_lost_file (pass.put_away c.args.free) in
    let d : Tables → Option Made = delete_entries names_empty_link in
    let e : Tables → Option Made = pass.each_inode pass.is_empty_link pass.remove_inode in
    let done : Result (Unit {0}) PassFault = Ok tt in
    let t0 = c.args.tables.now in
    let t1 = c.each_inode.new.tables in
    let t2 = c.each_inode-2.new.tables in
    let t3 = c.delete_entries.new.tables in
    let t4 = c.each_inode-3.new.tables in
    let r0 = c.args.repair.now in
    let r1 = c.each_inode.new.repair in
    let r2 = c.each_inode-2.new.repair in
    let r3 = c.delete_entries.new.repair in
    let r4 = c.each_inode-3.new.repair in
    let two = gives_then a b done t0 t1 t2 r0 r1 r2 c.in_ok-each_inode.ensures c.in_ok-each_inode-2.ensures in
    let three = gives_then (a then b) d done t0 t2 t3 r0 r2 r3 two c.in_ok-delete_entries.ensures in
    gives_err c.from_residual-in_err-each_inode-3.result c.in_err-each_inode-3.field-0.0 (pass.settle_inodes c.args.free t0) t0 t4 r0 r4 c.from_residual-in_err-each_inode-3.ensures.1
    (gives_then ((a then b) then d) e (Err c.in_err-each_inode-3.field-0.0) t0 t3 t4 r0 r3 r4 three c.in_err-each_inode-3.ensures)

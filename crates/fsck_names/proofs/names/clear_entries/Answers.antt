use Rattle.std.proofs.Common.{Option, Result, Ok}
use Rattle.s3_rows.specs.Tables.{Tables}
use Rattle.fsck_findings.specs.declared.repair.PassFault.{PassFault}
use Rattle.fsck_names.specs.Entries.{drop_entries, is_no_lost_and_found, is_out_of_place, names_directory_again, repeats_a_name}
use Rattle.fsck_names.specs.Made.{Made, ◌then◌}
use Rattle.fsck_names.proofs.Taken.{gives_then}
use Rattle.fsck_names.proofs.names.clear_entries.Goals as goal

pub returns : goal.returns
returns c =
    let a : Tables → Option Made = drop_entries is_out_of_place in
    let b : Tables → Option Made = drop_entries repeats_a_name in
    let d : Tables → Option Made = drop_entries is_no_lost_and_found in
    let e : Tables → Option Made = drop_entries names_directory_again in
    let done : Result (Unit {0}) PassFault = Ok tt in
    let t0 = c.args.tables.now in
    let t1 = c.drop_entries.new.tables in
    let t2 = c.drop_entries-2.new.tables in
    let t3 = c.drop_entries-3.new.tables in
    let t4 = c.drop_entries-4.new.tables in
    let r0 = c.args.repair.now in
    let r1 = c.drop_entries.new.repair in
    let r2 = c.drop_entries-2.new.repair in
    let r3 = c.drop_entries-3.new.repair in
    let r4 = c.drop_entries-4.new.repair in
    let two = gives_then a b done t0 t1 t2 r0 r1 r2 c.in_ok-drop_entries.ensures c.in_ok-drop_entries-2.ensures in
    let three = gives_then (a then b) d done t0 t2 t3 r0 r2 r3 two c.in_ok-drop_entries-3.ensures in
    gives_then ((a then b) then d) e done t0 t3 t4 r0 r3 r4 three c.in_ok-drop_entries-4.ensures

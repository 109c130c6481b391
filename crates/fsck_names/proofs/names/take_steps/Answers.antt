use Rattle.std.proofs.Common.{Result, Ok, Err, subst}
use Rattle.fsck_findings.specs.declared.repair.PassFault.{PassFault}
use Rattle.fsck_names.specs.Made.{◌then◌}
use Rattle.fsck_names.specs.Pass as pass
use Rattle.fsck_names.proofs.Taken.{gives_err, gives_then}
use Rattle.fsck_names.specs.declared.numbers.Free.{Free}
use Rattle.fsck_names.specs.Steps.{Gives}
use Rattle.fsck_names.proofs.names.take_steps.Goals as goal

pub returns : goal.returns
returns c =
    let free = c.above_all_in_use-free.result in
    let done : Result (Unit {0}) PassFault = Ok tt in
    let t0 = c.args.tables.now in
    let t1 = c.clear_entries.new.tables in
    let t2 = c.make_roots.new.tables in
    let t3 = c.settle_inodes.new.tables in
    let r0 = c.args.repair.now in
    let r1 = c.clear_entries.new.repair in
    let r2 = c.make_roots.new.repair in
    let r3 = c.settle_inodes.new.repair in
    let two = gives_then pass.clear_entries (pass.make_roots free) done t0 t1 t2 r0 r1 r2 c.in_ok-clear_entries.ensures c.in_ok-make_roots.ensures in
    subst (λ (f : Free). Gives done ((pass.clear_entries then pass.make_roots f then pass.settle_inodes f) t0) t0 t3 r0 r3) c.above_all_in_use-free.ensures
    (gives_then (pass.clear_entries then pass.make_roots free) (pass.settle_inodes free) done t0 t2 t3 r0 r2 r3 two c.in_ok-settle_inodes.ensures)

pub returns-in_err-settle_inodes : goal.returns-in_err-settle_inodes
returns-in_err-settle_inodes c =
    let free = c.above_all_in_use-free.result in
    let done : Result (Unit {0}) PassFault = Ok tt in
    let t0 = c.args.tables.now in
    let t1 = c.clear_entries.new.tables in
    let t2 = c.make_roots.new.tables in
    let t3 = c.settle_inodes.new.tables in
    let r0 = c.args.repair.now in
    let r1 = c.clear_entries.new.repair in
    let r2 = c.make_roots.new.repair in
    let r3 = c.settle_inodes.new.repair in
    let two = gives_then pass.clear_entries (pass.make_roots free) done t0 t1 t2 r0 r1 r2 c.in_ok-clear_entries.ensures c.in_ok-make_roots.ensures in
    let e = c.in_err-settle_inodes.field-0.0 in
    gives_err c.from_residual-in_err-settle_inodes.result e (pass.pass_on_names t0) t0 t3 r0 r3 c.from_residual-in_err-settle_inodes.ensures.1
    (subst (λ (f : Free). Gives (Err e) ((pass.clear_entries then pass.make_roots f then pass.settle_inodes f) t0) t0 t3 r0 r3) c.above_all_in_use-free.ensures
    (gives_then (pass.clear_entries then pass.make_roots free) (pass.settle_inodes free) (Err e) t0 t2 t3 r0 r2 r3 two c.in_err-settle_inodes.ensures))

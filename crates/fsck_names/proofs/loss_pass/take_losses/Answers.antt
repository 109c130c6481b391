use Rattle.std.proofs.Common.{List, Result, Ok, Err, filter, subst, ◌∙◌}
use Rattle.s3_rows.specs.Rows.{Inode}
use Rattle.fsck_findings.specs.declared.repair.PassFault.{PassFault}
use Rattle.fsck_names.specs.Made.{for_each, ◌then◌}
use Rattle.fsck_names.specs.Losses.{drop_places, loses_block, pass_on_losses, replace_of_file}
use Rattle.fsck_names.specs.declared.numbers.Free.{Free}
use Rattle.fsck_names.specs.Steps.{Gives}
use Rattle.fsck_names.proofs.Taken.{gives_err, gives_then}
use Rattle.fsck_names.proofs.loss_pass.take_losses.Goals as goal

pub returns : goal.returns
returns c =
    let free = c.above_all_in_use-free.result in
    let done : Result (Unit {0}) PassFault = Ok tt in
    let t0 = c.args.tables.now in
    let t1 = c.drop_places.new.tables in
    let t2 = c.take_each.new.tables in
    let r0 = c.args.repair.now in
    let r1 = c.drop_places.new.repair in
    let r2 = c.take_each.new.repair in
    let files = c.as_slice.ensures.value ∙ c.in_ok-files.ensures in
    let own = gives_then drop_places (for_each (replace_of_file free) c.as_slice.result.now) done t0 t1 t2 r0 r1 r2 c.in_ok-drop_places.ensures c.in_ok-take_each.ensures in
    subst (λ (f : Free). Gives done ((drop_places then for_each (replace_of_file f) (filter (loses_block t0) t0.inodes)) t0) t0 t2 r0 r2) c.above_all_in_use-free.ensures
    (subst (λ (rows : List Inode). Gives done ((drop_places then for_each (replace_of_file free) rows) t0) t0 t2 r0 r2) files own)

pub returns-in_err-take_each : goal.returns-in_err-take_each
returns-in_err-take_each c =
    let free = c.above_all_in_use-free.result in
    let e = c.in_err-take_each.field-0.0 in
    let t0 = c.args.tables.now in
    let t1 = c.drop_places.new.tables in
    let t2 = c.take_each.new.tables in
    let r0 = c.args.repair.now in
    let r1 = c.drop_places.new.repair in
    let r2 = c.take_each.new.repair in
    let files = c.as_slice.ensures.value ∙ c.in_ok-files.ensures in
    let own = gives_then drop_places (for_each (replace_of_file free) c.as_slice.result.now) (Err e) t0 t1 t2 r0 r1 r2 c.in_ok-drop_places.ensures c.in_err-take_each.ensures in
    gives_err c.from_residual-in_err-take_each.result e (pass_on_losses t0) t0 t2 r0 r2 c.from_residual-in_err-take_each.ensures.1
    (subst (λ (f : Free). Gives (Err e) ((drop_places then for_each (replace_of_file f) (filter (loses_block t0) t0.inodes)) t0) t0 t2 r0 r2) c.above_all_in_use-free.ensures
    (subst (λ (rows : List Inode). Gives (Err e) ((drop_places then for_each (replace_of_file free) rows) t0) t0 t2 r0 r2) files own))

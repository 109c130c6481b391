use Rattle.std.proofs.Common.{◌≡◌, ◌≤◌, ◌+◌, ◌^◌, Some, length, arith, sym, subst}
use Rattle.op_checks.specs.Rows.{ids_row_check}
use Rattle.ref_counts.proofs.Named.{if_ok}
use Rattle.ref_counts.proofs.Told.{IfTold-all, IfTold-weaker}
use Rattle.tree_copy.proofs.PlannedCopy.{copy_refused, names_worn}
use Rattle.tree_copy.proofs.plans.finish.Goals as goal

pub returns-in-Err-clause-plan : goal.returns-in-Err-clause-plan
returns-in-Err-clause-plan g c =
    let length_is : c.len.result ≡ length c.args.copied.seen.items = omega (arith, c.len.ensures, c.args.copied.seen.ok.0) in
    IfTold-all (g.K.Keeper.told c.args.keeper.now) _
    (λ t whole pass source parent name directory k copy.
    copy_refused t whole source parent c.args.now name c.args.top.now directory c.args.params.now k pass c.args.copied copy c.in-Err.errno
    (subst (λ n. ids_row_check c.args.params.now n ≡ Some c.in-Err.errno.0) length_is c.in-Err.ensures.check))

pub returns-in-Some-clause-plan : goal.returns-in-Some-clause-plan
returns-in-Some-clause-plan g c =
    if_ok _ _
    (λ q own.
    IfTold-weaker (g.K.Keeper.told c.args.keeper.now) _ _
    (λ t planned whole pass source parent name directory k copy. planned whole pass source parent name directory c.args.copied k copy c.in-Some.is (sym c.deref.ensures.value)) own)
    c.with_files.result c.with_files.ensures.plan

pub returns-clause-plan : goal.returns-clause-plan
returns-clause-plan g c =
    let length_is : c.len.result ≡ length c.args.copied.seen.items = omega (arith, c.len.ensures, c.args.copied.seen.ok.0) in
    IfTold-all (g.K.Keeper.told c.args.keeper.now) _
    (λ t whole pass source parent name directory k copy.
    names_worn t whole source parent c.args.now name c.args.top.now directory c.args.params.now k pass c.args.copied copy
    (subst (λ n. c.args.params.now.next_inode + n ≤ 2 ^ 62) length_is c.in_default.ensures.left) c.in-None.is)

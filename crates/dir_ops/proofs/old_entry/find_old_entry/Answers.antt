use Rattle.ref_counts.proofs.Told.{IfTold-weaker2, IfTold-same}
use Rattle.dir_ops.proofs.OldEntries.{old_entry}
use Rattle.dir_ops.proofs.old_entry.find_old_entry.Goals as goal

pub returns-clause-old : goal.returns-clause-old
returns-clause-old g c =
    let told = g.K.Keeper.told c.args.keeper.now in
    IfTold-weaker2 told _ _ _
    (λ t found child v unique whole same.
    old_entry t whole v same c.args.parent c.args.name.now c.in_ok-found.found found c.in_ok-child.child (child v unique)
    c.check_old_entry.result c.check_old_entry.ensures.directory c.check_old_entry.ensures.child c.check_old_entry.ensures.check)
    c.in_ok-found.ensures.row (IfTold-same told _ _ c.in_ok-found.ensures.same c.in_ok-child.ensures.found)

use Rattle.ref_counts.proofs.Told.{IfTold-weaker}
use Rattle.dir_ops.proofs.Moving.{is_move}
use Rattle.dir_ops.proofs.moves.find_move.Goals as goal

pub returns-clause-moved : goal.returns-clause-moved
returns-clause-moved g c =
    let checked = c.check_both.ensures in
    IfTold-weaker (g.K.Keeper.told c.args.keeper.now) _ _
    (λ t found v unique whole same.
    is_move t whole v same c.args.parent c.args.name.now c.args.new_parent c.args.new_name.now c.in_ok-found.found (found v unique) c.check_both.result
    checked.directory checked.child checked.new_directory checked.replaced checked.check)
    c.in_ok-found.ensures.found

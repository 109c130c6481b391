use Rattle.std.proofs.Common.{◌∙◌}
use Rattle.ref_counts.proofs.Told.{IfTold-weaker3, IfTold-same}
use Rattle.dir_ops.proofs.Linked.{linkable}
use Rattle.dir_ops.proofs.link.find_link.Goals as goal

pub returns-clause-rows : goal.returns-clause-rows
returns-clause-rows g c =
    let told = g.K.Keeper.told c.args.keeper.now in
    IfTold-weaker3 told _ _ _ _
    (λ t file folder taken v unique whole same.
    linkable t whole v same c.args.inode c.args.parent c.args.name.now c.in_ok-file.file c.in_ok-directory.directory file folder c.in_ok-taken.taken (taken v unique)
    c.check_link.result c.check_link.ensures.file c.check_link.ensures.directory c.check_link.ensures.check)
    c.in_ok-file.ensures.row (IfTold-same told _ _ c.in_ok-file.ensures.same c.in_ok-directory.ensures.row)
    (IfTold-same told _ _ (c.in_ok-directory.ensures.same ∙ c.in_ok-file.ensures.same) c.in_ok-taken.ensures.found)

use Rattle.std.proofs.Common.{List, ap, ◌∙◌}
use Rattle.s3_rows.specs.Rows.{Content}
use Rattle.s3_rows.specs.Keyed.{row_at}
use Rattle.s3_rows.specs.Tables.{by_entry}
use Rattle.mem_keeper.specs.Table.{rows_of}
use Rattle.mem_keeper.specs.Holders.{naming}
use Rattle.mem_keeper.proofs.Holder.{not_gone}
use Rattle.mem_keeper.proofs.holders.unlist_holder.Goals as goal

pub returns-in-None : goal.returns-in-None
returns-in-None c = λ k r there.
    let rows : List Content = rows_of c.args.contents.now.entries in
    c.remove_holder.ensures r
    (not_gone c.args.gone.now r k rows there
    (c.in-None.ensures ∙ ap (λ (g : Content). naming g.inode (row_at by_entry c.key.result rows)) c.gone.view_is
    ∙ ap (λ q. naming c.args.gone.now.inode (row_at by_entry q rows)) c.key.ensures.key))
    (c.requires.listed k r there)

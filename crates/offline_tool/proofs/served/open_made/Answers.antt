use Rattle.std.proofs.Common.{◌≡◌, refl, sym, subst}
use Rattle.plain_tree.specs.Tree.{made_tree}
use Rattle.s3_rows.specs.Made.{made_tables}
use Rattle.s3_rows.specs.Tables.{Tables}
use Rattle.tree_rows.specs.Shapes.{Represents}
use Rattle.volume_core.specs.Opening.{AreReady}
use Rattle.offline_tool.proofs.Begun.{begun}
use Rattle.offline_tool.proofs.served.open_made.Goals as goal

pub returns-in-Ok-clause-begun : goal.returns-in-Ok-clause-begun
returns-in-Ok-clause-begun c =
    let b = c.args.block_size in
    let keeper = c.in_ok-keeper.field-0.keeper in
    let made : keeper.tables ≡ made_tables b c.args.slots 0 = c.in_ok-keeper.ensures.tables in
    let ready : AreReady keeper.tables = subst (λ (t : Tables). AreReady t) (sym made) (c.made_tables_are_ready.ensures b c.args.slots 0) in
    let same : Represents keeper.tables (made_tree b 0) = subst (λ (t : Tables). Represents t (made_tree b 0)) (sym made) (c.made_tables_are_the_made_tree.ensures.represents b c.args.slots 0) in
    begun _ keeper b c.args.slots made c.requires.least (c.in-Ok.ensures.mounted keeper refl) c.names_of_inodes_grow_by_one.ensures.made c.tables_have_the_bytes_of_their_tree.ensures
    (c.made_tables_are_the_made_tree.ensures.whole b c.args.slots 0) (c.in-Ok.ensures.stands keeper (made_tree b 0) refl ready same (refl, refl))

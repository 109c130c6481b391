use Rattle.std.proofs.lemmas.List.Elements.{recursion_from_All}
use Rattle.mem_keeper.specs.Store.{tables_in}
use Rattle.mem_keeper.proofs.Standing.{stand_after_all}
use Rattle.mem_keeper.proofs.commit.apply_whole.Goals as goal

pub tidy-requires-clause-standing : goal.tidy-requires-clause-standing
tidy-requires-clause-standing c =
    rw c.apply_changes.ensures.tables (stand_after_all c.args.indexes.now c.args.changes.items (tables_in c.args.maps.now) (c.requires.standing c.if-indexes.true) (recursion_from_All _ _ (c.requires.listed c.if-indexes.true)))

use Rattle.std.proofs.Common.{◌≡◌, List, Some, sym, ap, ◌∙◌}
use Rattle.std.specs.Prelude.{option_and_then}
use Rattle.s3_rows.specs.declared.change.Change.{Change}
use Rattle.ref_counts.specs.Names.{StaysUnique}
use Rattle.ref_counts.proofs.Told.{IfTold-weaker2}
use Rattle.tree_copy.specs.CopyWalks.{visit_batch}
use Rattle.tree_copy.proofs.progress.Copied.visit.Goals as goal

pub returns-clause-visited : goal.returns-clause-visited
returns-clause-visited g c =
    let noted = c.in_ok-note.ensures in
    let taken = c.take-names.ensures.value in
    IfTold-weaker2 (g.K.Keeper.told c.args.keeper.now) _ _ _
    (λ t copied one o unique attrs name.
    let own : (cs : List Change) → c.take-names.result ≡ Some cs → StaysUnique cs t = λ cs is. unique cs (sym taken ∙ is) in
    record {
      names = noted.names ∙ copied o own attrs name ∙ ap (option_and_then (visit_batch c.args.spot c.args.row.now c.args.name.now t)) taken;
      unique = λ cs is. one o own attrs name cs (sym noted.names ∙ is);
      seen = noted.seen;
      numbers = noted.numbers;
    })
    c.in_ok-self.ensures.copied c.in_ok-self.ensures.unique

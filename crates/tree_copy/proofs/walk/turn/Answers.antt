use Rattle.std.proofs.Common.{◌≡◌, ◌<◌, ◌^◌, List, None, Some, refl, sym, ap, ◌∙◌, subst}
use Rattle.plain_tree.specs.Checks.{attribute_name_check}
use Rattle.s3_rows.specs.declared.change.Change.{Change}
use Rattle.s3_rows.specs.declared.lists.NamedEntry.{NamedEntry}
use Rattle.s3_rows.specs.Rows.{Inode}
use Rattle.s3_rows.specs.Selections.{inode_at}
use Rattle.s3_rows.specs.Tables.{IsOrdered}
use Rattle.ref_counts.specs.Names.{StaysUnique}
use Rattle.ref_counts.proofs.Told.{IfTold-same, IfTold-weaker, IfTold-weaker2}
use Rattle.tree_copy.specs.CopiedNames.{AreAttrNames}
use Rattle.tree_copy.specs.CopyWalks.{IsVisited, spot_of}
use Rattle.tree_copy.proofs.CopyGoes.{goes_row, goes_turn}
use Rattle.tree_copy.proofs.walk.turn.Goals as goal

pub returns-in_default-clause-goes : goal.returns-in_default-clause-goes
returns-in_default-clause-goes g c =
    IfTold-weaker (g.K.Keeper.told c.args.keeper.now) _ _
    (λ t row whole source parent name top directory k goes next.
    absurd (goes_row t whole source parent c.args.now name top directory c.args.params.now k c.args.copied.now c.args.level _ goes c.args.entry next
    (ap (λ (x : NamedEntry). inode_at t x.row.inode) (sym c.entry.view_is) ∙ sym row ∙ c.in_default.is)))
    c.in_ok-child.ensures.row

pub returns-clause-goes : goal.returns-clause-goes
returns-clause-goes g c =
    let told = g.K.Keeper.told c.args.keeper.now in
    let few : c.in-Some.child.refcount < 2 ^ 62 = subst (λ (x : Inode). x.refcount < 2 ^ 62) c.child.view_is c.child.invariant.refcount in
    IfTold-weaker2 told _ _ _
    (λ t row visited whole source parent name top directory k goes next. (
      refl,
      goes_turn t whole source parent c.args.now name top directory c.args.params.now k c.args.copied.now c.args.level _ goes c.args.entry next c.in-Some.child
          (ap (λ (x : NamedEntry). inode_at t x.row.inode) (sym c.entry.view_is) ∙ sym row ∙ c.in-Some.is) few c.visit.new.self c.spot-spot.result _
          (c.spot-spot.ensures ∙ ap (λ (x : Inode). spot_of c.args.copied.now c.args.params.now.next_inode c.args.level x.id c.args.now) c.child.view_is)
          (subst (λ (e : NamedEntry). IsOrdered t → ((cs : List Change) → c.args.copied.now.names ≡ Some cs → StaysUnique cs t) → AreAttrNames t c.in-Some.child.id
          → attribute_name_check e.name ≡ None → IsVisited t c.spot-spot.result c.in-Some.child e.name c.args.copied.now c.visit.new.self) c.entry.view_is visited)
          c.in_ok-go_on.ensures,
    ))
    c.in_ok-child.ensures.row (IfTold-same told _ _ c.in_ok-child.ensures.same c.in_ok-visit.ensures.visited)

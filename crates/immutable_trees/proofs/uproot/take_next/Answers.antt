use Rattle.std.proofs.Common.{◌≡◌, ◌⊎◌, inl, inr, List, [], ◌∷◌, false, reverse, refl, sym, ap, ◌∙◌, subst}
use Rattle.std.proofs.lemmas.List.{reverse-append}
use Rattle.s3_base.specs.declared.node_kind.Kind.{Kind}
use Rattle.s3_base.specs.declared.node_kind.Kind.TheVariants as kinds
use Rattle.s3_rows.specs.declared.lists.NamedEntry.{NamedEntry}
use Rattle.s3_rows.specs.Batches.{tables_after}
use Rattle.s3_rows.specs.Rows.{Inode}
use Rattle.s3_rows.specs.Selections.{inode_at}
use Rattle.s3_rows.specs.Validity.{is_directory}
use Rattle.ref_counts.proofs.Named.{if_ok}
use Rattle.ref_counts.proofs.Told.{IfTold-same, IfTold-weaker, IfTold-weaker2}
use Rattle.immutable_trees.specs.declared.uproot.Branch.{Branch}
use Rattle.immutable_trees.specs.Branches.{HasTaken, below_entry, moved}
use Rattle.immutable_trees.proofs.TakenSteps.{taken_down, taken_row}
use Rattle.immutable_trees.proofs.uproot.take_next.Goals as goal

no_directory : (kind : Kind) → (kind ≡ kinds.Regular) ⊎ (kind ≡ kinds.Link) → is_directory kind ≡ false
no_directory kind (inl is) = ap is_directory is
no_directory kind (inr is) = ap is_directory is

pub returns-in_default-clause-taken : goal.returns-in_default-clause-taken
returns-in_default-clause-taken g c =
    let batch = c.args.batch.now in
    IfTold-weaker (g.K.Keeper.told c.args.keeper.now) _ _
    (λ t row whole parent top name can has is_next.
    absurd (taken_row t whole can.valid can.same can.well parent top c.args.now name can.names can.folder can.slots batch c.args.branch (reverse c.args.branches.now.items) has c.args.entry is_next
    (ap (λ (x : NamedEntry). inode_at (tables_after batch t) x.row.inode) (sym c.entry.view_is) ∙ sym row ∙ c.in_default.is)))
    c.in_ok-child.ensures.row

pub returns-in_ok-go_down-in-Directory-clause-taken : goal.returns-in_ok-go_down-in-Directory-clause-taken
returns-in_ok-go_down-in-Directory-clause-taken g c =
    let batch = c.args.batch.now in
    let b = c.args.branch in
    let e = c.args.entry in
    let items = c.args.branches.now.items in
    IfTold-weaker (g.K.Keeper.told c.args.keeper.now) _ _
    (λ t row whole parent top name can has is_next. (
      refl,
      subst (λ (bs : List Branch). HasTaken t whole top c.args.now batch bs)
          (sym (ap (λ (bs : List Branch). reverse bs) c.in_ok-go_down-in-Directory.ensures ∙ reverse-append items (moved b e.name ∷ below_entry e ∷ [])))
          (taken_down t whole can.valid can.same can.well parent top c.args.now name can.names can.folder can.slots batch b (reverse items) has e is_next c.in-Some.child
          (ap (λ (x : NamedEntry). inode_at (tables_after batch t) x.row.inode) (sym c.entry.view_is) ∙ sym row ∙ c.in-Some.is)
          (ap (λ (r : Inode). is_directory r.kind) (sym c.child.view_is) ∙ ap is_directory c.in-Directory.is)),
    ))
    c.in_ok-child.ensures.row

pub returns-in-Regular-clause-taken : goal.returns-in-Regular-clause-taken
returns-in-Regular-clause-taken g c =
    let told = g.K.Keeper.told c.args.keeper.now in
    let batch = c.args.batch.now in
    if_ok _ _ (λ there own.
    IfTold-weaker2 told _ _ _
    (λ t row taken whole parent top name can has is_next.
    taken whole parent top name can has is_next (ap (λ (x : NamedEntry). inode_at (tables_after batch t) x.row.inode) (sym c.entry.view_is) ∙ sym row ∙ c.in-Some.is)
    (ap (λ (r : Inode). is_directory r.kind) (sym c.child.view_is) ∙ no_directory c.child.inside.kind c.in-Regular.is))
    c.in_ok-child.ensures.row (IfTold-same told _ _ c.in_ok-child.ensures.same own))
    c.take_here.result c.take_here.ensures.taken

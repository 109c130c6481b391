use Rattle.std.proofs.Common.{◌≡◌, ◌∷◌, ◌++◌, [], List, length, refl, ap, ◌∙◌}
use Rattle.sha2.specs.Sha256.{sha256}
use Rattle.s3_rows.specs.declared.change.Change.{Change}
use Rattle.s3_rows.specs.declared.change.Change.TheVariants as changes
use Rattle.s3_rows.specs.Rows.{Inode}
use Rattle.s3_rows.specs.Batches.{tables_after}
use Rattle.ref_counts.proofs.Told.{IfTold-all, IfTold-weaker, IfTold-weaker2}
use Rattle.file_ops.specs.FileChanges.{AreFew, with_length}
use Rattle.file_ops.proofs.FewPlaces.{told_both}
use Rattle.file_ops.proofs.FileSteps.{LongerLaws, placeable_row, placed_in_file}
use Rattle.file_ops.proofs.KeptObjects.{keeps_objects}
use Rattle.file_ops.proofs.changing.place_within.Goals as goal

pub returns-clause-placed : goal.returns-clause-placed
returns-clause-placed g c =
    let laws : LongerLaws = record { longer = c.files_take_other_lengths.ensures.longer; forms = c.lengths_leave_forms.ensures.forms } in
    let put : c.push.new.self ≡ changes.PutInode (with_length c.args.size c.args.now c.args.file.now) ∷ [] =
    c.in_ok-push.ensures.ok ∙ ap (λ (l : List Change). l ++ changes.PutInode c.with_length.result ∷ []) c.new-batch.ensures ∙ ap (λ (r : Inode). changes.PutInode r ∷ []) c.with_length.ensures in
    IfTold-weaker2 (g.K.Keeper.told c.place_blocks.new.keeper) _ _ _
    (λ t places forms block_size there grows are.
    placed_in_file laws sha256 t c.push.new.self c.place_blocks.new.batch c.args.file.now c.file.inside.id c.args.size c.args.now block_size c.args.blocks.now (ap (λ (r : Inode). r.id) c.file.view_is) put there grows are places forms)
    c.in_ok-place_blocks.ensures.placed c.in_ok-place_blocks.ensures.forms

pub returns-clause-held : goal.returns-clause-held
returns-clause-held g c =
    let laws : LongerLaws = record { longer = c.files_take_other_lengths.ensures.longer; forms = c.lengths_leave_forms.ensures.forms } in
    let put : c.push.new.self ≡ changes.PutInode (with_length c.args.size c.args.now c.args.file.now) ∷ [] =
    c.in_ok-push.ensures.ok ∙ ap (λ (l : List Change). l ++ changes.PutInode c.with_length.result ∷ []) c.new-batch.ensures ∙ ap (λ (r : Inode). changes.PutInode r ∷ []) c.with_length.ensures in
    IfTold-weaker (g.K.Keeper.told c.place_blocks.new.keeper) _ _
    (λ t holds block_size there grows are.
    holds (placeable_row laws sha256 t c.push.new.self c.place_blocks.new.batch c.args.file.now c.file.inside.id c.args.size c.args.now block_size c.args.blocks.now (ap (λ (r : Inode). r.id) c.file.view_is) put there grows are))
    c.in_ok-place_blocks.ensures.held

pub returns-clause-bytes_held : goal.returns-clause-bytes_held
returns-clause-bytes_held g c =
    let laws : LongerLaws = record { longer = c.files_take_other_lengths.ensures.longer; forms = c.lengths_leave_forms.ensures.forms } in
    let put : c.push.new.self ≡ changes.PutInode (with_length c.args.size c.args.now c.args.file.now) ∷ [] =
    c.in_ok-push.ensures.ok ∙ ap (λ (l : List Change). l ++ changes.PutInode c.with_length.result ∷ []) c.new-batch.ensures ∙ ap (λ (r : Inode). changes.PutInode r ∷ []) c.with_length.ensures in
    IfTold-weaker (g.K.Keeper.told c.place_blocks.new.keeper) _ _
    (λ t holds block_size there grows are.
    holds (placeable_row laws sha256 t c.push.new.self c.place_blocks.new.batch c.args.file.now c.file.inside.id c.args.size c.args.now block_size c.args.blocks.now (ap (λ (r : Inode). r.id) c.file.view_is) put there grows are))
    c.in_ok-place_blocks.ensures.bytes_held

pub returns-clause-kept : goal.returns-clause-kept
returns-clause-kept g c =
    keeps_objects sha256 (g.K.Keeper.told c.args.keeper.now) c.args.blocks.now (g.L.Link.told c.args.link.now) (g.L.Link.told c.place_blocks.new.link) c.in_ok-place_blocks.ensures.others

pub returns-in_err-place_blocks-clause-kept : goal.returns-in_err-place_blocks-clause-kept
returns-in_err-place_blocks-clause-kept g c =
    keeps_objects sha256 (g.K.Keeper.told c.args.keeper.now) c.args.blocks.now (g.L.Link.told c.args.link.now) (g.L.Link.told c.place_blocks.new.link) c.place_blocks.ensures.others

pub returns-clause-few : goal.returns-clause-few
returns-clause-few g c =
    let row : List Change = changes.PutInode (with_length c.args.size c.args.now c.args.file.now) ∷ [] in
    let put : c.push.new.self ≡ row =
    c.in_ok-push.ensures.ok ∙ ap (λ (l : List Change). l ++ changes.PutInode c.with_length.result ∷ []) c.new-batch.ensures ∙ ap (λ (r : Inode). changes.PutInode r ∷ []) c.with_length.ensures in
    let placed = g.K.Keeper.told c.place_blocks.new.keeper in
    told_both
    (λ t later. (tables_after c.push.new.self later).params ≡ later.params → (tables_after c.push.new.self later).inode_blocks ≡ later.inode_blocks
    → AreFew (length c.args.blocks.now) t (tables_after c.place_blocks.new.batch later))
    (λ t later. AreFew (length c.args.blocks.now) t (tables_after c.place_blocks.new.batch later)) (λ later. Unit {0})
    (λ t later fact also. fact (ap (λ (b : List Change). (tables_after b later).params) put) (ap (λ (b : List Change). (tables_after b later).inode_blocks) put))
    (g.K.Keeper.told c.args.keeper.now) placed placed refl c.in_ok-place_blocks.ensures.few (IfTold-all placed (λ later. Unit {0}) (λ later. tt))

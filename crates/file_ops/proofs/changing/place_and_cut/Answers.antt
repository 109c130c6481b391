use Rattle.std.proofs.Common.{◌≡◌, ◌++◌, List, length, ap, sym}
use Rattle.sha2.specs.Sha256.{sha256}
use Rattle.s3_rows.specs.declared.change.Change.{Change}
use Rattle.s3_rows.specs.Rows.{Inode}
use Rattle.s3_rows.specs.Tables.{IsOrdered}
use Rattle.s3_rows.specs.Batches.{tables_after}
use Rattle.ref_counts.specs.Links.{places_dropped, places_from}
use Rattle.file_ops.specs.FileChanges.{AreFew}
use Rattle.file_ops.proofs.FewPlaces.{few_cut, told_both}
use Rattle.s3_rows.specs.Stores.{AreHeld}
use Rattle.s3_devices.specs.Keys.{objects_in}
use Rattle.core_model.specs.Safe.{HaveHeld}
use Rattle.ref_counts.proofs.Told.{IfTold-same, IfTold-weaker2, IfTold-weaker3}
use Rattle.file_ops.proofs.CutFiles.{CutLaws, first_placeable, held_cut, in_file_cut}
use Rattle.file_ops.proofs.PutObjects.{Becomes-follows}
use Rattle.file_ops.proofs.KeptObjects.{keeps_objects}
use Rattle.file_ops.proofs.changing.place_and_cut.Goals as goal

pub returns-clause-placed : goal.returns-clause-placed
returns-clause-placed g c =
    let laws : CutLaws = record { valid = c.files_take_other_lengths.ensures.valid; forms = c.lengths_leave_forms.ensures.forms; kept = c.lengths_leave_forms.ensures.kept; known = c.kept_rows_keep_what_is_held.ensures.known } in
    IfTold-same (g.K.Keeper.told c.drop_links.new.keeper) (g.K.Keeper.told c.place_blocks.new.keeper) _ (sym c.in_ok-drop_links.ensures.same)
    (IfTold-weaker3 (g.K.Keeper.told c.place_blocks.new.keeper) _ _ _ _
    (λ t places forms drops there less are.
    in_file_cut laws sha256 t c.new-batch.result c.place_blocks.new.batch c.drop_links.new.batch c.push.new.self c.args.file.now c.with_length.result c.file.inside.id c.file.inside.id c.args.size c.args.now c.args.block_size
    c.first_past.result c.args.blocks.now (ap (λ (r : Inode). r.id) c.file.view_is) (ap (λ (r : Inode). r.id) c.file.view_is) c.new-batch.ensures c.with_length.ensures there less are drops c.in_ok-push.ensures.ok c.first_past.ensures.past c.first_past.ensures.within places forms)
    c.in_ok-place_blocks.ensures.placed c.in_ok-place_blocks.ensures.forms c.in_ok-drop_links.ensures.dropped)

pub returns-clause-held : goal.returns-clause-held
returns-clause-held g c =
    let laws : CutLaws = record { valid = c.files_take_other_lengths.ensures.valid; forms = c.lengths_leave_forms.ensures.forms; kept = c.lengths_leave_forms.ensures.kept; known = c.kept_rows_keep_what_is_held.ensures.known } in
    IfTold-same (g.K.Keeper.told c.drop_links.new.keeper) (g.K.Keeper.told c.place_blocks.new.keeper) _ (sym c.in_ok-drop_links.ensures.same)
    (IfTold-weaker2 (g.K.Keeper.told c.place_blocks.new.keeper) _ _ _
    (λ t holds drops there less are.
    Becomes-follows _ _
    (λ o after held before.
    held_cut laws sha256 t c.new-batch.result c.place_blocks.new.batch c.drop_links.new.batch c.push.new.self c.args.file.now c.with_length.result c.file.inside.id c.file.inside.id c.args.size c.args.now c.args.block_size
    c.first_past.result c.args.blocks.now (ap (λ (r : Inode). r.id) c.file.view_is) (ap (λ (r : Inode). r.id) c.file.view_is) c.new-batch.ensures c.with_length.ensures there less are drops c.in_ok-push.ensures.ok
    (AreHeld sha256 (objects_in after)) (c.kept_rows_keep_what_is_held.ensures.stored sha256 (objects_in after)) (held before))
    (g.L.Link.told c.args.link.now) (g.L.Link.told c.place_blocks.new.link)
    (holds (first_placeable laws sha256 t c.new-batch.result c.place_blocks.new.batch c.drop_links.new.batch c.push.new.self c.args.file.now c.with_length.result c.file.inside.id c.file.inside.id c.args.size c.args.now c.args.block_size
    c.first_past.result c.args.blocks.now (ap (λ (r : Inode). r.id) c.file.view_is) (ap (λ (r : Inode). r.id) c.file.view_is) c.new-batch.ensures c.with_length.ensures there less are drops c.in_ok-push.ensures.ok)))
    c.in_ok-place_blocks.ensures.held c.in_ok-drop_links.ensures.dropped)

pub returns-clause-bytes_held : goal.returns-clause-bytes_held
returns-clause-bytes_held g c =
    let laws : CutLaws = record { valid = c.files_take_other_lengths.ensures.valid; forms = c.lengths_leave_forms.ensures.forms; kept = c.lengths_leave_forms.ensures.kept; known = c.kept_rows_keep_what_is_held.ensures.known } in
    IfTold-same (g.K.Keeper.told c.drop_links.new.keeper) (g.K.Keeper.told c.place_blocks.new.keeper) _ (sym c.in_ok-drop_links.ensures.same)
    (IfTold-weaker2 (g.K.Keeper.told c.place_blocks.new.keeper) _ _ _
    (λ t holds drops there less are m knows.
    Becomes-follows _ _
    (λ o after held before.
    held_cut laws sha256 t c.new-batch.result c.place_blocks.new.batch c.drop_links.new.batch c.push.new.self c.args.file.now c.with_length.result c.file.inside.id c.file.inside.id c.args.size c.args.now c.args.block_size
    c.first_past.result c.args.blocks.now (ap (λ (r : Inode). r.id) c.file.view_is) (ap (λ (r : Inode). r.id) c.file.view_is) c.new-batch.ensures c.with_length.ensures there less are drops c.in_ok-push.ensures.ok
    (HaveHeld m (objects_in after)) (c.kept_rows_keep_what_is_held.ensures.held m (objects_in after)) (held before))
    (g.L.Link.told c.args.link.now) (g.L.Link.told c.place_blocks.new.link)
    (holds (first_placeable laws sha256 t c.new-batch.result c.place_blocks.new.batch c.drop_links.new.batch c.push.new.self c.args.file.now c.with_length.result c.file.inside.id c.file.inside.id c.args.size c.args.now c.args.block_size
    c.first_past.result c.args.blocks.now (ap (λ (r : Inode). r.id) c.file.view_is) (ap (λ (r : Inode). r.id) c.file.view_is) c.new-batch.ensures c.with_length.ensures there less are drops c.in_ok-push.ensures.ok) m knows))
    c.in_ok-place_blocks.ensures.bytes_held c.in_ok-drop_links.ensures.dropped)

pub returns-clause-kept : goal.returns-clause-kept
returns-clause-kept g c =
    keeps_objects sha256 (g.K.Keeper.told c.args.keeper.now) c.args.blocks.now (g.L.Link.told c.args.link.now) (g.L.Link.told c.place_blocks.new.link) c.in_ok-place_blocks.ensures.others

pub returns-in_err-place_blocks-clause-kept : goal.returns-in_err-place_blocks-clause-kept
returns-in_err-place_blocks-clause-kept g c =
    keeps_objects sha256 (g.K.Keeper.told c.args.keeper.now) c.args.blocks.now (g.L.Link.told c.args.link.now) (g.L.Link.told c.place_blocks.new.link) c.place_blocks.ensures.others

pub returns-in_err-drop_links-clause-kept : goal.returns-in_err-drop_links-clause-kept
returns-in_err-drop_links-clause-kept g c =
    keeps_objects sha256 (g.K.Keeper.told c.args.keeper.now) c.args.blocks.now (g.L.Link.told c.args.link.now) (g.L.Link.told c.place_blocks.new.link) c.place_blocks.ensures.others

pub returns-in_err-push-clause-kept : goal.returns-in_err-push-clause-kept
returns-in_err-push-clause-kept g c =
    keeps_objects sha256 (g.K.Keeper.told c.args.keeper.now) c.args.blocks.now (g.L.Link.told c.args.link.now) (g.L.Link.told c.place_blocks.new.link) c.place_blocks.ensures.others

pub returns-clause-few : goal.returns-clause-few
returns-clause-few g c =
    let first = c.new-batch.result in
    let placed = c.place_blocks.new.batch in
    let dropped = c.drop_links.new.batch in
    told_both
    (λ t later. (tables_after first later).params ≡ later.params → (tables_after first later).inode_blocks ≡ later.inode_blocks → AreFew (length c.args.blocks.now) t (tables_after placed later))
    (λ t later. IsOrdered later → AreFew (length c.args.blocks.now) t (tables_after c.push.new.self later))
    (λ later. IsOrdered later → dropped ≡ placed ++ places_dropped (places_from later c.file.inside.id c.first_past.result) (tables_after placed later))
    (λ t later fact drops ordered.
    few_cut (length c.args.blocks.now) t later placed dropped c.push.new.self c.file.inside.id c.first_past.result c.with_length.result (drops ordered) c.in_ok-push.ensures.ok
    (fact (ap (λ (b : List Change). (tables_after b later).params) c.new-batch.ensures) (ap (λ (b : List Change). (tables_after b later).inode_blocks) c.new-batch.ensures)))
    (g.K.Keeper.told c.args.keeper.now) (g.K.Keeper.told c.place_blocks.new.keeper) (g.K.Keeper.told c.drop_links.new.keeper) c.in_ok-drop_links.ensures.same
    c.in_ok-place_blocks.ensures.few c.in_ok-drop_links.ensures.dropped

use Rattle.std.proofs.Common.{◌≡◌, ◌<◌, ◌^◌, ℕ, List, [], ◌∷◌, true, Option, Some, refl, ap, ◌∙◌, subst, arith}
use Rattle.std.specs.Prelude.{nat_lt, if◌then◌else◌}
use Rattle.sha2.specs.Sha256.{sha256}
use Rattle.op_frames.specs.declared.operation.Op.{Op}
use Rattle.op_frames.specs.declared.operation.Op.TheVariants as ops
use Rattle.plain_tree.specs.Files.{resized}
use Rattle.s3_rows.specs.declared.change.Change.{Change}
use Rattle.s3_rows.specs.declared.change.Change.TheVariants as changes
use Rattle.s3_rows.specs.Batches.{tables_after}
use Rattle.s3_rows.specs.Rows.{Inode}
use Rattle.s3_rows.specs.Selections.{inode_at}
use Rattle.s3_rows.specs.Stores.{AreHeld}
use Rattle.s3_rows.specs.Told.{IfTold, Told}
use Rattle.s3_rows.specs.Validity.{is_regular}
use Rattle.s3_devices.specs.Keys.{objects_in}
use Rattle.s3_devices.specs.Objects.{Objects}
use Rattle.s3_devices.specs.Told.{Becomes}
use Rattle.core_model.specs.Changes.{blocks_of_resize}
use Rattle.byte_steps.specs.Changed.{stored_length}
use Rattle.file_ops.specs.declared.file_fault.FileFault.{FileFault}
use Rattle.file_ops.specs.FileBytes.{IfBothTold, stored_in}
use Rattle.file_ops.specs.FileChanges.{AreWorn, GetsBytes, HaveRoom, HoldsBytes, IsFileAt, IsFileStep, with_length}
use Rattle.file_ops.specs.FileFaults.{IsLossAmong}
use Rattle.tree_rows.specs.Attrs.{attr_of_row}
use Rattle.volume_core.specs.declared.refusal.Refusal.TheVariants.{Refused}
use Rattle.volume_core.specs.declared.row_core.RowCore.{RowCore}
use Rattle.volume_core.specs.Refusals.{refusal_of}
use Rattle.volume_core.specs.Standing.{AreFewTold}
use Rattle.volume_core.specs.Rows.{IsCheckedRow, file_checks}
use Rattle.volume_core.proofs.FileCalls.{drawn_from, drawn_ordered, few_after, few_more, few_ordered, only_drawn, still_tells}
use Rattle.volume_core.proofs.FileChecks.{number, truncate_absent, truncate_passes, truncate_regular, truncate_there, truncate_too_long}
use Rattle.volume_core.proofs.FileOutcomes.{fault_outcome, row_refusal, size_known}
use Rattle.volume_core.proofs.FileRoom.{truncate_room}
use Rattle.volume_core.proofs.FilesWritten.{truncate_loss, truncate_worn, truncated_done}
use Rattle.volume_core.proofs.LawsUsed.{ChangeLaws, DrawnLaws, HeldLaws}
use Rattle.volume_core.proofs.Looking.{file_there}
use Rattle.volume_core.proofs.Standing.{as_refused, faulty, is_still}
use Rattle.volume_core.proofs.row_core.RowCore.truncate.Goals as goal

pub returns-in_err-row-clause-outcome : goal.returns-in_err-row-clause-outcome
returns-in_err-row-clause-outcome g c whole pass s =
    let told = g.K.Keeper.told in
    let before : RowCore g.row.K.Denot = c.args.self.now in
    let after : RowCore g.row.K.Denot = record { alloc = c.args.self.now.alloc; keeper = c.file_row.new.keeper; handles = c.args.self.now.handles } in
    let objects : Option Objects = g.L.Link.told c.args.link.now in
    let op : Op = ops.Truncate c.args.inode c.args.size in
    as_refused told before after sha256 objects objects whole pass op c.args.now c.from_residual.result c.in_err-row.field-0.0 c.from_residual.ensures.1
    (row_refusal told before after sha256 objects objects whole s pass op c.args.now (λ t. IsCheckedRow file_checks (inode_at t c.args.inode)) c.in_err-row.field-0.0 c.in_err-row.ensures.row
    (λ errno found. truncate_absent told before whole s pass c.args.inode c.args.size errno found)
    (is_still told before after sha256 objects whole s c.in_err-row.ensures.same refl))

pub returns-in_err-check_size-clause-outcome : goal.returns-in_err-check_size-clause-outcome
returns-in_err-check_size-clause-outcome g c whole pass s =
    let told = g.K.Keeper.told in
    let before : RowCore g.row.K.Denot = c.args.self.now in
    let after : RowCore g.row.K.Denot = record { alloc = c.args.self.now.alloc; keeper = c.file_row.new.keeper; handles = c.args.self.now.handles } in
    let objects : Option Objects = g.L.Link.told c.args.link.now in
    let op : Op = ops.Truncate c.args.inode c.args.size in
    as_refused told before after sha256 objects objects whole pass op c.args.now c.from_residual-in_err-check_size.result (Refused c.in_err-check_size.field-0.0) c.from_residual-in_err-check_size.ensures.1 (
      truncate_too_long told before whole s pass c.args.inode c.args.size c.in_ok-row.row c.in_ok-row.ensures.row c.in_err-check_size.field-0.0 c.in_err-check_size.ensures,
      is_still told before after sha256 objects whole s c.in_ok-row.ensures.same refl,
    )

pub returns-in_err-batch-clause-outcome : goal.returns-in_err-batch-clause-outcome
returns-in_err-batch-clause-outcome g c whole pass s =
    let told = g.K.Keeper.told in
    let before : RowCore g.row.K.Denot = c.args.self.now in
    let after : RowCore g.row.K.Denot = record { alloc = c.args.self.now.alloc; keeper = c.resize_file.new.keeper; handles = c.args.self.now.handles } in
    let objects : Option Objects = g.L.Link.told c.args.link.now in
    let later : Option Objects = g.L.Link.told c.resize_file.new.link in
    let op : Op = ops.Truncate c.args.inode c.args.size in
    let k : Option Told = told c.block_size_of.new.keeper in
    let same_k : k ≡ told before.keeper = c.in_ok-block_size.ensures.same ∙ c.in_ok-row.ensures.same in
    let r : Inode = c.in_ok-row.row in
    let n : ℕ = c.in_ok-block_size.block_size in
    let size : n ≡ whole.block_size = size_known told before whole s n (told c.file_row.new.keeper) c.in_ok-row.ensures.same c.in_ok-block_size.ensures.size in
    let own : c.args.inode ≡ r.id = number told before whole s pass c.args.inode c.args.size r c.in_ok-row.ensures.row in
    let there : inode_at s.now.tables r.id ≡ Some r = truncate_there told before whole s pass c.args.inode c.args.size r c.in_ok-row.ensures.row in
    let file = file_there s.now.tables whole s.represents r.id r there (truncate_regular told before whole s pass c.args.inode c.args.size r c.in_ok-row.ensures.row) in
    let fault : FileFault = c.in_err-batch.field-0.0 in
    let v = c.prepared_tables_stay_valid.ensures in
    let b = c.prepared_tables_keep_bytes.ensures in
    let h = c.held_blocks_rest_on_their_objects.ensures in
    let drawn : DrawnLaws = record { valid = v.valid; unique = v.unique; tree = v.tree; bytes = b.bytes; exact = b.exact; blocks = b.blocks } in
    let held : HeldLaws = record { held = h.others; stored = h.stored_others } in
    as_refused told before after sha256 objects later whole pass op c.args.now c.from_residual-in_err-batch.result (refusal_of fault) c.from_residual-in_err-batch.ensures.1
    (fault_outcome told before after sha256 objects later whole s pass op c.args.now fault
    (truncate_passes told before whole s pass c.args.inode c.args.size r c.in_ok-row.ensures.row c.in_ok-check_size.ensures)
    (truncate_loss told before sha256 objects whole s r n pass c.args.now size c.args.inode c.args.size own there file.0 file.1 file.2 fault
    (subst (λ x. IsLossAmong sha256 x objects r.id (λ t. blocks_of_resize n c.args.size r.size (stored_in t r.id)) fault) same_k
    c.in_err-batch.ensures.lost))
    (λ is. truncate_worn told before sha256 objects whole s r n pass c.args.now size c.args.inode c.args.size own there file.0 file.1 file.2
    (subst (λ x. IfTold x (λ t. AreWorn sha256 t objects r n (resized c.args.size) (blocks_of_resize n c.args.size r.size (stored_in t r.id)) (if nat_lt c.args.size r.size then [] else changes.PutInode (with_length c.args.size c.args.now r) ∷ []))) same_k
    (c.in_err-batch.ensures.worn is)))
    (only_drawn told before after sha256 objects later whole s (told c.file_row.new.keeper) c.in_ok-row.ensures.same c.in_ok-block_size.ensures.ranges k (told after.keeper) same_k drawn held c.in_err-batch.ensures.prepared c.in_err-batch.ensures.kept (few_more k (told after.keeper) 2 (omega arith) c.in_err-batch.ensures.drawn) refl refl op refl))

pub returns-in_err-commit-clause-outcome : goal.returns-in_err-commit-clause-outcome
returns-in_err-commit-clause-outcome g c whole pass s =
    let told = g.K.Keeper.told in
    let before : RowCore g.row.K.Denot = c.args.self.now in
    let after : RowCore g.row.K.Denot = record { alloc = c.args.self.now.alloc; keeper = c.commit.new.self; handles = c.args.self.now.handles } in
    let objects : Option Objects = g.L.Link.told c.args.link.now in
    let later : Option Objects = g.L.Link.told c.resize_file.new.link in
    let op : Op = ops.Truncate c.args.inode c.args.size in
    let k : Option Told = told c.block_size_of.new.keeper in
    let same_k : k ≡ told before.keeper = c.in_ok-block_size.ensures.same ∙ c.in_ok-row.ensures.same in
    let v = c.prepared_tables_stay_valid.ensures in
    let b = c.prepared_tables_keep_bytes.ensures in
    let h = c.held_blocks_rest_on_their_objects.ensures in
    let drawn : DrawnLaws = record { valid = v.valid; unique = v.unique; tree = v.tree; bytes = b.bytes; exact = b.exact; blocks = b.blocks } in
    let held : HeldLaws = record { held = h.others; stored = h.stored_others } in
    as_refused told before after sha256 objects later whole pass op c.args.now c.from_residual-in_err-commit.result _ c.from_residual-in_err-commit.ensures.1
    (faulty told before after sha256 objects later whole pass op c.args.now c.in_err-commit.field-0.0
    (only_drawn told before after sha256 objects later whole s (told c.file_row.new.keeper) c.in_ok-row.ensures.same c.in_ok-block_size.ensures.ranges k (told c.resize_file.new.keeper) same_k drawn held c.in_ok-batch.ensures.prepared c.in_ok-batch.ensures.kept (few_more k (told c.resize_file.new.keeper) 2 (omega arith) c.in_ok-batch.ensures.drawn) c.in_err-commit.ensures.err refl op refl))

pub returns-clause-outcome : goal.returns-clause-outcome
returns-clause-outcome g c whole pass s =
    let told = g.K.Keeper.told in
    let before : RowCore g.row.K.Denot = c.args.self.now in
    let after : RowCore g.row.K.Denot = record { alloc = c.args.self.now.alloc; keeper = c.commit.new.self; handles = c.args.self.now.handles } in
    let objects : Option Objects = g.L.Link.told c.args.link.now in
    let later : Option Objects = g.L.Link.told c.resize_file.new.link in
    let k : Option Told = told c.block_size_of.new.keeper in
    let m : Option Told = told c.resize_file.new.keeper in
    let same_k : k ≡ told before.keeper = c.in_ok-block_size.ensures.same ∙ c.in_ok-row.ensures.same in
    let r : Inode = c.in_ok-row.row in
    let n : ℕ = c.in_ok-block_size.block_size in
    let len : ℕ = c.args.size in
    let batch : List Change = c.in_ok-batch.batch in
    let size : n ≡ whole.block_size = size_known told before whole s n (told c.file_row.new.keeper) c.in_ok-row.ensures.same c.in_ok-block_size.ensures.size in
    let own : c.args.inode ≡ r.id = number told before whole s pass c.args.inode len r c.in_ok-row.ensures.row in
    let there : inode_at s.now.tables r.id ≡ Some r = truncate_there told before whole s pass c.args.inode len r c.in_ok-row.ensures.row in
    let regular : is_regular r.kind ≡ true = truncate_regular told before whole s pass c.args.inode len r c.in_ok-row.ensures.row in
    let v = c.prepared_tables_stay_valid.ensures in
    let b = c.prepared_tables_keep_bytes.ensures in
    let f = c.changed_files_have_their_bytes.ensures in
    let t = c.names_kept_keep_the_tree.ensures in
    let drawn : DrawnLaws = record { valid = v.valid; unique = v.unique; tree = v.tree; bytes = b.bytes; exact = b.exact; blocks = b.blocks } in
    let laws : ChangeLaws = record { tree = t.tree; unique = t.unique; ends = c.files_of_valid_tables.ensures.ends; bytes_written = f.written; bytes_resized = f.resized; exact_written = f.written_exact; exact_resized = f.resized_exact } in
    let stepped : IfTold m (λ t. IsFileAt t r n → IsFileStep t (tables_after batch t) (with_length len c.args.now r)) = c.in_ok-batch.ensures.step in
    let held : IfTold m (λ t. IsFileAt t r n → Becomes (λ o now. AreHeld sha256 (objects_in o) t.blocks → AreHeld sha256 (objects_in now) (tables_after batch t).blocks) objects later) = c.in_ok-batch.ensures.held in
    let gets : IfBothTold (told before.keeper) objects (λ t o. IfTold m (λ x. GetsBytes sha256 t o x (tables_after batch x) r n (resized len) (blocks_of_resize n len r.size (stored_length t r.id)))) =
    subst (λ y. IfBothTold y objects (λ t o. IfTold m (λ x. GetsBytes sha256 t o x (tables_after batch x) r n (resized len) (blocks_of_resize n len r.size (stored_length t r.id))))) same_k c.in_ok-batch.ensures.changed in
    let bytes_held : IfBothTold (told before.keeper) objects (λ t o. IfTold m (λ x. HoldsBytes sha256 t o x (tables_after batch x) later r n (resized len) (blocks_of_resize n len r.size (stored_length t r.id)))) =
    subst (λ y. IfBothTold y objects (λ t o. IfTold m (λ x. HoldsBytes sha256 t o x (tables_after batch x) later r n (resized len) (blocks_of_resize n len r.size (stored_length t r.id))))) same_k c.in_ok-batch.ensures.bytes_held in
    truncated_done told before after sha256 objects later whole s drawn laws r c.args.now n there regular m batch
    (drawn_from told before after sha256 objects later whole s (told c.file_row.new.keeper) c.in_ok-row.ensures.same c.in_ok-block_size.ensures.ranges k m same_k c.in_ok-batch.ensures.prepared) size c.in_ok-block_size.ensures.least
    (still_tells told before after sha256 objects later whole s (told c.file_row.new.keeper) c.in_ok-row.ensures.same c.in_ok-block_size.ensures.ranges k m same_k c.in_ok-batch.ensures.kept) c.in_ok-commit.ensures.ok refl
    pass c.args.inode len own stepped held gets bytes_held (truncate_passes told before whole s pass c.args.inode len r c.in_ok-row.ensures.row c.in_ok-check_size.ensures)
    (subst (λ x. AreFewTold x (told after.keeper)) same_k (few_after k m (told after.keeper) batch 2 (omega arith) c.in_ok-commit.ensures.ok
    (few_ordered k m batch 2 (drawn_ordered told before after sha256 objects later whole s (told c.file_row.new.keeper) c.in_ok-row.ensures.same c.in_ok-block_size.ensures.ranges k m same_k drawn c.in_ok-batch.ensures.prepared) c.in_ok-batch.ensures.few)))
    (truncate_room told before sha256 objects whole s r n pass c.args.now size there c.args.inode len own
    (subst (λ x. IfBothTold x objects (λ t o. HaveRoom sha256 t o r n (resized len) (blocks_of_resize n len r.size (stored_in t r.id)) (if nat_lt len r.size then [] else changes.PutInode (with_length len c.args.now r) ∷ []))) same_k
    c.in_ok-batch.ensures.room))
    c.attr_of.result (subst (λ (x : Inode). x.refcount < 2 ^ 62) c.row.view_is c.row.invariant.refcount)
    (c.attr_of.ensures.attr ∙ ap (λ (x : Inode). attr_of_row (with_length len c.args.now x)) c.row.view_is)

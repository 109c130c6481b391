use Rattle.std.proofs.Common.{◌≡◌, ◌+◌, ℕ, max, List, [], ◌∷◌, Option, None, length, refl, sym, ◌∙◌, subst}
use Rattle.sha2.specs.Sha256.{sha256}
use Rattle.op_frames.specs.declared.operation.Op.{Op}
use Rattle.op_frames.specs.declared.operation.Op.TheVariants as ops
use Rattle.plain_tree.specs.Files.{written_at}
use Rattle.s3_rows.specs.declared.change.Change.{Change}
use Rattle.s3_rows.specs.declared.change.Change.TheVariants as changes
use Rattle.s3_rows.specs.Batches.{tables_after}
use Rattle.s3_rows.specs.Rows.{Inode}
use Rattle.s3_rows.specs.Stores.{AreHeld}
use Rattle.s3_rows.specs.Told.{IfTold, Told}
use Rattle.s3_devices.specs.Keys.{objects_in}
use Rattle.s3_devices.specs.Objects.{Objects}
use Rattle.s3_devices.specs.Told.{Becomes}
use Rattle.block_math.specs.Ranges.{piece_count}
use Rattle.core_model.specs.Changes.{blocks_of_write, needed_by_write}
use Rattle.byte_steps.specs.Changed.{stored_length}
use Rattle.file_ops.specs.declared.file_fault.FileFault.{FileFault}
use Rattle.file_ops.specs.FileBytes.{IfBothTold, stored_in}
use Rattle.file_ops.specs.FileChanges.{AreFew, AreWorn, GetsBytes, HaveRoom, HoldsBytes, IsFileAt, IsFileStep, with_length}
use Rattle.file_ops.specs.FileFaults.{IsLossAmong}
use Rattle.op_checks.specs.Rows.{open_row_check}
use Rattle.ref_counts.specs.Handles.{inode_open}
use Rattle.volume_core.specs.declared.refusal.Refusal.TheVariants.{Refused, Worn}
use Rattle.volume_core.specs.declared.row_core.RowCore.{RowCore}
use Rattle.volume_core.specs.Refusals.{refusal_of}
use Rattle.volume_core.specs.Standing.{AreFewTold}
use Rattle.volume_core.specs.Rows.{IsCheckedRow, row_of}
use Rattle.file_ops.proofs.ChangedFew.{few_write}
use Rattle.volume_core.proofs.FileCalls.{drawn_from, few_after, few_more, only_drawn, still_tells}
use Rattle.volume_core.proofs.FileChecks.{file_open, open_regular, write_closed, write_locked, write_passes, write_too_far}
use Rattle.volume_core.proofs.FileOutcomes.{fault_outcome, row_refusal, size_known, size_refusal}
use Rattle.volume_core.proofs.FileRoom.{write_room}
use Rattle.volume_core.proofs.FilesWritten.{nothing_written, write_loss, write_worn, written_done}
use Rattle.volume_core.proofs.LawsUsed.{ChangeLaws, DrawnLaws, HeldLaws}
use Rattle.volume_core.proofs.Looking.{IsOpenFile}
use Rattle.volume_core.proofs.Standing.{as_refused, faulty, is_still, still_alike}
use Rattle.volume_core.proofs.row_core.RowCore.write.Goals as goal

pub returns-in_err-row-clause-outcome : goal.returns-in_err-row-clause-outcome
returns-in_err-row-clause-outcome g c whole s =
    let told = g.K.Keeper.told in
    let before : RowCore g.row.K.Denot = c.args.self.now in
    let after : RowCore g.row.K.Denot = record { alloc = c.args.self.now.alloc; keeper = c.open_row.new.keeper; handles = c.args.self.now.handles } in
    let objects : Option Objects = g.L.Link.told c.args.link.now in
    let op : Op = ops.Write c.args.handle c.args.offset c.args.bytes.now in
    as_refused told before after sha256 objects objects whole c.args.pass op c.args.now c.from_residual.result c.in_err-row.field-0.0 c.from_residual.ensures.1
    (row_refusal told before after sha256 objects objects whole s c.args.pass op c.args.now
    (λ t. IsCheckedRow open_row_check (row_of t (inode_open before.handles c.args.pass c.args.handle))) c.in_err-row.field-0.0 c.in_err-row.ensures.row
    (λ errno found. write_closed told before whole s c.args.pass c.args.handle c.args.offset c.args.bytes.now errno found)
    (is_still told before after sha256 objects whole s c.in_err-row.ensures.same refl))

pub returns-in_err-check_unlocked-clause-outcome : goal.returns-in_err-check_unlocked-clause-outcome
returns-in_err-check_unlocked-clause-outcome g c whole s =
    let told = g.K.Keeper.told in
    let before : RowCore g.row.K.Denot = c.args.self.now in
    let after : RowCore g.row.K.Denot = record { alloc = c.args.self.now.alloc; keeper = c.open_row.new.keeper; handles = c.args.self.now.handles } in
    let objects : Option Objects = g.L.Link.told c.args.link.now in
    let op : Op = ops.Write c.args.handle c.args.offset c.args.bytes.now in
    as_refused told before after sha256 objects objects whole c.args.pass op c.args.now c.from_residual-in_err-check_unlocked.result (Refused c.in_err-check_unlocked.field-0.0) c.from_residual-in_err-check_unlocked.ensures.1 (
      write_locked told before whole s c.args.pass c.args.handle c.args.offset c.args.bytes.now c.in_ok-row.row c.in_ok-row.ensures.row c.in_err-check_unlocked.field-0.0 c.in_err-check_unlocked.ensures,
      is_still told before after sha256 objects whole s c.in_ok-row.ensures.same refl,
    )

pub returns-in_err-check_write_end-clause-outcome : goal.returns-in_err-check_write_end-clause-outcome
returns-in_err-check_write_end-clause-outcome g c whole s =
    let told = g.K.Keeper.told in
    let before : RowCore g.row.K.Denot = c.args.self.now in
    let after : RowCore g.row.K.Denot = record { alloc = c.args.self.now.alloc; keeper = c.open_row.new.keeper; handles = c.args.self.now.handles } in
    let objects : Option Objects = g.L.Link.told c.args.link.now in
    let op : Op = ops.Write c.args.handle c.args.offset c.args.bytes.now in
    as_refused told before after sha256 objects objects whole c.args.pass op c.args.now c.from_residual-in_err-check_write_end.result (Refused c.in_err-check_write_end.field-0.0) c.from_residual-in_err-check_write_end.ensures.1 (
      write_too_far told before whole s c.args.pass c.args.handle c.args.offset c.args.bytes.now c.in_ok-row.row c.in_ok-row.ensures.row c.in_ok-check_unlocked.ensures c.in_err-check_write_end.field-0.0 c.in_err-check_write_end.ensures,
      is_still told before after sha256 objects whole s c.in_ok-row.ensures.same refl,
    )

pub returns-then-is_empty-clause-outcome : goal.returns-then-is_empty-clause-outcome
returns-then-is_empty-clause-outcome g c whole s =
    let told = g.K.Keeper.told in
    let before : RowCore g.row.K.Denot = c.args.self.now in
    let after : RowCore g.row.K.Denot = record { alloc = c.args.self.now.alloc; keeper = c.open_row.new.keeper; handles = c.args.self.now.handles } in
    let objects : Option Objects = g.L.Link.told c.args.link.now in
    nothing_written told before after sha256 objects whole s c.args.pass c.args.handle c.args.offset c.args.bytes.now c.args.now (sym c.is_empty.ensures ∙ c.if-is_empty.true)
    (write_passes told before whole s c.args.pass c.args.handle c.args.offset c.args.bytes.now c.in_ok-row.row c.in_ok-row.ensures.row c.in_ok-check_unlocked.ensures c.in_ok-check_write_end.ensures)
    c.in_ok-row.ensures.same refl

pub returns-in_err-block_size-clause-outcome : goal.returns-in_err-block_size-clause-outcome
returns-in_err-block_size-clause-outcome g c whole s =
    let told = g.K.Keeper.told in
    let before : RowCore g.row.K.Denot = c.args.self.now in
    let after : RowCore g.row.K.Denot = record { alloc = c.args.self.now.alloc; keeper = c.block_size_of.new.keeper; handles = c.args.self.now.handles } in
    let objects : Option Objects = g.L.Link.told c.args.link.now in
    let op : Op = ops.Write c.args.handle c.args.offset c.args.bytes.now in
    as_refused told before after sha256 objects objects whole c.args.pass op c.args.now c.from_residual-in_err-block_size.result c.in_err-block_size.field-0.0 c.from_residual-in_err-block_size.ensures.1
    (size_refusal told before after sha256 objects objects whole s c.args.pass op c.args.now c.in_err-block_size.field-0.0 c.in_err-block_size.ensures.refused
    (subst (λ x. IfTold x (λ t. c.in_err-block_size.field-0.0 ≡ Worn → t.params ≡ None)) c.in_ok-row.ensures.same c.in_err-block_size.ensures.there)
    (still_alike told before after sha256 objects objects whole op (is_still told before after sha256 objects whole s (c.in_err-block_size.ensures.same ∙ c.in_ok-row.ensures.same) refl)))

pub returns-in_err-batch-clause-outcome : goal.returns-in_err-batch-clause-outcome
returns-in_err-batch-clause-outcome g c whole s =
    let told = g.K.Keeper.told in
    let before : RowCore g.row.K.Denot = c.args.self.now in
    let after : RowCore g.row.K.Denot = record { alloc = c.args.self.now.alloc; keeper = c.write_file.new.keeper; handles = c.args.self.now.handles } in
    let objects : Option Objects = g.L.Link.told c.args.link.now in
    let later : Option Objects = g.L.Link.told c.write_file.new.link in
    let op : Op = ops.Write c.args.handle c.args.offset c.args.bytes.now in
    let k : Option Told = told c.block_size_of.new.keeper in
    let same_k : k ≡ told before.keeper = c.in_ok-block_size.ensures.same ∙ c.in_ok-row.ensures.same in
    let r : Inode = c.in_ok-row.row in
    let n : ℕ = c.in_ok-block_size.block_size in
    let o : IsOpenFile s.now.tables whole c.args.pass c.args.handle r = file_open told before whole s c.args.pass c.args.handle r c.in_ok-row.ensures.row in
    let size : n ≡ whole.block_size = size_known told before whole s n (told c.open_row.new.keeper) c.in_ok-row.ensures.same c.in_ok-block_size.ensures.size in
    let fault : FileFault = c.in_err-batch.field-0.0 in
    let v = c.prepared_tables_stay_valid.ensures in
    let b = c.prepared_tables_keep_bytes.ensures in
    let h = c.held_blocks_rest_on_their_objects.ensures in
    let drawn : DrawnLaws = record { valid = v.valid; unique = v.unique; tree = v.tree; bytes = b.bytes; exact = b.exact; blocks = b.blocks } in
    let held : HeldLaws = record { held = h.others; stored = h.stored_others } in
    let loss : IsLossAmong sha256 (told before.keeper) objects r.id
    (λ t. needed_by_write n c.args.offset (length c.args.bytes.now) (blocks_of_write n c.args.offset (length c.args.bytes.now) r.size (stored_in t r.id))) fault =
    subst (λ x. IsLossAmong sha256 x objects r.id (λ t. needed_by_write n c.args.offset (length c.args.bytes.now) (blocks_of_write n c.args.offset (length c.args.bytes.now) r.size (stored_in t r.id))) fault) same_k
    (subst (λ (bs : List ℕ). IsLossAmong sha256 k objects r.id (λ t. needed_by_write n c.args.offset (length bs) (blocks_of_write n c.args.offset (length bs) r.size (stored_in t r.id))) fault) c.as_slice.ensures c.in_err-batch.ensures.lost) in
    as_refused told before after sha256 objects later whole c.args.pass op c.args.now c.from_residual-in_err-batch.result (refusal_of fault) c.from_residual-in_err-batch.ensures.1
    (fault_outcome told before after sha256 objects later whole s c.args.pass op c.args.now fault
    (write_passes told before whole s c.args.pass c.args.handle c.args.offset c.args.bytes.now r c.in_ok-row.ensures.row c.in_ok-check_unlocked.ensures c.in_ok-check_write_end.ensures)
    (write_loss told before sha256 objects whole s r n c.args.pass c.args.now size c.args.handle c.args.offset c.args.bytes.now o fault loss)
    (λ is. write_worn told before sha256 objects whole s r n c.args.pass c.args.now size c.args.handle c.args.offset c.args.bytes.now o
    (subst (λ x. IfTold x (λ t. AreWorn sha256 t objects r n (written_at c.args.offset c.args.bytes.now) (blocks_of_write n c.args.offset (length c.args.bytes.now) r.size (stored_in t r.id))
    (changes.PutInode (with_length (max r.size (c.args.offset + length c.args.bytes.now)) c.args.now r) ∷ []))) same_k
    (subst (λ (bs : List ℕ). IfTold k (λ t. AreWorn sha256 t objects r n (written_at c.args.offset bs) (blocks_of_write n c.args.offset (length bs) r.size (stored_in t r.id))
    (changes.PutInode (with_length (max r.size (c.args.offset + length bs)) c.args.now r) ∷ []))) c.as_slice.ensures
    (c.in_err-batch.ensures.worn is))))
    (only_drawn told before after sha256 objects later whole s (told c.open_row.new.keeper) c.in_ok-row.ensures.same c.in_ok-block_size.ensures.ranges k (told after.keeper) same_k drawn held c.in_err-batch.ensures.prepared c.in_err-batch.ensures.kept (few_more k (told after.keeper) (piece_count c.args.offset (length c.args.bytes.now) n + 1) (few_write (length c.args.bytes.now) c.args.offset n c.in_ok-block_size.ensures.least c.requires.short)
    (subst (λ (bs : List ℕ). IfTold k (λ t. IfTold (told after.keeper) (λ u. AreFew (piece_count c.args.offset (length bs) n + 1) t u))) c.as_slice.ensures c.in_err-batch.ensures.drawn)) refl refl op refl))

pub returns-in_err-commit-clause-outcome : goal.returns-in_err-commit-clause-outcome
returns-in_err-commit-clause-outcome g c whole s =
    let told = g.K.Keeper.told in
    let before : RowCore g.row.K.Denot = c.args.self.now in
    let after : RowCore g.row.K.Denot = record { alloc = c.args.self.now.alloc; keeper = c.commit.new.self; handles = c.args.self.now.handles } in
    let objects : Option Objects = g.L.Link.told c.args.link.now in
    let later : Option Objects = g.L.Link.told c.write_file.new.link in
    let op : Op = ops.Write c.args.handle c.args.offset c.args.bytes.now in
    let k : Option Told = told c.block_size_of.new.keeper in
    let same_k : k ≡ told before.keeper = c.in_ok-block_size.ensures.same ∙ c.in_ok-row.ensures.same in
    let n : ℕ = c.in_ok-block_size.block_size in
    let v = c.prepared_tables_stay_valid.ensures in
    let b = c.prepared_tables_keep_bytes.ensures in
    let h = c.held_blocks_rest_on_their_objects.ensures in
    let drawn : DrawnLaws = record { valid = v.valid; unique = v.unique; tree = v.tree; bytes = b.bytes; exact = b.exact; blocks = b.blocks } in
    let held : HeldLaws = record { held = h.others; stored = h.stored_others } in
    as_refused told before after sha256 objects later whole c.args.pass op c.args.now c.from_residual-in_err-commit.result _ c.from_residual-in_err-commit.ensures.1
    (faulty told before after sha256 objects later whole c.args.pass op c.args.now c.in_err-commit.field-0.0
    (only_drawn told before after sha256 objects later whole s (told c.open_row.new.keeper) c.in_ok-row.ensures.same c.in_ok-block_size.ensures.ranges k (told c.write_file.new.keeper) same_k drawn held c.in_ok-batch.ensures.prepared c.in_ok-batch.ensures.kept (few_more k (told c.write_file.new.keeper) (piece_count c.args.offset (length c.args.bytes.now) n + 1) (few_write (length c.args.bytes.now) c.args.offset n c.in_ok-block_size.ensures.least c.requires.short)
    (subst (λ (bs : List ℕ). IfTold k (λ t. IfTold (told c.write_file.new.keeper) (λ u. AreFew (piece_count c.args.offset (length bs) n + 1) t u))) c.as_slice.ensures c.in_ok-batch.ensures.drawn)) c.in_err-commit.ensures.err refl op refl))

pub returns-clause-outcome : goal.returns-clause-outcome
returns-clause-outcome g c whole s =
    let told = g.K.Keeper.told in
    let before : RowCore g.row.K.Denot = c.args.self.now in
    let after : RowCore g.row.K.Denot = record { alloc = c.args.self.now.alloc; keeper = c.commit.new.self; handles = c.args.self.now.handles } in
    let objects : Option Objects = g.L.Link.told c.args.link.now in
    let later : Option Objects = g.L.Link.told c.write_file.new.link in
    let k : Option Told = told c.block_size_of.new.keeper in
    let m : Option Told = told c.write_file.new.keeper in
    let same_k : k ≡ told before.keeper = c.in_ok-block_size.ensures.same ∙ c.in_ok-row.ensures.same in
    let r : Inode = c.in_ok-row.row in
    let n : ℕ = c.in_ok-block_size.block_size in
    let bytes : List ℕ = c.args.bytes.now in
    let off : ℕ = c.args.offset in
    let batch : List Change = c.in_ok-batch.batch in
    let o : IsOpenFile s.now.tables whole c.args.pass c.args.handle r = file_open told before whole s c.args.pass c.args.handle r c.in_ok-row.ensures.row in
    let size : n ≡ whole.block_size = size_known told before whole s n (told c.open_row.new.keeper) c.in_ok-row.ensures.same c.in_ok-block_size.ensures.size in
    let v = c.prepared_tables_stay_valid.ensures in
    let b = c.prepared_tables_keep_bytes.ensures in
    let f = c.changed_files_have_their_bytes.ensures in
    let t = c.names_kept_keep_the_tree.ensures in
    let drawn : DrawnLaws = record { valid = v.valid; unique = v.unique; tree = v.tree; bytes = b.bytes; exact = b.exact; blocks = b.blocks } in
    let laws : ChangeLaws = record { tree = t.tree; unique = t.unique; ends = c.files_of_valid_tables.ensures.ends; bytes_written = f.written; bytes_resized = f.resized; exact_written = f.written_exact; exact_resized = f.resized_exact } in
    let stepped : IfTold m (λ t. IsFileAt t r n → IsFileStep t (tables_after batch t) (with_length (max r.size (off + length bytes)) c.args.now r)) =
    subst (λ (bs : List ℕ). IfTold m (λ t. IsFileAt t r n → IsFileStep t (tables_after batch t) (with_length (max r.size (off + length bs)) c.args.now r))) c.as_slice.ensures c.in_ok-batch.ensures.step in
    let held : IfTold m (λ t. IsFileAt t r n → Becomes (λ o now. AreHeld sha256 (objects_in o) t.blocks → AreHeld sha256 (objects_in now) (tables_after batch t).blocks) objects later) = c.in_ok-batch.ensures.held in
    let gets : IfBothTold (told before.keeper) objects (λ t o. IfTold m (λ x. GetsBytes sha256 t o x (tables_after batch x) r n (written_at off bytes) (blocks_of_write n off (length bytes) r.size (stored_length t r.id)))) =
    subst (λ y. IfBothTold y objects (λ t o. IfTold m (λ x. GetsBytes sha256 t o x (tables_after batch x) r n (written_at off bytes) (blocks_of_write n off (length bytes) r.size (stored_length t r.id))))) same_k
    (subst (λ (bs : List ℕ). IfBothTold k objects (λ t o. IfTold m (λ x. GetsBytes sha256 t o x (tables_after batch x) r n (written_at off bs) (blocks_of_write n off (length bs) r.size (stored_length t r.id))))) c.as_slice.ensures c.in_ok-batch.ensures.changed) in
    let bytes_held : IfBothTold (told before.keeper) objects (λ t o. IfTold m (λ x. HoldsBytes sha256 t o x (tables_after batch x) later r n (written_at off bytes) (blocks_of_write n off (length bytes) r.size (stored_length t r.id)))) =
    subst (λ y. IfBothTold y objects (λ t o. IfTold m (λ x. HoldsBytes sha256 t o x (tables_after batch x) later r n (written_at off bytes) (blocks_of_write n off (length bytes) r.size (stored_length t r.id))))) same_k
    (subst (λ (bs : List ℕ). IfBothTold k objects (λ t o. IfTold m (λ x. HoldsBytes sha256 t o x (tables_after batch x) later r n (written_at off bs) (blocks_of_write n off (length bs) r.size (stored_length t r.id))))) c.as_slice.ensures c.in_ok-batch.ensures.bytes_held) in
    written_done told before after sha256 objects later whole s drawn laws r c.args.now n o.row (open_regular told before whole s c.args.pass c.args.handle r c.in_ok-row.ensures.row) m batch
    (drawn_from told before after sha256 objects later whole s (told c.open_row.new.keeper) c.in_ok-row.ensures.same c.in_ok-block_size.ensures.ranges k m same_k c.in_ok-batch.ensures.prepared) size c.in_ok-block_size.ensures.least
    (still_tells told before after sha256 objects later whole s (told c.open_row.new.keeper) c.in_ok-row.ensures.same c.in_ok-block_size.ensures.ranges k m same_k c.in_ok-batch.ensures.kept) c.in_ok-commit.ensures.ok refl
    c.args.pass c.args.handle off bytes o (sym c.is_empty.ensures ∙ c.if-is_empty.false) stepped held gets bytes_held
    (write_passes told before whole s c.args.pass c.args.handle off bytes r c.in_ok-row.ensures.row c.in_ok-check_unlocked.ensures c.in_ok-check_write_end.ensures)
    (subst (λ x. AreFewTold x (told after.keeper)) same_k (few_after k m (told after.keeper) batch (piece_count off (length bytes) n + 1) (few_write (length bytes) off n c.in_ok-block_size.ensures.least c.requires.short) c.in_ok-commit.ensures.ok
    (subst (λ (bs : List ℕ). IfTold k (λ t. IfTold m (λ u. AreFew (piece_count off (length bs) n + 1) t (tables_after batch u)))) c.as_slice.ensures c.in_ok-batch.ensures.few)))
    (write_room told before sha256 objects whole s r n c.args.pass c.args.now size o.row c.args.handle off bytes o
    (subst (λ x. IfBothTold x objects (λ t o. HaveRoom sha256 t o r n (written_at off bytes) (blocks_of_write n off (length bytes) r.size (stored_in t r.id))
    (changes.PutInode (with_length (max r.size (off + length bytes)) c.args.now r) ∷ []))) same_k
    (subst (λ (bs : List ℕ). IfBothTold k objects (λ t o. HaveRoom sha256 t o r n (written_at off bs) (blocks_of_write n off (length bs) r.size (stored_in t r.id))
    (changes.PutInode (with_length (max r.size (off + length bs)) c.args.now r) ∷ []))) c.as_slice.ensures c.in_ok-batch.ensures.room)))
    c.len.result c.len.ensures

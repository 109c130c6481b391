use Rattle.std.proofs.Common.{◌≡◌, ◌-◌, ℕ, List, true, false, Option, Ok, Err, length, min, refl, sym, ap, ◌∙◌, subst}
use Rattle.sha2.specs.Sha256.{sha256}
use Rattle.op_frames.specs.declared.operation.Op.TheVariants as ops
use Rattle.op_frames.specs.declared.reply.Reply.TheVariants as replies
use Rattle.plain_tree.specs.Files.{read_at}
use Rattle.s3_rows.specs.Rows.{Inode}
use Rattle.s3_rows.specs.Told.{Told}
use Rattle.s3_devices.specs.Objects.{Objects}
use Rattle.core_model.specs.Changes.{touched_blocks}
use Rattle.file_ops.specs.declared.file_fault.FileFault.{FileFault}
use Rattle.file_ops.specs.FileBytes.{IfFile}
use Rattle.file_ops.specs.FileFaults.{IsLossAmong, is_worn}
use Rattle.op_checks.specs.Rows.{open_row_check}
use Rattle.ref_counts.specs.Handles.{inode_open}
use Rattle.volume_core.specs.declared.row_core.RowCore.{RowCore}
use Rattle.volume_core.specs.Refusals.{IsOutcome, refusal_of}
use Rattle.volume_core.specs.Rows.{IsCheckedRow, row_of}
use Rattle.volume_core.proofs.FileChecks.{file_open, read_closed, read_passes}
use Rattle.volume_core.proofs.FileOutcomes.{fault_outcome, read_loss, row_refusal, size_known, was_read}
use Rattle.volume_core.proofs.Looking.{IsOpenFile}
use Rattle.volume_core.proofs.Standing.{as_refused, is_still, still_alike}
use Rattle.volume_core.proofs.row_core.RowCore.read.Goals as goal

pub returns-in_err-row-clause-outcome : goal.returns-in_err-row-clause-outcome
returns-in_err-row-clause-outcome g c whole now s =
    let told = g.K.Keeper.told in
    let before : RowCore g.row.K.Denot = c.args.self.now in
    let after : RowCore g.row.K.Denot = record { alloc = c.args.self.now.alloc; keeper = c.open_row.new.keeper; handles = c.args.self.now.handles } in
    let objects : Option Objects = g.L.Link.told c.args.link.now in
    as_refused told before after sha256 objects objects whole c.args.pass (ops.Read c.args.handle c.args.offset c.args.count) now c.from_residual-in_err-row.result c.in_err-row.field-0.0 c.from_residual-in_err-row.ensures.1
    (row_refusal told before after sha256 objects objects whole s c.args.pass (ops.Read c.args.handle c.args.offset c.args.count) now
    (λ t. IsCheckedRow open_row_check (row_of t (inode_open before.handles c.args.pass c.args.handle))) c.in_err-row.field-0.0 c.in_err-row.ensures.row
    (λ errno found. read_closed told before whole s c.args.pass c.args.handle c.args.offset c.args.count errno c.in_ok-check_read_length.ensures found)
    (is_still told before after sha256 objects whole s c.in_err-row.ensures.same refl))

pub returns-in_err-bytes-clause-outcome : goal.returns-in_err-bytes-clause-outcome
returns-in_err-bytes-clause-outcome g c whole now s =
    let told = g.K.Keeper.told in
    let before : RowCore g.row.K.Denot = c.args.self.now in
    let after : RowCore g.row.K.Denot = record { alloc = c.args.self.now.alloc; keeper = c.read.new.keeper; handles = c.args.self.now.handles } in
    let objects : Option Objects = g.L.Link.told c.args.link.now in
    let k : Option Told = told c.block_size_of.new.keeper in
    let same_k : k ≡ told before.keeper = c.in_ok-block_size.ensures.same ∙ c.in_ok-row.ensures.same in
    let r : Inode = c.in_ok-row.row in
    let n : ℕ = c.in_ok-block_size.block_size in
    let o : IsOpenFile s.now.tables whole c.args.pass c.args.handle r = file_open told before whole s c.args.pass c.args.handle r c.in_ok-row.ensures.row in
    let fault : FileFault = c.in_err-bytes.field-0.0 in
    let loss : IsLossAmong sha256 (told before.keeper) objects r.id (λ t. touched_blocks n c.args.offset (min c.args.count (r.size - c.args.offset))) fault =
    subst (λ x. IsLossAmong sha256 x objects r.id (λ t. touched_blocks n c.args.offset (min c.args.count (r.size - c.args.offset))) fault) same_k
    (subst (λ (x : Inode). IsLossAmong sha256 k objects x.id (λ t. touched_blocks n c.args.offset (min c.args.count (x.size - c.args.offset))) fault) c.row.view_is c.in_err-bytes.ensures.lost) in
    subst (λ l. IsOutcome told before after sha256 objects l whole c.args.pass (ops.Read c.args.handle c.args.offset c.args.count) now c.from_residual-in_err-bytes.result) (sym c.in_err-bytes.ensures.link_same)
    (as_refused told before after sha256 objects objects whole c.args.pass (ops.Read c.args.handle c.args.offset c.args.count) now c.from_residual-in_err-bytes.result (refusal_of fault) c.from_residual-in_err-bytes.ensures.1
    (fault_outcome told before after sha256 objects objects whole s c.args.pass (ops.Read c.args.handle c.args.offset c.args.count) now fault
    (read_passes told before whole s c.args.pass c.args.handle c.args.offset c.args.count r c.in_ok-check_read_length.ensures c.in_ok-row.ensures.row)
    (read_loss told before after sha256 objects whole s c.args.pass c.args.handle c.args.offset c.args.count now r o n (size_known told before whole s n (told c.open_row.new.keeper) c.in_ok-row.ensures.same c.in_ok-block_size.ensures.size) fault loss)
    (λ is. let clash : true ≡ false = sym (ap (λ (f : FileFault). is_worn {T = List ℕ} (Err f)) is) ∙ c.in_err-bytes.ensures.unworn in absurd (cc clash))
    (still_alike told before after sha256 objects objects whole (ops.Read c.args.handle c.args.offset c.args.count) (is_still told before after sha256 objects whole s (c.in_err-bytes.ensures.keeper_same ∙ same_k) refl))))

pub returns-clause-outcome : goal.returns-clause-outcome
returns-clause-outcome g c whole now s =
    let told = g.K.Keeper.told in
    let before : RowCore g.row.K.Denot = c.args.self.now in
    let after : RowCore g.row.K.Denot = record { alloc = c.args.self.now.alloc; keeper = c.read.new.keeper; handles = c.args.self.now.handles } in
    let objects : Option Objects = g.L.Link.told c.args.link.now in
    let k : Option Told = told c.block_size_of.new.keeper in
    let same_k : k ≡ told before.keeper = c.in_ok-block_size.ensures.same ∙ c.in_ok-row.ensures.same in
    let r : Inode = c.in_ok-row.row in
    let n : ℕ = c.in_ok-block_size.block_size in
    let out : List ℕ = c.in_ok-bytes.bytes in
    let o : IsOpenFile s.now.tables whole c.args.pass c.args.handle r = file_open told before whole s c.args.pass c.args.handle r c.in_ok-row.ensures.row in
    subst (λ l. IsOutcome told before after sha256 objects l whole c.args.pass (ops.Read c.args.handle c.args.offset c.args.count) now (Ok (replies.Bytes out))) (sym c.in_ok-bytes.ensures.link_same)
    (was_read told before after sha256 objects whole s c.args.pass c.args.handle c.args.offset c.args.count now r o n
    (size_known told before whole s n (told c.open_row.new.keeper) c.in_ok-row.ensures.same c.in_ok-block_size.ensures.size) out
    (read_passes told before whole s c.args.pass c.args.handle c.args.offset c.args.count r c.in_ok-check_read_length.ensures c.in_ok-row.ensures.row)
    (subst (λ (x : Inode). length out ≡ min c.args.count (x.size - c.args.offset)) c.row.view_is c.in_ok-bytes.ensures.len)
    (subst (λ x. IfFile x objects r.id r.size n (λ file. out ≡ read_at c.args.offset c.args.count file)) same_k
    (subst (λ (x : Inode). IfFile k objects x.id x.size n (λ file. out ≡ read_at c.args.offset c.args.count file)) c.row.view_is c.in_ok-bytes.ensures.bytes))
    (c.in_ok-bytes.ensures.keeper_same ∙ same_k) refl)

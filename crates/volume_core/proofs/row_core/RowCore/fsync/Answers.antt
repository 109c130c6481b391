use Rattle.std.proofs.Common.{refl}
use Rattle.sha2.specs.Sha256.{sha256}
use Rattle.op_frames.specs.declared.operation.Op.TheVariants as ops
use Rattle.op_checks.specs.Rows.{open_row_check}
use Rattle.ref_counts.specs.Handles.{inode_open}
use Rattle.volume_core.specs.declared.row_core.RowCore.{RowCore}
use Rattle.volume_core.specs.Rows.{IsCheckedRow, row_of}
use Rattle.volume_core.proofs.FileChecks.{fsync_closed, fsync_passes}
use Rattle.volume_core.proofs.FileOutcomes.{row_refusal, was_synced}
use Rattle.volume_core.proofs.Standing.{as_refused, is_still}
use Rattle.volume_core.proofs.row_core.RowCore.fsync.Goals as goal

pub returns-in_err-open_row-clause-outcome : goal.returns-in_err-open_row-clause-outcome
returns-in_err-open_row-clause-outcome g c whole now objects s =
    let told = g.K.Keeper.told in
    let before : RowCore g.row.K.Denot = c.args.self.now in
    let after : RowCore g.row.K.Denot = record { alloc = c.args.self.now.alloc; keeper = c.open_row.new.keeper; handles = c.args.self.now.handles } in
    as_refused told before after sha256 objects objects whole c.args.pass (ops.Fsync c.args.handle) now c.from_residual.result c.in_err-open_row.field-0.0 c.from_residual.ensures.1
    (row_refusal told before after sha256 objects objects whole s c.args.pass (ops.Fsync c.args.handle) now
    (λ t. IsCheckedRow open_row_check (row_of t (inode_open before.handles c.args.pass c.args.handle))) c.in_err-open_row.field-0.0 c.in_err-open_row.ensures.row
    (λ errno found. fsync_closed told before whole s c.args.pass c.args.handle errno found)
    (is_still told before after sha256 objects whole s c.in_err-open_row.ensures.same refl))

pub returns-clause-outcome : goal.returns-clause-outcome
returns-clause-outcome g c whole now objects s =
    let told = g.K.Keeper.told in
    let before : RowCore g.row.K.Denot = c.args.self.now in
    let after : RowCore g.row.K.Denot = record { alloc = c.args.self.now.alloc; keeper = c.open_row.new.keeper; handles = c.args.self.now.handles } in
    was_synced told before after sha256 objects whole s c.args.pass c.args.handle now (fsync_passes told before whole s c.args.pass c.args.handle _ c.in_ok-open_row.ensures.row) c.in_ok-open_row.ensures.same refl

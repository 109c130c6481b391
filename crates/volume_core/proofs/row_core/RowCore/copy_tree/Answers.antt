use Rattle.std.proofs.Common.{refl}
use Rattle.sha2.specs.Sha256.{sha256}
use Rattle.op_frames.specs.declared.operation.Op.{Op}
use Rattle.op_frames.specs.declared.operation.Op.TheVariants as ops
use Rattle.volume_core.specs.declared.row_core.RowCore.{RowCore}
use Rattle.volume_core.proofs.Carried.{copy_so}
use Rattle.volume_core.proofs.LawsUsed.{CopyLaws}
use Rattle.volume_core.proofs.Standing.{as_refused, faulty, is_still, still_alike}
use Rattle.volume_core.proofs.row_core.RowCore.copy_tree.Goals as goal

pub returns-clause-outcome : goal.returns-clause-outcome
returns-clause-outcome g c whole pass objects s =
    let before : RowCore g.row.K.Denot = c.args.self.now in
    let after : RowCore g.row.K.Denot = record { alloc = c.args.self.now.alloc; keeper = c.take.new.keeper; handles = c.args.self.now.handles } in
    let e = c.copied_trees_keep_bytes.ensures in
    let f = c.shared_blocks_keep_bytes.ensures in
    let laws : CopyLaws = record { files = e.files; shares = e.shares; shared = record { bytes = f.bytes; exact = f.exact; held = f.held; stored = f.stored } } in
    copy_so g.K.Keeper.told before after laws sha256 objects whole s pass c.args.source c.args.parent c.args.name.now c.args.now c.in_ok-plan.plan (g.K.Keeper.told c.copy_batch.new.keeper) c.in_ok-plan.ensures.same refl
    c.take.result c.take.ensures.taken c.in_ok-plan.ensures.plan

pub returns-in_err-plan-clause-outcome : goal.returns-in_err-plan-clause-outcome
returns-in_err-plan-clause-outcome g c whole pass objects s =
    let before : RowCore g.row.K.Denot = c.args.self.now in
    let after : RowCore g.row.K.Denot = record { alloc = c.args.self.now.alloc; keeper = c.copy_batch.new.keeper; handles = c.args.self.now.handles } in
    let copy : Op = ops.CopyTree c.args.source c.args.parent c.args.name.now in
    as_refused g.K.Keeper.told before after sha256 objects objects whole pass copy c.args.now c.from_residual.result _ c.from_residual.ensures.1
    (faulty g.K.Keeper.told before after sha256 objects objects whole pass copy c.args.now c.in_err-plan.field-0.0
    (still_alike g.K.Keeper.told before after sha256 objects objects whole copy (is_still g.K.Keeper.told before after sha256 objects whole s c.in_err-plan.ensures.same refl)))

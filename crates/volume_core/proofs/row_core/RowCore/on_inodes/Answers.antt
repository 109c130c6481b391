use Rattle.std.proofs.Common.{refl}
use Rattle.sha2.specs.Sha256.{sha256}
use Rattle.volume_core.specs.declared.row_core.RowCore.{RowCore}
use Rattle.volume_core.proofs.Carried.{inodes_so}
use Rattle.volume_core.proofs.LawsUsed.{NameLaws}
use Rattle.volume_core.proofs.Standing.{as_refused, faulty, is_still, still_alike}
use Rattle.volume_core.proofs.row_core.RowCore.on_inodes.Goals as goal

pub returns-clause-outcome : goal.returns-clause-outcome
returns-clause-outcome g c whole objects s =
    let before : RowCore g.row.K.Denot = c.args.self.now in
    let after : RowCore g.row.K.Denot = record { alloc = c.args.self.now.alloc; keeper = c.fulfil.new.keeper; handles = c.fulfil.new.handles } in
    let e = c.operations_on_names_keep_bytes.ensures in
    let f = c.shared_blocks_keep_bytes.ensures in
    let laws : NameLaws = record { files = e.files; size = e.size; shares = f.names; shared = record { bytes = f.bytes; exact = f.exact; held = f.held; stored = f.stored } } in
    inodes_so g.K.Keeper.told before after laws sha256 objects whole s c.args.pass c.args.op.now c.args.now c.in_ok-plan.plan c.fulfil.result (g.K.Keeper.told c.plan.new.keeper) c.in_ok-plan.ensures.same c.fulfil.ensures.fulfilled c.requires.op c.in_ok-plan.ensures.plan

pub returns-in_err-plan-clause-outcome : goal.returns-in_err-plan-clause-outcome
returns-in_err-plan-clause-outcome g c whole objects s =
    let before : RowCore g.row.K.Denot = c.args.self.now in
    let after : RowCore g.row.K.Denot = record { alloc = c.args.self.now.alloc; keeper = c.plan.new.keeper; handles = c.args.self.now.handles } in
    as_refused g.K.Keeper.told before after sha256 objects objects whole c.args.pass c.args.op.now c.args.now c.from_residual.result _ c.from_residual.ensures.1
    (faulty g.K.Keeper.told before after sha256 objects objects whole c.args.pass c.args.op.now c.args.now c.in_err-plan.field-0.0
    (still_alike g.K.Keeper.told before after sha256 objects objects whole c.args.op.now (is_still g.K.Keeper.told before after sha256 objects whole s c.in_err-plan.ensures.same refl)))

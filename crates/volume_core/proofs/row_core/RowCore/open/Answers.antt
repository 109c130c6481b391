use Rattle.s3_rows.specs.Ranges.{HasRanges}
use Rattle.volume_core.specs.declared.row_core.RowCore.{RowCore}
use Rattle.volume_core.proofs.Opened.{opened}
use Rattle.volume_core.proofs.Standing.{told_fact}
use Rattle.volume_core.proofs.row_core.RowCore.open.Goals as goal

pub returns-in-Ok-clause-stands : goal.returns-in-Ok-clause-stands
returns-in-Ok-clause-stands g c s whole tells ready same start =
    let core : RowCore g.row.K.Denot = record { alloc = c.args.alloc; keeper = c.mount.new.keeper; handles = c.new.result } in
    opened g.K.Keeper.told core s whole ready same start (c.in-Ok.ensures.ok s tells) (told_fact (g.K.Keeper.told c.args.keeper) s HasRanges tells c.in-Ok.ensures.ranges) c.new.ensures

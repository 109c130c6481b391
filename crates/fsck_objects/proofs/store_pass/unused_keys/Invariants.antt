use Rattle.std.proofs.Common.{◌≡◌, ◌++◌, map, drop}
use Rattle.std.specs.Prelude.{filter}
use Rattle.s3_devices.specs.Keys as texts
use Rattle.fsck_objects.specs.Store as spec
use Rattle.fsck_objects.proofs.store_pass.unused_keys.Given as goal

abbrev pub invariant-loop-row : goal.invariant-loop-row
invariant-loop-row l =
    l.keys ++ map (λ r. texts.data_key r.id) (filter spec.is_unused (drop l.row-index l.rows))
    ≡ map (λ r. texts.data_key r.id) (filter spec.is_unused l.rows)

use Rattle.std.proofs.Common.{◌≡◌, ◌++◌, map, drop}
use Rattle.std.specs.Prelude.{filter}
use Rattle.fsck_objects.specs.Store as spec
use Rattle.fsck_objects.proofs.store_pass.stray_keys.Given as goal

abbrev pub invariant-loop-item : goal.invariant-loop-item
invariant-loop-item l =
    l.keys ++ map (λ k. k.key) (filter (spec.is_stray l.tables l.params) (drop l.item-index l.items))
    ≡ map (λ k. k.key) (filter (spec.is_stray l.tables l.params) l.items)

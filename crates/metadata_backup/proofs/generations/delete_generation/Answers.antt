use Rattle.std.proofs.Common.{◌≡◌, ℕ, List, OnOk, subst}
use Rattle.std.specs.Prelude.{option_map}
use Rattle.s3_devices.specs.Objects.{without_object}
use Rattle.metadata_backup.proofs.generations.delete_generation.Goals as goal

pub returns-clause-ok : goal.returns-clause-ok
returns-clause-ok g c =
    subst (λ (k : List ℕ). OnOk c.delete.result (g.L.Link.told c.delete.new.self ≡ option_map (without_object k) (g.L.Link.told c.args.link.now)))
    c.in_ok-key.ensures c.delete.ensures.ok

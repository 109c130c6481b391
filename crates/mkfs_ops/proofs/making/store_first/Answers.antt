use Rattle.std.proofs.Common.{◌≡◌, ℕ, List, ap, ◌∙◌, subst}
use Rattle.std.specs.Prelude.{option_map}
use Rattle.s3_devices.specs.Keys.{generation_key}
use Rattle.s3_devices.specs.Objects.{with_object, KeepsOthers}
use Rattle.s3_devices.specs.Told.{Becomes}
use Rattle.mkfs_ops.proofs.FirstStores.{first_number}
use Rattle.mkfs_ops.proofs.making.store_first.Goals as goal

pub returns-in-Ok-clause-stored : goal.returns-in-Ok-clause-stored
returns-in-Ok-clause-stored g c =
    let dump = c.in_ok-dump.dump in
    let told = g.L.Link.told c.args.link.now in
    let number : dump.generation ≡ 1 = first_number c.args.tables.now.params dump.generation c.requires c.in_ok-dump.ensures.generation in
    c.in-Ok.ensures.held
    ∙ ap (λ (n : ℕ). option_map (with_object (generation_key n) dump.bytes) told) number
    ∙ ap (λ (b : List ℕ). option_map (with_object (generation_key 1) b) told) c.in_ok-dump.ensures.bytes

pub returns-in-Err-clause-others : goal.returns-in-Err-clause-others
returns-in-Err-clause-others g c =
    let dump = c.in_ok-dump.dump in
    let number : dump.generation ≡ 1 = first_number c.args.tables.now.params dump.generation c.requires c.in_ok-dump.ensures.generation in
    subst (λ (n : ℕ). Becomes (KeepsOthers (generation_key n)) (g.L.Link.told c.args.link.now) (g.L.Link.told c.store_generation.new.link)) number
    c.in-Err.ensures.others

use Rattle.std.proofs.Common.{◌≡◌, arith}
use Rattle.std.specs.Prelude.{option_map}
use Rattle.s3_devices.specs.Keys.{data_key}
use Rattle.s3_devices.specs.Objects.{KeepsOthers, with_object}
use Rattle.s3_devices.specs.Told.{Becomes}
use Rattle.file_ops.specs.Loads.{IsStored, KeepsOtherObjects}
use Rattle.file_ops.proofs.Puts.{kept_others, on_err, on_ok, stored}
use Rattle.file_ops.proofs.stored.store.Goals as goal

pub returns-clause-ok : goal.returns-clause-ok
returns-clause-ok g c =
    let is : c.in_ok-key.key ≡ data_key c.args.object = c.in_ok-key.ensures in
    let before = g.L.Link.told c.args.link.now in
    let after = g.L.Link.told c.put.new.self in
    on_ok (after ≡ option_map (with_object c.in_ok-key.key c.args.bytes.now) before) (Becomes (IsStored c.args.object c.args.bytes.now) before after)
    (stored c.objects_change_by_their_keys.ensures.put c.put_object_is_held.ensures.others c.objects_change_by_their_keys.ensures.others
    c.args.object (omega arith) c.in_ok-key.key c.args.bytes.now is before after)
    c.put.result c.put.ensures.ok

pub returns-clause-err : goal.returns-clause-err
returns-clause-err g c =
    let is : c.in_ok-key.key ≡ data_key c.args.object = c.in_ok-key.ensures in
    let before = g.L.Link.told c.args.link.now in
    let after = g.L.Link.told c.put.new.self in
    on_err (Becomes (KeepsOthers c.in_ok-key.key) before after) (Becomes (KeepsOtherObjects c.args.object) before after)
    (kept_others c.objects_change_by_their_keys.ensures.put c.put_object_is_held.ensures.others c.objects_change_by_their_keys.ensures.others
    c.args.object (omega arith) c.in_ok-key.key c.args.bytes.now is before after)
    c.put.result c.put.ensures.err

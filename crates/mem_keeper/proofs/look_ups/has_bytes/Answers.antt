use Rattle.std.proofs.Common.{◌≡◌, ◌∙◌, refl}
use Rattle.mem_keeper.specs.Index.{has_bytes}
use Rattle.mem_keeper.proofs.look_ups.has_bytes.Goals as goal

-- the row is there
pub returns-in-Some : goal.returns-in-Some
returns-in-Some g c =
    let equal : c.same_bytes.result ≡ has_bytes g.R.Indexed.bytes c.args.bytes.now c.in-Some.row.now = rw (← c.bytes.ensures) c.same_bytes.ensures in
    equal ∙ rw (← c.in-Some.ensures) refl

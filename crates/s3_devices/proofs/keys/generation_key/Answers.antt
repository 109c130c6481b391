use Rattle.std.proofs.Common.{◌≡◌}
use Rattle.std.specs.Fmt.{styled_decimal}
use Rattle.s3_devices.specs.Keys.{twenty_digits}
use Rattle.s3_devices.proofs.KeyLemmas.{padded_integral-twenty}
use Rattle.s3_devices.proofs.keys.generation_key.Goals as goal

pub returns : goal.returns
returns c =
    let digits : styled_decimal c.laid_out.result c.args.generation ≡ twenty_digits c.args.generation =
    rw c.laid_out.ensures (padded_integral-twenty c.args.generation) in
    cc (digits, c.in_ok-key.ensures.ok)

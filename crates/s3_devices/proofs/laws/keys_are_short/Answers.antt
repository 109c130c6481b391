use Rattle.std.proofs.Common.{arith}
use Rattle.s3_devices.proofs.KeyLemmas.{length-data_key, length-generation_key}
use Rattle.s3_devices.proofs.laws.keys_are_short.Goals as goal

pub returns-clause-object : goal.returns-clause-object
returns-clause-object c = length-data_key

pub returns-clause-generation : goal.returns-clause-generation
returns-clause-generation c = λ number small. omega (arith, length-generation_key number small)

pub returns-clause-digits : goal.returns-clause-digits
returns-clause-digits c = length-generation_key

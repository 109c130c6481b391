use Rattle.s3_devices.proofs.KeyLemmas.{data_key_injective, generation_key_injective, data_key_apart}
use Rattle.s3_devices.proofs.laws.keys_name_one_thing.Goals as goal

pub returns-clause-object : goal.returns-clause-object
returns-clause-object c = data_key_injective

pub returns-clause-generation : goal.returns-clause-generation
returns-clause-generation c = generation_key_injective

pub returns-clause-apart : goal.returns-clause-apart
returns-clause-apart c = data_key_apart

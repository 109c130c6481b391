use Rattle.metadata_backup.proofs.KeyNumbers.{generation_of-generation_key, key_of_generation, key_of_object, object_of-data_key}
use Rattle.metadata_backup.proofs.laws.numbers_have_one_key.Goals as goal

pub returns : goal.returns
returns c = record {
  generation = generation_of-generation_key;
  generation_only = key_of_generation;
  object = object_of-data_key;
  object_only = key_of_object;
}

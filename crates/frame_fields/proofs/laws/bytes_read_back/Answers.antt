use Rattle.frame_fields.proofs.FieldLemmas.{name_is, short_name_is, data_is, digest_is, digest_or_none_is}
use Rattle.frame_fields.proofs.laws.bytes_read_back.Goals as goal

pub returns-clause-name : goal.returns-clause-name
returns-clause-name c = name_is.again

pub returns-clause-short_name : goal.returns-clause-short_name
returns-clause-short_name c = short_name_is.again

pub returns-clause-data : goal.returns-clause-data
returns-clause-data c = data_is.again

pub returns-clause-digest : goal.returns-clause-digest
returns-clause-digest c = digest_is.again

pub returns-clause-digest_or_none : goal.returns-clause-digest_or_none
returns-clause-digest_or_none c = digest_or_none_is.again

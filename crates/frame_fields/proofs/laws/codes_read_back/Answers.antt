use Rattle.frame_fields.proofs.FieldLemmas.{node_kind_is, flag_is}
use Rattle.frame_fields.proofs.laws.codes_read_back.Goals as goal

pub returns-clause-kind : goal.returns-clause-kind
returns-clause-kind c = node_kind_is.again

pub returns-clause-flag : goal.returns-clause-flag
returns-clause-flag c = flag_is.again

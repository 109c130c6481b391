use Rattle.core_model.proofs.Agreeing.{AgreesAt-same}
use Rattle.core_model.proofs.bytes.spots_that_show_the_same_agree_alike.Goals as goal

pub returns : goal.returns
returns c = AgreesAt-same

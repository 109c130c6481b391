use Rattle.core_model.proofs.Agreeing.{AgreesAt-exact}
use Rattle.core_model.proofs.bytes.exact_spots_agree.Goals as goal

pub returns : goal.returns
returns c = λ digest_of m. AgreesAt-exact digest_of m

use Rattle.tree_laws.proofs.Copy.Law.{can_be}
use Rattle.tree_laws.proofs.Copy.Sides.{sides_apart}
use Rattle.tree_laws.proofs.copies.sides_stay_apart.Goals as goal

pub returns : goal.returns
returns c = λ t later pass now source parent name attr ordered names tree replied. sides_apart t later source parent name (can_be t pass now source parent name attr ordered names tree replied)

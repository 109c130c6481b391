use Rattle.tree_limits.proofs.WornNames.{worn_is_full}
use Rattle.tree_limits.proofs.names.worn_names_are_full.Goals as goal

pub returns : goal.returns
returns c t whole op most valid unique same well few low names worn =
    worn_is_full t whole valid same (λ n there. c.names_count_their_uses.ensures.uses t whole n valid unique same there) names most few low op worn

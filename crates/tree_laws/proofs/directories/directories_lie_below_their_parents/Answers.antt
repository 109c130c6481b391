use Rattle.tree_laws.proofs.Shape.Above.{is_at_or_below-itself, is_at_or_below-parent, is_at_or_below-root}
use Rattle.tree_laws.proofs.directories.directories_lie_below_their_parents.Goals as goal

pub returns : goal.returns
returns c = record { itself = is_at_or_below-itself; root = is_at_or_below-root; parent = is_at_or_below-parent }

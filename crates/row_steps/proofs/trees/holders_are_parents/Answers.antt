use Rattle.row_steps.proofs.Holding.{directory_leads, holder_below, holder_entry, holder_nearer, holder_parent, holder_there}
use Rattle.row_steps.proofs.trees.holders_are_parents.Goals as goal

pub returns : goal.returns
returns c = record { found = holder_there; entry = holder_entry; parent = holder_parent; below = holder_below; nearer = holder_nearer; short = directory_leads }

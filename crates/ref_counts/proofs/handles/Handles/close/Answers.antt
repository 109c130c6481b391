use Rattle.ref_counts.proofs.Numbers.{AllBelow-remove}
use Rattle.ref_counts.proofs.handles.Handles.close.Goals as goal

pub invariant_of-self : goal.invariant_of-self
invariant_of-self c = rw c.remove.ensures.entries (AllBelow-remove _ _ _ c.self.invariant)

use Rattle.ref_counts.proofs.Numbers.{AllBelow-insert}
use Rattle.ref_counts.proofs.handles.Handles.open.Goals as goal

pub invariant_of-self-2 : goal.invariant_of-self-2
invariant_of-self-2 c = rw c.in_ok-insert.ensures.entries (AllBelow-insert _ _ _ c.self.invariant)

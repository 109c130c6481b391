use Rattle.std.proofs.Common.{◌∙◌, arith}
use Rattle.ref_counts.proofs.Numbers.{AllBelow-remove_last, handle_taken_back}
use Rattle.ref_counts.proofs.handles.Handles.take_back.Goals as goal

pub invariant_of-self : goal.invariant_of-self
invariant_of-self c =
    AllBelow-remove_last _ c.self.inside.next _ _ (omega (arith, c.saturating_sub-self-inside.ensures)) c.self.invariant c.remove.ensures.entries c.remove.ensures.updates.1

pub returns : goal.returns
returns c h handle is below = handle_taken_back _ h handle _ _ (c.self.view_is ∙ is) below c.saturating_sub-self-inside.ensures c.remove.ensures.entries

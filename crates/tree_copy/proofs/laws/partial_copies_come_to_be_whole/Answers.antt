use Rattle.tree_copy.proofs.PartialSteps.{IsPartial-entry, IsPartial-first, IsPartial-node}
use Rattle.tree_copy.proofs.WholeCopy.{whole_copy}
use Rattle.tree_copy.proofs.laws.partial_copies_come_to_be_whole.Goals as goal

pub returns : goal.returns
returns c = record {
  first = IsPartial-first;
  node = λ whole t after parent now y name seen done node fits partial more was new. IsPartial-node whole t parent now name seen done fits partial after y node more was new;
  entry = λ whole t parent now q y name other seen done fits partial among names child. IsPartial-entry whole t parent now name seen done fits partial q y other among names child;
  whole = whole_copy;
}

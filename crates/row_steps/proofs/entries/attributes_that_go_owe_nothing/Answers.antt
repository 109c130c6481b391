use Rattle.row_steps.proofs.Dropping.{HasUniqueNames-dropping_attr, Owes-dropping_attr, node_of_row-dropping_attr}
use Rattle.row_steps.proofs.entries.attributes_that_go_owe_nothing.Goals as goal

pub returns : goal.returns
returns c = record { owes = Owes-dropping_attr; nodes = node_of_row-dropping_attr; unique = HasUniqueNames-dropping_attr }

use Rattle.plain_tree.specs.Operations.{effect}
use Rattle.tree_rows.proofs.Validity.Tables.{IsValid_from_tree}
use Rattle.tree_laws.proofs.WellFormed.{IsWellFormed-effect}
use Rattle.row_steps.proofs.Owed.Ends.{HasPremises-Owes}
use Rattle.row_steps.proofs.steps.tables_after_operations_are_valid.Goals as goal

pub returns : goal.returns
returns c t whole p pass now op well passes o same =
    IsValid_from_tree t (effect whole pass op now) (HasPremises-Owes t p o) same (IsWellFormed-effect whole pass now op well passes)

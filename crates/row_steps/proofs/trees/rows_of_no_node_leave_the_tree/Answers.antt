use Rattle.row_steps.proofs.Shape.Absent.{Represents-put_target_absent, Represents-without_attr_absent, Represents-without_target_absent}
use Rattle.row_steps.proofs.trees.rows_of_no_node_leave_the_tree.Goals as goal

pub returns : goal.returns
returns c = record { attrs = Represents-without_attr_absent; targets = Represents-without_target_absent; new_targets = Represents-put_target_absent }

use Rattle.row_steps.proofs.Shape.Deletes.{Represents-without_content}
use Rattle.row_steps.proofs.Shape.Entries.{Represents-put_content}
use Rattle.row_steps.proofs.trees.entries_are_entries.Goals as goal

pub returns : goal.returns
returns c = record {
  put = λ t whole p directory entry now links uses o same parent there kind named free. Represents-put_content t entry named free whole directory now o.ordered.inodes same parent there kind;
  delete = λ t whole p directory entry now links uses o same parent there kind named here. Represents-without_content t entry o.ordered.contents o.unlike here named whole directory now o.ordered.inodes same parent there kind;
}

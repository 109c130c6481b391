use Rattle.tree_rows.proofs.Replaced.{replaced_represents}
use Rattle.std.proofs.Common.{refl}
use Rattle.row_steps.specs.RowChanges.{drawn}
use Rattle.row_steps.proofs.Shape.Deletes.{Represents-without_inode}
use Rattle.row_steps.proofs.Shape.Rows.{added_represents}
use Rattle.row_steps.proofs.trees.rows_are_nodes.Goals as goal

pub returns : goal.returns
returns c = record {
  put = λ t whole p new node same made number shape. added_represents t whole p (drawn p) new node same made (refl, refl) number shape;
  delete = λ t whole p id links uses o same. Represents-without_inode t whole id o.ordered.inodes same;
  replaced = λ t whole p r new f links uses o same there alike. replaced_represents t whole r new f o.ordered.inodes same there alike;
}

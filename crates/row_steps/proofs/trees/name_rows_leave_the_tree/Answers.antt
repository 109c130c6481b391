use Rattle.std.proofs.Common.{true, sym, subst}
use Rattle.s3_rows.specs.Keyed.{put}
use Rattle.s3_rows.specs.Tables.{Tables, by_name}
use Rattle.tree_rows.specs.Shapes.{Represents}
use Rattle.row_steps.proofs.Owed.Lowered.{IsLower-lowered}
use Rattle.row_steps.proofs.Owed.Names.{KeepsBytes-put, any_name}
use Rattle.row_steps.proofs.Shape.Names.{Represents-names}
use Rattle.row_steps.proofs.trees.name_rows_leave_the_tree.Goals as goal

pub returns : goal.returns
returns c = record {
  put = λ t whole p row links uses o kept same. Represents-names t (put by_name row t.names) (λ x. true) (any_name t) (KeepsBytes-put t row kept) o.rows.entries o.rows.attrs whole same;
  lowered =
      λ t whole p n links uses o there same.
      let lower = IsLower-lowered t p n links uses o there in
      subst (λ (u : Tables). Represents u whole) (sym lower.after) (lower.represents whole same);
}

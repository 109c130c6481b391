use Rattle.std.proofs.Common.{sym, subst}
use Rattle.s3_rows.specs.Tables.{Tables}
use Rattle.s3_rows.specs.Validity.{HasUniqueNames}
use Rattle.plain_tree.specs.Tree.{without_node}
use Rattle.tree_rows.specs.Shapes.{Represents}
use Rattle.row_steps.specs.Owed.{Owes}
use Rattle.row_steps.proofs.Removing.{HasUniqueNames-removal, Owes-removal, Represents-removal, tables_after-removal}
use Rattle.row_steps.proofs.entries.inodes_that_go_owe_nothing.Goals as goal

pub returns : goal.returns
returns c = record {
  owes =
      λ t p id links uses now o bare others.
      subst (λ (u : Tables). Owes u p now uses) (sym (tables_after-removal t p id links uses now o bare others))
      (Owes-removal t p id links uses now o bare others);
  represents =
      λ t p id links uses now o bare others whole same.
      subst (λ (u : Tables). Represents u (without_node id whole)) (sym (tables_after-removal t p id links uses now o bare others))
      (Represents-removal t p id links uses now o bare others whole same);
  unique =
      λ t p id links uses now o bare others unique.
      subst (λ (u : Tables). HasUniqueNames u) (sym (tables_after-removal t p id links uses now o bare others))
      (HasUniqueNames-removal t p id links uses now o bare others unique);
}

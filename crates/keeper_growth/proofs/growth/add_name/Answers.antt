use Rattle.std.proofs.Common.{◌∙◌, ap}
use Rattle.s3_rows.specs.Rows.{Name}
use Rattle.keeper_growth.proofs.Found.{name_found}
use Rattle.keeper_growth.proofs.growth.add_name.Goals as goal

pub returns-clause-found : goal.returns-clause-found
returns-clause-found g c there =
    c.is_some.ensures ∙ name_found _ _ _ c.in_ok-row.row c.in_ok-name_id.field-0 (c.in_ok-name.ensures.cases ∙ ap (λ (n : Name). n.name) c.row.view_is) there c.in_ok-commit_one.ensures c.in_ok-name_id.ensures.row

use Rattle.std.proofs.Common.{rules, tests, ◌≡◌}
use Rattle.std.specs.Prelude.{◌==◌, ◌||◌}
use Rattle.std.proofs.lemmas.Iterator.{YieldsList-from_slice}
use Rattle.std.proofs.lemmas.Iterator.Search.{any_from_yields_List}
use Rattle.std.specs.List.{list_any}
use Rattle.op_checks.proofs.Forbidden.{forbidden_by_last}
use Rattle.op_checks.proofs.values.is_forbidden.Goals as goal
use Rattle.op_checks.proofs.values.is_forbidden.Goals.{then-is_empty, else-is_empty, then-any, else-any}

pub returns-else-eq : goal.returns-else-eq
returns-else-eq c =
    elim c.if-any.branch [
      | then-any w ↦ absurd (cc)
      | else-any w ↦
          elim c.if-is_empty.branch [
            | then-is_empty v ↦ absurd (cc)
            | else-is_empty v ↦
                let any : v.any.result ≡ list_any (λ b. b == 47 || b == 0) c.args.name.now =
                any_from_yields_List (λ b. b == 47 || b == 0) _ _ v.any.result v.any.ensures.ran (YieldsList-from_slice c.args.name.now (cc)) (λ x b q k. search (rules, tests)) in
                forbidden_by_last c.args.name.now w.as_slice.result.now c.as_slice-else-eq.result.now c.is_empty.result v.any.result w.eq.result
                c.eq-else-eq.result c.is_empty.ensures any w.as_slice.ensures w.eq.ensures c.as_slice-else-eq.ensures c.eq-else-eq.ensures (cc) (cc) (cc)
          ]
    ]

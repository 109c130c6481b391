-- What a step that is within its field rules has: an operation within its own, and a time below 2^62.
use Rattle.std.proofs.Common.{◌≡◌, ℕ, ◌^◌, ◌<◌, ◌&&◌, IsTrue, subst, arith}
use Rattle.std.proofs.lemmas.Bool.{and_parts}
use Rattle.std.proofs.lemmas.Bool.Decides.{nat_tests}
use Rattle.op_frames.specs.declared.operation.Op.{Op}
use Rattle.op_frames.specs.declared.operation.Step.{Step}
use Rattle.op_frames.specs.declared.operation.Step.TheVariants.{Call}
use Rattle.frame_fields.specs.Fields.{pass_field, time_field}
use Rattle.op_frames.specs.Operations.{op_field, step_field, is_op}

both_allowed : (pass now : ℕ) (op : Op) → IsTrue (step_field.allows (Call pass now op)) → IsTrue (time_field.allows now) × IsTrue (is_op op)
unfolding step_field op_field
both_allowed pass now op h = and_parts (time_field.allows now) (is_op op) (and_parts (pass_field.allows pass) (time_field.allows now && is_op op) h).1

pub op_allowed : (pass now : ℕ) (op : Op) (step : Step) → step ≡ Call pass now op → IsTrue (step_field.allows step) → IsTrue (is_op op)
op_allowed pass now op step is h = (both_allowed pass now op (subst (λ (s : Step). IsTrue (step_field.allows s)) is h)).1

pub time_allowed : (pass now : ℕ) (op : Op) (step : Step) → step ≡ Call pass now op → IsTrue (step_field.allows step) → now < 2 ^ 62
unfolding time_field
time_allowed pass now op step is h =
    let within : IsTrue (time_field.allows now) = (both_allowed pass now op (subst (λ (s : Step). IsTrue (step_field.allows s)) is h)).0 in
    grind (arith, nat_tests)

-- What a store of objects in memory is, and what each of its calls does to its counts.
use Rattle.std.specs.Prelude.{◌≡◌, ℕ, ◌+◌, ◌-◌, ◌^◌, ◌≤◌, min, List, length, All, IsTrue, ◌↔◌, Contains, Result, if◌then◌else◌}
use Rattle.s3_devices.specs.Objects.{Objects, AreOrdered}
use Rattle.s3_devices.specs.LinkAnswers.{has_failed, key_limit}
use Rattle.s3_devices.specs.declared.link.LinkFault.{LinkFault}

-- what the objects in memory are at all times: their keys are in order, and none is too long
pub record AreStored (objects : Objects) : Type 0 where
  pub ordered : AreOrdered objects
  pub short : All (λ e. length e.0 ≤ key_limit) objects

-- its objects, how many calls were made, the numbers of the calls that fail, and how many have failed
pub record LinkState : Type 0 where
  pub objects : Objects
  pub calls : ℕ
  pub fails : List ℕ
  pub faults : ℕ

-- the call has failed exactly where its number is listed. It is counted, and so is a failure
pub record IsCall {T : Type 0} (result : Result T LinkFault) (before after : LinkState) : Type 0 where
  pub fails : IsTrue (has_failed result) ↔ Contains before.fails before.calls
  pub calls : after.calls ≡ min (before.calls + 1) (2 ^ 64 - 1)
  pub kept : after.fails ≡ before.fails
  pub faults : after.faults ≡ (if has_failed result then min (before.faults + 1) (2 ^ 64 - 1) else before.faults)

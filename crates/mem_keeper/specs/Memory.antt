-- What a keeper in memory is, and what each of its calls does to its counts.
use Rattle.std.specs.Prelude.{◌≡◌, ℕ, ◌+◌, ◌-◌, ◌^◌, min, List, IsTrue, ◌↔◌, Contains, Result, if◌then◌else◌}
use Rattle.s3_rows.specs.Told.{Told, has_failed}
use Rattle.s3_rows.specs.declared.keeper.KeeperFault.{KeeperFault}

-- what it tells, how many calls were made, the numbers of the calls that fail, and how many have failed
pub record KeeperState : Type 0 where
  pub told : Told
  pub calls : ℕ
  pub fails : List ℕ
  pub faults : ℕ

-- the call has failed exactly where its number is listed. It is counted, and so is a failure
pub record IsCall {T : Type 0} (result : Result T KeeperFault) (before after : KeeperState) : Type 0 where
  pub fails : IsTrue (has_failed result) ↔ Contains before.fails before.calls
  pub calls : after.calls ≡ min (before.calls + 1) (2 ^ 64 - 1)
  pub kept : after.fails ≡ before.fails
  pub faults : after.faults ≡ (if has_failed result then min (before.faults + 1) (2 ^ 64 - 1) else before.faults)

-- What a cache disk in memory is, and what each of its calls does to its counts.
use Rattle.std.specs.Prelude.{◌≡◌, ℕ, ◌+◌, ◌-◌, ◌^◌, ◌≤◌, max, min, List, length, slice_index, IsTrue, ◌↔◌, Contains, Result, if◌then◌else◌}
use Rattle.s3_devices.specs.DiskAnswers.{has_failed}
use Rattle.s3_devices.specs.declared.disk.DiskFault.{DiskFault}

-- its bytes, how many calls were made, the numbers of the calls that fail, and how many have failed
pub record DiskState : Type 0 where
  pub bytes : List ℕ
  pub calls : ℕ
  pub fails : List ℕ
  pub faults : ℕ

-- the call has failed exactly where its number is listed. It is counted, and so is a failure
pub record IsCall {T : Type 0} (result : Result T DiskFault) (before after : DiskState) : Type 0 where
  pub fails : IsTrue (has_failed result) ↔ Contains before.fails before.calls
  pub calls : after.calls ≡ min (before.calls + 1) (2 ^ 64 - 1)
  pub kept : after.fails ≡ before.fails
  pub faults : after.faults ≡ (if has_failed result then min (before.faults + 1) (2 ^ 64 - 1) else before.faults)

-- the disk has grown by zeros, up to a length
pub record Grows (len : ℕ) (before after : List ℕ) : Type 0 where
  pub same : (i : ℕ) → slice_index after i ≡ slice_index before i
  pub longer : length before ≤ length after
  pub within : length after ≤ max (length before) len

-- What a disk answers.
use Rattle.std.specs.Prelude.{Bool, true, false, Result, Ok, Err}
use Rattle.s3_devices.specs.declared.disk.DiskFault.{DiskFault}
use Rattle.s3_devices.specs.declared.disk.DiskFault.TheVariants as faults

-- the device has failed, and it was no want of memory
abbrev pub has_failed : {T : Type 0} → Result T DiskFault → Bool
has_failed (Ok x) = false
has_failed (Err faults.Failed) = true
has_failed (Err faults.Memory) = false

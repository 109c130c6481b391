-- Limits with which a file system may be made.
use Rattle.std.specs.Prelude.{◌*◌, ◌^◌, ◌≤◌}
use Rattle.offline_tool.specs.declared.words.Limits.{Limits}

pub record AreWithin (limits : Limits) : Type 0 where
  pub least : 4096 ≤ limits.block_size
  pub greatest : limits.block_size ≤ 10485760
  pub slots : limits.slots ≤ 65536
  pub disk : limits.slots * limits.block_size ≤ 2 ^ 32

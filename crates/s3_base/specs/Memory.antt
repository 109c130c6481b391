-- What a source and a sink in memory are.
use Rattle.std.specs.Prelude.{ℕ, List}
use Rattle.s3_base.specs.Stream.{Stream}

-- its bytes, how many calls were made, the numbers of the calls that fail, and how many have failed
pub record SourceState : Type 0 where
  pub stream : Stream
  pub calls : ℕ
  pub fails : List ℕ
  pub faults : ℕ

-- what was written, and the same numbers
pub record SinkState : Type 0 where
  pub bytes : List ℕ
  pub calls : ℕ
  pub fails : List ℕ
  pub faults : ℕ

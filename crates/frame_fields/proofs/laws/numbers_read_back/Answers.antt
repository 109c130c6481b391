use Rattle.frame_fields.proofs.FieldLemmas.{u16_is, u32_is, u64_is, pass_is, time_is, mode_is, item_count_is}
use Rattle.frame_fields.proofs.laws.numbers_read_back.Goals as goal

pub returns-clause-u16 : goal.returns-clause-u16
returns-clause-u16 c = u16_is.again

pub returns-clause-u32 : goal.returns-clause-u32
returns-clause-u32 c = u32_is.again

pub returns-clause-u64 : goal.returns-clause-u64
returns-clause-u64 c = u64_is.again

pub returns-clause-pass : goal.returns-clause-pass
returns-clause-pass c = pass_is.again

pub returns-clause-time : goal.returns-clause-time
returns-clause-time c = time_is.again

pub returns-clause-mode : goal.returns-clause-mode
returns-clause-mode c = mode_is.again

pub returns-clause-count : goal.returns-clause-count
returns-clause-count c = item_count_is.again

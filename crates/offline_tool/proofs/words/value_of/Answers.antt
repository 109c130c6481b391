use Rattle.metadata_backup.proofs.Digits.{one_more}
use Rattle.offline_tool.proofs.words.value_of.Goals as goal

pub loop-digit-preserved : goal.loop-digit-preserved
loop-digit-preserved c = one_more c.args.digits.now c.loop-digit.digit-index 18446744073709551615 c.loop-digit.value c.saturating_mul.result c.saturating_add-value.result c.requires c.loop-digit-test.true c.loop-digit.invariant c.saturating_mul.ensures c.saturating_add-value.ensures

use Rattle.metadata_backup.proofs.GenerationLaws.{greatest_more}
use Rattle.metadata_backup.proofs.generations.greatest.Goals as goal

pub loop-number-preserved : goal.loop-number-preserved
loop-number-preserved c =
    greatest_more c.args.numbers.now c.loop-number.number-index c.loop-number.found c.greater.result c.loop-number-test.true c.loop-number.invariant c.greater.ensures

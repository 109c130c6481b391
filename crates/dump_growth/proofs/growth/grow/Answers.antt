use Rattle.std.proofs.Common.{refl}
use Rattle.s3_rows.specs.Told.{with_batch}
use Rattle.dump_growth.proofs.Files.{goes_on}
use Rattle.dump_growth.proofs.growth.grow.Goals as goal

pub loop-file-init : goal.loop-file-init
loop-file-init g c = λ s told. (s, told, refl)

pub loop-file-preserved : goal.loop-file-preserved
loop-file-preserved g c = λ s told.
    let before = c.loop-file.invariant s told in
    let more = c.in_ok-add_file.ensures before.0 before.1 in
    (with_batch more.0 before.0, more.2, goes_on c.loop-file.file s before.0 more.0 before.2 more.1)

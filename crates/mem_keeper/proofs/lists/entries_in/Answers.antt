use Rattle.std.proofs.Common.{◌<◌, arith}
use Rattle.std.proofs.lemmas.List.Elements.{All-weaker}
use Rattle.s3_rows.specs.Rows.{IsContent}
use Rattle.mem_keeper.specs.Table.{rows_of}
use Rattle.mem_keeper.proofs.lists.entries_in.Goals as goal

pub page_of-requires-clause-low : goal.page_of-requires-clause-low
page_of-requires-clause-low c =
    All-weaker IsContent (λ r. r.parent < 18446744073709551615) (λ r fits. omega (arith, fits.parent.1)) (rows_of c.args.maps.now.contents.entries) c.requires.ranges.contents

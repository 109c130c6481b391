use Rattle.std.proofs.Common.{◌<◌, arith}
use Rattle.std.proofs.lemmas.List.Elements.{All-weaker}
use Rattle.s3_rows.specs.Rows.{IsAttr}
use Rattle.mem_keeper.specs.Table.{rows_of}
use Rattle.mem_keeper.proofs.lists.attrs_in.Goals as goal

pub page_of-requires-clause-low : goal.page_of-requires-clause-low
page_of-requires-clause-low c =
    All-weaker IsAttr (λ r. r.inode < 18446744073709551615) (λ r fits. omega (arith, fits.inode.1)) (rows_of c.args.maps.now.attrs.entries) c.requires.ranges.attrs

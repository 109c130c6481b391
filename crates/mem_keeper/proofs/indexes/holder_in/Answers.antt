use Rattle.std.proofs.Common.{◌≡◌, List, Bool, ◌==◌, refl, ap, ◌∙◌}
use Rattle.std.specs.Prelude.{filter}
use Rattle.s3_rows.specs.Rows.{Content}
use Rattle.s3_rows.specs.Keyed.{least}
use Rattle.s3_rows.specs.Tables.{Tables}
use Rattle.s3_rows.specs.Selections.{by_parent_and_bytes}
use Rattle.mem_keeper.specs.Table.{rows_of}
use Rattle.mem_keeper.specs.Store.{tables_in}
use Rattle.mem_keeper.proofs.Parts.{filter_again}
use Rattle.mem_keeper.proofs.indexes.holder_in.Goals as goal

pub returns-clause-row : goal.returns-clause-row
returns-clause-row c =
    let all : List Content = rows_of c.args.maps.now.contents.entries in
    let now : Tables = tables_in c.args.maps.now in
    let test : Content → Bool = λ r. r.inode == c.args.inode in
    let part : c.deref.result.now ≡ filter test all = c.deref.ensures.value ∙ c.in_ok-rows.ensures in
    c.holder_of_inode.ensures (record now { contents = c.deref.result.now }) refl refl
    ∙ ap (least (by_parent_and_bytes now)) (filter_again test all c.deref.result.now part)

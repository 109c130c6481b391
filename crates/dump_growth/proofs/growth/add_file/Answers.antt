use Rattle.std.proofs.Common.{List, ◌++◌, ap, ◌∙◌}
use Rattle.s3_rows.specs.declared.change.Change.{Change}
use Rattle.dump_growth.specs.Growth.{entry_changes}
use Rattle.dump_growth.proofs.Files.{committed}
use Rattle.dump_growth.proofs.growth.add_file.Goals as goal

pub returns : goal.returns
returns g c =
    let name = c.in_ok-scattered.field-0 in
    let entry = c.in_ok-put_entry.ensures ∙ ap (λ (b : List Change). b ++ entry_changes c.args.file name) c.new-batch.ensures in
    committed c.commit.result c.args.file name c.digest_of.result c.put_entry.new.batch c.put_block.new.batch
    (g.K.Keeper.told c.args.keeper.now) (g.K.Keeper.told c.commit.new.self) entry c.in_ok-put_block.ensures c.commit.ensures.ok

use Rattle.mem_keeper.proofs.Tabled.{kept_apart}
use Rattle.mem_keeper.proofs.table.drop_key.Goals as goal

pub returns : goal.returns
returns g c = λ q apart there.
    kept_apart g.K.Ord.cmp c.args.key q c.args.keys.now.entries c.remove.new.self.entries apart (c.remove.ensures.updates.0 q) there

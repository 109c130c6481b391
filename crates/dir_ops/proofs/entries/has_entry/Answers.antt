use Rattle.dir_ops.proofs.EntryRows.{is_taken-entry_named}
use Rattle.dir_ops.proofs.entries.has_entry.Goals as goal

pub returns-clause-found : goal.returns-clause-found
returns-clause-found g c =
    is_taken-entry_named (g.K.Keeper.told c.args.keeper.now) c.args.parent c.args.name.now c.in_ok-find_entry.field-0 c.is_some.result c.is_some.ensures c.in_ok-find_entry.ensures.found

use Rattle.std.proofs.Common.{sym, subst}
use Rattle.mem_link.specs.Memory.{AreStored}
use Rattle.mem_link.proofs.Stored.{AreStored-with_object}
use Rattle.mem_link.proofs.objects.put_object.Goals as goal

pub returns-in-Ok-clause-stored : goal.returns-in-Ok-clause-stored
returns-in-Ok-clause-stored c =
    subst AreStored (sym c.in-Ok.ensures.entries) (AreStored-with_object c.args.key c.args.bytes c.args.objects.now.entries c.requires.short c.requires.stored)

use Rattle.std.proofs.Common.{◌∙◌, sym, subst}
use Rattle.mem_link.specs.Memory.{AreStored}
use Rattle.mem_link.proofs.Stored.{AreStored-without_object, removed-without_object}
use Rattle.mem_link.proofs.objects.delete_object.Goals as goal

pub returns-clause-stored : goal.returns-clause-stored
returns-clause-stored c =
    subst AreStored (sym (c.remove.ensures.entries ∙ removed-without_object c.args.key.now c.args.objects.now.entries c.requires))
    (AreStored-without_object c.args.key.now c.args.objects.now.entries c.requires)

pub returns-clause-deleted : goal.returns-clause-deleted
returns-clause-deleted c = c.remove.ensures.entries ∙ removed-without_object c.args.key.now c.args.objects.now.entries c.requires

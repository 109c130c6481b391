use Rattle.row_steps.proofs.Attributes.{removed_attribute_step}
use Rattle.row_steps.proofs.steps.removed_attributes_are_steps.Goals as goal

pub returns : goal.returns
returns c t whole p r pass inode now name a n v unique well same made found = removed_attribute_step t whole p r pass inode now name v unique well same made found a n

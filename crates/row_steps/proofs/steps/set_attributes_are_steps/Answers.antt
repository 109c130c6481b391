use Rattle.row_steps.proofs.Attributes.{new_attribute_step, set_attribute_step}
use Rattle.row_steps.proofs.steps.set_attributes_are_steps.Goals as goal

pub returns : goal.returns
returns c = record {
  new = λ t whole p r pass inode now name flag value more v unique well same made found. new_attribute_step t whole p r pass inode now name v unique well same made found flag value more;
  there = λ t whole p r pass inode now name flag value a v unique well same made found. set_attribute_step t whole p r pass inode now name v unique well same made found flag value a;
}

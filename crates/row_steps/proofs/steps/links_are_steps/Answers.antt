use Rattle.row_steps.proofs.Linking.{link_step}
use Rattle.row_steps.proofs.steps.links_are_steps.Goals as goal

pub returns : goal.returns
returns c = record {
  step =
      λ t whole p directory r more pass inode parent now name v unique well same made found file passes used.
      (link_step t whole p directory r more pass inode parent now name v unique well same made found file passes used).0;
  row =
      λ t whole p directory r more pass inode parent now name v unique well same made found file passes used.
      (link_step t whole p directory r more pass inode parent now name v unique well same made found file passes used).1;
}

use Rattle.tree_copy.proofs.CopyCome.{come_again, come_all, come_done, come_first, come_new}
use Rattle.tree_copy.proofs.laws.copy_walks_come_to_all.Goals as goal

pub returns : goal.returns
returns c = record {
  first = λ t whole top v same well folder. come_first t whole v same well top folder;
  done = λ t whole top visits l levels v same well folder come none. come_done t whole v same well top folder visits l levels come none;
  again = λ t whole top visits l levels e r v same well folder come next there again.
      come_again t whole v same well top folder visits l levels come e next r there again;
  new = λ t whole top copy visits l levels e r v same well folder come next there new is.
      come_new t whole v same well top folder visits l levels come e next r there copy new is;
  all = λ t whole top visits v same well folder come. come_all t whole v same well top folder visits come;
}

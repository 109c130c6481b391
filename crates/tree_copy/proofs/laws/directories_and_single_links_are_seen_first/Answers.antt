use Rattle.tree_copy.proofs.FirstVisits.{directory_is_new, single_is_new}
use Rattle.tree_copy.proofs.laws.directories_and_single_links_are_seen_first.Goals as goal

pub returns : goal.returns
returns c = record {
  directory = λ t whole top visits l levels e r v same well folder come next there kind.
      directory_is_new t whole v same well top folder visits l levels come e next r there kind;
  single = λ t whole top visits l levels e r v same well folder come next there once.
      single_is_new t whole v same well top folder visits l levels come e next r there once;
}

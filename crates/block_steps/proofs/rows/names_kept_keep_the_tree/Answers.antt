use Rattle.block_steps.proofs.KeptNames.{HasUniqueNames-KeepsNames, Represents-KeepsNames}
use Rattle.block_steps.proofs.rows.names_kept_keep_the_tree.Goals as goal

pub returns : goal.returns
returns c = record {
  tree = λ t after whole kept same. Represents-KeepsNames t after kept whole same;
  unique = HasUniqueNames-KeepsNames;
}

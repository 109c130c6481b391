use Rattle.std.proofs.Common.{refl}
use Rattle.core_model.proofs.OwnTree.{HasBytes-tree_of}
use Rattle.core_model.proofs.bytes.tables_have_the_bytes_of_their_tree.Goals as goal

pub returns : goal.returns
returns c m t p made some fits small = HasBytes-tree_of m t p.block_size fits small p made refl some

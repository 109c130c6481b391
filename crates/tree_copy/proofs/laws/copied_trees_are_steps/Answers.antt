use Rattle.std.proofs.lemmas.Bool.{and_parts}
use Rattle.tree_copy.specs.CopiedPlaces.{files_fit}
use Rattle.tree_copy.specs.CopiedRows.{names_fit}
use Rattle.tree_copy.specs.CopySteps.{inodes_seen}
use Rattle.tree_copy.proofs.CopiedTrees.{IsCopyStep-copied}
use Rattle.tree_copy.proofs.laws.copied_trees_are_steps.Goals as goal

pub returns : goal.returns
returns c t whole directory top visits pass source parent now name v unique well same passes found top_found are fits =
    let parts =
    and_parts (names_fit t whole.next_inode now top directory name visits)
    (files_fit t whole.next_inode (inodes_seen top visits) (inodes_seen top visits) t) fits in
    IsCopyStep-copied t whole v unique same well pass source parent now name passes directory top found top_found visits are parts.0 parts.1

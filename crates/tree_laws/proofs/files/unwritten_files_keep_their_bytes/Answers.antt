use Rattle.tree_laws.proofs.File.Unwritten.{KeepsFiles-tree_after, KeepsOldFiles-tree_after}
use Rattle.tree_laws.proofs.files.unwritten_files_keep_their_bytes.Goals as goal

pub returns-clause-each : goal.returns-clause-each
returns-clause-each c = λ t pass now op ordered writes_none. KeepsOldFiles-tree_after t pass now op ordered writes_none

pub returns-clause-empty : goal.returns-clause-empty
returns-clause-empty c = λ t pass now op ordered writes_none copies_none. KeepsFiles-tree_after t pass now op ordered writes_none copies_none

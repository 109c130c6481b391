use Rattle.tree_copy.proofs.GrownBatches.{files_copied-last, files_fit-last, names_copied-last, names_fit-last}
use Rattle.tree_copy.proofs.laws.batches_of_copies_grow_at_their_ends.Goals as goal

pub returns-clause-names : goal.returns-clause-names
returns-clause-names c t next now source directory name visits v = names_copied-last t next now source directory name visits v

pub returns-clause-names_fit : goal.returns-clause-names_fit
returns-clause-names_fit c t next now source directory name visits v = names_fit-last t next now source directory name visits v

pub returns-clause-places : goal.returns-clause-places
returns-clause-places c t next x seen xs = files_copied-last t next seen xs x t

pub returns-clause-places_fit : goal.returns-clause-places_fit
returns-clause-places_fit c t next x seen xs = files_fit-last t next seen xs x t

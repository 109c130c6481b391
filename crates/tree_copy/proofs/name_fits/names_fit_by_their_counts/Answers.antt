use Rattle.tree_copy.proofs.SpentNames.{names_over, names_within}
use Rattle.tree_copy.proofs.name_fits.names_fit_by_their_counts.Goals as goal

pub returns-clause-fit : goal.returns-clause-fit
returns-clause-fit c = λ t next now source directory name visits valid unique are. names_within t valid unique next now source directory name visits are

pub returns-clause-over : goal.returns-clause-over
returns-clause-over c = λ t next now source directory name visits valid unique are. names_over t valid unique next now source directory name visits are

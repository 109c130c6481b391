use Rattle.tree_copy.proofs.FitCounts.{count_below, count_over}
use Rattle.tree_copy.proofs.fits.places_fit_by_their_counts.Goals as goal

pub returns-clause-fit : goal.returns-clause-fit
returns-clause-fit c = λ t next seen inodes valid. count_below t valid next seen inodes

pub returns-clause-over : goal.returns-clause-over
returns-clause-over c = λ t next seen inodes valid. count_over t valid next seen inodes

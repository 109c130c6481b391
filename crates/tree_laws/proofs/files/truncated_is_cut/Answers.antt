use Rattle.tree_laws.proofs.File.Written.{truncate_done}
use Rattle.tree_laws.proofs.files.truncated_is_cut.Goals as goal

pub returns : goal.returns
returns c = λ t pass now inode size attr replied. truncate_done t pass now inode size attr replied

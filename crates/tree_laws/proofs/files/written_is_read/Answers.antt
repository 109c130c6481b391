use Rattle.tree_laws.proofs.File.Written.{write_done}
use Rattle.tree_laws.proofs.files.written_is_read.Goals as goal

pub returns : goal.returns
returns c = λ t pass now handle offset count text replied some. write_done t pass now handle offset count text replied some

use Rattle.keeper_dump.proofs.DumpLaws.{dump_again}
use Rattle.keeper_dump.proofs.laws.dumps_read_back.Goals as goal

pub returns : goal.returns
returns c = dump_again

use Rattle.std.proofs.Common.{arith}
use Rattle.mkfs_ops.specs.Making.{first_tables}
use Rattle.mkfs_ops.proofs.FirstStores.{first_is_dumped, first_is_found, one_generation}
use Rattle.mkfs_ops.proofs.laws.made_stores_have_one_generation.Goals as goal

pub returns-clause-one : goal.returns-clause-one
returns-clause-one c = one_generation

pub returns-clause-found : goal.returns-clause-found
returns-clause-found c = λ s o within none.
    first_is_found s o none
    (c.dumps_read_back.ensures (first_tables s) (first_is_dumped s within) (omega (arith, c.first_dumps_are_short.ensures s)))

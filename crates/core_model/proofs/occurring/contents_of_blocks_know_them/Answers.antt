use Rattle.core_model.proofs.Known.{IsCollisionFree-fewer, KnowsAll-contents_of, KnowsAll-fewer, Knows-own}
use Rattle.core_model.proofs.occurring.contents_of_blocks_know_them.Goals as goal

pub returns-clause-all : goal.returns-clause-all
returns-clause-all c digest_of = KnowsAll-contents_of digest_of

pub returns-clause-fewer : goal.returns-clause-fewer
returns-clause-fewer c digest_of = IsCollisionFree-fewer digest_of

pub returns-clause-known : goal.returns-clause-known
returns-clause-known c digest_of = KnowsAll-fewer digest_of

pub returns-clause-own : goal.returns-clause-own
returns-clause-own c digest_of = Knows-own digest_of

use Rattle.std.proofs.Common.{sym, subst, arith}
use Rattle.keeper_dump.specs.Part.{Answers}
use Rattle.keeper_dump.proofs.DumpLaws.{dump_found, dump_allowed, dump_only, read_by_parts}
use Rattle.keeper_dump.proofs.reading.read_dump.Goals as goal

pub returns-clause-exact : goal.returns-clause-exact
returns-clause-exact c = subst (Answers (λ t. t) c.whole_of.result) (sym (read_by_parts c.args.bytes.now)) c.whole_of.ensures

pub returns-clause-found : goal.returns-clause-found
returns-clause-found c = dump_found c.args.bytes.now c.whole_of.result (λ i. omega (arith, c.type_inv.bytes i)) (returns-clause-exact c)

pub returns-clause-allowed : goal.returns-clause-allowed
returns-clause-allowed c = dump_allowed c.args.bytes.now c.whole_of.result (λ i. omega (arith, c.type_inv.bytes i)) (returns-clause-exact c)

pub returns-clause-only : goal.returns-clause-only
returns-clause-only c = dump_only c.args.bytes.now c.whole_of.result (omega arith) (returns-clause-exact c)

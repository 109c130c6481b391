use Rattle.sha2.specs.Hashers.{Holds256}
use Rattle.bench_blocks.specs.Digests.{digests_below}
use Rattle.bench_blocks.proofs.hashing.hash_pieces.Given as goal

-- the hasher holds the digests of the pieces so far
abbrev pub invariant-pieces : goal.invariant-pieces
invariant-pieces l = Holds256 l.hasher (digests_below l.rest l.number)

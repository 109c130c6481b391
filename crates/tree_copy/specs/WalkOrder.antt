-- How far a walk has come through all at and below a node.
use Rattle.std.specs.Prelude.{ℕ, suc, List, length, fold}
use Rattle.plain_tree.specs.Below.{walk}
use Rattle.plain_tree.specs.Tree.{Tree}

-- the inodes seen, and then those at and below these inodes that were not, in the order of the walk
abbrev pub walked : Tree → List ℕ → List ℕ → List ℕ
walked t inodes seen = fold (λ s child. walk (suc (length t.nodes)) t child s) seen inodes

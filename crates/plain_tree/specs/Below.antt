-- What lies at and below a node.
use Rattle.std.specs.Prelude.{ℕ, zero, suc, ◌==◌, List, [], ◌∷◌, ◌++◌, length, map, fold, Bool, None, Some, if◌then◌else◌}
use Rattle.std.specs.List.{list_any}
use Rattle.plain_tree.specs.Tree.{Tree, node_at}
use Rattle.plain_tree.specs.Entries.{entries_of}

abbrev pub is_among : List ℕ → ℕ → Bool
is_among inodes inode = list_any (λ i. i == inode) inodes

-- the inodes that the entries of a node name, in the order of the names
abbrev pub children : Tree → ℕ → List ℕ
children t inode = elim (node_at t inode) [ Some node ↦ map (λ e. e.1) (entries_of node.content) | None ↦ [] ]

-- the inodes that were seen, and then those at and below one that were not, each at its first visit: the node itself, then
-- its children, each with all below it before the next; n bounds how deep the walk goes
abbrev pub walk : ℕ → Tree → ℕ → List ℕ → List ℕ
walk zero t inode seen = seen
walk (suc n) t inode seen = if is_among seen inode then seen else fold (λ s child. walk n t child s) (seen ++ inode ∷ []) (children t inode)

-- the inodes at and below one, in the order of a walk; no tree is deeper than its nodes are many
abbrev pub at_and_below : Tree → ℕ → List ℕ
at_and_below t inode = walk (suc (length t.nodes)) t inode []

abbrev pub is_at_or_below : Tree → ℕ → ℕ → Bool
is_at_or_below t top inode = is_among (at_and_below t top) inode

-- The numbers of nodes and handles.
use Rattle.std.specs.Prelude.{ℕ, ◌+◌, ◌≤◌, List, [], ◌∷◌}
use Rattle.std.specs.Map.{keys_of}
use Rattle.plain_tree.specs.Tree.{Tree}

-- each number is above the one before it, the first is at least low, and all are below next
abbrev pub Ascend : ℕ → List ℕ → ℕ → Type 0
Ascend low [] next = low ≤ next
Ascend low (number ∷ numbers) next = (low ≤ number) × Ascend (number + 1) numbers next

-- the nodes are in the order of their numbers, no two have one number, and each is below the next one
abbrev pub InOrder : Tree → Type 0
InOrder t = Ascend 0 (keys_of t.nodes) t.next_inode

-- the same of the handles
abbrev pub HandlesInOrder : Tree → Type 0
HandlesInOrder t = Ascend 0 (keys_of t.handles) t.next_handle

-- When a count is at its end, in words of the tree.
use Rattle.std.specs.Prelude.{ℕ, ◌+◌, ◌^◌, ◌<◌, ◌≤◌, List, None, Some, Contains}
use Rattle.op_frames.specs.declared.operation.Op.{Op}
use Rattle.plain_tree.specs.Classes.{name_used}
use Rattle.plain_tree.specs.Tree.{Tree}
use Rattle.core_model.specs.Occurring.{blocks_in}
use Rattle.byte_steps.specs.Counts.{equal_blocks}
use Rattle.inode_ops.specs.Uses.{name_uses}

-- the name that an operation uses once more has 2^62 - 1 uses, entries and attributes together
abbrev pub IsNameFull : Tree → Op → Type 0
IsNameFull t op = elim (name_used t op) [ Some name ↦ 2 ^ 62 ≤ name_uses t name + 1 | None ↦ ⊥ ]

-- a name would have 2^62 uses in another tree, more than it has
abbrev pub GetsFullName : Tree → Tree → Type 0
GetsFullName t next = (name : List ℕ) × (name_uses t name < name_uses next name) × (2 ^ 62 ≤ name_uses next name)

-- a block would be in 2^62 places of the files of another tree, more than it is
abbrev pub GetsFullBlock : Tree → Tree → Type 0
GetsFullBlock t next =
    (b : List ℕ) × (equal_blocks b (blocks_in t) < equal_blocks b (blocks_in next)) × (2 ^ 62 ≤ equal_blocks b (blocks_in next))

-- a block is in so many places that those of a call, at most 34, may be too many
abbrev pub HasFullBlock : Tree → Type 0
HasFullBlock t = (b : List ℕ) × Contains (blocks_in t) b × (2 ^ 62 ≤ equal_blocks b (blocks_in t) + 34)

use Rattle.std.proofs.Common.{◌≡◌, map, take}
use Rattle.inode_ops.proofs.reading.names_of.Given as goal

-- the names so far are listed
abbrev pub invariant-loop-attr : goal.invariant-loop-attr
invariant-loop-attr l = l.names ≡ map (λ a. a.name) (take l.attr-index l.attrs)

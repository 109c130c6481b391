-- Numbers that specifications share.
use Rattle.std.specs.Prelude.{ℕ}

-- the root's inode number
abbrev pub root : ℕ
root = 1

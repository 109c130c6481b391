-- Trees, contents and a digest that are small enough to work by hand.
use Rattle.std.specs.Prelude.{ℕ, List, [], ◌∷◌, length, sum}
use Rattle.plain_tree.specs.Tree.{Tree, Node, Regular}
use Rattle.std.specs.Prelude.{false}

-- a digest under which `1, 3` and `2, 2` collide
abbrev pub toy_digest : List ℕ → List ℕ
toy_digest bytes = length bytes ∷ sum bytes ∷ []

-- a file with these bytes
abbrev pub toy_file : List ℕ → Node
toy_file bytes = record { mode = 420; uid = 0; gid = 0; mtime = 0; ctime = 0; locked = false; attributes = []; content = Regular bytes }

-- two files in blocks of four bytes
abbrev pub toy_tree : List ℕ → List ℕ → Tree
toy_tree first second = record { block_size = 4; next_inode = 5; nodes = (3, toy_file first) ∷ (4, toy_file second) ∷ []; next_handle = 1; handles = [] }

-- Trees whose files have the bytes that they had.
use Rattle.std.specs.Prelude.{◌≡◌, ◌⊎◌, ℕ, List, [], None, Some}
use Rattle.plain_tree.specs.Tree.{Tree, node_at}
use Rattle.plain_tree.specs.Files.{file_at}

-- each file is one that was there, with its bytes, or a new one, which is empty
abbrev pub KeepsBytes : Tree → Tree → Type 0
KeepsBytes whole next =
    (x : ℕ) (bytes : List ℕ) → file_at next x ≡ Some bytes → (file_at whole x ≡ Some bytes) ⊎ ((bytes ≡ []) × (node_at whole x ≡ None))

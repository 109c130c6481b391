-- How many blocks a list has, where equal ones count once, how many are equal to one, the blocks of one file, and trees whose files have
-- the same bytes.
use Rattle.std.specs.Prelude.{◌≡◌, ℕ, List, [], None, Some, count_by}
use Rattle.std.specs.Ordering.{eq_by_cmp, is_eq, nat_cmp}
use Rattle.std.specs.Cmp.Lexicographic.{slice_cmp}
use Rattle.std.specs.Set.{distinct_count}
use Rattle.plain_tree.specs.Tree.{Tree, node_at}
use Rattle.plain_tree.specs.Files.{file_at}
use Rattle.core_model.specs.Occurring.{blocks_of_content}

abbrev pub different_blocks : List (List ℕ) → ℕ
different_blocks blocks = distinct_count (eq_by_cmp (slice_cmp nat_cmp)) blocks

abbrev pub equal_blocks : List ℕ → List (List ℕ) → ℕ
equal_blocks block blocks = count_by (λ b. is_eq (slice_cmp nat_cmp block b)) blocks

-- the trimmed blocks of a file that are not all zeros, one for each place; none of what is no file
abbrev pub blocks_at : Tree → ℕ → List (List ℕ)
blocks_at t inode = elim (node_at t inode) [ Some node ↦ blocks_of_content t.block_size node.content | None ↦ [] ]

-- each file of the next tree has the bytes of one of the tree
abbrev pub HasBytesOf : Tree → Tree → Type 0
HasBytesOf whole next = (inode : ℕ) (bytes : List ℕ) → file_at next inode ≡ Some bytes → (of : ℕ) × (file_at whole of ≡ Some bytes)

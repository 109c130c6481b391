-- A file that gets other bytes, and what its places name then.
use Rattle.std.specs.Prelude.{◌≡◌, ◌⊎◌, ◌≤◌, ℕ, ◌*◌, ◌==◌, List, length, false, IsTrue, None, Some, option_map, unwrap_or, Contains}
use Rattle.plain_tree.specs.Tree.{Tree}
use Rattle.plain_tree.specs.Files.{file_at}
use Rattle.block_math.specs.Blocks.{piece_of, trimmed}
use Rattle.s3_rows.specs.Tables.{Tables}
use Rattle.tree_rows.specs.Contents.{Contents}
use Rattle.tree_rows.specs.Spots.{form_at}
use Rattle.core_model.specs.Exact.{form_of_stored}
use Rattle.core_model.specs.Occurring.{Knows, is_stored}

-- the length of the stored form at a place; 0 without one
abbrev pub stored_length : Tables → ℕ → ℕ → ℕ
stored_length t inode n = unwrap_or (option_map (λ form. form.1) (form_at t inode n)) 0

-- no place past the end of a file of this length names a block
abbrev pub EndsAt : Tables → ℕ → ℕ → ℕ → Type 0
EndsAt t inode size len = (n : ℕ) → len ≤ n * size → form_at t inode n ≡ None

-- A file has other bytes: its changed blocks have their forms, those past its end none, and all other places and files are as
-- before.
pub record IsFileChanged (digest_of : List ℕ → List ℕ) (t after : Tables) (whole next : Tree) (inode : ℕ) (new changed : List ℕ) : Type 0 where
  pub size : next.block_size ≡ whole.block_size
  pub file : file_at next inode ≡ Some new
  pub others : (x : ℕ) → (x == inode) ≡ false → file_at next x ≡ file_at whole x
  pub put : (n : ℕ) → Contains changed n → form_at after inode n ≡ form_of_stored digest_of (trimmed (piece_of whole.block_size new n))
  pub past : (n : ℕ) → length new ≤ n * whole.block_size → form_at after inode n ≡ None
  pub kept : (x n : ℕ) → ((x ≡ inode) → (Contains changed n) ⊎ (length new ≤ n * whole.block_size) → ⊥) → form_at after x n ≡ form_at t x n

-- the contents know each of these blocks of a file that is not all zeros
abbrev pub KnowsChanged : (List ℕ → List ℕ) → Contents → ℕ → List ℕ → List ℕ → Type 0
KnowsChanged digest_of m size new changed =
    (n : ℕ) → Contains changed n → IsTrue (is_stored (trimmed (piece_of size new n))) → Knows digest_of m (trimmed (piece_of size new n))

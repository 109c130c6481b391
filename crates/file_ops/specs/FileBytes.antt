-- The bytes of a file, where tables and the objects of the store are told.
use Rattle.std.specs.Prelude.{◌≡◌, ℕ, List, [], length, Option, None, Some}
use Rattle.plain_tree.specs.Tree.{Tree}
use Rattle.plain_tree.specs.Files.{file_at}
use Rattle.s3_rows.specs.Tables.{Tables}
use Rattle.s3_rows.specs.Told.{Told, IfTold}
use Rattle.s3_devices.specs.Keys.{objects_in}
use Rattle.s3_devices.specs.Objects.{Objects}
use Rattle.s3_devices.specs.Told as stores
use Rattle.tree_rows.specs.Contents.{Contents}
use Rattle.tree_rows.specs.Spots.{form_at}
use Rattle.core_model.specs.Bytes.{HasBytes, no_overlay}
use Rattle.core_model.specs.Safe.{HaveHeld}

-- a fact of tables and objects, where both are told
abbrev pub IfBothTold : Option Told → Option Objects → (Tables → Objects → Type 0) → Type 0
IfBothTold tables objects P = IfTold tables (λ t. stores.IfTold objects (λ o. P t o))

-- the size of a form; 0 without one
abbrev pub size_of_form : Option (List ℕ × ℕ) → ℕ
size_of_form None = 0
size_of_form (Some form) = form.1

-- the size of the form of each block of a file
abbrev pub stored_in : Tables → ℕ → ℕ → ℕ
stored_in t inode blockno = size_of_form (form_at t inode blockno)

-- the bytes have the digest of the form; there are none without one
abbrev pub IsOfForm : (List ℕ → List ℕ) → Option (List ℕ × ℕ) → List ℕ → Type 0
IsOfForm digest_of None bytes = bytes ≡ []
IsOfForm digest_of (Some form) bytes = digest_of bytes ≡ form.0

-- the file, of this many bytes, has these in a tree of which tables and store have the bytes
pub record IsFile (t : Tables) (o : Objects) (inode size block_size : ℕ) (file : List ℕ) : Type 0 where
  pub contents : Contents
  pub whole : Tree
  pub held : HaveHeld contents (objects_in o) t.blocks
  pub has : HasBytes contents t no_overlay whole
  pub is : file_at whole inode ≡ Some file
  pub long : length file ≡ size
  pub blocks : whole.block_size ≡ block_size

-- a fact of the bytes that the file has
abbrev pub IfFile : Option Told → Option Objects → ℕ → ℕ → ℕ → (List ℕ → Type 0) → Type 0
IfFile tables objects inode size block_size P =
    IfBothTold tables objects (λ t o. (file : List ℕ) → IsFile t o inode size block_size file → P file)

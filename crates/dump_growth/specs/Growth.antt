-- The rows of many files with a block each.
use Rattle.std.specs.Prelude.{◌≡◌, ℕ, zero, suc, ◌+◌, ◌≤◌, List, [], ◌∷◌, ◌++◌, false, Some}
use Rattle.s3_base.specs.declared.node_kind.Kind.TheVariants as kinds
use Rattle.s3_rows.specs.declared.change.Change.{Change}
use Rattle.s3_rows.specs.declared.change.Change.TheVariants as changes
use Rattle.s3_rows.specs.declared.digest.Digest.{Digest}
use Rattle.s3_rows.specs.Rows.{Inode}
use Rattle.s3_rows.specs.Told.{Told, with_batch}

-- a to p
abbrev pub IsLetter : ℕ → Type 0
IsLetter b = (97 ≤ b) × (b ≤ 112)

-- a file of one block that one entry names
abbrev pub file_inode : ℕ → Inode
file_inode id = record {
  id = id;
  kind = kinds.Regular;
  mode = 420;
  uid = 0;
  gid = 0;
  mtime = 0;
  ctime = 0;
  refcount = 1;
  size = 4096;
  locked = false;
}

-- its inode, its name, and its entry in the root
abbrev pub entry_changes : ℕ → List ℕ → List Change
entry_changes file name =
    changes.PutInode (file_inode (file + 3)) ∷ changes.PutName (record { id = file + 2; refcount = 1; name = name })
    ∷ changes.PutContent (record { parent = 1; name_id = file + 2; inode = file + 3 }) ∷ []

-- its block: the place in the file, the block, and the object
abbrev pub block_changes : ℕ → Digest → List Change
block_changes file digest =
    changes.PutInodeBlock (record { inode = file + 3; blockno = 0; block = file + 1 })
    ∷ changes.PutBlock (record { id = file + 1; digest = digest; refcount = 1; size = 4096; object = file + 1 })
    ∷ changes.PutObject (record { id = file + 1; refcount = 1; size = Some 4096 }) ∷ []

-- the batch puts the rows of a file, by whatever name and digest
pub record IsFile (file : ℕ) (batch : List Change) : Type 0 where
  pub name : List ℕ
  pub digest : Digest
  pub changes_are : batch ≡ entry_changes file name ++ block_changes file digest

-- the files before this one were committed, a batch each
abbrev pub IsGrown : ℕ → Told → Told → Type 0
IsGrown zero before after = after ≡ before
IsGrown (suc file) before after =
    (mid : Told) × (batch : List Change) × (grown : IsGrown file before mid) × (is : IsFile file batch) × (after ≡ with_batch batch mid)

-- Damaged tables, on which the passes on rows and on counts are worked by hand.
use Rattle.std.specs.Prelude.{ℕ, ◌-◌, ◌^◌, List, [], ◌∷◌, codes, map, Option, None, Some}
use Rattle.s3_base.specs.declared.node_kind.Kind.TheVariants as kinds
use Rattle.s3_rows.specs.Rows.{Inode, Content, Name, Block, Object, Parameters}
use Rattle.s3_rows.specs.Tables.{Tables}
use Rattle.s3_rows.specs.Made.{made_tables, made_parameters, made_directory}
use Rattle.fsck_findings.specs.Line.{line_of}
use Rattle.fsck_tables.specs.Rows.{repaired_rows}
use Rattle.fsck_tables.specs.Counts.{repaired_counts}

-- the parameters of these tables
abbrev pub made : Parameters
made = record (made_parameters 4096 8) { next_inode = 9; next_name = 9; next_block = 9; next_object = 9 }

-- the lines of the pass on rows
abbrev pub row_lines : Tables → List (List ℕ)
row_lines t = map line_of (repaired_rows made (record t { params = Some made })).findings

-- the lines of the pass on counts
abbrev pub count_lines : Tables → List (List ℕ)
count_lines t = map line_of (repaired_counts (record t { params = Some made })).findings

-- ---- rows

abbrev pub file : ℕ → ℕ → Inode
file id size = record (made_directory id 420 5) { kind = kinds.Regular; size = size }

abbrev pub link : ℕ → ℕ → Inode
link id size = record (made_directory id 511 5) { kind = kinds.Link; size = size }

abbrev pub name : ℕ → List ℕ → Name
name id bytes = record { id = id; refcount = 1; name = bytes }

abbrev pub entry : ℕ → ℕ → ℕ → Content
entry parent name_id inode = record { parent = parent; name_id = name_id; inode = inode }

-- a block whose digest is one byte
abbrev pub block : ℕ → ℕ → ℕ → ℕ → Block
block id byte size object = record { id = id; digest = record { 0 = byte ∷ [] }; refcount = 1; size = size; object = object }

abbrev pub object : ℕ → Option ℕ → Object
object id size = record { id = id; refcount = 1; size = size }

-- a made file system with other inodes than root and `lost+found`
abbrev pub with_inodes : List Inode → Tables
with_inodes inodes = record (made_tables 4096 8 5) { inodes = made_directory 1 493 5 ∷ made_directory 2 448 5 ∷ inodes }

-- ---- tables for the pass on rows

-- targets of a file and of nothing, and attributes of nothing and of a name without row
abbrev pub strays : Tables
strays = record (with_inodes (file 3 0 ∷ link 4 1 ∷ [])) {
  targets = record { inode = 3; target = codes "t" } ∷ record { inode = 4; target = codes "t" } ∷ record { inode = 7; target = codes "t" } ∷ [];
  attrs = record { inode = 2; name_id = 1; value = [] } ∷ record { inode = 2; name_id = 5; value = [] } ∷ record { inode = 7; name_id = 1; value = [] } ∷ [];
}

-- a directory and a link whose sizes are wrong
abbrev pub wrong_sizes : Tables
wrong_sizes = record (with_inodes []) {
  inodes = made_directory 1 493 5 ∷ record (made_directory 2 448 5) { size = 7 } ∷ link 3 9 ∷ file 4 9 ∷ [];
  targets = record { inode = 3; target = codes "abc" } ∷ [];
}

-- places of a directory and of nothing, and within, at and past the end of files of one byte more than a block and of one block
abbrev pub stray_places : Tables
stray_places = record (with_inodes (file 3 4097 ∷ file 4 4096 ∷ [])) {
  inode_blocks =
      record { inode = 2; blockno = 0; block = 1 } ∷ record { inode = 3; blockno = 1; block = 1 } ∷ record { inode = 3; blockno = 2; block = 1 }
      ∷ record { inode = 4; blockno = 0; block = 1 } ∷ record { inode = 4; blockno = 1; block = 1 } ∷ record { inode = 7; blockno = 0; block = 1 } ∷ [];
  blocks = block 1 1 10 1 ∷ [];
  objects = object 1 (Some 10) ∷ [];
}

-- of these blocks the first stays, and the last, since the one like it goes
abbrev pub damaged_blocks : Tables
damaged_blocks = record (with_inodes []) {
  blocks =
      block 1 1 10 1 ∷ block 2 1 20 2 ∷ block 3 3 10 9 ∷ block 4 4 10 3 ∷ block 5 5 11 4 ∷ block 6 6 10 1 ∷ block 7 7 5000 5 ∷ block 8 3 10 6 ∷ [];
  objects =
      object 1 (Some 10) ∷ object 2 (Some 20) ∷ object 3 None ∷ object 4 (Some 10) ∷ object 5 (Some 5000) ∷ object 6 (Some 10) ∷ [];
}

-- numbers in use that are not below the next ones, of a row and of what rows name
abbrev pub low_numbers : Tables
low_numbers = record (with_inodes (file 9 9 ∷ [])) {
  names = name 1 (codes "lost+found") ∷ name 10 (codes "a") ∷ [];
  contents = entry 1 1 2 ∷ entry 1 10 9 ∷ [];
  inode_blocks = record { inode = 9; blockno = 0; block = 12 } ∷ [];
}

-- the greatest number is in use
abbrev pub last_number : Tables
last_number = record (with_inodes []) { contents = entry 1 1 2 ∷ entry 2 1 (2 ^ 62 - 1) ∷ [] }

-- ---- tables for the pass on counts

-- counts of inodes and names that are wrong, and a name that nothing has
abbrev pub wrong_counts : Tables
wrong_counts = record (with_inodes (file 3 0 ∷ file 4 0 ∷ [])) {
  inodes = record (made_directory 1 493 5) { refcount = 3 } ∷ record (made_directory 2 448 5) { refcount = 7 } ∷ file 3 0 ∷ file 4 0 ∷ [];
  names = name 1 (codes "lost+found") ∷ name 2 (codes "a") ∷ name 3 (codes "b") ∷ [];
  contents = entry 1 1 2 ∷ entry 1 2 3 ∷ entry 2 2 3 ∷ [];
  attrs = record { inode = 3; name_id = 2; value = [] } ∷ [];
}

-- a block that two places have, one that none has, and the objects of both
abbrev pub block_counts : Tables
block_counts = record (with_inodes (record (file 3 8192) { refcount = 0 } ∷ [])) {
  inode_blocks = record { inode = 3; blockno = 0; block = 2 } ∷ record { inode = 3; blockno = 1; block = 2 } ∷ [];
  blocks = block 1 1 10 1 ∷ block 2 2 10 2 ∷ [];
  objects = object 1 (Some 10) ∷ object 2 (Some 10) ∷ [];
}

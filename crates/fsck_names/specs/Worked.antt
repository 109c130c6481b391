-- Tables that are not as they should be, on which the pass is tried.
use Rattle.std.specs.Prelude.{ℕ, List, [], ◌∷◌, Option, Some, option_map, map, codes}
use Rattle.s3_base.specs.declared.node_kind.Kind.TheVariants as kinds
use Rattle.s3_rows.specs.declared.change.Change.{Change}
use Rattle.s3_rows.specs.Rows.{Inode, Name, Content, InodeBlock}
use Rattle.s3_rows.specs.Tables.{Tables}
use Rattle.s3_rows.specs.Batches.{tables_after}
use Rattle.s3_rows.specs.Validity.{lost_and_found}
use Rattle.s3_rows.specs.Made.{made_tables, made_parameters, made_directory}
use Rattle.fsck_findings.specs.Line.{line_of}
use Rattle.fsck_names.specs.Losses.{pass_on_losses}
use Rattle.fsck_names.specs.Pass.{pass_on_names}

-- ---- rows

abbrev pub directory : ℕ → ℕ → Inode
directory id count = record (made_directory id 493 0) { refcount = count }

abbrev pub file : ℕ → ℕ → Inode
file id count = record (directory id count) { kind = kinds.Regular }

abbrev pub link : ℕ → Inode
link id = record (directory id 1) { kind = kinds.Link }

abbrev pub name : ℕ → List ℕ → Name
name id bytes = record { id = id; refcount = 1; name = bytes }

abbrev pub entry : ℕ → ℕ → ℕ → Content
entry parent name_id inode = record { parent = parent; name_id = name_id; inode = inode }

-- tables with these inodes, names and entries, and these numbers next
abbrev pub tables_of : List Inode → List Name → List Content → ℕ → ℕ → Tables
tables_of inodes names contents next_inode next_name = record (made_tables 4096 8 0) {
  params = Some (record (made_parameters 4096 8) { next_inode = next_inode; next_name = next_name });
  inodes = inodes;
  names = names;
  contents = contents;
}

-- a made file system, and these beside it
abbrev pub beside_made : List Inode → List Name → List Content → ℕ → ℕ → Tables
beside_made inodes names contents next_inode next_name =
    tables_of (directory 1 1 ∷ directory 2 1 ∷ inodes) (name 1 lost_and_found ∷ names) (entry 1 1 2 ∷ contents) next_inode next_name

-- ---- what the pass makes of them

-- the lines of the pass
abbrev pub lines_of : Tables → Option (List (List ℕ))
lines_of t = option_map (λ made. map line_of made.found) (pass_on_names t)

abbrev pub batch_of : Tables → Option (List Change)
batch_of t = option_map (λ made. made.batch) (pass_on_names t)

-- the tables after the pass
abbrev pub after_pass : Tables → Option Tables
after_pass t = option_map (λ made. tables_after made.batch t) (pass_on_names t)

-- ---- tables

-- a file as a directory, an absent name, an absent inode, a name with a slash, the root's own number, and a name of one point
abbrev pub entries_out_of_place : Tables
entries_out_of_place =
    beside_made (file 3 2 ∷ []) (name 2 (codes ".") ∷ name 3 (codes "a/b") ∷ name 4 (codes "c") ∷ [])
    (entry 1 2 3 ∷ entry 1 3 3 ∷ entry 1 4 3 ∷ entry 1 9 3 ∷ entry 2 4 1 ∷ entry 2 5 3 ∷ entry 2 90 3 ∷ entry 3 4 2 ∷ entry 8 4 77 ∷ []) 4 5

-- two files of one name in the root
abbrev pub one_name_twice : Tables
one_name_twice =
    beside_made (file 3 1 ∷ file 4 1 ∷ []) (name 2 (codes "a") ∷ name 3 (codes "a") ∷ []) (entry 1 2 3 ∷ entry 1 3 4 ∷ []) 5 4

-- the root is a file, and names lost+found
abbrev pub root_is_file : Tables
root_is_file = tables_of (file 1 1 ∷ directory 2 1 ∷ []) (name 1 lost_and_found ∷ []) (entry 1 1 2 ∷ []) 3 2

-- no rows at all
abbrev pub no_rows : Tables
no_rows = tables_of [] [] [] 1 1

-- lost+found is a file
abbrev pub file_for_lost_and_found : Tables
file_for_lost_and_found = tables_of (directory 1 1 ∷ file 2 1 ∷ []) (name 1 lost_and_found ∷ []) (entry 1 1 2 ∷ []) 3 2

-- lost+found has a directory that has lost+found
abbrev pub lost_and_found_in_loop : Tables
lost_and_found_in_loop =
    tables_of (directory 1 1 ∷ directory 2 1 ∷ directory 3 1 ∷ []) (name 1 lost_and_found ∷ name 2 (codes "d") ∷ []) (entry 2 2 3 ∷ entry 3 2 2 ∷ []) 4 3

-- a directory with three entries
abbrev pub directory_named_again : Tables
directory_named_again =
    beside_made (directory 3 3 ∷ []) (name 2 (codes "b") ∷ name 3 (codes "a") ∷ []) (entry 1 2 3 ∷ entry 1 3 3 ∷ entry 2 2 3 ∷ []) 4 4

-- a ring of three directories outside the root, and one below it
abbrev pub ring_of_three : Tables
ring_of_three =
    beside_made (directory 3 1 ∷ directory 4 1 ∷ directory 5 1 ∷ directory 6 1 ∷ []) (name 2 (codes "d") ∷ name 3 (codes "e") ∷ [])
    (entry 3 2 5 ∷ entry 4 2 3 ∷ entry 5 2 4 ∷ entry 5 3 6 ∷ []) 7 4

-- a file without entry, the names of which are taken
abbrev pub names_taken : Tables
names_taken =
    beside_made (file 3 1 ∷ file 4 2 ∷ []) (name 2 (codes "inode-3") ∷ name 3 (codes "inode-3-1") ∷ []) (entry 2 2 4 ∷ entry 2 3 4 ∷ []) 5 4

-- a link without target and its entry, and a link with a target and without entry
abbrev pub links : Tables
links = record (beside_made (link 3 ∷ link 4 ∷ []) (name 2 (codes "l") ∷ name 3 (codes "inode-4") ∷ []) (entry 1 2 3 ∷ []) 5 4) {
  targets = record { inode = 4; target = codes "x" } ∷ [];
}

-- a file and a directory without entry, both of count 0
abbrev pub without_count : Tables
without_count = beside_made (directory 3 0 ∷ file 4 0 ∷ []) (name 2 (codes "inode-3") ∷ []) [] 5 3

-- a file without entry, and these numbers next
abbrev pub lost_file : ℕ → ℕ → Tables
lost_file next_inode next_name = beside_made (file 3 1 ∷ []) [] [] next_inode next_name

-- a file that is to be moved beside the greatest name id
abbrev pub greatest_name : Tables
greatest_name = beside_made (file 3 1 ∷ []) (name 4611686018427387903 (codes "z") ∷ []) [] 4 2

-- ---- losses

abbrev pub loss_lines : Tables → Option (List (List ℕ))
loss_lines t = option_map (λ made. map line_of made.found) (pass_on_losses t)

-- the entries after the pass, and the places
abbrev pub entries_after_losses : Tables → Option (List Content)
entries_after_losses t = option_map (λ made. (tables_after made.batch t).contents) (pass_on_losses t)

abbrev pub places_after_losses : Tables → Option (List InodeBlock)
places_after_losses t = option_map (λ made. (tables_after made.batch t).inode_blocks) (pass_on_losses t)

-- the counts of inodes after the pass
abbrev pub counts_after_losses : Tables → Option (List ℕ)
counts_after_losses t = option_map (λ made. map (λ i. i.refcount) (tables_after made.batch t).inodes) (pass_on_losses t)

abbrev pub place : ℕ → ℕ → ℕ → InodeBlock
place inode blockno block = record { inode = inode; blockno = blockno; block = block }

-- two files whose blocks 1 and 9 are gone; the second is `inode-3` in lost+found, and its count is not the listed one
abbrev pub lost_blocks : ℕ → Tables
lost_blocks next_name =
    record (beside_made (file 3 2 ∷ file 4 5 ∷ []) (name 2 (codes "a") ∷ name 3 (codes "b") ∷ name 4 (codes "inode-3") ∷ [])
    (entry 1 2 3 ∷ entry 1 3 3 ∷ entry 2 4 4 ∷ []) 5 next_name) {
      inode_blocks = place 3 0 1 ∷ place 3 1 2 ∷ place 4 0 9 ∷ [];
      blocks = record { id = 2; digest = record { 0 = 7 ∷ [] }; refcount = 1; size = 10; object = 1 } ∷ [];
    }

-- The pass of a check on names: one tree of directories from the root, and no inode without entry but the files of count 0, which go.
use Rattle.std.specs.Prelude.{Bool, ℕ, ◌+◌, ◌==◌, [], ◌∷◌, not, ◌&&◌, Option, Some, option_map, filter, if◌then◌else◌}
use Rattle.std.specs.List.{list_any}
use Rattle.std.specs.Option.{option_and_then}
use Rattle.s3_base.specs.Numbers.{root}
use Rattle.s3_rows.specs.declared.change.Change.TheVariants as changes
use Rattle.s3_rows.specs.Rows.{Inode}
use Rattle.s3_rows.specs.Tables.{Tables}
use Rattle.s3_rows.specs.Made.{made_directory}
use Rattle.s3_rows.specs.Validity.{is_directory, has_inode, is_named, is_lost_and_found, lost_and_found, finds_target, is_no_lost_directory}
use Rattle.fsck_findings.specs.declared.finding.Finding.TheVariants as findings
use Rattle.fsck_findings.specs.declared.finding.Numbered.TheVariants as numbered
use Rattle.fsck_names.specs.Made.{Made, nothing, changing, finding, ◌then◌, for_each}
use Rattle.fsck_names.specs.Numbers.{above_all_in_use, next_inode}
use Rattle.fsck_names.specs.declared.numbers.Free.{Free}
use Rattle.fsck_names.specs.Entries.{drop_entries, delete_entries, names_empty_link, is_out_of_place, repeats_a_name, is_no_lost_and_found, names_directory_again, closes_loop, enter, move}

-- the root is a directory, or is made anew
abbrev pub make_root : Tables → Option Made
make_root t =
    Some (if has_inode is_directory t root then nothing
    else record { batch = changes.PutInode (made_directory root 493 0) ∷ []; found = findings.RootMade ∷ [] })

-- a directory with the next number
abbrev pub make_directory : ℕ → Tables → Option Made
make_directory id t =
    option_map (λ p. changing (changes.PutInode (made_directory id 448 0) ∷ changes.SetParams (record p { next_inode = id + 1 }) ∷ [])) t.params

-- the root has lost+found, or gets it
abbrev pub make_lost_and_found : Free → Tables → Option Made
make_lost_and_found free t =
    if list_any (is_lost_and_found t) t.contents then Some nothing
    else option_and_then
    (λ id. (finding findings.LostAndFoundMade then make_directory id then enter free root lost_and_found id) t)
    (next_inode free t)

-- a step for each inode that passes a test, in the order of their numbers
abbrev pub each_inode : (Tables → Inode → Bool) → (Inode → Tables → Option Made) → Tables → Option Made
each_inode test step t = for_each step (filter (test t) t.inodes) t

-- each directory but the root that no entry names is moved
abbrev pub is_lost_directory : Tables → Inode → Bool
is_lost_directory t r = not (is_no_lost_directory t r)

abbrev pub move_directory : Free → Inode → Tables → Option Made
move_directory free r t = move free r.id t

-- each other inode that no entry names, unless it is a link without target, goes where its count is 0, and else is moved
abbrev pub is_lost_file : Tables → Inode → Bool
is_lost_file t r = not (is_directory r.kind) && not (is_named t r.id) && finds_target t r

abbrev pub remove_inode : Inode → Tables → Option Made
remove_inode r t = Some (record { batch = changes.DeleteInode r.id ∷ []; found = findings.Removed numbered.Inode r.id ∷ [] })

abbrev pub put_away : Free → Inode → Tables → Option Made
put_away free r t = if r.refcount == 0 then remove_inode r t else move free r.id t

-- links without target go, and their entries before them
abbrev pub is_empty_link : Tables → Inode → Bool
is_empty_link t r = not (finds_target t r)

-- ---- the pass

-- entries that are not right go
abbrev pub clear_entries : Tables → Option Made
clear_entries t =
    (drop_entries is_out_of_place
    then drop_entries repeats_a_name
    then drop_entries is_no_lost_and_found
    then drop_entries names_directory_again) t

-- there are a root and lost+found, and no loops
abbrev pub make_roots : Free → Tables → Option Made
make_roots free t = (make_root then make_lost_and_found free then drop_entries closes_loop) t

-- each inode that no entry names is moved or goes
abbrev pub settle_inodes : Free → Tables → Option Made
settle_inodes free t =
    (each_inode is_lost_directory (move_directory free)
    then each_inode is_lost_file (put_away free)
    then delete_entries names_empty_link
    then each_inode is_empty_link remove_inode) t

-- the whole pass; None where it needs a number and none is left
abbrev pub pass_on_names : Tables → Option Made
pass_on_names t =
    let free = above_all_in_use t in
    (clear_entries then make_roots free then settle_inodes free) t

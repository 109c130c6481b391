-- The pass of a check on losses: places in files whose blocks have no row go, and each file that lost one so has its entries replaced
-- by one in lost+found.
use Rattle.std.specs.Prelude.{ℕ, ◌==◌, [], ◌∷◌, Bool, not, ◌&&◌, Option, None, Some, is_some, map, filter, if◌then◌else◌}
use Rattle.std.specs.List.{list_any}
use Rattle.std.specs.Option.{option_and_then}
use Rattle.s3_rows.specs.declared.change.Change.{Change}
use Rattle.s3_rows.specs.declared.change.Change.TheVariants as changes
use Rattle.s3_rows.specs.Rows.{Content, Inode, InodeBlock}
use Rattle.s3_rows.specs.Tables.{Tables}
use Rattle.s3_rows.specs.Selections.{block_at, inode_at}
use Rattle.s3_rows.specs.Validity.{counts_inode, is_regular}
use Rattle.fsck_findings.specs.declared.finding.Finding.{Finding}
use Rattle.fsck_findings.specs.declared.finding.Finding.TheVariants as findings
use Rattle.fsck_names.specs.Made.{Made, nothing, changing, finding, for_each, ◌then◌}
use Rattle.fsck_names.specs.Numbers.{above_all_in_use}
use Rattle.fsck_names.specs.Entries.{delete_entries, enter, free_name, lost_and_found_of}
use Rattle.fsck_names.specs.declared.numbers.Free.{Free}

-- ---- places

-- the block of the place has no row
abbrev pub is_lost : Tables → InodeBlock → Bool
is_lost t r = not (is_some (block_at t r.block))

abbrev pub delete_place : InodeBlock → Change
delete_place r = changes.DeleteInodeBlock r.inode r.blockno

abbrev pub lost_block : InodeBlock → Finding
lost_block r = findings.BlockLost r.inode r.blockno

-- all these places go
abbrev pub drop_places : Tables → Option Made
drop_places t =
    let gone = filter (is_lost t) t.inode_blocks in
    Some (record { batch = map delete_place gone; found = map lost_block gone })

-- ---- files

-- a file that has such a place
abbrev pub loses_block : Tables → Inode → Bool
loses_block t i = is_regular i.kind && list_any (λ r. r.inode == i.id && is_lost t r) t.inode_blocks

-- a count that is the listed one becomes that of one entry
abbrev pub count_one : ℕ → Tables → Option Made
count_one inode t =
    elim (inode_at t inode) [
      | Some r ↦ Some (if counts_inode t r then changing (changes.PutInode (record r { refcount = 1 }) ∷ []) else nothing)
      | None ↦ Some nothing
    ]

abbrev pub names_it : ℕ → Tables → Content → Bool
names_it inode t r = r.inode == inode

-- an entry in lost+found, with the first name that is free there
abbrev pub enter_lost : Free → ℕ → Tables → Option Made
enter_lost free inode t = option_and_then (λ parent. enter free parent (free_name t parent inode) inode t) (lost_and_found_of t)

-- the entries of the file are replaced by one in lost+found, whose name is sought once they are gone
abbrev pub replace_entries : Free → ℕ → Tables → Option Made
replace_entries free inode =
    finding (findings.Moved inode) then count_one inode then delete_entries (names_it inode) then enter_lost free inode

abbrev pub replace_of_file : Free → Inode → Tables → Option Made
replace_of_file free r t = replace_entries free r.id t

-- ---- the pass

-- the whole pass; None where it needs a number and none is left
abbrev pub pass_on_losses : Tables → Option Made
pass_on_losses t = (drop_places then for_each (replace_of_file (above_all_in_use t)) (filter (loses_block t) t.inodes)) t

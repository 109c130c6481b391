-- Numbers that a check may give: above all that are in use as its pass begins.
use Rattle.std.specs.Prelude.{ℕ, ◌+◌, ◌^◌, List, [], ◌∷◌, ◌++◌, map, max, nat_lt, Option, None, Some, if◌then◌else◌}
use Rattle.std.specs.Option.{option_and_then}
use Rattle.s3_base.specs.Numbers.{root}
use Rattle.s3_rows.specs.Tables.{Tables}
use Rattle.fsck_names.specs.declared.numbers.Free.{Free}

-- the root, which the pass itself may make, and the inodes that have a row or that a row names
abbrev pub inodes_in_use : Tables → List ℕ
inodes_in_use t =
    root ∷ map (λ r. r.id) t.inodes ++ map (λ r. r.parent) t.contents ++ map (λ r. r.inode) t.contents ++ map (λ r. r.inode) t.inode_blocks
    ++ map (λ r. r.inode) t.targets ++ map (λ r. r.inode) t.attrs ++ map (λ r. r.inode) t.slots

-- the names that have a row or that a row names
abbrev pub names_in_use : Tables → List ℕ
names_in_use t = map (λ r. r.id) t.names ++ map (λ r. r.name_id) t.contents ++ map (λ r. r.name_id) t.attrs

abbrev pub greatest : List ℕ → ℕ
greatest [] = 0
greatest (n ∷ ns) = max n (greatest ns)

-- the least numbers that are above all in use
abbrev pub above_all_in_use : Tables → Free
above_all_in_use t = record { inode = greatest (inodes_in_use t) + 1; name = greatest (names_in_use t) + 1 }

-- a number that may be given
abbrev pub in_range : ℕ → Option ℕ
in_range n = if nat_lt n (2 ^ 62) then Some n else None

-- the number that the next inode gets, and the next name
abbrev pub next_inode : Free → Tables → Option ℕ
next_inode free t = option_and_then (λ p. in_range (max p.next_inode free.inode)) t.params

abbrev pub next_name : Free → Tables → Option ℕ
next_name free t = option_and_then (λ p. in_range (max p.next_name free.name)) t.params

-- The pass of a check on rows: targets, attributes, sizes, places in files, blocks, and the numbers that come next. All steps read the
-- tables as the pass begins: none of them changes what another looks at.
use Rattle.std.specs.Prelude.{ℕ, ◌==◌, List, [], ◌∷◌, length, max, Bool, not, ◌&&◌, ◌||◌, nat_lt, nat_le, is_some, None, Some, if◌then◌else◌}
use Rattle.std.specs.List.{list_any}
use Rattle.s3_base.specs.declared.node_kind.Kind.TheVariants as kinds
use Rattle.s3_rows.specs.declared.change.Change.TheVariants as changes
use Rattle.s3_rows.specs.Rows.{Inode, InodeBlock, Block, Target, Attr, Parameters}
use Rattle.s3_rows.specs.Tables.{Tables}
use Rattle.s3_rows.specs.Selections.{name_at, target_at}
use Rattle.s3_rows.specs.Validity.{has_inode, any_kind, is_link, is_regular, is_in_file, has_size_of_object, have_one_digest, have_one_object}
use Rattle.fsck_findings.specs.declared.finding.Finding.TheVariants as findings
use Rattle.fsck_findings.specs.declared.finding.Numbered.{Numbered}
use Rattle.fsck_findings.specs.declared.finding.Numbered.TheVariants as numbered
use Rattle.fsck_findings.specs.Found.{Found, nothing, found, found_if, each_found, ◌then_also◌}
use Rattle.fsck_findings.specs.Work.{above, inodes_in_use, names_in_use, blocks_in_use}

-- the target of what is no symbolic link goes
abbrev pub about_target : Tables → Target → Found
about_target t r = found_if (not (has_inode is_link t r.inode)) (changes.DeleteTarget r.inode) (findings.TargetDropped r.inode)

-- the attribute of an inode without row, or of a name without row, goes
abbrev pub about_attr : Tables → Attr → Found
about_attr t r =
    found_if (not (has_inode any_kind t r.inode && is_some (name_at t r.name_id))) (changes.DeleteAttr r.inode r.name_id)
    (findings.AttributeDropped r.inode r.name_id)

-- 0 for a directory, the target's length for a link that has one, and else what it is
abbrev pub right_size : Tables → Inode → ℕ
right_size t r =
    elim r.kind [
      | kinds.Directory ↦ 0
      | kinds.Regular ↦ r.size
      | kinds.Link ↦ elim (target_at t r.id) [ Some x ↦ length x.target | None ↦ r.size ]
    ]

abbrev pub about_size : Tables → Inode → Found
about_size t r =
    found_if (not (r.size == right_size t r)) (changes.PutInode (record r { size = right_size t r })) (findings.Size r.id r.size (right_size t r))

-- the place of what is no regular file, or at or past its end, goes
abbrev pub about_place : Tables → Parameters → InodeBlock → Found
about_place t p r =
    found_if (not (has_inode is_regular t r.inode && is_in_file t p r.inode r.blockno)) (changes.DeleteInodeBlock r.inode r.blockno)
    (findings.LinkDropped r.inode r.blockno)

-- ---- blocks

-- its object is there with the same size, which is no greater than a block
abbrev pub is_sound_block : Tables → Parameters → Block → Bool
is_sound_block t p r = has_size_of_object t r && nat_le r.size p.block_size

-- it has the digest or the object of one of these blocks
abbrev pub is_like_one_of : List Block → Block → Bool
is_like_one_of blocks r = list_any (λ b. have_one_digest r b) blocks || list_any (λ b. have_one_object r b) blocks

-- those go that are not sound, and those like one before them that stays
abbrev pub about_blocks : Tables → Parameters → List Block → List Block → Found
about_blocks t p stay [] = nothing
about_blocks t p stay (r ∷ rs) =
    if is_sound_block t p r && not (is_like_one_of stay r) then about_blocks t p (r ∷ stay) rs
    else found (changes.DeleteBlock r.id) (findings.Removed numbered.Block r.id) then_also about_blocks t p stay rs

-- ---- numbers that come next

-- a number that is below the least free one becomes that
abbrev pub about_next : Numbered → ℕ → ℕ → Parameters → Found
about_next table was least p = found_if (nat_lt was least) (changes.SetParams p) (findings.Next table was least)

-- the least free numbers, of inodes, names and blocks
abbrev pub about_numbers : Parameters → ℕ → ℕ → ℕ → Found
about_numbers p inode name block =
    let first = record p { next_inode = max p.next_inode inode } in
    let second = record first { next_name = max p.next_name name } in
    let third = record second { next_block = max p.next_block block } in
    about_next numbered.Inode p.next_inode inode first then_also about_next numbered.Name p.next_name name second
    then_also about_next numbered.Block p.next_block block third

-- ---- the pass

-- what is found about targets, attributes, sizes and places
abbrev pub about_rows : Parameters → Tables → Found
about_rows p t =
    each_found (about_target t) t.targets then_also each_found (about_attr t) t.attrs then_also each_found (about_size t) t.inodes
    then_also each_found (about_place t p) t.inode_blocks

abbrev pub repaired_rows : Parameters → Tables → Found
repaired_rows p t =
    about_rows p t then_also about_blocks t p [] t.blocks
    then_also about_numbers p (above (inodes_in_use t)) (above (names_in_use t)) (above (blocks_in_use t))

use Rattle.std.proofs.Common.{◌≡◌, ◌∙◌, ◌++◌, ap, max, map, List}
use Rattle.s3_rows.specs.Rows.{Attr, Content, Inode, InodeBlock, Slot, Target}
use Rattle.fsck_findings.specs.Work.{above}
use Rattle.fsck_findings.proofs.InUse.{above_two, above_more}
use Rattle.fsck_findings.proofs.in_use.free_inode.Goals as goal

pub returns-clause-above : goal.returns-clause-above
returns-clause-above c =
    let t = c.args.tables.now in
    let step1 : c.above_rows-free-2.result ≡ above (map (λ r. r.id) t.inodes ++ map (λ r. r.parent) t.contents) = above_two (map (λ r. r.id) t.inodes) (map (λ r. r.parent) t.contents) c.above_rows-free.result c.above_rows-free-2.result (c.above_rows-free.ensures.above ∙ ap (λ (rows : List Inode). max 1 (above (map (λ r. r.id) rows))) (c.as_slice.ensures ∙ ap (λ t. t.inodes) c.tables.view_is)) (c.above_rows-free-2.ensures.above ∙ ap (λ (rows : List Content). max c.above_rows-free.result (above (map (λ r. r.parent) rows))) (c.as_slice-2.ensures ∙ ap (λ t. t.contents) c.tables.view_is)) in
    let step2 : c.above_rows-free-3.result ≡ above (map (λ r. r.id) t.inodes ++ map (λ r. r.parent) t.contents ++ map (λ r. r.inode) t.contents) = above_more (map (λ r. r.id) t.inodes ++ map (λ r. r.parent) t.contents) (map (λ r. r.inode) t.contents) c.above_rows-free-2.result c.above_rows-free-3.result step1 (c.above_rows-free-3.ensures.above ∙ ap (λ (rows : List Content). max c.above_rows-free-2.result (above (map (λ r. r.inode) rows))) (c.as_slice-3.ensures ∙ ap (λ t. t.contents) c.tables.view_is)) in
    let step3 : c.above_rows-free-4.result ≡ above (map (λ r. r.id) t.inodes ++ map (λ r. r.parent) t.contents ++ map (λ r. r.inode) t.contents ++ map (λ r. r.inode) t.inode_blocks) = above_more (map (λ r. r.id) t.inodes ++ map (λ r. r.parent) t.contents ++ map (λ r. r.inode) t.contents) (map (λ r. r.inode) t.inode_blocks) c.above_rows-free-3.result c.above_rows-free-4.result step2 (c.above_rows-free-4.ensures.above ∙ ap (λ (rows : List InodeBlock). max c.above_rows-free-3.result (above (map (λ r. r.inode) rows))) (c.as_slice-4.ensures ∙ ap (λ t. t.inode_blocks) c.tables.view_is)) in
    let step4 : c.above_rows-free-5.result ≡ above (map (λ r. r.id) t.inodes ++ map (λ r. r.parent) t.contents ++ map (λ r. r.inode) t.contents ++ map (λ r. r.inode) t.inode_blocks ++ map (λ r. r.inode) t.targets) = above_more (map (λ r. r.id) t.inodes ++ map (λ r. r.parent) t.contents ++ map (λ r. r.inode) t.contents ++ map (λ r. r.inode) t.inode_blocks) (map (λ r. r.inode) t.targets) c.above_rows-free-4.result c.above_rows-free-5.result step3 (c.above_rows-free-5.ensures.above ∙ ap (λ (rows : List Target). max c.above_rows-free-4.result (above (map (λ r. r.inode) rows))) (c.as_slice-5.ensures ∙ ap (λ t. t.targets) c.tables.view_is)) in
    let step5 : c.above_rows-free-6.result ≡ above (map (λ r. r.id) t.inodes ++ map (λ r. r.parent) t.contents ++ map (λ r. r.inode) t.contents ++ map (λ r. r.inode) t.inode_blocks ++ map (λ r. r.inode) t.targets ++ map (λ r. r.inode) t.attrs) = above_more (map (λ r. r.id) t.inodes ++ map (λ r. r.parent) t.contents ++ map (λ r. r.inode) t.contents ++ map (λ r. r.inode) t.inode_blocks ++ map (λ r. r.inode) t.targets) (map (λ r. r.inode) t.attrs) c.above_rows-free-5.result c.above_rows-free-6.result step4 (c.above_rows-free-6.ensures.above ∙ ap (λ (rows : List Attr). max c.above_rows-free-5.result (above (map (λ r. r.inode) rows))) (c.as_slice-6.ensures ∙ ap (λ t. t.attrs) c.tables.view_is)) in
    above_more (map (λ r. r.id) t.inodes ++ map (λ r. r.parent) t.contents ++ map (λ r. r.inode) t.contents ++ map (λ r. r.inode) t.inode_blocks ++ map (λ r. r.inode) t.targets ++ map (λ r. r.inode) t.attrs) (map (λ r. r.inode) t.slots) c.above_rows-free-6.result c.above_rows.result step5 (c.above_rows.ensures.above ∙ ap (λ (rows : List Slot). max c.above_rows-free-6.result (above (map (λ r. r.inode) rows))) (c.as_slice-7.ensures ∙ ap (λ t. t.slots) c.tables.view_is))

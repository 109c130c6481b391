use Rattle.std.proofs.Common.{◌∙◌, ap, max, map, List}
use Rattle.s3_rows.specs.Rows.{Block, InodeBlock}
use Rattle.fsck_findings.specs.Work.{above}
use Rattle.fsck_findings.proofs.InUse.{above_two}
use Rattle.fsck_findings.proofs.in_use.free_block.Goals as goal

pub returns-clause-above : goal.returns-clause-above
returns-clause-above c =
    let t = c.args.tables.now in
    let blocks = c.as_slice.ensures ∙ ap (λ t. t.blocks) c.tables.view_is in
    let places = c.as_slice-2.ensures ∙ ap (λ t. t.inode_blocks) c.tables.view_is in
    above_two (map (λ r. r.id) t.blocks) (map (λ r. r.block) t.inode_blocks) c.above_rows-free.result c.above_rows.result
    (c.above_rows-free.ensures.above ∙ ap (λ (rows : List Block). max 1 (above (map (λ r. r.id) rows))) blocks)
    (c.above_rows.ensures.above ∙ ap (λ (rows : List InodeBlock). max c.above_rows-free.result (above (map (λ r. r.block) rows))) places)

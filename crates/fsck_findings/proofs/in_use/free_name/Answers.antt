use Rattle.std.proofs.Common.{◌≡◌, ◌∙◌, ◌++◌, ap, max, map, List}
use Rattle.s3_rows.specs.Rows.{Attr, Content, Name}
use Rattle.fsck_findings.specs.Work.{above}
use Rattle.fsck_findings.proofs.InUse.{above_two, above_more}
use Rattle.fsck_findings.proofs.in_use.free_name.Goals as goal

pub returns-clause-above : goal.returns-clause-above
returns-clause-above c =
    let t = c.args.tables.now in
    let step1 : c.above_rows-free-2.result ≡ above (map (λ r. r.id) t.names ++ map (λ r. r.name_id) t.contents) = above_two (map (λ r. r.id) t.names) (map (λ r. r.name_id) t.contents) c.above_rows-free.result c.above_rows-free-2.result (c.above_rows-free.ensures.above ∙ ap (λ (rows : List Name). max 1 (above (map (λ r. r.id) rows))) (c.as_slice.ensures ∙ ap (λ t. t.names) c.tables.view_is)) (c.above_rows-free-2.ensures.above ∙ ap (λ (rows : List Content). max c.above_rows-free.result (above (map (λ r. r.name_id) rows))) (c.as_slice-2.ensures ∙ ap (λ t. t.contents) c.tables.view_is)) in
    above_more (map (λ r. r.id) t.names ++ map (λ r. r.name_id) t.contents) (map (λ r. r.name_id) t.attrs) c.above_rows-free-2.result c.above_rows.result step1 (c.above_rows.ensures.above ∙ ap (λ (rows : List Attr). max c.above_rows-free-2.result (above (map (λ r. r.name_id) rows))) (c.as_slice-3.ensures ∙ ap (λ t. t.attrs) c.tables.view_is))

use Rattle.std.proofs.Common.{◌∙◌, ◌++◌, ap, max, map, List}
use Rattle.std.specs.List.{filter_map}
use Rattle.s3_rows.specs.Rows.{Block, Object}
use Rattle.s3_devices.specs.declared.key_list.KeyItem.{KeyItem}
use Rattle.metadata_backup.specs.Numbers.{object_of}
use Rattle.fsck_findings.specs.Work.{above}
use Rattle.fsck_findings.proofs.InUse.{above_two, above_more}
use Rattle.fsck_objects.proofs.Gathered.{filter_map-some}
use Rattle.fsck_objects.proofs.next_object.free_object.Goals as goal

pub returns-clause-above : goal.returns-clause-above
returns-clause-above c =
    let t = c.args.tables.now in
    let objects = c.as_slice.ensures ∙ ap (λ t. t.objects) c.tables.view_is in
    let blocks = c.as_slice-2.ensures ∙ ap (λ t. t.blocks) c.tables.view_is in
    let two = above_two (map (λ r. r.id) t.objects) (map (λ r. r.object) t.blocks) c.above_all-free.result c.above_all-free-2.result
    (c.above_all-free.ensures.above ∙ ap (λ ns. max 1 (above ns)) (filter_map-some (λ (r : Object). r.id) c.as_slice.result.now)
    ∙ ap (λ (rows : List Object). max 1 (above (map (λ r. r.id) rows))) objects)
    (c.above_all-free-2.ensures.above ∙ ap (λ ns. max c.above_all-free.result (above ns)) (filter_map-some (λ (r : Block). r.object) c.as_slice-2.result.now)
    ∙ ap (λ (rows : List Block). max c.above_all-free.result (above (map (λ r. r.object) rows))) blocks) in
    above_more (map (λ r. r.id) t.objects ++ map (λ r. r.object) t.blocks) (filter_map (λ k. object_of k.key) c.args.keys.now) c.above_all-free-2.result c.above_all.result two
    (c.above_all.ensures.above ∙ ap (λ (items : List KeyItem). max c.above_all-free-2.result (above (filter_map (λ k. object_of k.key) items))) c.as_slice-3.ensures)

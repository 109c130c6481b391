use Rattle.std.proofs.Common.{◌≡◌, ◌+◌, ◌==◌, ◌∙◌, List, drop, subst, ap}
use Rattle.std.specs.Prelude.{◌||◌}
use Rattle.std.proofs.Math.ListN.{drop_of_length-le}
use Rattle.s3_rows.specs.Rows.{Block}
use Rattle.fsck_findings.proofs.Looked.{drop_at}
use Rattle.fsck_objects.specs.Listed.{is_in}
use Rattle.fsck_objects.specs.Missing.{is_of_block}
use Rattle.fsck_objects.proofs.Gathered.{named_none, named_more, named_end}
use Rattle.fsck_objects.proofs.listed.named_by.Goals as goal

pub loop-row-init : goal.loop-row-init
loop-row-init c = λ q. named_none c.args.blocks.now q (is_in c.new-named.result q) (c.new-named.ensures q)

pub loop-row-preserved : goal.loop-row-preserved
loop-row-preserved c =
    let here = drop_at c.args.blocks.now c.loop-row.row-index c.row-item.result c.loop-row-test.true c.row-item.is in
    λ q. named_more c.row-item.result (drop (c.loop-row.row-index + 1) c.args.blocks.now) c.args.blocks.now q (is_in c.loop-row.named q) (is_in c.add.new.self q)
    (subst (λ (left : List Block). (is_in c.loop-row.named q || is_of_block left q) ≡ is_of_block c.args.blocks.now q) here (c.loop-row.invariant q))
    (c.in_ok-add.ensures q ∙ ap (λ (r : Block). is_in c.loop-row.named q || r.object == q) c.row.view_is)

pub returns : goal.returns
returns c = λ q. named_end c.args.blocks.now q (is_in c.loop-row.named q)
    (subst (λ (left : List Block). (is_in c.loop-row.named q || is_of_block left q) ≡ is_of_block c.args.blocks.now q)
    (drop_of_length-le c.args.blocks.now c.loop-row-test.false) (c.loop-row.invariant q))

use Rattle.std.proofs.Common.{◌+◌, ◌++◌, map, List, [], drop, ap, subst, ◌∙◌, ◌≡◌}
use Rattle.std.proofs.Math.ListN.{drop_of_length-le}
use Rattle.s3_rows.specs.Rows.{Block}
use Rattle.fsck_findings.specs.Line.{line_of}
use Rattle.fsck_findings.proofs.Looked.{drop_at}
use Rattle.fsck_tables.specs.Rows.{about_blocks}
use Rattle.fsck_tables.specs.Blocks.{IsLooked}
use Rattle.fsck_tables.proofs.LookedBlocks.{LeavesBlocks, LeavesBlocks-look, Adds-LeavesBlocks, AreMarks-none}
use Rattle.fsck_tables.proofs.blocks.look_at_blocks.Goals as goal

pub loop-row-init : goal.loop-row-init
loop-row-init c =
    let same : c.as_slice-row-items.result.now ≡ c.args.tables.now.blocks = c.as_slice-row-items.ensures ∙ ap (λ t. t.blocks) c.tables.view_is in
    record {
      stay = [];
      marked = AreMarks-none (record { digests = c.new.result; objects = c.new-2.result }) c.new.ensures.empty c.new-2.ensures.empty;
      lacks = record {
        batch = ap (λ (rows : List Block). c.args.repair.now.batch ++ (about_blocks c.args.tables.now c.args.params [] rows).changes) same;
        findings = ap (λ (rows : List Block). c.args.repair.now.findings ++ map line_of (about_blocks c.args.tables.now c.args.params [] rows).findings) same;
      };
    }

pub loop-row-preserved : goal.loop-row-preserved
loop-row-preserved c =
    let rows = c.as_slice-row-items.result.now in
    let all = about_blocks c.args.tables.now c.args.params [] c.args.tables.now.blocks in
    let here = drop_at rows c.loop-row.row-index c.row-item.result c.loop-row-test.true c.row-item.is in
    LeavesBlocks-look c.args.tables.now c.args.params c.row-item.result (drop (c.loop-row.row-index + 1) rows) all c.args.repair.now c.loop-row.repair
    c.look_at_block.new.repair c.loop-row.marks c.look_at_block.new.marks
    (subst (λ (left : List Block). LeavesBlocks c.args.tables.now c.args.params left all c.args.repair.now c.loop-row.repair c.loop-row.marks) here c.loop-row.invariant)
    (λ stay marks. subst (λ sound. IsLooked sound stay c.row-item.result c.look_at_block.new.marks c.loop-row.repair c.look_at_block.new.repair)
    c.is_sound-sound.ensures (c.in_ok-look_at_block.ensures stay marks))

pub returns : goal.returns
returns c =
    let rows = c.as_slice-row-items.result.now in
    let all = about_blocks c.args.tables.now c.args.params [] c.args.tables.now.blocks in
    Adds-LeavesBlocks c.args.tables.now c.args.params all c.args.repair.now c.loop-row.repair c.loop-row.marks
    (subst (λ (left : List Block). LeavesBlocks c.args.tables.now c.args.params left all c.args.repair.now c.loop-row.repair c.loop-row.marks)
    (drop_of_length-le rows c.loop-row-test.false) c.loop-row.invariant)

use Rattle.std.proofs.Common.{subst, ◌∷◌}
use Rattle.s3_rows.specs.Rows.{Block}
use Rattle.fsck_tables.specs.Blocks.{AreMarks}
use Rattle.fsck_tables.specs.declared.blocks.Marks.{Marks}
use Rattle.fsck_tables.proofs.Marked.{AreMarks-add}
use Rattle.fsck_tables.proofs.blocks.Marks.add.Goals as goal

pub returns : goal.returns
returns c = λ stay marks.
    let row : Block = record { id = c.row.inside.id; digest = c.row.inside.digest; refcount = c.row.inside.refcount; size = c.row.inside.size; object = c.row.inside.object } in
    let after : Marks = record { digests = c.insert.new.self; objects = c.insert-2.new.self } in
    subst (λ (r : Block). AreMarks (r ∷ stay) after) c.row.view_is
    (AreMarks-add stay row c.args.self.now after c.in_ok-insert.ensures.updates.0 c.in_ok-insert-2.ensures.updates.0 marks)

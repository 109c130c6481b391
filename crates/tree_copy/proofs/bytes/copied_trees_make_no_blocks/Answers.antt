use Rattle.std.proofs.Common.{◌==◌, List, ap}
use Rattle.std.specs.Prelude.{filter, length, not}
use Rattle.op_frames.specs.declared.operation.Op.TheVariants as ops
use Rattle.plain_tree.specs.Operations.{effect}
use Rattle.plain_tree.specs.Tree.{Tree}
use Rattle.s3_rows.specs.Rows.{Object}
use Rattle.tree_laws.proofs.WellFormed.{IsWellFormed-effect}
use Rattle.tree_copy.specs.CopiedBytes.{CopiesFiles}
use Rattle.tree_copy.proofs.CopiedFiles.{CopiesFiles-with_copy}
use Rattle.tree_copy.proofs.SameCounts.{HasBytesOf-copied, HasBytesOf-stays, length-copied_blocks}
use Rattle.tree_copy.proofs.bytes.copied_trees_make_no_blocks.Goals as goal

pub returns-clause-blocks : goal.returns-clause-blocks
returns-clause-blocks c = λ t after whole next source before step. length-copied_blocks t after whole next source before step

pub returns-clause-objects : goal.returns-clause-objects
returns-clause-objects c = λ t after whole next source step. ap (λ (rows : List Object). length (filter (λ o. not (o.refcount == 0)) rows)) step.objects

pub returns-clause-different : goal.returns-clause-different
returns-clause-different c =
    λ whole pass source parent now name well passes.
    let next : Tree = effect whole pass (ops.CopyTree source parent name) now in
    let copies : CopiesFiles whole source next = CopiesFiles-with_copy whole well.nodes source parent now name in
    c.same_bytes_make_as_many_blocks.ensures whole next well.nodes (IsWellFormed-effect whole pass now (ops.CopyTree source parent name) well passes).nodes copies.size
    (HasBytesOf-copied whole next source copies) (HasBytesOf-stays whole next source copies well.nodes)

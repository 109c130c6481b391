use Rattle.op_frames.specs.declared.operation.Op.TheVariants as ops
use Rattle.plain_tree.specs.Operations.{effect}
use Rattle.plain_tree.specs.Tree.{Tree}
use Rattle.tree_copy.proofs.CopiedFiles.{CopiesFiles-with_copy}
use Rattle.tree_copy.proofs.WaitingBytes.{HasBytes-waiting, IsExact-waiting}
use Rattle.tree_copy.proofs.bytes.copied_trees_keep_waiting_bytes.Goals as goal

pub returns-clause-bytes : goal.returns-clause-bytes
returns-clause-bytes c =
    λ m t after over whole pass source parent now name valid same ordered step elsewhere has.
    let next : Tree = effect whole pass (ops.CopyTree source parent name) now in
    HasBytes-waiting t after whole next source same (CopiesFiles-with_copy whole ordered source parent now name) step over elsewhere m
    (c.kept_rows_keep_what_is_held.ensures.known m t after valid.ordered step.valid.ordered step.rows has.fits) has

pub returns-clause-exact : goal.returns-clause-exact
returns-clause-exact c =
    λ digest_of t after over whole pass source parent now name same ordered step elsewhere.
    let next : Tree = effect whole pass (ops.CopyTree source parent name) now in
    IsExact-waiting t after whole next source same (CopiesFiles-with_copy whole ordered source parent now name) step over elsewhere digest_of

use Rattle.op_frames.specs.declared.operation.Op.TheVariants as ops
use Rattle.plain_tree.specs.Operations.{effect}
use Rattle.plain_tree.specs.Tree.{Tree}
use Rattle.tree_copy.proofs.CopiedFiles.{CopiesFiles-with_copy, SharesBlocks-copied}
use Rattle.tree_copy.proofs.bytes.copied_trees_keep_bytes.Goals as goal

pub returns-clause-files : goal.returns-clause-files
returns-clause-files c = λ whole pass source parent now name ordered. CopiesFiles-with_copy whole ordered source parent now name

pub returns-clause-shares : goal.returns-clause-shares
returns-clause-shares c = λ t after whole next source same copies step. SharesBlocks-copied t after whole next source same copies step

pub returns-clause-bytes : goal.returns-clause-bytes
returns-clause-bytes c =
    λ m t after whole pass source parent now name valid same ordered step.
    let next : Tree = effect whole pass (ops.CopyTree source parent name) now in
    c.shared_blocks_keep_bytes.ensures.bytes m t after whole next valid.ordered step.valid.ordered
    (SharesBlocks-copied t after whole next source same (CopiesFiles-with_copy whole ordered source parent now name) step)

pub returns-clause-exact : goal.returns-clause-exact
returns-clause-exact c =
    λ digest_of t after whole pass source parent now name same ordered step.
    let next : Tree = effect whole pass (ops.CopyTree source parent name) now in
    c.shared_blocks_keep_bytes.ensures.exact digest_of t after whole next
    (SharesBlocks-copied t after whole next source same (CopiesFiles-with_copy whole ordered source parent now name) step)

pub returns-clause-held : goal.returns-clause-held
returns-clause-held c =
    λ m held t after whole next source before step. c.kept_rows_keep_what_is_held.ensures.held m held t after before step.valid.ordered step.rows

pub returns-clause-stored : goal.returns-clause-stored
returns-clause-stored c =
    λ digest_of held t after whole next source before step. c.kept_rows_keep_what_is_held.ensures.stored digest_of held t after before step.valid.ordered step.rows

-- The plan of a page of a directory.
use Rattle.std.proofs.Common.{◌≡◌, ℕ, List, [], ◌∷◌, map, Option, None, Some, Result, Ok, Err, refl, sym, ap, ◌∙◌}
use Rattle.std.specs.Prelude.{IfOk}
use Rattle.s3_base.specs.declared.errors.Errno.{Errno}
use Rattle.op_frames.specs.declared.operation.Op.TheVariants as ops
use Rattle.op_frames.specs.declared.reply.DirEntry.{DirEntry}
use Rattle.op_frames.specs.declared.reply.Reply.{Reply}
use Rattle.op_frames.specs.declared.reply.Reply.TheVariants as replies
use Rattle.plain_tree.specs.Tree.{Node, Tree, node_at}
use Rattle.plain_tree.specs.Checks.{first_failure, page_check, node_check, directory_check}
use Rattle.plain_tree.specs.Operations.{checks, success}
use Rattle.plain_tree.specs.Pages.{directory_page}
use Rattle.plain_tree.proofs.Replies.{first_check_passes}
use Rattle.s3_rows.specs.Rows.{Inode}
use Rattle.s3_rows.specs.Tables.{Tables}
use Rattle.s3_rows.specs.Selections.{inode_at, entries_listed}
use Rattle.s3_rows.specs.Validity.{IsValid}
use Rattle.tree_rows.specs.Listings.{entry_of_row}
use Rattle.tree_rows.specs.Shapes.{Represents}
use Rattle.tree_rows.proofs.LookUps.{directory_page-rows}
use Rattle.op_checks.specs.Checks.{Checks}
use Rattle.op_checks.specs.Rows.{row_check, directory_row_check}
use Rattle.op_checks.proofs.RowKinds.{Directory_from_passes}
use Rattle.op_checks.proofs.Nodes.{node_check-row, directory_check-row}
use Rattle.ref_counts.specs.Answers.{answer_plan}
use Rattle.ref_counts.specs.Plans.{IsPlanOf}
use Rattle.ref_counts.proofs.Idle.{IsPlanOf-idle}

module _ (t : Tables) (whole : Tree) (v : IsValid t) (same : Represents t whole) (x : ℕ) (after : List ℕ) (most : ℕ) (found : Option Inode) (page : List DirEntry)
    (is : found ≡ inode_at t x) (page_is : page ≡ map (entry_of_row t) (entries_listed t x after most)) (pass now : ℕ) where
  checks_are_rows : page_check most ≡ None → first_failure (checks whole pass (ops.Readdir x after most)) ≡ first_failure (row_check found ∷ directory_row_check found ∷ [])
  checks_are_rows few =
      let node : node_check (node_at whole x) ≡ row_check found = node_check-row t whole same x ∙ ap row_check (sym is) in
      let directory : directory_check (node_at whole x) ≡ directory_row_check found = directory_check-row t whole same x ∙ ap directory_row_check (sym is) in
      λ i. first_failure (few i ∷ node i ∷ directory i ∷ [])

  reply_is : (f : Option Inode) → f ≡ inode_at t x → first_failure (row_check f ∷ directory_row_check f ∷ []) ≡ None → replies.Entries page ≡ success whole pass (ops.Readdir x after most) now
  reply_is None there passes = absurd (cc passes)
  reply_is (Some r) there passes =
      let listed = directory_page-rows t whole same x r after most (sym there) (Directory_from_passes r.kind (first_check_passes (directory_row_check (Some r)) [] passes)) in
      ap replies.Entries (page_is ∙ sym listed.2)
      ∙ sym (ap (λ (n : Option Node). let reply : Reply = elim n [ Some node ↦ replies.Entries (directory_page whole node after most) | None ↦ replies.Entries [] ] in reply) listed.1)

  pub readdir_planned : (replied : Result Reply Errno) → page_check most ≡ None → Checks replied (first_failure (row_check found ∷ directory_row_check found ∷ []))
      → IfOk replied (λ reply. reply ≡ replies.Entries page) → IsPlanOf t whole pass (ops.Readdir x after most) now (answer_plan replied)
  readdir_planned (Ok reply) few checked made =
      IsPlanOf-idle t whole pass (ops.Readdir x after most) now reply v same (checks_are_rows few ∙ checked) (made ∙ reply_is found is checked) refl refl
  readdir_planned (Err errno) few checked made = checks_are_rows few ∙ checked

-- Plans of Open, and the handle of a Release.
use Rattle.std.proofs.Common.{◌≡◌, ◌^◌, ℕ, List, [], ◌∷◌, Option, None, Some, Result, refl, sym, ap, ◌∙◌}
use Rattle.std.specs.Prelude.{nat_le, option_map, option_and_then, IfOk}
use Rattle.std.specs.Map.{lookup}
use Rattle.std.specs.Ordering.{nat_cmp}
use Rattle.std.specs.BTreeMap.{is_at}
use Rattle.s3_base.specs.Errors.{ebadf, enospc}
use Rattle.s3_base.specs.declared.errors.Errno.{Errno}
use Rattle.op_frames.specs.declared.operation.Op.TheVariants as ops
use Rattle.op_frames.specs.declared.reply.Reply.{Reply}
use Rattle.op_frames.specs.declared.reply.Reply.TheVariants as replies
use Rattle.plain_tree.specs.Tree.{Node, Handle, Tree, node_at, own_handle, handle_of}
use Rattle.plain_tree.specs.Attributes.{attr_of}
use Rattle.plain_tree.specs.Files.{file_at}
use Rattle.plain_tree.specs.Checks.{fails_with, first_failure, node_check, file_check, open_check}
use Rattle.plain_tree.specs.Operations.{checks}
use Rattle.s3_rows.specs.Rows.{Inode}
use Rattle.s3_rows.specs.Tables.{Tables}
use Rattle.s3_rows.specs.Selections.{inode_at}
use Rattle.s3_rows.specs.Validity.{IsValid}
use Rattle.op_checks.specs.Checks.{Checks}
use Rattle.op_checks.specs.Rows.{row_check, file_row_check, open_row_check}
use Rattle.op_checks.proofs.Nodes.{node_there, node_check-row, file_check-row, open_check-row}
use Rattle.ref_counts.specs.Handles.{OpenHandles, HasHandles, inode_open}
use Rattle.ref_counts.specs.Plans.{IsPlanOf}
use Rattle.tree_rows.specs.Attrs.{attr_of_row}
use Rattle.tree_rows.specs.Shapes.{Represents}
use Rattle.tree_rows.proofs.Attributed.{attr_alike}
use Rattle.ref_counts.specs.Answers.{answer_plan, IsReplyOf}
use Rattle.ref_counts.proofs.Idle.{if_reply_of}
use Rattle.inode_ops.proofs.Planned.{idle_planned}

-- ---- open

pub open_planned : (t : Tables) (whole : Tree) (pass x now : ℕ) (h : OpenHandles) (found : Option Inode) (replied : Result Reply Errno) → IsValid t → Represents t whole → HasHandles h whole → found ≡ inode_at t x
    → Checks replied (first_failure (row_check found ∷ file_row_check found ∷ fails_with enospc (nat_le (2 ^ 62) h.next) ∷ []))
    → IfOk replied (IsReplyOf found (λ r. replies.Opened h.next (attr_of_row r))) → IsPlanOf t whole pass (ops.Open x) now (answer_plan replied)
open_planned t whole pass x now h found replied v same has is checked made =
    let node : node_check (node_at whole x) ≡ row_check found = node_check-row t whole same x ∙ ap row_check (sym is) in
    let file : file_check (node_at whole x) ≡ file_row_check found = file_check-row t whole same x ∙ ap file_row_check (sym is) in
    idle_planned t whole pass (ops.Open x) now replied _ v same checked (λ i. first_failure (node i ∷ file i ∷ fails_with enospc (nat_le (2 ^ 62) (has.0 i)) ∷ []))
    (if_reply_of replied found (inode_at t x) _ _ is made (λ r there few.
    let seen = node_there t whole same x r there in
    let reply : replies.Opened whole.next_handle (attr_of whole x seen.0) ≡ replies.Opened h.next (attr_of_row r) = λ i. replies.Opened (has.0 i) (attr_alike t whole x r seen.0 v same there few seen.2 i) in
    sym (ap (λ (n : Option Node). elim n as (λ _. Reply) [ Some node ↦ replies.Opened whole.next_handle (attr_of whole x node) | None ↦ replies.Done ]) seen.1 ∙ reply)))
    refl refl

-- ---- the handle of a number

-- the handle that has a number, among the tree's handles
module _ (h : OpenHandles) (whole : Tree) (has : HasHandles h whole) (pass number : ℕ) where
  listed : option_map (λ (x : Handle). x.inode) (handle_of whole pass number) ≡ inode_open h pass number
  listed = ap (λ (hs : List (ℕ × Handle)). option_map (λ (x : Handle). x.inode) (own_handle pass (lookup (is_at (nat_cmp number)) hs))) has.1

  pub handle_listed : (inode : ℕ) → inode_open h pass number ≡ Some inode → (handle : Handle) × (handle_of whole pass number ≡ Some handle) × (inode ≡ handle.inode)
  handle_listed inode is = by_case (handle_of whole pass number) (listed ∙ is)
    where
      by_case : (found : Option Handle) → option_map (λ (x : Handle). x.inode) found ≡ Some inode → (handle : Handle) × (found ≡ Some handle) × (inode ≡ handle.inode)
      by_case None same = absurd (cc same)
      by_case (Some x) same =
          let own : inode ≡ x.inode = cc same in
          (x, refl, own)

-- no open handle of the pass has the number
pub not_listed : (h : OpenHandles) (whole : Tree) → HasHandles h whole → (pass number now : ℕ) (found : Option ℕ) → found ≡ inode_open h pass number → ((x : ℕ) → found ≡ Some x → ⊥)
    → first_failure (checks whole pass (ops.Release number)) ≡ Some ebadf
not_listed h whole has pass number now (Some x) is none = absurd (none x refl)
not_listed h whole has pass number now None is none = by_handle (handle_of whole pass number) (listed h whole has pass number ∙ sym is)
  where
    by_handle : (x : Option Handle) → option_map (λ (y : Handle). y.inode) x ≡ None → first_failure (open_check (option_and_then (λ y. file_at whole y.inode) x) ∷ []) ≡ Some ebadf
    by_handle None same = refl
    by_handle (Some y) same = absurd (cc same)

-- the check of a handle that the pass has, from the row of its inode
pub open_check-row_of : (t : Tables) (whole : Tree) (pass number : ℕ) (handle : Handle) (found : Option Inode) → Represents t whole → handle_of whole pass number ≡ Some handle → found ≡ inode_at t handle.inode
    → first_failure (checks whole pass (ops.Release number)) ≡ first_failure (open_row_check found ∷ [])
open_check-row_of t whole pass number handle found same has is =
    ap (λ (h : Option Handle). first_failure (open_check (option_and_then (λ x. file_at whole x.inode) h) ∷ [])) has
    ∙ ap (λ c. first_failure (c ∷ [])) (open_check-row t whole same handle.inode ∙ ap open_row_check (sym is))

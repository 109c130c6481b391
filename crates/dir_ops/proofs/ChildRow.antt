-- The plan of a look-up by name.
use Rattle.std.proofs.Common.{◌≡◌, ◌<◌, ◌^◌, ℕ, List, [], ◌∷◌, true, false, Option, None, Some, Result, Ok, Err, refl, sym, ap, ◌∙◌, IsTrue}
use Rattle.std.specs.Prelude.{◌&&◌, ◌==◌, is_some, IfOk, option_map, option_and_then, unwrap_or}
use Rattle.std.specs.Ordering.{is_eq}
use Rattle.s3_base.specs.declared.errors.Errno.{Errno}
use Rattle.op_frames.specs.declared.operation.Op.TheVariants as ops
use Rattle.op_frames.specs.declared.reply.Reply.{Reply}
use Rattle.op_frames.specs.declared.reply.Reply.TheVariants as replies
use Rattle.plain_tree.specs.Tree.{Tree, node_at}
use Rattle.plain_tree.specs.Checks.{first_failure, name_check, node_check, directory_check, entry_check}
use Rattle.plain_tree.specs.Entries.{entry_at}
use Rattle.plain_tree.specs.Operations.{checks, attr_reply}
use Rattle.std.proofs.lemmas.Bool.{and_parts}
use Rattle.s3_rows.specs.Rows.{Inode, Content}
use Rattle.s3_rows.specs.Tables.{Tables}
use Rattle.s3_rows.specs.Selections.{inode_at, name_at, bytes_cmp, bytes_of_name}
use Rattle.s3_rows.specs.Validity.{IsValid, finds_of_entry, has_inode, is_directory, any_kind}
use Rattle.row_lemmas.proofs.Tests.{find_passes_all}
use Rattle.tree_rows.specs.Attrs.{attr_of_row}
use Rattle.tree_rows.specs.Listings.{entry_named}
use Rattle.tree_rows.specs.Shapes.{Represents}
use Rattle.tree_rows.proofs.Attributed.{attr_is}
use Rattle.tree_rows.proofs.LookUps.{entry_at-row}
use Rattle.op_checks.specs.Checks.{Checks}
use Rattle.op_checks.specs.Rows.{row_check, directory_row_check}
use Rattle.op_checks.proofs.Nodes.{node_check-row, directory_check-row}
use Rattle.ref_counts.specs.Answers.{answer_plan, IsReplyOf}
use Rattle.ref_counts.specs.Plans.{IsPlanOf}
use Rattle.ref_counts.proofs.Idle.{IsPlanOf-idle}

row_there : (found : Option Inode) → IsTrue (elim found [ Some r ↦ true | None ↦ false ]) → row_check found ≡ None
row_there None there = absurd (cc there)
row_there (Some r) there = refl

module _ (t : Tables) (whole : Tree) (v : IsValid t) (same : Represents t whole) (parent : ℕ) (name : List ℕ) (found : Option Inode) (entry : Option Content) (child : Option Inode)
    (is : found ≡ inode_at t parent) (entry_is : entry ≡ entry_named t parent name) (child_is : child ≡ option_and_then (λ c. inode_at t c.inode) entry) where
  entry_is_row : entry_at whole parent name ≡ option_map (λ c. c.inode) entry
  entry_is_row = entry_at-row t whole same v parent name ∙ ap (option_map (λ (c : Content). c.inode)) (sym entry_is)

  -- an entry names an inode that has a row
  entry_check-row : entry_check (entry_at whole parent name) ≡ row_check child
  entry_check-row = ap entry_check entry_is_row ∙ by_entry entry entry_is ∙ ap row_check (sym child_is)
    where
      by_entry : (e : Option Content) → e ≡ entry_named t parent name → entry_check (option_map (λ c. c.inode) e) ≡ row_check (option_and_then (λ c. inode_at t c.inode) e)
      by_entry None own = refl
      by_entry (Some c) own =
          let finds : IsTrue (finds_of_entry t c) = find_passes_all (λ x. x.parent == parent && is_eq (bytes_cmp name (bytes_of_name t x.name_id))) (finds_of_entry t) t.contents c v.rows.entries (sym own) in
          sym (row_there (inode_at t c.inode) (and_parts (has_inode is_directory t c.parent && is_some (name_at t c.name_id)) (has_inode any_kind t c.inode) finds).1)

  checks_are_rows : (pass : ℕ) → name_check name ≡ None → first_failure (checks whole pass (ops.Lookup parent name)) ≡ first_failure (row_check found ∷ directory_row_check found ∷ row_check child ∷ [])
  checks_are_rows pass legal =
      let node : node_check (node_at whole parent) ≡ row_check found = node_check-row t whole same parent ∙ ap row_check (sym is) in
      let directory : directory_check (node_at whole parent) ≡ directory_row_check found = directory_check-row t whole same parent ∙ ap directory_row_check (sym is) in
      λ i. first_failure (legal i ∷ node i ∷ directory i ∷ entry_check-row i ∷ [])

  reply_is : (r : Inode) → child ≡ Some r → r.refcount < 2 ^ 62 → replies.Attr (attr_of_row r) ≡ attr_reply whole (unwrap_or (entry_at whole parent name) 0)
  reply_is r there few = by_entry entry (sym child_is ∙ there) ∙ ap (λ found. attr_reply whole (unwrap_or found 0)) (sym entry_is_row)
    where
      by_entry : (e : Option Content) → option_and_then (λ c. inode_at t c.inode) e ≡ Some r → replies.Attr (attr_of_row r) ≡ attr_reply whole (unwrap_or (option_map (λ c. c.inode) e) 0)
      by_entry None own = absurd (cc own)
      by_entry (Some c) own = sym (attr_is t whole c.inode r v same own few)

  pub lookup_planned : (pass now : ℕ) (replied : Result Reply Errno) → name_check name ≡ None
      → Checks replied (first_failure (row_check found ∷ directory_row_check found ∷ row_check child ∷ []))
      → IfOk replied (IsReplyOf child (λ r. replies.Attr (attr_of_row r))) → IsPlanOf t whole pass (ops.Lookup parent name) now (answer_plan replied)
  lookup_planned pass now (Ok reply) legal checked made =
      IsPlanOf-idle t whole pass (ops.Lookup parent name) now reply v same (checks_are_rows pass legal ∙ checked) (made.2 ∙ reply_is made.0 made.1 made.3) refl refl
  lookup_planned pass now (Err errno) legal checked made = checks_are_rows pass legal ∙ checked

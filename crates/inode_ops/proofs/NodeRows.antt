-- Plans of Readlink, Getxattr and Listxattr.
use Rattle.std.proofs.Common.{◌≡◌, ℕ, List, [], ◌∷◌, map, Option, None, Some, Result, Ok, Err, refl, sym, ap, ◌∙◌, IsTrue}
use Rattle.std.specs.Prelude.{IfOk, is_some, option_map, unwrap_or}
use Rattle.std.specs.List.{list_all}
use Rattle.std.proofs.lemmas.Bool.{and_parts}
use Rattle.s3_base.specs.declared.errors.Errno.{Errno}
use Rattle.op_frames.specs.declared.operation.Op.TheVariants as ops
use Rattle.op_frames.specs.declared.reply.Reply.{Reply}
use Rattle.op_frames.specs.declared.reply.Reply.TheVariants as replies
use Rattle.plain_tree.specs.Tree.{Node, Tree, node_at}
use Rattle.plain_tree.specs.Checks.{first_failure, attribute_name_check, page_check, node_check, link_check, attribute_check}
use Rattle.plain_tree.specs.Operations.{success}
use Rattle.plain_tree.specs.Pages.{attribute_at, attribute_page}
use Rattle.plain_tree.proofs.Replies.{first_check_passes}
use Rattle.s3_rows.specs.Rows.{Inode, Target, Attr}
use Rattle.s3_rows.specs.Tables.{Tables}
use Rattle.s3_rows.specs.Selections.{inode_at, name_at, target_at, attrs_listed}
use Rattle.s3_rows.specs.Validity.{IsValid, finds_of_attr, has_inode, any_kind}
use Rattle.row_lemmas.proofs.Tests.{list_all_weaker}
use Rattle.tree_rows.specs.Listings.{attr_named}
use Rattle.tree_rows.specs.Shapes.{Represents}
use Rattle.tree_rows.proofs.LookUps.{attribute_at-row, attribute_page-rows, target_of-row}
use Rattle.op_checks.specs.Checks.{Checks}
use Rattle.op_checks.specs.Rows.{row_check, link_row_check}
use Rattle.op_checks.proofs.RowKinds.{Link_from_passes}
use Rattle.op_checks.proofs.Nodes.{node_check-row, link_check-row}
use Rattle.ref_counts.specs.Answers.{answer_plan}
use Rattle.ref_counts.specs.Plans.{IsPlanOf}
use Rattle.inode_ops.proofs.Planned.{idle_planned}

-- the names of attributes have rows
pub attributes_have_names : (t : Tables) → IsValid t → IsTrue (list_all (λ (a : Attr). is_some (name_at t a.name_id)) t.attrs)
attributes_have_names t v =
    list_all_weaker (finds_of_attr t) (λ (a : Attr). is_some (name_at t a.name_id)) (λ a finds. (and_parts (has_inode any_kind t a.inode) (is_some (name_at t a.name_id)) finds).1) t.attrs v.rows.attrs

module _ (t : Tables) (whole : Tree) (v : IsValid t) (same : Represents t whole) (x : ℕ) (found : Option Inode) (is : found ≡ inode_at t x) (pass now : ℕ) where
  node : node_check (node_at whole x) ≡ row_check found
  node = node_check-row t whole same x ∙ ap row_check (sym is)

  -- ---- targets

  module _ (target : Option Target) (bytes : List ℕ) (target_is : target ≡ target_at t x) (bytes_are : bytes ≡ unwrap_or (option_map (λ r. r.target) target) []) where
    target_is_bytes : (f : Option Inode) → f ≡ inode_at t x → first_failure (row_check f ∷ link_row_check f ∷ []) ≡ None → replies.Bytes bytes ≡ success whole pass (ops.Readlink x) now
    target_is_bytes None there passes = absurd (cc passes)
    target_is_bytes (Some r) there passes =
        ap replies.Bytes
        (bytes_are ∙ ap (λ (row : Option Target). unwrap_or (option_map (λ y. y.target) row) []) target_is
        ∙ sym (ap (λ (b : Option (List ℕ)). unwrap_or b []) (target_of-row t whole same x r (sym there) (Link_from_passes r.kind (first_check_passes (link_row_check (Some r)) [] passes)))))

    pub readlink_planned : (replied : Result Reply Errno) → Checks replied (first_failure (row_check found ∷ link_row_check found ∷ [])) → IfOk replied (λ reply. reply ≡ replies.Bytes bytes)
        → IsPlanOf t whole pass (ops.Readlink x) now (answer_plan replied)
    readlink_planned replied checked made =
        let link : link_check (node_at whole x) ≡ link_row_check found = link_check-row t whole same x ∙ ap link_row_check (sym is) in
        idle_planned t whole pass (ops.Readlink x) now replied (first_failure (row_check found ∷ link_row_check found ∷ [])) v same checked (λ i. first_failure (node i ∷ link i ∷ [])) (reply_is replied checked made) refl refl
      where
        reply_is : (r : Result Reply Errno) → Checks r (first_failure (row_check found ∷ link_row_check found ∷ [])) → IfOk r (λ reply. reply ≡ replies.Bytes bytes)
            → IfOk r (λ reply. reply ≡ success whole pass (ops.Readlink x) now)
        reply_is (Ok reply) passes own = own ∙ target_is_bytes found is passes
        reply_is (Err errno) passes own = tt

  -- ---- attributes

  module _ (name : List ℕ) (attr : Option Attr) (attr_is : attr ≡ attr_named t x name) where
    value_is : attribute_at whole x name ≡ option_map (λ a. a.value) attr
    value_is = attribute_at-row t whole same v x name ∙ ap (option_map (λ (a : Attr). a.value)) (sym attr_is)

    pub getxattr_planned : (replied : Result Reply Errno) → attribute_name_check name ≡ None → Checks replied (first_failure (row_check found ∷ attribute_check (option_map (λ a. a.value) attr) ∷ []))
        → IfOk replied (λ reply. reply ≡ replies.Bytes (unwrap_or (option_map (λ a. a.value) attr) [])) → IsPlanOf t whole pass (ops.Getxattr x name) now (answer_plan replied)
    getxattr_planned replied legal checked made =
        idle_planned t whole pass (ops.Getxattr x name) now replied (first_failure (row_check found ∷ attribute_check (option_map (λ a. a.value) attr) ∷ [])) v same checked
        (λ i. first_failure (legal i ∷ node i ∷ attribute_check (value_is i) ∷ [])) (reply_is replied made) refl refl
      where
        reply_is : (r : Result Reply Errno) → IfOk r (λ reply. reply ≡ replies.Bytes (unwrap_or (option_map (λ a. a.value) attr) [])) → IfOk r (λ reply. reply ≡ success whole pass (ops.Getxattr x name) now)
        reply_is (Ok reply) own = own ∙ ap (λ (b : Option (List ℕ)). replies.Bytes (unwrap_or b [])) (sym value_is)
        reply_is (Err errno) own = tt

  -- ---- pages

  module _ (after : List ℕ) (most : ℕ) (names : List (List ℕ)) (names_are : names ≡ map (λ a. a.name) (attrs_listed t x after most)) where
    page_is_names : (f : Option Inode) → f ≡ inode_at t x → row_check f ≡ None → replies.Names names ≡ success whole pass (ops.Listxattr x after most) now
    page_is_names None there passes = absurd (cc passes)
    page_is_names (Some r) there passes =
        let listed = attribute_page-rows t whole same x r after most (sym there) in
        ap replies.Names (names_are ∙ sym listed.2)
        ∙ sym (ap (λ (n : Option Node). let reply : Reply = elim n [ Some found ↦ replies.Names (attribute_page found after most) | None ↦ replies.Names [] ] in reply) listed.1)

    pub listxattr_planned : (replied : Result Reply Errno) → page_check most ≡ None → Checks replied (first_failure (row_check found ∷ [])) → IfOk replied (λ reply. reply ≡ replies.Names names)
        → IsPlanOf t whole pass (ops.Listxattr x after most) now (answer_plan replied)
    listxattr_planned replied few checked made =
        idle_planned t whole pass (ops.Listxattr x after most) now replied (first_failure (row_check found ∷ [])) v same checked (λ i. first_failure (few i ∷ node i ∷ [])) (reply_is replied checked made) refl refl
      where
        reply_is : (r : Result Reply Errno) → Checks r (first_failure (row_check found ∷ [])) → IfOk r (λ reply. reply ≡ replies.Names names) → IfOk r (λ reply. reply ≡ success whole pass (ops.Listxattr x after most) now)
        reply_is (Ok reply) passes own = own ∙ page_is_names found is (first_check_passes (row_check found) [] passes)
        reply_is (Err errno) passes own = tt

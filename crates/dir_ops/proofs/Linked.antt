-- The plan of a further entry of a file.
use Rattle.std.proofs.Common.{◌≡◌, ◌<◌, ◌≤◌, ◌+◌, ◌^◌, ℕ, List, [], ◌∷◌, Bool, Option, None, Some, Result, Ok, Err, refl, sym, ap, ◌∙◌, subst, inl, inr, ⊎_elim, arith}
use Rattle.std.specs.Prelude.{IfOk, option_map}
use Rattle.s3_base.specs.Errors.{eexist, eperm}
use Rattle.s3_base.specs.declared.errors.Errno.{Errno}
use Rattle.op_frames.specs.declared.operation.Op.TheVariants as ops
use Rattle.op_frames.specs.declared.reply.Reply.TheVariants as replies
use Rattle.plain_tree.specs.Tree.{Tree}
use Rattle.plain_tree.specs.Checks.{fails_with, first_failure, name_check}
use Rattle.plain_tree.specs.Operations.{checks, effect}
use Rattle.s3_rows.specs.declared.change.Change.{Change}
use Rattle.s3_rows.specs.declared.change.Change.TheVariants as changes
use Rattle.s3_rows.specs.Rows.{Inode}
use Rattle.s3_rows.specs.Tables.{Tables}
use Rattle.s3_rows.specs.Batches.{tables_after}
use Rattle.s3_rows.specs.Selections.{inode_at}
use Rattle.s3_rows.specs.Validity.{IsValid}
use Rattle.tree_rows.specs.Attrs.{attr_of_row}
use Rattle.tree_rows.specs.Shapes.{Represents}
use Rattle.tree_rows.proofs.Attributed.{attr_is}
use Rattle.op_checks.specs.Checks.{Checks}
use Rattle.op_checks.specs.Rows.{row_check, directory_row_check, no_directory_row_check, lock_row_check, named_row_check}
use Rattle.op_checks.proofs.Nodes.{node_check-row, directory_check-row, no_directory_check-row, lock_check-row, named_check-row, free_check-row}
use Rattle.ref_counts.specs.Names.{Raised, raised}
use Rattle.ref_counts.specs.Plans.{IsCountWorn, IsStep, IsPlanOf}
use Rattle.ref_counts.specs.declared.plan.Plan.{Plan}
use Rattle.ref_counts.specs.declared.plan.Plan.TheVariants as plans
use Rattle.ref_counts.proofs.NonEmpty.{some_change}
use Rattle.row_steps.specs.RowChanges.{counted_row, linking}
use Rattle.dir_ops.specs.Entries.{is_taken}
use Rattle.dir_ops.specs.Links.{IsLinkable, link_checks}
use Rattle.dir_ops.specs.Plans.{entry_plan}
use Rattle.dir_ops.proofs.Entering.{entering_planned}

-- ---- the rows

-- the checks on rows are the tree's
module _ (t : Tables) (whole : Tree) (v : IsValid t) (same : Represents t whole) (inode parent : ℕ) (name : List ℕ)
    (file folder : Option Inode) (file_is : file ≡ inode_at t inode) (folder_is : folder ≡ inode_at t parent) (taken : Bool) (taken_is : taken ≡ is_taken t parent name) where
  abbrev row_checks : List (Option ℕ)
  row_checks =
      row_check file ∷ row_check folder ∷ directory_row_check folder ∷ no_directory_row_check eperm file ∷ lock_row_check file
      ∷ lock_row_check folder ∷ named_row_check file ∷ fails_with eexist taken ∷ []

  link_checks-rows : first_failure (link_checks whole inode parent name) ≡ first_failure row_checks
  link_checks-rows = λ i.
      first_failure (
      (node_check-row t whole same inode ∙ ap row_check (sym file_is)) i
      ∷ (node_check-row t whole same parent ∙ ap row_check (sym folder_is)) i
      ∷ (directory_check-row t whole same parent ∙ ap directory_row_check (sym folder_is)) i
      ∷ (no_directory_check-row t whole same inode eperm ∙ ap (no_directory_row_check eperm) (sym file_is)) i
      ∷ (lock_check-row t whole same inode ∙ ap lock_row_check (sym file_is)) i
      ∷ (lock_check-row t whole same parent ∙ ap lock_row_check (sym folder_is)) i
      ∷ (named_check-row t whole v same inode ∙ ap named_row_check (sym file_is)) i
      ∷ (free_check-row t whole v same parent name ∙ ap (fails_with eexist) (sym taken_is)) i
      ∷ [])

  pub linkable : (result : Result (Inode × Inode) Errno) → IfOk result (λ rows. file ≡ Some rows.0) → IfOk result (λ rows. folder ≡ Some rows.1)
      → Checks result (first_failure row_checks) → IsLinkable t whole inode parent name result
  linkable (Ok rows) file_there folder_there own = (sym file_is ∙ file_there, sym folder_is ∙ folder_there, link_checks-rows ∙ own)
  linkable (Err errno) file_there folder_there own = link_checks-rows ∙ own

-- ---- the plan

module _ (t : Tables) (whole : Tree) (pass inode parent now : ℕ) (name : List ℕ) (legal : name_check name ≡ None) where
  behind : first_failure (checks whole pass (ops.Link inode parent name)) ≡ first_failure (link_checks whole inode parent name)
  behind = λ i. first_failure (legal i ∷ link_checks whole inode parent name)

  pub refused_link : (errno : Errno) → first_failure (link_checks whole inode parent name) ≡ Some errno.0 → IsPlanOf t whole pass (ops.Link inode parent name) now (plans.Refuse errno)
  refused_link errno refused = behind ∙ refused

  module _ (file : Inode) (there : inode_at t inode ≡ Some file) (open_place : first_failure (link_checks whole inode parent name) ≡ None) where
    pub passes : first_failure (checks whole pass (ops.Link inode parent name)) ≡ None
    passes = behind ∙ open_place

    -- its count is worn
    pub worn_link : 2 ^ 62 ≤ file.refcount + 1 → IsPlanOf t whole pass (ops.Link inode parent name) now plans.Worn
    worn_link full = (passes, inr (subst (λ (found : Option Inode). elim found as (λ _. Type 0) [ Some r ↦ 2 ^ 62 ≤ r.refcount + 1 | None ↦ ⊥ ]) (sym there) full))

    module _ (directory : Inode) (few : file.refcount + 1 < 2 ^ 62) where
      abbrev new : Inode
      new = counted_row (file.refcount + 1) now file

      abbrev after : Raised → Tables
      after more = tables_after (linking directory file more now) t

      abbrev next : Tree
      next = effect whole pass (ops.Link inode parent name) now

      pub link_planned : (row : Inode) → row ≡ new → (batch : Option (List Change)) → batch ≡ option_map (λ (more : Raised). linking directory file more now) (raised t name)
          → (plan : Plan) → plan ≡ entry_plan batch (replies.Attr (attr_of_row row))
          → ((more : Raised) → raised t name ≡ Some more → IsStep t (after more) next 1 × (inode_at (after more) inode ≡ Some new))
          → IsPlanOf t whole pass (ops.Link inode parent name) now plan
      link_planned row row_is batch batch_is plan plan_is steps =
          subst (λ (x : Plan). IsPlanOf t whole pass (ops.Link inode parent name) now x)
          (sym (plan_is ∙ ap (λ (r : Inode). entry_plan batch (replies.Attr (attr_of_row r))) row_is))
          (entering_planned t whole pass (ops.Link inode parent name) now (raised t name) (λ (more : Raised). linking directory file more now) (replies.Attr (attr_of_row new)) (record {
            passes = passes;
            worn = inl;
            usable = ⊎_elim (λ none. none) (λ full. absurd (not_full full));
            changes = refl;
            some = λ more. some_change (changes.PutInode new) _;
            step = λ more used. (steps more used).0;
            replies = λ more used.
                let is = steps more used in
                sym (attr_is (after more) next inode new is.0.valid is.0.represents is.1 few);
          })
          batch batch_is)
        where
          not_full : IsCountWorn t inode → ⊥
          not_full worn =
              let full : 2 ^ 62 ≤ file.refcount + 1 = subst (λ (found : Option Inode). elim found as (λ _. Type 0) [ Some r ↦ 2 ^ 62 ≤ r.refcount + 1 | None ↦ ⊥ ]) there worn in
              omega (arith, full, few)

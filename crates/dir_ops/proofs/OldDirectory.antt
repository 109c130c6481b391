-- The plan of an empty directory that goes.
use Rattle.std.proofs.Common.{◌≡◌, ℕ, List, [], ◌∷◌, ◌++◌, length, Bool, true, Option, None, Some, Ok, refl, sym, ap, ◌∙◌, subst, arith}
use Rattle.std.specs.Prelude.{nat_lt, not, option_and_then}
use Rattle.std.proofs.lemmas.List.{length-map}
use Rattle.s3_base.specs.Errors.{enotdir, enotempty}
use Rattle.s3_base.specs.declared.errors.Errno.{Errno}
use Rattle.s3_base.specs.declared.node_kind.Kind.{Kind}
use Rattle.s3_base.specs.declared.node_kind.Kind.TheVariants as kinds
use Rattle.op_frames.specs.declared.operation.Op.TheVariants as ops
use Rattle.op_frames.specs.declared.reply.Reply.TheVariants as replies
use Rattle.plain_tree.specs.Tree as tree
use Rattle.plain_tree.specs.Tree.{Node, Tree, node_at}
use Rattle.plain_tree.specs.Checks.{fails_with, first_failure, directory_check, lock_check, empty_check}
use Rattle.plain_tree.specs.Entries.{child_at, entries_of, entry_at}
use Rattle.plain_tree.specs.Operations.{checks, drop_checks, effect}
use Rattle.plain_tree.specs.Pages.{directory_page}
use Rattle.plain_tree.specs.WellFormed.{IsWellFormed}
use Rattle.s3_rows.specs.declared.change.Change.{Change}
use Rattle.s3_rows.specs.declared.change.Change.TheVariants as changes
use Rattle.s3_rows.specs.Rows.{Inode, Name}
use Rattle.s3_rows.specs.Tables.{Tables}
use Rattle.s3_rows.specs.Batches.{tables_after}
use Rattle.s3_rows.specs.Selections.{inode_at, name_at, entries_listed}
use Rattle.s3_rows.specs.Selections as selections
use Rattle.s3_rows.specs.Validity.{IsValid, HasUniqueNames, is_directory}
use Rattle.tree_rows.specs.Listings.{entry_of_row}
use Rattle.tree_rows.specs.Shapes.{Represents}
use Rattle.tree_rows.proofs.LookUps.{directory_page-rows}
use Rattle.op_checks.specs.Rows.{directory_row_check, lock_row_check}
use Rattle.op_checks.proofs.Nodes.{directory_check-row, lock_check-row}
use Rattle.ref_counts.specs.Names.{lowered}
use Rattle.ref_counts.specs.Plans.{IsStep, IsPlanOf}
use Rattle.ref_counts.specs.Removals.{removal}
use Rattle.ref_counts.specs.declared.plan.Plan.{Plan}
use Rattle.ref_counts.specs.declared.plan.Plan.TheVariants as plans
use Rattle.ref_counts.proofs.NonEmpty.{some_change}
use Rattle.row_steps.specs.RowChanges.{dropping, touched_row}
use Rattle.row_steps.proofs.Leaving.{IsLeaving, child_number, named}
use Rattle.dir_ops.specs.declared.old_entry.OldEntry.{OldEntry}
use Rattle.dir_ops.specs.OldEntries.{IsOldEntry}
use Rattle.dir_ops.specs.Plans.{entry_plan}
use Rattle.dir_ops.proofs.FirstFailures.{failure_stays, first_failure-behind}
use Rattle.dir_ops.proofs.OldEntries.{child_is, child_parts, is_leaving, old_name}

-- ---- a page from the empty name on

some_items : {X : Type 0} (x : X) (xs : List X) → nat_lt 0 (length (x ∷ xs)) ≡ true
some_items x xs = grind arith

-- has an entry where the directory has one, since no name is empty
page_is_full : (whole : Tree) (x : ℕ) (node : Node) → IsWellFormed whole → node_at whole x ≡ Some node
    → nat_lt 0 (length (entries_of node.content)) ≡ nat_lt 0 (length (directory_page whole node [] 1))
page_is_full whole x node well there = by_content node.content refl
  where
    by_content : (content : tree.Content) → node.content ≡ content → nat_lt 0 (length (entries_of content)) ≡ nat_lt 0 (length (directory_page whole (record node { content = content }) [] 1))
    by_content (tree.Regular bytes) is = refl
    by_content (tree.Link target) is = refl
    by_content (tree.Directory []) is = refl
    by_content (tree.Directory (([], inode) ∷ entries)) is =
        let entry : entry_at whole x [] ≡ Some inode = ap (option_and_then (λ (n : Node). tree.entry_of n.content [])) there ∙ ap (λ content. tree.entry_of content []) is in
        absurd (cc (well.tree.names x inode [] entry))
    by_content (tree.Directory (((b ∷ bytes), inode) ∷ entries)) is = some_items ((b ∷ bytes), inode) entries

module _ (t : Tables) (whole : Tree) (same : Represents t whole) (well : IsWellFormed whole) (x : ℕ) (r : Inode) (there : inode_at t x ≡ Some r) where
  -- so the check is that of the page
  pub empty_check-page : r.kind ≡ kinds.Directory → empty_check (node_at whole x) ≡ fails_with enotempty (nat_lt 0 (length (entries_listed t x [] 1)))
  empty_check-page kind =
      let page = directory_page-rows t whole same x r [] 1 there kind in
      ap empty_check page.1
      ∙ ap (fails_with enotempty)
      (page_is_full whole x page.0 well page.1
      ∙ ap (λ n. nat_lt 0 n) (ap length page.2 ∙ length-map (entries_listed t x [] 1) (entry_of_row t)))

-- ---- the plan

module _ (t : Tables) (whole : Tree) (v : IsValid t) (unique : HasUniqueNames t) (same : Represents t whole) (well : IsWellFormed whole) (pass parent now : ℕ) (name : List ℕ) where
  -- a check of the entry fails
  pub refused_entry : (errno : Errno) → first_failure (drop_checks whole parent name) ≡ Some errno.0 → IsPlanOf t whole pass (ops.Rmdir parent name) now (plans.Refuse errno)
  refused_entry errno refused =
      failure_stays (drop_checks whole parent name) (directory_check (child_at whole parent name) ∷ lock_check (child_at whole parent name) ∷ empty_check (child_at whole parent name) ∷ []) errno.0 refused

  module _ (old : OldEntry) (is : IsOldEntry t whole parent name (Ok old)) where
    abbrev n : Name
    n = old_name t whole v unique same parent name old is

    abbrev leaves : IsLeaving t whole v.params old.directory old.child old.entry n parent name
    leaves = is_leaving t whole v unique same parent name old is

    abbrev node_is : child_at whole parent name ≡ node_at whole old.entry.inode
    node_is = child_is t whole v unique same parent name old is

    abbrev row_checks : Bool → List (Option ℕ)
    row_checks full = directory_row_check (Some old.child) ∷ lock_row_check (Some old.child) ∷ fails_with enotempty full ∷ []

    -- whether it is empty is asked for where it is a directory
    checks-rows : (full : Bool) → full ≡ nat_lt 0 (length (entries_listed t old.child.id [] 1)) → first_failure (checks whole pass (ops.Rmdir parent name)) ≡ first_failure (row_checks full)
    checks-rows full full_is =
        first_failure-behind (drop_checks whole parent name) (directory_check (child_at whole parent name) ∷ lock_check (child_at whole parent name) ∷ empty_check (child_at whole parent name) ∷ []) is.2
        ∙ (λ i. first_failure (directory i ∷ lock i ∷ empty_check (node_is i) ∷ []))
        ∙ by_kind old.child.kind refl
      where
        row : inode_at t old.entry.inode ≡ Some old.child
        row = (child_parts t parent name old.entry old.child is.1).1

        directory : directory_check (child_at whole parent name) ≡ directory_row_check (Some old.child)
        directory = ap directory_check node_is ∙ directory_check-row t whole same old.entry.inode ∙ ap directory_row_check row

        lock : lock_check (child_at whole parent name) ≡ lock_row_check (Some old.child)
        lock = ap lock_check node_is ∙ lock_check-row t whole same old.entry.inode ∙ ap lock_row_check row

        by_kind : (kind : Kind) → old.child.kind ≡ kind
            → first_failure (fails_with enotdir (not (is_directory kind)) ∷ lock_row_check (Some old.child) ∷ empty_check (node_at whole old.entry.inode) ∷ [])
            ≡ first_failure (fails_with enotdir (not (is_directory kind)) ∷ lock_row_check (Some old.child) ∷ fails_with enotempty full ∷ [])
        by_kind kinds.Directory kind =
            let number : old.entry.inode ≡ old.child.id = child_number t whole v.params old.directory old.child old.entry n now parent name leaves in
            ap (λ (check : Option ℕ). first_failure (lock_row_check (Some old.child) ∷ check ∷ []))
            (empty_check-page t whole same well old.entry.inode old.child row kind
            ∙ ap (λ x. fails_with enotempty (nat_lt 0 (length (entries_listed t x [] 1)))) number ∙ ap (fails_with enotempty) (sym full_is))
        by_kind kinds.Regular kind = refl
        by_kind kinds.Link kind = refl

    pub refused_directory : (full : Bool) → full ≡ nat_lt 0 (length (entries_listed t old.child.id [] 1)) → (errno : Errno) → first_failure (row_checks full) ≡ Some errno.0
        → IsPlanOf t whole pass (ops.Rmdir parent name) now (plans.Refuse errno)
    refused_directory full full_is errno refused = checks-rows full full_is ∙ refused

    -- the batch is the one that the law of row_steps names
    pub directory_planned : (full : Bool) → full ≡ nat_lt 0 (length (entries_listed t old.child.id [] 1)) → first_failure (row_checks full) ≡ None → (batch : List Change)
        → ((m : Name) → name_at t old.entry.name_id ≡ Some m
        → batch ≡ dropping old.directory old.entry m now ++ removal t old.child.id (tables_after (dropping old.directory old.entry m now) t))
        → ((m : Name) → selections.name_of_bytes t name ≡ Some m → selections.entry_at t parent m.id ≡ Some old.entry → inode_at t old.entry.inode ≡ Some old.child
        → first_failure (checks whole pass (ops.Rmdir parent name)) ≡ None
        → IsStep t (tables_after (dropping old.directory old.entry m now ++ removal t old.child.id (tables_after (dropping old.directory old.entry m now) t)) t)
        (effect whole pass (ops.Rmdir parent name) now) 0)
        → (plan : Plan) → plan ≡ entry_plan (Some batch) replies.Done → IsPlanOf t whole pass (ops.Rmdir parent name) now plan
    directory_planned full full_is passes batch batch_is step plan plan_is =
        let made = batch_is n (named t whole v.params old.directory old.child old.entry n now parent name leaves) in
        let more : List Change = changes.PutInode (touched_row now old.directory) ∷ lowered n ++ removal t old.child.id (tables_after (dropping old.directory old.entry n now) t) in
        let all_pass = checks-rows full full_is ∙ passes in
        subst (λ (p : Plan). IsPlanOf t whole pass (ops.Rmdir parent name) now p) (sym (plan_is ∙ ap (λ (b : List Change). entry_plan (Some b) replies.Done) made))
        (all_pass, refl, step n leaves.bytes leaves.entry leaves.child all_pass, some_change (changes.DeleteContent old.entry.parent old.entry.name_id) more, refl, λ worn. worn)

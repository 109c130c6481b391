-- The plan of an entry of a file that goes.
use Rattle.std.proofs.Common.{◌≡◌, ℕ, ◌-◌, List, [], ◌∷◌, ◌++◌, Bool, cond, Option, None, Some, Ok, refl, sym, ap, ◌∙◌, subst}
use Rattle.std.specs.Prelude.{◌||◌, ◌==◌, nat_lt}
use Rattle.std.specs.List.{list_any}
use Rattle.s3_base.specs.Errors.{eisdir}
use Rattle.s3_base.specs.declared.errors.Errno.{Errno}
use Rattle.op_frames.specs.declared.operation.Op.TheVariants as ops
use Rattle.op_frames.specs.declared.reply.Reply.TheVariants as replies
use Rattle.plain_tree.specs.Tree.{Handle, Tree}
use Rattle.plain_tree.specs.Checks.{first_failure, no_directory_check, lock_check}
use Rattle.plain_tree.specs.Entries.{child_at, is_open}
use Rattle.plain_tree.specs.Operations.{checks, drop_checks, effect}
use Rattle.s3_rows.specs.declared.change.Change.{Change}
use Rattle.s3_rows.specs.declared.change.Change.TheVariants as changes
use Rattle.s3_rows.specs.Rows.{Name}
use Rattle.s3_rows.specs.Tables.{Tables}
use Rattle.s3_rows.specs.Batches.{tables_after}
use Rattle.s3_rows.specs.Selections.{inode_at, name_at}
use Rattle.s3_rows.specs.Selections as selections
use Rattle.s3_rows.specs.Validity.{IsValid, HasUniqueNames}
use Rattle.tree_rows.specs.Shapes.{Represents}
use Rattle.op_checks.specs.Rows.{no_directory_row_check, lock_row_check}
use Rattle.op_checks.proofs.Nodes.{no_directory_check-row, lock_check-row}
use Rattle.ref_counts.specs.Handles.{OpenHandles, HasHandles, is_held}
use Rattle.ref_counts.specs.Links.{places_of_gone}
use Rattle.ref_counts.specs.Names.{lowered}
use Rattle.ref_counts.specs.Plans.{IsStep, IsPlanOf}
use Rattle.ref_counts.specs.Removals.{removal}
use Rattle.ref_counts.specs.declared.plan.Plan.{Plan}
use Rattle.ref_counts.specs.declared.plan.Plan.TheVariants as plans
use Rattle.ref_counts.proofs.NonEmpty.{some_between}
use Rattle.row_steps.specs.RowChanges.{counted_row, dropping, touched_row, unlinking}
use Rattle.row_steps.proofs.Leaving.{child_number, named}
use Rattle.dir_ops.specs.declared.old_entry.OldEntry.{OldEntry}
use Rattle.dir_ops.specs.OldEntries.{IsOldEntry}
use Rattle.dir_ops.specs.Plans.{entry_plan}
use Rattle.dir_ops.proofs.FirstFailures.{failure_stays, first_failure-behind}
use Rattle.dir_ops.proofs.OldEntries.{child_is, child_parts, is_leaving, old_name}

module _ (t : Tables) (whole : Tree) (pass parent now : ℕ) (name : List ℕ) where
  -- a check of the entry fails
  pub refused_entry : (errno : Errno) → first_failure (drop_checks whole parent name) ≡ Some errno.0 → IsPlanOf t whole pass (ops.Unlink parent name) now (plans.Refuse errno)
  refused_entry errno refused =
      failure_stays (drop_checks whole parent name) (no_directory_check eisdir (child_at whole parent name) ∷ lock_check (child_at whole parent name) ∷ []) errno.0 refused

  module _ (v : IsValid t) (unique : HasUniqueNames t) (same : Represents t whole) (old : OldEntry) (is : IsOldEntry t whole parent name (Ok old)) where
    abbrev row_checks : List (Option ℕ)
    row_checks = no_directory_row_check eisdir (Some old.child) ∷ lock_row_check (Some old.child) ∷ []

    -- the checks of the file are those of its row
    checks-rows : first_failure (checks whole pass (ops.Unlink parent name)) ≡ first_failure row_checks
    checks-rows =
        first_failure-behind (drop_checks whole parent name) (no_directory_check eisdir (child_at whole parent name) ∷ lock_check (child_at whole parent name) ∷ []) is.2
        ∙ (λ i. first_failure (file i ∷ lock i ∷ []))
      where
        row : inode_at t old.entry.inode ≡ Some old.child
        row = (child_parts t parent name old.entry old.child is.1).1

        file : no_directory_check eisdir (child_at whole parent name) ≡ no_directory_row_check eisdir (Some old.child)
        file =
            ap (no_directory_check eisdir) (child_is t whole v unique same parent name old is) ∙ no_directory_check-row t whole same old.entry.inode eisdir
            ∙ ap (no_directory_row_check eisdir) row

        lock : lock_check (child_at whole parent name) ≡ lock_row_check (Some old.child)
        lock = ap lock_check (child_is t whole v unique same parent name old is) ∙ lock_check-row t whole same old.entry.inode ∙ ap lock_row_check row

    pub refused_file : (errno : Errno) → first_failure row_checks ≡ Some errno.0 → IsPlanOf t whole pass (ops.Unlink parent name) now (plans.Refuse errno)
    refused_file errno refused = checks-rows ∙ refused

    -- the batch is the one that the law of row_steps names
    pub file_planned : (h : OpenHandles) → HasHandles h whole → first_failure row_checks ≡ None → (kept : Bool)
        → kept ≡ (nat_lt 1 old.child.refcount || is_held h old.child.id) → (batch : List Change)
        → ((m : Name) → name_at t old.entry.name_id ≡ Some m → batch ≡ unlinking kept t old.directory old.child old.entry m now)
        → ((m : Name) (held : Bool) → selections.name_of_bytes t name ≡ Some m → selections.entry_at t parent m.id ≡ Some old.entry
        → inode_at t old.entry.inode ≡ Some old.child → is_open whole old.entry.inode ≡ held → first_failure (checks whole pass (ops.Unlink parent name)) ≡ None
        → IsStep t (tables_after (unlinking (nat_lt 1 old.child.refcount || held) t old.directory old.child old.entry m now) t)
        (effect whole pass (ops.Unlink parent name) now) 0)
        → (plan : Plan) → plan ≡ entry_plan (Some batch) replies.Done → IsPlanOf t whole pass (ops.Unlink parent name) now plan
    file_planned h has passes kept kept_is batch batch_is step plan plan_is =
        let n = old_name t whole v unique same parent name old is in
        let own = is_leaving t whole v unique same parent name old is in
        let made : batch ≡ unlinking (nat_lt 1 old.child.refcount || is_held h old.child.id) t old.directory old.child old.entry n now =
        batch_is n (named t whole v.params old.directory old.child old.entry n now parent name own)
        ∙ ap (λ k. unlinking k t old.directory old.child old.entry n now) kept_is in
        let number : old.entry.inode ≡ old.child.id = child_number t whole v.params old.directory old.child old.entry n now parent name own in
        let held : is_open whole old.entry.inode ≡ is_held h old.child.id = λ i. list_any (λ (e : ℕ × Handle). e.1.inode == number i) (has.1 i) in
        let places : List Change = places_of_gone (nat_lt 1 old.child.refcount || is_held h old.child.id) t old.child.id in
        let more : List Change = changes.PutInode (touched_row now old.directory) ∷ lowered n in
        let last : List Change = cond (nat_lt 1 old.child.refcount || is_held h old.child.id) (changes.PutInode (counted_row (old.child.refcount - 1) now old.child) ∷ [])
        (removal t old.child.id (tables_after (places ++ dropping old.directory old.entry n now) t)) in
        let all_pass = checks-rows ∙ passes in
        subst (λ (p : Plan). IsPlanOf t whole pass (ops.Unlink parent name) now p) (sym (plan_is ∙ ap (λ (b : List Change). entry_plan (Some b) replies.Done) made)) (
          all_pass,
          refl,
          step n (is_held h old.child.id) own.bytes own.entry own.child held all_pass,
          some_between places (changes.DeleteContent old.entry.parent old.entry.name_id) more last,
          refl,
          λ worn. worn,
        )

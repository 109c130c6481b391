-- The entry of a RemoveTree is found, or it is refused.
use Rattle.std.proofs.Common.{◌≡◌, ℕ, List, [], ◌∷◌, Option, Some, Ok, sym, ap, ◌∙◌}
use Rattle.std.specs.Prelude.{option_map, unwrap_or}
use Rattle.s3_base.specs.declared.errors.Errno.{Errno}
use Rattle.op_frames.specs.declared.operation.Op.TheVariants as ops
use Rattle.plain_tree.specs.Tree.{Tree}
use Rattle.plain_tree.specs.Checks.{directory_check, first_failure}
use Rattle.plain_tree.specs.Entries.{child_at}
use Rattle.plain_tree.specs.Operations.{drop_checks}
use Rattle.plain_tree.specs.WellFormed.{IsWellFormed}
use Rattle.s3_rows.specs.Rows.{Name}
use Rattle.s3_rows.specs.Tables.{Tables}
use Rattle.s3_rows.specs.Validity.{HasUniqueNames, IsValid}
use Rattle.tree_rows.specs.Shapes.{Represents}
use Rattle.ref_counts.specs.Plans.{IsPlanOf}
use Rattle.ref_counts.specs.declared.plan.Plan.TheVariants as plans
use Rattle.row_steps.proofs.Leaving.{IsLeaving, entry_there, in_directory, name_is, named, number}
use Rattle.dir_ops.specs.declared.old_entry.OldEntry.{OldEntry}
use Rattle.dir_ops.specs.OldEntries.{IsOldEntry}
use Rattle.dir_ops.proofs.FirstFailures.{failure_stays}
use Rattle.dir_ops.proofs.OldEntries.{is_leaving, old_name}
use Rattle.immutable_trees.specs.Removals.{FindsEntry}

-- a check of the entry fails
pub entry_refused : (t : Tables) (whole : Tree) (pass parent now : ℕ) (name : List ℕ) (errno : Errno) → first_failure (drop_checks whole parent name) ≡ Some errno.0
    → IsPlanOf t whole pass (ops.RemoveTree parent name) now (plans.Refuse errno)
entry_refused t whole pass parent now name errno refused = failure_stays (drop_checks whole parent name) (directory_check (child_at whole parent name) ∷ []) errno.0 refused

-- the rows that were found
pub FindsEntry-old : (t : Tables) (whole : Tree) → IsValid t → HasUniqueNames t → t.slots ≡ [] → Represents t whole → IsWellFormed whole
    → (parent : ℕ) (name : List ℕ) (old : OldEntry) → IsOldEntry t whole parent name (Ok old) → FindsEntry t whole parent name old.entry old.child
FindsEntry-old t whole v unique slots same well parent name old is =
    let d = old.directory in
    let r = old.child in
    let c = old.entry in
    let n : Name = old_name t whole v unique same parent name old is in
    let own : IsLeaving t whole v.params d r c n parent name = is_leaving t whole v unique same parent name old is in
    record {
      valid = v;
      unique = unique;
      same = same;
      well = well;
      slots = slots;
      passes = is.2;
      there = entry_there t whole v.params d r c n 0 parent name own;
      directory = sym (number t whole v.params d r c n 0 parent name own ∙ in_directory t whole v.params d r c n 0 parent name own);
      bytes =
          ap (λ (found : Option Name). unwrap_or (option_map (λ (x : Name). x.name) found) []) (named t whole v.params d r c n 0 parent name own)
          ∙ name_is t whole v.params d r c n 0 parent name own;
      inode = own.child;
    }

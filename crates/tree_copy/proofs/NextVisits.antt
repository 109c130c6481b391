-- What comes for an entry of the source: what it names, and then the entry itself.
use Rattle.std.proofs.Common.{◌≡◌, ℕ, List, [], ◌++◌, Bool, true, Option, None, Some, refl, sym, ap, ◌∙◌, subst, append_assoc}
use Rattle.std.specs.Prelude.{◌&&◌, is_some}
use Rattle.plain_tree.specs.Subtrees.{copy_number}
use Rattle.plain_tree.specs.Below.{is_among}
use Rattle.s3_rows.specs.declared.change.Change.{Change}
use Rattle.s3_rows.specs.declared.change.Change.TheVariants as changes
use Rattle.s3_rows.specs.declared.row_id.RowId.TheVariants as ids
use Rattle.s3_rows.specs.Batches.{tables_after}
use Rattle.s3_rows.specs.Rows.{Inode}
use Rattle.s3_rows.specs.Selections.{inode_at}
use Rattle.s3_rows.specs.Tables.{Tables}
use Rattle.row_lemmas.proofs.Tables.{tables_after-tables_after}
use Rattle.ref_counts.specs.Names.{StaysUnique, raised}
use Rattle.tree_copy.specs.CopiedNames.{with_entry}
use Rattle.tree_copy.specs.CopiedRows.{Visit, child_copied, entry_copied, link_counted, visit_copied}
use Rattle.tree_copy.proofs.NextAttrs.{StaysUnique-append, unique_end}

-- ---- one link more

-- names stay as they are
pub link_unique : (t : Tables) (batch after : List Change) (id : ℕ) → StaysUnique batch t → after ≡ batch ++ link_counted (inode_at (tables_after batch t) id) → StaysUnique after t
link_unique t batch after id unique added = subst (λ (b : List Change). StaysUnique b t) (sym added) (by_case (inode_at (tables_after batch t) id))
  where
    by_case : (found : Option Inode) → StaysUnique (batch ++ link_counted found) t
    by_case None = StaysUnique-append batch [] t unique (unique_end batch t unique)
    by_case (Some r) = StaysUnique-append batch (link_counted (Some r)) t unique (unique_end batch t unique, unique_end batch t unique)

-- ---- the entry behind what it names

after_body : (batch middle body : List Change) (t : Tables) → middle ≡ batch ++ body → tables_after middle t ≡ tables_after body (tables_after batch t)
after_body batch middle body t added = ap (λ (b : List Change). tables_after b t) added ∙ sym (tables_after-tables_after batch body t)

pub visit_fits_too : (batch middle body : List Change) (t : Tables) (name : List ℕ) (fits child : Bool) → middle ≡ batch ++ body → true ≡ child
    → fits ≡ is_some (raised (tables_after middle t) name) → fits ≡ (child && is_some (raised (tables_after body (tables_after batch t)) name))
visit_fits_too batch middle body t name fits child added comes is =
    is ∙ ap (λ (u : Tables). is_some (raised u name)) (after_body batch middle body t added) ∙ ap (λ b. b && is_some (raised (tables_after body (tables_after batch t)) name)) comes

pub visit_added : (batch middle after body : List Change) (t : Tables) (directory copy : ℕ) (name : List ℕ) → middle ≡ batch ++ body
    → after ≡ middle ++ entry_copied directory name copy (tables_after middle t) → after ≡ batch ++ with_entry body directory name copy (tables_after batch t)
visit_added batch middle after body t directory copy name added entry =
    let u : Tables = tables_after body (tables_after batch t) in
    entry ∙ ap (λ (u2 : Tables). middle ++ entry_copied directory name copy u2) (after_body batch middle body t added)
    ∙ ap (λ (b : List Change). b ++ entry_copied directory name copy u) added ∙ append_assoc batch body (entry_copied directory name copy u)

-- what comes for a visit, by the numbers that the copies have
pub visit_by_numbers : (told : Tables) (next now : ℕ) (seen : List ℕ) (v : Visit) (t : Tables)
    → with_entry (child_copied (is_among seen v.child.id) told (copy_number next seen v.child.id) now v.child t) (copy_number next seen v.directory) v.entry.name (copy_number next seen v.child.id) t
    ≡ visit_copied told next now seen v t
visit_by_numbers told next now seen v t = refl

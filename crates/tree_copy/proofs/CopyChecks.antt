-- The checks of a CopyTree, on rows and on the tree.
use Rattle.std.proofs.Common.{◌≡◌, ℕ, List, [], ◌∷◌, ◌++◌, Bool, false, Option, None, Some, sym, ap, ◌∙◌}
use Rattle.std.specs.Prelude.{IsTrue, length}
use Rattle.s3_base.specs.Errors.{eexist, einval}
use Rattle.op_frames.specs.declared.operation.Op.TheVariants as ops
use Rattle.plain_tree.specs.Below.{at_and_below, is_at_or_below}
use Rattle.plain_tree.specs.Checks.{directory_check, fails_with, first_failure, free_check, ids_check, lock_check, name_check, node_check}
use Rattle.plain_tree.specs.Operations.{checks}
use Rattle.plain_tree.specs.Tree.{Tree, node_at}
use Rattle.plain_tree.specs.WellFormed.{IsWellFormed}
use Rattle.s3_rows.specs.Rows.{Inode, Parameters}
use Rattle.s3_rows.specs.Selections.{inode_at}
use Rattle.s3_rows.specs.Tables.{Tables}
use Rattle.s3_rows.specs.Validity.{HasUniqueNames, IsValid, has_inode, is_directory}
use Rattle.tree_laws.proofs.Walk.Passed.{all_pass}
use Rattle.tree_rows.specs.Shapes.{Represents}
use Rattle.op_checks.specs.Rows.{directory_row_check, lock_row_check, row_check}
use Rattle.op_checks.proofs.Nodes.{directory_check-row, free_check-row, lock_check-row, node_check-row}
use Rattle.row_steps.proofs.Place.{kind_there}
use Rattle.dir_ops.specs.Entries.{is_taken}
use Rattle.tree_copy.specs.CopyPlans.{FindsBoth, IsCopyable, MayHave}
use Rattle.tree_copy.proofs.PlannedCopy.{behind}

-- the first of some is the first of more
first_of : (xs ys : List (Option ℕ)) (errno : ℕ) → first_failure xs ≡ Some errno → first_failure (xs ++ ys) ≡ Some errno
first_of [] ys errno is = absurd (cc is)
first_of (None ∷ xs) ys errno is = first_of xs ys errno is
first_of (Some e ∷ xs) ys errno is = is

-- the parameters of valid tables are there
pub IsCopyable-made : (told : Tables) (whole : Tree) (source parent : ℕ) (name : List ℕ) (top directory : Inode) (p : Parameters) → MayHave told whole source parent name top directory
    → told.params ≡ Some p → IsCopyable told whole source parent name top directory p
IsCopyable-made told whole source parent name top directory p m made = record {
  valid = m.valid;
  unique = m.unique;
  same = m.same;
  well = m.well;
  passes = m.passes;
  source_found = m.source_found;
  parent_found = m.parent_found;
  made = made;
}

pub params_there : (told : Tables) → IsValid told → told.params ≡ None → ⊥
params_there told v none =
    let clash : None ≡ Some v.params = sym none ∙ v.is_made in
    cc clash

-- ---- once both directories are found

module _ (told : Tables) (whole : Tree) (source parent : ℕ) (name : List ℕ) (top directory : Inode) (f : FindsBoth told whole source parent name top directory) where
  pub parent_folder : IsTrue (has_inode is_directory told parent)
  parent_folder =
      let all = all_pass (name_check name ∷ node_check (node_at whole source) ∷ directory_check (node_at whole source) ∷ node_check (node_at whole parent) ∷ directory_check (node_at whole parent) ∷ []) f.passes in
      ap (λ (row : Option Inode). elim row [ Some y ↦ is_directory y.kind | None ↦ false ]) f.parent_found
      ∙ ap is_directory (kind_there told whole f.valid f.same parent directory f.parent_found all.1.1.1.0 all.1.1.1.1.0)

  abbrev three : Bool → Bool → List (Option ℕ)
  three within taken = fails_with einval within ∷ lock_row_check (Some directory) ∷ fails_with eexist taken ∷ []

  three_are : (within taken : Bool) → Some within ≡ Some (is_at_or_below whole source parent) → taken ≡ is_taken told parent name
      → first_failure (fails_with einval (is_at_or_below whole source parent) ∷ lock_check (node_at whole parent) ∷ free_check (node_at whole parent) name ∷ []) ≡ first_failure (three within taken)
  three_are within taken below is =
      let inside : within ≡ is_at_or_below whole source parent = cc below in
      λ i. first_failure (fails_with einval (sym inside i) ∷ (lock_check-row told whole f.same parent ∙ ap lock_row_check f.parent_found) i
      ∷ (free_check-row told whole f.valid f.same parent name ∙ ap (fails_with eexist) (sym is)) i ∷ [])

  abbrev last : List (Option ℕ)
  last = fails_with einval (is_at_or_below whole source parent) ∷ lock_check (node_at whole parent) ∷ free_check (node_at whole parent) name ∷ []

  abbrev five : List (Option ℕ)
  five = name_check name ∷ node_check (node_at whole source) ∷ directory_check (node_at whole source) ∷ node_check (node_at whole parent) ∷ directory_check (node_at whole parent) ∷ []

  pub target_refused : (pass : ℕ) (within taken : Bool) (errno : ℕ) → Some within ≡ Some (is_at_or_below whole source parent) → taken ≡ is_taken told parent name
      → first_failure (fails_with einval within ∷ lock_row_check (Some directory) ∷ fails_with eexist taken ∷ []) ≡ Some errno
      → first_failure (checks whole pass (ops.CopyTree source parent name)) ≡ Some errno
  target_refused pass within taken errno below is fails =
      behind five (last ++ ids_check whole (length (at_and_below whole source)) ∷ []) f.passes
      ∙ first_of last (ids_check whole (length (at_and_below whole source)) ∷ []) errno (three_are within taken below is ∙ fails)

  pub MayHave-found : (within taken : Bool) → Some within ≡ Some (is_at_or_below whole source parent) → taken ≡ is_taken told parent name
      → first_failure (fails_with einval within ∷ lock_row_check (Some directory) ∷ fails_with eexist taken ∷ []) ≡ None → MayHave told whole source parent name top directory
  MayHave-found within taken below is passes = record {
    valid = f.valid;
    unique = f.unique;
    same = f.same;
    well = f.well;
    passes = behind five last f.passes ∙ three_are within taken below is ∙ passes;
    source_found = f.source_found;
    parent_found = f.parent_found;
  }

-- ---- both directories

module _ (told : Tables) (whole : Tree) (v : IsValid told) (unique : HasUniqueNames told) (same : Represents told whole) (well : IsWellFormed whole) (source parent : ℕ) (name : List ℕ) where
  pub name_refused : (pass errno : ℕ) → name_check name ≡ Some errno → first_failure (checks whole pass (ops.CopyTree source parent name)) ≡ Some errno
  name_refused pass errno is =
      ap (λ x. first_failure (x ∷ node_check (node_at whole source) ∷ directory_check (node_at whole source) ∷ node_check (node_at whole parent) ∷ directory_check (node_at whole parent)
      ∷ fails_with einval (is_at_or_below whole source parent) ∷ lock_check (node_at whole parent) ∷ free_check (node_at whole parent) name
      ∷ ids_check whole (length (at_and_below whole source)) ∷ [])) is

  four_are : first_failure (name_check name ∷ node_check (node_at whole source) ∷ directory_check (node_at whole source) ∷ node_check (node_at whole parent) ∷ directory_check (node_at whole parent) ∷ [])
      ≡ first_failure (name_check name ∷ row_check (inode_at told source) ∷ directory_row_check (inode_at told source) ∷ row_check (inode_at told parent) ∷ directory_row_check (inode_at told parent) ∷ [])
  four_are =
      λ i. first_failure (name_check name ∷ node_check-row told whole same source i ∷ directory_check-row told whole same source i ∷ node_check-row told whole same parent i ∷ directory_check-row told whole same parent i ∷ [])

  named_four : (rows : List (Option ℕ)) → name_check name ≡ None → first_failure (name_check name ∷ rows) ≡ first_failure rows
  named_four rows legal = ap (λ x. first_failure (x ∷ rows)) legal

  pub folders_refused : (pass errno : ℕ) → name_check name ≡ None
      → first_failure (row_check (inode_at told source) ∷ directory_row_check (inode_at told source) ∷ row_check (inode_at told parent) ∷ directory_row_check (inode_at told parent) ∷ []) ≡ Some errno
      → first_failure (checks whole pass (ops.CopyTree source parent name)) ≡ Some errno
  folders_refused pass errno legal is =
      first_of (name_check name ∷ node_check (node_at whole source) ∷ directory_check (node_at whole source) ∷ node_check (node_at whole parent) ∷ directory_check (node_at whole parent) ∷ [])
      (fails_with einval (is_at_or_below whole source parent) ∷ lock_check (node_at whole parent) ∷ free_check (node_at whole parent) name
      ∷ ids_check whole (length (at_and_below whole source)) ∷ []) errno
      (four_are
      ∙ named_four (row_check (inode_at told source) ∷ directory_row_check (inode_at told source) ∷ row_check (inode_at told parent) ∷ directory_row_check (inode_at told parent) ∷ []) legal ∙ is)

  pub FindsBoth-found : (top directory : Inode) → name_check name ≡ None → inode_at told source ≡ Some top → inode_at told parent ≡ Some directory
      → first_failure (row_check (inode_at told source) ∷ directory_row_check (inode_at told source) ∷ row_check (inode_at told parent) ∷ directory_row_check (inode_at told parent) ∷ []) ≡ None
      → FindsBoth told whole source parent name top directory
  FindsBoth-found top directory legal source_found parent_found is = record {
    valid = v;
    unique = unique;
    same = same;
    well = well;
    passes =
        four_are
        ∙ named_four (row_check (inode_at told source) ∷ directory_row_check (inode_at told source) ∷ row_check (inode_at told parent) ∷ directory_row_check (inode_at told parent) ∷ []) legal ∙ is;
    source_found = source_found;
    parent_found = parent_found;
  }

-- The plan of a LockTree is right.
use Rattle.std.proofs.Common.{◌≡◌, ℕ, List, [], ◌∷◌, true, false, Option, None, Some, refl, sym, ap, ◌∙◌, subst, arith, ne_eqb}
use Rattle.std.specs.Prelude.{IsTrue, ◌==◌, length, not}
use Rattle.s3_base.specs.Errors.{enotdir}
use Rattle.s3_base.specs.declared.errors.Errno.{Errno}
use Rattle.s3_base.specs.declared.node_kind.Kind.{Kind}
use Rattle.s3_base.specs.declared.node_kind.Kind.TheVariants as kinds
use Rattle.op_frames.specs.declared.operation.Op.TheVariants as ops
use Rattle.plain_tree.specs.Checks.{fails_with, first_failure, directory_check, node_check, root_check}
use Rattle.plain_tree.specs.Operations.{checks}
use Rattle.plain_tree.specs.Tree.{Tree, node_at}
use Rattle.plain_tree.specs.WellFormed.{IsWellFormed}
use Rattle.plain_tree.proofs.Replies.{first_check_passes}
use Rattle.s3_rows.specs.declared.change.Change.{Change}
use Rattle.s3_rows.specs.Rows.{Inode}
use Rattle.s3_rows.specs.Selections.{inode_at}
use Rattle.s3_rows.specs.Tables.{Tables}
use Rattle.s3_rows.specs.Validity.{IsValid, is_directory}
use Rattle.tree_rows.specs.Shapes.{Represents}
use Rattle.tree_rows.proofs.Whole.{number_of}
use Rattle.tree_laws.proofs.Shape.Below.{below_shape}
use Rattle.op_checks.specs.Rows.{directory_row_check, row_check}
use Rattle.op_checks.proofs.Nodes.{directory_check-row, node_check-row}
use Rattle.ref_counts.specs.Plans.{IsPlanOf}
use Rattle.ref_counts.proofs.Idle.{IsWorn-nameless}
use Rattle.immutable_trees.specs.Levels.{IsLockOf, lock_plan}
use Rattle.immutable_trees.specs.LockedRows.{AreRowsBelow, is_listed, locking}
use Rattle.immutable_trees.proofs.LockedRows.{IsStep-locking}

module _ (t : Tables) (whole : Tree) (v : IsValid t) (same : Represents t whole) (well : IsWellFormed whole) (pass inode now : ℕ) (found : Option Inode) (is : found ≡ inode_at t inode) where
  -- the checks of the tree are those of the row
  pub same_checks : first_failure (checks whole pass (ops.LockTree inode)) ≡ first_failure (row_check found ∷ directory_row_check found ∷ root_check inode ∷ [])
  same_checks =
      let there : node_check (node_at whole inode) ≡ row_check found = node_check-row t whole same inode ∙ ap row_check (sym is) in
      let folder : directory_check (node_at whole inode) ≡ directory_row_check found = directory_check-row t whole same inode ∙ ap directory_row_check (sym is) in
      λ i. first_failure (there i ∷ folder i ∷ root_check inode ∷ [])

  -- a refusal
  pub lock_refused : (errno : Errno) → first_failure (row_check found ∷ directory_row_check found ∷ root_check inode ∷ []) ≡ Some errno.0
      → first_failure (checks whole pass (ops.LockTree inode)) ≡ Some errno.0
  lock_refused errno check = same_checks ∙ check

  module _ (top : Inode) (there : found ≡ Some top) (passed : first_failure (row_check found ∷ directory_row_check found ∷ root_check inode ∷ []) ≡ None) where
    passes : first_failure (checks whole pass (ops.LockTree inode)) ≡ None
    passes = same_checks ∙ passed

    pub top_there : inode_at t inode ≡ Some top
    top_there = sym is ∙ there

    pub top_number : inode ≡ top.id
    top_number = number_of t inode top top_there

    pub top_found : inode_at t top.id ≡ Some top
    top_found = ap (inode_at t) (sym top_number) ∙ top_there

    pub top_folder : IsTrue (is_directory top.kind)
    top_folder =
        by_kind top.kind
        (first_check_passes (directory_row_check (Some top)) (root_check inode ∷ [])
        (ap (λ (f : Option Inode). first_failure (row_check f ∷ directory_row_check f ∷ root_check inode ∷ [])) (sym there) ∙ passed))
      where
        by_kind : (kind : Kind) → fails_with enotdir (not (is_directory kind)) ≡ None → IsTrue (is_directory kind)
        by_kind kinds.Directory none = refl
        by_kind kinds.Regular none = absurd (cc none)
        by_kind kinds.Link none = absurd (cc none)

    -- some row is locked
    some_change : (rows : List Inode) → is_listed rows inode ≡ true → (length (locking rows) == 0) ≡ false
    some_change [] none = absurd (cc none)
    some_change (r ∷ rows) listed = ne_eqb (length (locking (r ∷ rows))) 0 (λ none. absurd (omega (arith, none)))

    -- the batch of the walk
    pub lock_planned : (batch : Option (List Change)) → IsLockOf t whole top.id batch → IsPlanOf t whole pass (ops.LockTree inode) now (lock_plan batch)
    lock_planned None none = absurd none
    lock_planned (Some batch) lock =
        let rows : List Inode = lock.0 in
        let are : AreRowsBelow t whole inode rows = subst (λ (x : ℕ). AreRowsBelow t whole x rows) (sym top_number) lock.2 in
        let listed : is_listed rows inode ≡ true = are.below inode ∙ (below_shape whole well.names inode).itself in
        subst (λ (b : List Change). IsPlanOf t whole pass (ops.LockTree inode) now (lock_plan (Some b))) (sym lock.1)
        (passes, refl, IsStep-locking t whole pass inode rows v same well passes are, some_change rows listed, refl, IsWorn-nameless t whole (ops.LockTree inode) refl)

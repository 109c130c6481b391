-- Checks of operations on the bytes of one file, over its row.
use Rattle.std.proofs.Common.{◌≡◌, ℕ, List, [], ◌∷◌, Bool, true, Option, None, Some, Result, Ok, Err, refl, sym, ap, ◌∙◌}
use Rattle.s3_base.specs.declared.errors.Errno.{Errno}
use Rattle.s3_base.specs.declared.node_kind.Kind.{Kind}
use Rattle.s3_base.specs.declared.node_kind.Kind.TheVariants as kinds
use Rattle.op_frames.specs.declared.operation.Op.TheVariants as ops
use Rattle.plain_tree.specs.Tree.{Tree, node_at, handle_of}
use Rattle.plain_tree.specs.Checks.{fails_with, first_failure, lock_check, open_check, read_length_check, size_check, write_end_check}
use Rattle.plain_tree.specs.Files.{open_file, inode_of}
use Rattle.plain_tree.specs.Operations.{checks}
use Rattle.s3_rows.specs.Rows.{Inode}
use Rattle.s3_rows.specs.Selections.{inode_at}
use Rattle.s3_rows.specs.Tables.{Tables}
use Rattle.s3_rows.specs.Told.{Told, IfTold}
use Rattle.s3_rows.specs.Validity.{is_regular}
use Rattle.tree_rows.specs.Shapes.{NodeShape}
use Rattle.tree_rows.proofs.Whole.{number_of}
use Rattle.ref_counts.specs.Handles.{inode_open}
use Rattle.op_checks.specs.Rows.{row_check, file_row_check, lock_row_check, open_row_check}
use Rattle.op_checks.proofs.Nodes.{node_there}
use Rattle.volume_core.specs.declared.refusal.Refusal.{Refusal}
use Rattle.volume_core.specs.declared.refusal.Refusal.TheVariants.{Refused}
use Rattle.volume_core.specs.declared.row_core.RowCore.{RowCore}
use Rattle.volume_core.specs.Rows.{IsCheckedRow, IsFound, file_checks, row_of}
use Rattle.volume_core.specs.Standing.{StandsFor}
use Rattle.volume_core.proofs.Looking.{IsOpenFile, checks_end, checks_pass, file_checks-row, handle_check-row, open_kind, open_there}
use Rattle.volume_core.proofs.Standing.{told_fact}

module _ {K : Type 0} (told : K → Option Told) (before : RowCore K) (whole : Tree) (s : StandsFor told before whole) where
  abbrev t : Tables
  t = s.now.tables

  -- ---- through a handle

  module _ (pass handle : ℕ) where
    abbrev pub Opens : Result Inode Refusal → Tables → Type 0
    Opens result tables = IsFound (IsCheckedRow open_row_check (row_of tables (inode_open before.handles pass handle))) result

    -- the handle is refused as the row is
    none_there : (errno : Errno) → IfTold (told before.keeper) (Opens (Err (Refused errno))) → open_check (open_file whole pass handle) ≡ Some errno.0
    none_there errno found = handle_check-row t whole s.represents before.handles s.handles pass handle ∙ told_fact (told before.keeper) s.now (Opens (Err (Refused errno))) s.tells found

    row_there : (r : Inode) → IfTold (told before.keeper) (Opens (Ok r)) → (row_of t (inode_open before.handles pass handle) ≡ Some r) × (is_regular r.kind ≡ true)
    row_there r found =
        let row : (row_of t (inode_open before.handles pass handle) ≡ Some r) × (open_row_check (row_of t (inode_open before.handles pass handle)) ≡ None) = told_fact (told before.keeper) s.now (Opens (Ok r)) s.tells found in
        (row.0, open_kind r.kind (sym (ap open_row_check row.0) ∙ row.1))

    pub file_open : (r : Inode) → IfTold (told before.keeper) (Opens (Ok r)) → IsOpenFile t whole pass handle r
    file_open r found =
        let row = row_there r found in
        open_there t whole s.represents before.handles s.handles pass handle r row.0 row.1

    pub open_regular : (r : Inode) → IfTold (told before.keeper) (Opens (Ok r)) → is_regular r.kind ≡ true
    open_regular r found = (row_there r found).1

    -- ---- Fsync

    pub fsync_closed : (errno : Errno) → IfTold (told before.keeper) (Opens (Err (Refused errno))) → first_failure (checks whole pass (ops.Fsync handle)) ≡ Some errno.0
    fsync_closed errno found = ap (λ (c : Option ℕ). first_failure (c ∷ [])) (none_there errno found)

    pub fsync_passes : (r : Inode) → IfTold (told before.keeper) (Opens (Ok r)) → first_failure (checks whole pass (ops.Fsync handle)) ≡ None
    fsync_passes r found = ap (λ (f : Option (List ℕ)). first_failure (open_check f ∷ [])) (file_open r found).opened

    -- ---- Read

    module _ (offset count : ℕ) where
      pub read_too_long : (errno : Errno) → read_length_check count ≡ Some errno.0 → first_failure (checks whole pass (ops.Read handle offset count)) ≡ Some errno.0
      read_too_long errno over = ap (λ (c : Option ℕ). first_failure (c ∷ open_check (open_file whole pass handle) ∷ [])) over

      pub read_closed : (errno : Errno) → read_length_check count ≡ None → IfTold (told before.keeper) (Opens (Err (Refused errno))) → first_failure (checks whole pass (ops.Read handle offset count)) ≡ Some errno.0
      read_closed errno fits found =
          ap (λ (c : Option ℕ). first_failure (c ∷ open_check (open_file whole pass handle) ∷ [])) fits ∙ ap (λ (c : Option ℕ). first_failure (c ∷ [])) (none_there errno found)

      pub read_passes : (r : Inode) → read_length_check count ≡ None → IfTold (told before.keeper) (Opens (Ok r)) → first_failure (checks whole pass (ops.Read handle offset count)) ≡ None
      read_passes r fits found =
          ap (λ (c : Option ℕ). first_failure (c ∷ open_check (open_file whole pass handle) ∷ [])) fits ∙ ap (λ (f : Option (List ℕ)). first_failure (open_check f ∷ [])) (file_open r found).opened

    -- ---- Write

    module _ (offset : ℕ) (bytes : List ℕ) where
      abbrev lock : Option ℕ
      lock = lock_check (node_at whole (inode_of (handle_of whole pass handle)))

      pub write_closed : (errno : Errno) → IfTold (told before.keeper) (Opens (Err (Refused errno))) → first_failure (checks whole pass (ops.Write handle offset bytes)) ≡ Some errno.0
      write_closed errno found = ap (λ (c : Option ℕ). first_failure (c ∷ lock ∷ write_end_check offset bytes ∷ [])) (none_there errno found)

      module _ (r : Inode) (found : IfTold (told before.keeper) (Opens (Ok r))) where
        abbrev o : IsOpenFile t whole pass handle r
        o = file_open r found

        lock_is : lock ≡ fails_with 1 r.locked
        lock_is =
            let node = node_there t whole s.represents r.id r o.row in
            ap (λ x. lock_check (node_at whole x)) o.inode ∙ ap lock_check node.1 ∙ ap (λ (shape : NodeShape). fails_with 1 shape.locked) node.2

        checked : first_failure (checks whole pass (ops.Write handle offset bytes)) ≡ first_failure (fails_with 1 r.locked ∷ write_end_check offset bytes ∷ [])
        checked =
            ap (λ (f : Option (List ℕ)). first_failure (open_check f ∷ lock ∷ write_end_check offset bytes ∷ [])) o.opened
            ∙ ap (λ (c : Option ℕ). first_failure (c ∷ write_end_check offset bytes ∷ [])) lock_is

        pub write_locked : (errno : Errno) → fails_with 1 r.locked ≡ Some errno.0 → first_failure (checks whole pass (ops.Write handle offset bytes)) ≡ Some errno.0
        write_locked errno shut = checked ∙ ap (λ (c : Option ℕ). first_failure (c ∷ write_end_check offset bytes ∷ [])) shut

        module _ (unlocked : fails_with 1 r.locked ≡ None) where
          ends : first_failure (checks whole pass (ops.Write handle offset bytes)) ≡ first_failure (write_end_check offset bytes ∷ [])
          ends = checked ∙ ap (λ (c : Option ℕ). first_failure (c ∷ write_end_check offset bytes ∷ [])) unlocked

          pub write_too_far : (errno : Errno) → write_end_check offset bytes ≡ Some errno.0 → first_failure (checks whole pass (ops.Write handle offset bytes)) ≡ Some errno.0
          write_too_far errno over = ends ∙ ap (λ (c : Option ℕ). first_failure (c ∷ [])) over

          pub write_passes : write_end_check offset bytes ≡ None → first_failure (checks whole pass (ops.Write handle offset bytes)) ≡ None
          write_passes fits = ends ∙ ap (λ (c : Option ℕ). first_failure (c ∷ [])) fits

  -- ---- Truncate

  module _ (pass inode size : ℕ) where
    abbrev pub Finds : Result Inode Refusal → Tables → Type 0
    Finds result tables = IsFound (IsCheckedRow file_checks (inode_at tables inode)) result

    pub truncate_absent : (errno : Errno) → IfTold (told before.keeper) (Finds (Err (Refused errno))) → first_failure (checks whole pass (ops.Truncate inode size)) ≡ Some errno.0
    truncate_absent errno found =
        let failure : file_checks (inode_at t inode) ≡ Some errno.0 = told_fact (told before.keeper) s.now (Finds (Err (Refused errno))) s.tells found in
        file_checks-row t whole s.represents inode (size_check size ∷ []) ∙ checks_end (row_check (inode_at t inode)) (file_row_check (inode_at t inode)) (lock_row_check (inode_at t inode)) (size_check size ∷ []) errno.0 failure

    module _ (r : Inode) (found : IfTold (told before.keeper) (Finds (Ok r))) where
      row : (inode_at t inode ≡ Some r) × (file_checks (inode_at t inode) ≡ None)
      row = told_fact (told before.keeper) s.now (Finds (Ok r)) s.tells found

      truncate_checked : first_failure (checks whole pass (ops.Truncate inode size)) ≡ first_failure (size_check size ∷ [])
      truncate_checked =
          file_checks-row t whole s.represents inode (size_check size ∷ []) ∙ checks_pass (row_check (inode_at t inode)) (file_row_check (inode_at t inode)) (lock_row_check (inode_at t inode)) (size_check size ∷ []) row.1

      pub truncate_too_long : (errno : Errno) → size_check size ≡ Some errno.0 → first_failure (checks whole pass (ops.Truncate inode size)) ≡ Some errno.0
      truncate_too_long errno over = truncate_checked ∙ ap (λ (c : Option ℕ). first_failure (c ∷ [])) over

      pub truncate_passes : size_check size ≡ None → first_failure (checks whole pass (ops.Truncate inode size)) ≡ None
      truncate_passes fits = truncate_checked ∙ ap (λ (c : Option ℕ). first_failure (c ∷ [])) fits

      pub number : inode ≡ r.id
      number = number_of t inode r row.0

      pub truncate_there : inode_at t r.id ≡ Some r
      truncate_there = ap (inode_at t) (sym number) ∙ row.0

      pub truncate_regular : is_regular r.kind ≡ true
      truncate_regular = by_kind r.kind r.locked (sym (ap file_checks row.0) ∙ row.1)
        where
          by_kind : (kind : Kind) (locked : Bool) → file_checks (Some (record r { kind = kind; locked = locked })) ≡ None → is_regular kind ≡ true
          by_kind kinds.Directory locked is = absurd (cc is)
          by_kind kinds.Link locked is = absurd (cc is)
          by_kind kinds.Regular locked is = refl

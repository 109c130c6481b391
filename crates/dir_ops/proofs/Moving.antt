-- What a Rename moves: its checks from its rows.
use Rattle.std.proofs.Common.{◌≡◌, ℕ, List, [], ◌∷◌, Bool, true, false, cond, length, Option, None, Some, Result, Ok, Err, refl, sym, ap, ◌∙◌, IsTrue}
use Rattle.std.specs.Prelude.{◌&&◌, ◌||◌, ◌==◌, nat_lt, nat_eq, not, is_some, IfOk, option_map, option_and_then, unwrap_or, if◌then◌else◌}
use Rattle.std.specs.Cmp.Lexicographic.{pointwise}
use Rattle.std.proofs.Math.Bool.{and_comm}
use Rattle.s3_base.specs.Errors.{eisdir, enotdir, einval, enotempty}
use Rattle.s3_base.specs.declared.errors.Errno.{Errno}
use Rattle.s3_base.specs.declared.node_kind.Kind.{Kind}
use Rattle.s3_base.specs.declared.node_kind.Kind.TheVariants as kinds
use Rattle.op_frames.specs.declared.operation.Op.TheVariants as ops
use Rattle.plain_tree.specs.Tree as tree
use Rattle.plain_tree.specs.Tree.{Node, Tree, node_at}
use Rattle.plain_tree.specs.Below.{is_at_or_below}
use Rattle.plain_tree.specs.Checks.{fails_with, first_failure, name_check, lock_check, keep_check, empty_check}
use Rattle.plain_tree.specs.Classes.{name_used}
use Rattle.plain_tree.specs.Entries.{child_at, entries_of, entry_at, is_folder}
use Rattle.plain_tree.specs.Operations.{checks, drop_checks, move_checks}
use Rattle.plain_tree.specs.Subtrees.{is_same}
use Rattle.plain_tree.specs.WellFormed.{IsWellFormed}
use Rattle.s3_rows.specs.Rows.{Inode, Content}
use Rattle.s3_rows.specs.Tables.{Tables}
use Rattle.s3_rows.specs.Selections.{inode_at, entries_listed}
use Rattle.s3_rows.specs.Validity.{IsValid, has_inode, is_directory}
use Rattle.row_lemmas.proofs.Tests.{is_some-option_map}
use Rattle.tree_laws.proofs.Walk.Passed.{AllPass, all_pass}
use Rattle.tree_rows.specs.Listings.{entry_named}
use Rattle.tree_rows.specs.Shapes.{Represents}
use Rattle.tree_rows.proofs.LookUps.{entry_at-row}
use Rattle.tree_rows.proofs.Whole.{folder_is, number_of}
use Rattle.op_checks.specs.Checks.{Checks}
use Rattle.op_checks.specs.Rows.{row_check, directory_row_check, lock_row_check}
use Rattle.op_checks.proofs.Nodes.{node_check-row, directory_check-row, lock_check-row, node_there}
use Rattle.op_checks.proofs.RowKinds.{Directory_from_passes}
use Rattle.dir_ops.specs.declared.moves.Found.{Found}
use Rattle.dir_ops.specs.declared.moves.Move.{Move}
use Rattle.dir_ops.specs.Moves.{IsFound, IsMove, both_checks, both_row_checks, holds_entries, is_itself, over_checks}
use Rattle.dir_ops.specs.OldEntries.{child_of, child_named, child_check, IsOldEntry}
use Rattle.dir_ops.proofs.FirstFailures.{first_failure-behind}
use Rattle.dir_ops.proofs.OldDirectory.{empty_check-page}
use Rattle.dir_ops.proofs.OldEntries.{child_parts, entry_at-child, entry_check-child}

-- ---- checks

-- the first failure is that of the first check, or that of the others
alike_first : (a b : Option ℕ) (others rows : List (Option ℕ)) → a ≡ b → first_failure others ≡ first_failure rows → first_failure (a ∷ others) ≡ first_failure (b ∷ rows)
alike_first a b others rows first rest = (λ i. first_failure (first i ∷ others)) ∙ by_case b
  where
    by_case : (b : Option ℕ) → first_failure (b ∷ others) ≡ first_failure (b ∷ rows)
    by_case None = rest
    by_case (Some errno) = refl

module _ (t : Tables) (whole : Tree) (v : IsValid t) (same : Represents t whole) (parent : ℕ) (name : List ℕ) (new_parent : ℕ) (new_name : List ℕ) where
  -- the lock of what the entry names
  lock_check-child : (child : Option (Content × Inode)) → child ≡ child_named t parent name
      → lock_check (child_at whole parent name) ≡ lock_row_check (option_map (λ (e : Content × Inode). e.1) child)
  lock_check-child child is =
      ap (λ e. lock_check (option_and_then (node_at whole) e)) (entry_at-row t whole same v parent name) ∙ by_entry (entry_named t parent name)
      ∙ ap (λ (e : Option (Content × Inode)). lock_row_check (option_map (λ (x : Content × Inode). x.1) e)) (sym is)
    where
      row_of : (c : Content) (found : Option Inode) → lock_row_check found ≡ lock_row_check (option_map (λ (x : Content × Inode). x.1) (child_of c found))
      row_of c None = refl
      row_of c (Some r) = refl

      by_entry : (e : Option Content) → lock_check (option_and_then (node_at whole) (option_map (λ (c : Content). c.inode) e))
          ≡ lock_row_check (option_map (λ (x : Content × Inode). x.1) (option_and_then (λ (c : Content). child_of c (inode_at t c.inode)) e))
      by_entry None = refl
      by_entry (Some c) = lock_check-row t whole same c.inode ∙ row_of c (inode_at t c.inode)

  module _ (f : Found) (found : IsFound t parent name new_parent new_name f) where
    both_checks-rows : first_failure (both_checks whole parent name new_parent new_name) ≡ first_failure (both_row_checks parent name new_parent new_name f)
    both_checks-rows =
        let node = node_check-row t whole same parent ∙ ap row_check (sym found.0) in
        let directory = directory_check-row t whole same parent ∙ ap directory_row_check (sym found.0) in
        let lock = lock_check-row t whole same parent ∙ ap lock_row_check (sym found.0) in
        let new_node = node_check-row t whole same new_parent ∙ ap row_check (sym found.1) in
        let new_directory = directory_check-row t whole same new_parent ∙ ap directory_row_check (sym found.1) in
        let new_lock = lock_check-row t whole same new_parent ∙ ap lock_row_check (sym found.1) in
        let entry = entry_check-child t whole v same parent name ∙ ap child_check (sym found.2) in
        let child = lock_check-child f.child found.2 in
        λ i. first_failure (name_check name ∷ name_check new_name ∷ node i ∷ directory i ∷ new_node i ∷ new_directory i ∷ lock i ∷ new_lock i
        ∷ keep_check parent name ∷ keep_check new_parent new_name ∷ entry i ∷ child i ∷ [])

    pub is_move : (result : Result Move Errno) → IfOk result (λ m. f.directory ≡ Some m.old.directory) → IfOk result (λ m. f.child ≡ Some (m.old.entry, m.old.child))
        → IfOk result (λ m. f.new_directory ≡ Some m.directory) → IfOk result (λ m. f.replaced ≡ m.replaced)
        → Checks result (first_failure (both_row_checks parent name new_parent new_name f)) → IsMove t whole parent name new_parent new_name result
    is_move (Ok m) directory child new_directory replaced own =
        (sym found.0 ∙ directory, sym found.2 ∙ child, sym found.1 ∙ new_directory, sym found.3 ∙ replaced, both_checks-rows ∙ own)
    is_move (Err errno) directory child new_directory replaced own = both_checks-rows ∙ own

  -- ---- what moves

  module _ (m : Move) (is : IsMove t whole parent name new_parent new_name (Ok m)) where
    passed : AllPass (both_checks whole parent name new_parent new_name)
    passed = all_pass (both_checks whole parent name new_parent new_name) is.4

    -- the entry could go
    pub old_is : IsOldEntry t whole parent name (Ok m.old)
    old_is =
        let more = passed.1.1.1.1.1.1 in
        let passes : first_failure (drop_checks whole parent name) ≡ None =
        λ i. first_failure (passed.0 i ∷ passed.1.1.0 i ∷ passed.1.1.1.0 i ∷ more.0 i ∷ more.1.1.0 i ∷ more.1.1.1.1.0 i ∷ []) in
        (is.0, is.1, passes)

    -- where it goes is a directory
    pub new_folder : IsTrue (has_inode is_directory t m.directory.id)
    new_folder =
        let kind : m.directory.kind ≡ kinds.Directory =
        Directory_from_passes m.directory.kind (ap directory_row_check (sym is.2) ∙ sym (directory_check-row t whole same new_parent) ∙ passed.1.1.1.1.1.0) in
        ap (λ (found : Option Inode). elim found [ Some r ↦ is_directory r.kind | None ↦ false ])
        (ap (inode_at t) (sym (number_of t new_parent m.directory is.2)) ∙ is.2) ∙ ap is_directory kind

    pub entry_is : entry_at whole parent name ≡ Some m.old.entry.inode
    entry_is = entry_at-child t whole v same parent name ∙ ap (option_map (λ (e : Content × Inode). e.0.inode)) is.1

    pub replaced_is : entry_at whole new_parent new_name ≡ option_map (λ (e : Content × Inode). e.0.inode) m.replaced
    replaced_is = entry_at-child t whole v same new_parent new_name ∙ ap (option_map (λ (e : Content × Inode). e.0.inode)) is.3

    -- both entries name one inode where their rows do
    pub itself_is : is_same (entry_at whole new_parent new_name) (entry_at whole parent name) ≡ is_itself m
    itself_is = (λ i. is_same (replaced_is i) (entry_is i)) ∙ by_replaced m.replaced
      where
        by_replaced : (o : Option (Content × Inode)) → is_same (option_map (λ (e : Content × Inode). e.0.inode) o) (Some m.old.entry.inode)
            ≡ elim o [ Some e ↦ e.0.inode == m.old.entry.inode | None ↦ false ]
        by_replaced None = refl
        by_replaced (Some e) = refl

    -- the name that is used once more
    pub used_is : (pass : ℕ) → name_used whole (ops.Rename parent name new_parent new_name)
        ≡ (if is_some m.replaced || pointwise nat_eq name new_name then None else Some new_name)
    used_is pass =
        ap (λ b. cond (b || pointwise nat_eq name new_name) None (Some new_name))
        (ap is_some replaced_is ∙ is_some-option_map (λ (e : Content × Inode). e.0.inode) m.replaced)

    module _ (pass : ℕ) where
      abbrev moves : List (Option ℕ)
      moves = move_checks whole (entry_at whole parent name) (child_at whole parent name) (child_at whole new_parent new_name) new_parent

      behind : (b : Bool) → is_itself m ≡ b → first_failure (checks whole pass (ops.Rename parent name new_parent new_name)) ≡ first_failure (cond b [] moves)
      behind b own =
          first_failure-behind (both_checks whole parent name new_parent new_name)
          (cond (is_same (entry_at whole new_parent new_name) (entry_at whole parent name)) [] moves) is.4
          ∙ ap (λ x. first_failure (cond x [] moves)) (itself_is ∙ own)

      pub itself_passes : is_itself m ≡ true → first_failure (checks whole pass (ops.Rename parent name new_parent new_name)) ≡ None
      itself_passes own = behind true own

      -- ---- where another inode is replaced, or none

      module _ (well : IsWellFormed whole) where
        child_row : inode_at t m.old.entry.inode ≡ Some m.old.child
        child_row = (child_parts t parent name m.old.entry m.old.child is.1).1

        child_is : child_at whole parent name ≡ node_at whole m.old.entry.inode
        child_is = ap (option_and_then (node_at whole)) entry_is

        -- a node is a directory where its row is one
        folder_of : (x : ℕ) (r : Inode) → inode_at t x ≡ Some r → is_folder (node_at whole x) ≡ is_directory r.kind
        folder_of x r row = folder_is t whole same x ∙ ap (λ (found : Option Inode). elim found [ Some y ↦ is_directory y.kind | None ↦ false ]) row

        old_folder : is_folder (child_at whole parent name) ≡ is_directory m.old.child.kind
        old_folder = ap is_folder child_is ∙ folder_of m.old.entry.inode m.old.child child_row

        abbrev pub below_check : Bool
        below_check = is_directory m.old.child.kind && is_at_or_below whole m.old.child.id m.directory.id

        below_is : (is_at_or_below whole (unwrap_or (entry_at whole parent name) 0) new_parent && is_folder (child_at whole parent name)) ≡ below_check
        below_is =
            (λ i. is_at_or_below whole (unwrap_or (entry_is i) 0) (number_of t new_parent m.directory is.2 i) && old_folder i)
            ∙ ap (λ x. is_at_or_below whole x m.directory.id && is_directory m.old.child.kind) (number_of t m.old.entry.inode m.old.child child_row)
            ∙ and_comm (is_at_or_below whole m.old.child.id m.directory.id) (is_directory m.old.child.kind)

        -- whether it is empty
        empty_is : (x : ℕ) (r : Inode) → inode_at t x ≡ Some r → empty_check (node_at whole x) ≡ fails_with enotempty (holds_entries t r)
        empty_is x r row = by_kind r.kind refl
          where
            file : (node : Node) (content : tree.Content) → is_folder (Some (record node { content = content })) ≡ false → nat_lt 0 (length (entries_of content)) ≡ false
            file node (tree.Directory entries) other = absurd (cc other)
            file node (tree.Regular bytes) other = refl
            file node (tree.Link target) other = refl

            none : is_directory r.kind ≡ false → empty_check (node_at whole x) ≡ None
            none other =
                let there = node_there t whole same x r row in
                ap empty_check there.1
                ∙ ap (fails_with enotempty) (file there.0 there.0.content (sym (ap is_folder there.1) ∙ folder_of x r row ∙ other))

            by_kind : (kind : Kind) → r.kind ≡ kind → empty_check (node_at whole x) ≡ fails_with enotempty (is_directory kind && nat_lt 0 (length (entries_listed t r.id [] 1)))
            by_kind kinds.Directory kind =
                empty_check-page t whole same well x r row kind ∙ ap (λ y. fails_with enotempty (nat_lt 0 (length (entries_listed t y [] 1)))) (number_of t x r row)
            by_kind kinds.Regular kind = none (ap is_directory kind)
            by_kind kinds.Link kind = none (ap is_directory kind)

        over : Option Node → List (Option ℕ)
        over new =
            lock_check new ∷ fails_with eisdir (is_some new && is_folder new && not (is_folder (child_at whole parent name)))
            ∷ fails_with enotdir (is_some new && not (is_folder new) && is_folder (child_at whole parent name)) ∷ empty_check new ∷ []

        over_rows : (o : Option (Content × Inode)) → child_named t new_parent new_name ≡ o
            → first_failure (over (option_and_then (node_at whole) (option_map (λ (e : Content × Inode). e.0.inode) o))) ≡ first_failure (over_checks t m.old.child o)
        unfolding over
        over_rows None there = refl
        over_rows (Some e) there =
            let row : inode_at t e.0.inode ≡ Some e.1 = (child_parts t new_parent new_name e.0 e.1 there).1 in
            let folder = folder_of e.0.inode e.1 row in
            let some : is_some (node_at whole e.0.inode) ≡ true = ap is_some (node_there t whole same e.0.inode e.1 row).1 in
            let file = (λ i. some i && folder i && not (old_folder i)) ∙ and_comm (is_directory e.1.kind) (not (is_directory m.old.child.kind)) in
            let other = (λ i. some i && not (folder i) && old_folder i) ∙ and_comm (not (is_directory e.1.kind)) (is_directory m.old.child.kind) in
            let lock = lock_check-row t whole same e.0.inode ∙ ap lock_row_check row in
            let empty = empty_is e.0.inode e.1 row in
            λ i. first_failure (lock i ∷ fails_with eisdir (file i) ∷ fails_with enotdir (other i) ∷ empty i ∷ [])

        new_child_is : child_at whole new_parent new_name ≡ option_and_then (node_at whole) (option_map (λ (e : Content × Inode). e.0.inode) m.replaced)
        new_child_is = ap (option_and_then (node_at whole)) replaced_is

        pub move_checks-rows : is_itself m ≡ false
            → first_failure (checks whole pass (ops.Rename parent name new_parent new_name)) ≡ first_failure (fails_with einval below_check ∷ over_checks t m.old.child m.replaced)
        unfolding over
        move_checks-rows own =
            behind false own
            ∙ alike_first (fails_with einval (is_at_or_below whole (unwrap_or (entry_at whole parent name) 0) new_parent && is_folder (child_at whole parent name)))
            (fails_with einval below_check) (over (child_at whole new_parent new_name)) (over_checks t m.old.child m.replaced) (ap (fails_with einval) below_is)
            (ap (λ (n : Option Node). first_failure (over n)) new_child_is ∙ over_rows m.replaced is.3)

-- The checks of the directory in which an entry is made, from its row.
use Rattle.std.proofs.Common.{◌≡◌, ℕ, List, [], ◌∷◌, Bool, Option, None, Some, Result, Ok, Err, refl, sym, ap, ◌∙◌}
use Rattle.std.specs.Prelude.{not, is_some, find, option_map, IfOk}
use Rattle.s3_base.specs.Errors.{eexist, enotdir}
use Rattle.s3_base.specs.declared.errors.Errno.{Errno}
use Rattle.s3_base.specs.declared.node_kind.Kind.{Kind}
use Rattle.s3_base.specs.declared.node_kind.Kind.TheVariants as kinds
use Rattle.plain_tree.specs.Tree as tree
use Rattle.plain_tree.specs.Tree.{Node, Tree, node_at, entry_of}
use Rattle.plain_tree.specs.Checks.{fails_with, first_failure, free_check}
use Rattle.s3_rows.specs.Rows.{Inode, Content, Parameters}
use Rattle.s3_rows.specs.Tables.{Tables}
use Rattle.s3_rows.specs.Selections.{inode_at}
use Rattle.s3_rows.specs.Validity.{IsValid, is_directory}
use Rattle.row_lemmas.proofs.Tests.{is_some-option_map, list_any-find}
use Rattle.tree_rows.specs.Shapes.{NodeShape, shape_of_content, Represents}
use Rattle.tree_rows.proofs.Listed.{is_entry, entry_in}
use Rattle.tree_rows.proofs.Shaped.{entry_of_shape}
use Rattle.tree_rows.proofs.Whole.{content_of_kind, number_of}
use Rattle.op_checks.specs.Checks.{Checks}
use Rattle.op_checks.specs.Rows.{row_check, directory_row_check, lock_row_check, ids_row_check}
use Rattle.op_checks.proofs.Nodes.{node_there, node_check-row, directory_check-row, lock_check-row, ids_check-row}
use Rattle.dir_ops.specs.Entries.{is_taken}
use Rattle.dir_ops.specs.Places.{IsPlaced, place_checks}

entry_alike : (content : tree.Content) (name : List ℕ) → entry_of content name ≡ entry_of_shape (shape_of_content content) name
entry_alike (tree.Regular bytes) name = refl
entry_alike (tree.Directory entries) name = refl
entry_alike (tree.Link target) name = refl

module _ (t : Tables) (whole : Tree) (v : IsValid t) (same : Represents t whole) (parent : ℕ) (name : List ℕ) where
  -- the name is free in a directory where no entry has it
  is_free : (r : Inode) → inode_at t parent ≡ Some r → r.kind ≡ kinds.Directory → free_check (node_at whole parent) name ≡ fails_with eexist (is_taken t parent name)
  is_free r there kind =
      let seen = node_there t whole same parent r there in
      let node : Node = seen.0 in
      let content : shape_of_content node.content ≡ content_of_kind t r kinds.Directory = ap (λ (s : NodeShape). s.content) seen.2 ∙ ap (content_of_kind t r) kind in
      let inode_of : Content → ℕ = λ c. c.inode in
      let entry : entry_of node.content name ≡ option_map inode_of (find (is_entry t parent name) t.contents) =
      entry_alike node.content name ∙ ap (λ shape. entry_of_shape shape name) content ∙ entry_in t v.rows.entries r.id name
      ∙ ap (λ x. option_map inode_of (find (is_entry t x name) t.contents)) (sym (number_of t parent r there)) in
      ap (λ n. free_check n name) seen.1
      ∙ ap (λ found. fails_with eexist (is_some found)) entry
      ∙ ap (fails_with eexist) (is_some-option_map inode_of (find (is_entry t parent name) t.contents) ∙ sym (list_any-find (is_entry t parent name) t.contents))

  -- the checks that need the tree are those on the rows: the name is asked for where the directory is one
  module _ (found : Option Inode) (is : found ≡ inode_at t parent) (taken : Bool) (taken_is : taken ≡ is_taken t parent name) (p : Parameters) (set : t.params ≡ Some p) where
    abbrev checks_of : Option Inode → Option ℕ → List (Option ℕ)
    checks_of row free = row_check row ∷ directory_row_check row ∷ lock_row_check row ∷ free ∷ ids_row_check p 1 ∷ []

    pub place_checks-rows : first_failure (place_checks whole parent name) ≡ first_failure (checks_of found (fails_with eexist taken))
    place_checks-rows = by_row found is
      where
        with_rows : (row : Option Inode) → row ≡ inode_at t parent → first_failure (place_checks whole parent name) ≡ first_failure (checks_of row (free_check (node_at whole parent) name))
        with_rows row own =
            let node = node_check-row t whole same parent ∙ ap row_check (sym own) in
            let directory = directory_check-row t whole same parent ∙ ap directory_row_check (sym own) in
            let lock = lock_check-row t whole same parent ∙ ap lock_row_check (sym own) in
            λ i. first_failure (node i ∷ directory i ∷ lock i ∷ free_check (node_at whole parent) name ∷ ids_check-row t whole p 1 same set i ∷ [])

        by_kind : (r : Inode) → Some r ≡ inode_at t parent → (kind : Kind) → r.kind ≡ kind
            → first_failure (row_check (Some r) ∷ fails_with enotdir (not (is_directory kind)) ∷ lock_row_check (Some r) ∷ free_check (node_at whole parent) name ∷ ids_row_check p 1 ∷ [])
            ≡ first_failure (row_check (Some r) ∷ fails_with enotdir (not (is_directory kind)) ∷ lock_row_check (Some r) ∷ fails_with eexist taken ∷ ids_row_check p 1 ∷ [])
        by_kind r own kinds.Directory kind = ap (λ c. first_failure (lock_row_check (Some r) ∷ c ∷ ids_row_check p 1 ∷ [])) (is_free r (sym own) kind ∙ ap (fails_with eexist) (sym taken_is))
        by_kind r own kinds.Regular kind = refl
        by_kind r own kinds.Link kind = refl

        by_row : (row : Option Inode) → row ≡ inode_at t parent → first_failure (place_checks whole parent name) ≡ first_failure (checks_of row (fails_with eexist taken))
        by_row None own = with_rows None own
        by_row (Some r) own = with_rows (Some r) own ∙ by_kind r own r.kind refl

    pub placed : (params : Option Parameters) (result : Result (Inode × Parameters) Errno) → params ≡ t.params → IfOk result (λ place. found ≡ Some place.0) → IfOk result (λ place. params ≡ Some place.1)
        → Checks result (first_failure (checks_of found (fails_with eexist taken))) → IsPlaced t whole parent name result
    placed params (Ok place) params_is here given own = (sym is ∙ here, sym params_is ∙ given, place_checks-rows ∙ own)
    placed params (Err errno) params_is here given own = place_checks-rows ∙ own

-- Where no check of a new entry fails, its directory has a row of that kind, and no row is an entry of the name.
use Rattle.std.proofs.Common.{◌≡◌, ℕ, List, Bool, true, false, Option, None, Some, refl, sym, ap, ◌∙◌, eqb-true}
use Rattle.std.specs.Prelude.{IsTrue, not, ◌==◌, is_some, option_and_then}
use Rattle.std.specs.List.{list_all, list_any}
use Rattle.s3_base.specs.declared.node_kind.Kind.{Kind}
use Rattle.s3_base.specs.declared.node_kind.Kind.TheVariants as kinds
use Rattle.plain_tree.specs.Tree as tree
use Rattle.plain_tree.specs.Tree.{Node, Tree, node_at, entry_of}
use Rattle.plain_tree.specs.Checks.{fails_with, node_check, directory_check, no_directory_check, free_check}
use Rattle.plain_tree.specs.Entries.{is_folder}
use Rattle.plain_tree.specs.Entries as entries
use Rattle.s3_rows.specs.Rows.{Inode, Content}
use Rattle.s3_rows.specs.Tables.{Tables}
use Rattle.s3_rows.specs.Selections.{inode_at, bytes_of_name}
use Rattle.s3_rows.specs.Validity.{IsValid, finds_of_entry, has_inode, is_directory}
use Rattle.row_lemmas.proofs.Tests.{find_from_list_any, find_passes, list_all_from_list_any}
use Rattle.tree_laws.proofs.Walk.Passed.{not_failed}
use Rattle.tree_rows.specs.Shapes.{Represents}
use Rattle.tree_rows.proofs.Listed.{is_entry}
use Rattle.tree_rows.proofs.Rooted.{own_entry}
use Rattle.tree_rows.proofs.Whole.{folder_is, entry_made}

folder_passes : (found : Option Node) → node_check found ≡ None → directory_check found ≡ None → IsTrue (is_folder found)
folder_passes None there is = absurd (cc there)
folder_passes (Some node) there is = by_content node.content is
  where
    by_content : (content : tree.Content)
        → (let c : Option ℕ = elim content [ tree.Directory entries ↦ None | tree.Regular bytes ↦ Some 20 | tree.Link target ↦ Some 20 ] in c) ≡ None
        → IsTrue (entries.is_directory content)
    by_content (tree.Directory es) passes = refl
    by_content (tree.Regular bytes) passes = absurd (cc passes)
    by_content (tree.Link target) passes = absurd (cc passes)

none_there : (found : Option ℕ) → fails_with 17 (is_some found) ≡ None → found ≡ None
none_there None is = refl
none_there (Some inode) is = absurd (cc is)

free_passes : (found : Option Node) (name : List ℕ) → free_check found name ≡ None → option_and_then (λ node. entry_of node.content name) found ≡ None
free_passes None name is = refl
free_passes (Some node) name is = none_there (entry_of node.content name) is

directory_kind : (kind : Kind) → IsTrue (is_directory kind) → kind ≡ kinds.Directory
directory_kind kinds.Directory is = refl
directory_kind kinds.Regular is = absurd (cc is)
directory_kind kinds.Link is = absurd (cc is)

-- no row is an entry of a name that the tree's directory does not have
pub is_entry_none : (t : Tables) (whole : Tree) → Represents t whole → IsTrue (list_all (finds_of_entry t) t.contents) → (x : ℕ) → IsTrue (has_inode is_directory t x)
    → (name : List ℕ) → entries.entry_at whole x name ≡ None → list_any (is_entry t x name) t.contents ≡ false
is_entry_none t whole same finds x folder name none = by_case (list_any (is_entry t x name) t.contents) refl
  where
    by_case : (b : Bool) → list_any (is_entry t x name) t.contents ≡ b → b ≡ false
    by_case true any =
        let found = find_from_list_any (is_entry t x name) t.contents any in
        let clash : Some found.0.inode ≡ None = sym (entry_made t whole same finds x name found.0 folder found.1) ∙ none in
        absurd (cc clash)
    by_case false other = refl

-- no row is an entry in what has none in the tree
pub no_entries_in : (t : Tables) (whole : Tree) → IsValid t → Represents t whole → (x : ℕ) → ((name : List ℕ) → entries.entry_at whole x name ≡ None)
    → IsTrue (list_all (λ (c : Content). not (c.parent == x)) t.contents)
no_entries_in t whole v same x none =
    list_all_from_list_any (λ (c : Content). c.parent == x) t.contents (by_case (list_any (λ (c : Content). c.parent == x) t.contents) refl)
  where
    by_case : (b : Bool) → list_any (λ (c : Content). c.parent == x) t.contents ≡ b → IsTrue (not b)
    by_case true any =
        let found = find_from_list_any (λ (c : Content). c.parent == x) t.contents any in
        let c : Content = found.0 in
        let parent_is : c.parent ≡ x = eqb-true c.parent x (find_passes (λ (y : Content). y.parent == x) t.contents c found.1) in
        let text : List ℕ = bytes_of_name t c.name_id in
        let clash : Some c.inode ≡ None =
        sym (own_entry t v whole same (λ (y : Content). y.parent == x) c found.1) ∙ ap (λ y. entries.entry_at whole y text) parent_is ∙ none text in
        absurd (cc clash)
    by_case false other = refl

module _ (t : Tables) (whole : Tree) (v : IsValid t) (same : Represents t whole) (x : ℕ) where
  folder_there : node_check (node_at whole x) ≡ None → directory_check (node_at whole x) ≡ None → IsTrue (has_inode is_directory t x)
  folder_there there is = sym (folder_is t whole same x) ∙ folder_passes (node_at whole x) there is

  pub kind_there : (d : Inode) → inode_at t x ≡ Some d → node_check (node_at whole x) ≡ None → directory_check (node_at whole x) ≡ None
      → d.kind ≡ kinds.Directory
  kind_there d found there is =
      directory_kind d.kind
      (sym (ap (λ (row : Option Inode). elim row [ Some r ↦ is_directory r.kind | None ↦ false ]) found) ∙ folder_there there is)

  pub free_there : (name : List ℕ) → node_check (node_at whole x) ≡ None → directory_check (node_at whole x) ≡ None
      → free_check (node_at whole x) name ≡ None → list_any (is_entry t x name) t.contents ≡ false
  free_there name there is free = is_entry_none t whole same v.rows.entries x (folder_there there is) name (free_passes (node_at whole x) name free)

-- what is no directory is not one
pub apart_from_folder : (t : Tables) (x y : ℕ) → IsTrue (has_inode is_directory t x) → has_inode is_directory t y ≡ false → (x == y) ≡ false
apart_from_folder t x y folder other = by_case (x == y) refl
  where
    by_case : (b : Bool) → (x == y) ≡ b → b ≡ false
    by_case true is =
        let clash : true ≡ false = sym folder ∙ ap (has_inode is_directory t) (eqb-true x y is) ∙ other in
        absurd (cc clash)
    by_case false is = refl

no_folder : (found : Option Node) → no_directory_check 1 found ≡ None → is_folder found ≡ false
no_folder None passes = refl
no_folder (Some node) passes = not_failed 1 (entries.is_directory node.content) passes

pub no_folder_there : (t : Tables) (whole : Tree) → Represents t whole → (x : ℕ) → no_directory_check 1 (node_at whole x) ≡ None → has_inode is_directory t x ≡ false
no_folder_there t whole same x passes = sym (folder_is t whole same x) ∙ no_folder (node_at whole x) passes

-- An entry that goes: its checks from its rows, and the row of its name.
use Rattle.std.proofs.Common.{◌≡◌, ℕ, List, [], ◌∷◌, Bool, false, Option, None, Some, Result, Ok, Err, refl, sym, ap, ◌∙◌, IsTrue}
use Rattle.std.specs.Prelude.{◌&&◌, ◌==◌, is_some, IfOk, option_map, option_and_then, unwrap_or}
use Rattle.std.specs.Ordering.{is_eq}
use Rattle.std.proofs.lemmas.Bool.{and_parts}
use Rattle.s3_base.specs.declared.errors.Errno.{Errno}
use Rattle.plain_tree.specs.Tree.{Tree, node_at}
use Rattle.plain_tree.specs.Checks.{first_failure, name_check, node_check, directory_check, lock_check, keep_check, entry_check}
use Rattle.plain_tree.specs.Entries as tree
use Rattle.plain_tree.specs.Operations.{drop_checks}
use Rattle.plain_tree.proofs.Replies.{first_check_passes, other_checks_pass}
use Rattle.s3_rows.specs.Rows.{Inode, Name, Content}
use Rattle.s3_rows.specs.Tables.{Tables}
use Rattle.s3_rows.specs.Selections.{inode_at, entry_at, name_at, name_of_bytes, bytes_cmp, bytes_of_name}
use Rattle.s3_rows.specs.Validity.{IsValid, HasUniqueNames, finds_of_entry, has_inode, is_directory, any_kind}
use Rattle.row_lemmas.proofs.Tests.{find_passes_all}
use Rattle.tree_rows.specs.Listings.{entry_named}
use Rattle.tree_rows.specs.Shapes.{Represents}
use Rattle.tree_rows.proofs.LookUps.{entry_at-row}
use Rattle.op_checks.specs.Checks.{Checks}
use Rattle.op_checks.specs.Rows.{row_check, directory_row_check, lock_row_check}
use Rattle.op_checks.proofs.Nodes.{node_check-row, directory_check-row, lock_check-row}
use Rattle.op_checks.proofs.RowKinds.{Directory_from_passes}
use Rattle.ref_counts.proofs.NamedRows.{row_named_none, row_of_id-row_named}
use Rattle.row_steps.proofs.Leaving.{IsLeaving, entry_is}
use Rattle.dir_ops.specs.declared.old_entry.OldEntry.{OldEntry}
use Rattle.dir_ops.specs.OldEntries.{child_of, child_named, child_check, IsOldEntry}
use Rattle.dir_ops.proofs.EntryRows.{entries_have_names}

-- ---- what was found

-- an entry that was found, with its inode
pub child_named_is : (t : Tables) (parent : ℕ) (name : List ℕ) (c : Content) → Some c ≡ entry_named t parent name → child_of c (inode_at t c.inode) ≡ child_named t parent name
child_named_is t parent name c found = ap (option_and_then (λ (x : Content). child_of x (inode_at t x.inode))) found

pub child_named_none : (t : Tables) (parent : ℕ) (name : List ℕ) → None ≡ entry_named t parent name → None ≡ child_named t parent name
child_named_none t parent name none = ap (option_and_then (λ (x : Content). child_of x (inode_at t x.inode))) none

module _ (t : Tables) (parent : ℕ) (name : List ℕ) (c : Content) (r : Inode) (found : child_named t parent name ≡ Some (c, r)) where
  -- the entry and the inode
  pub child_parts : (entry_named t parent name ≡ Some c) × (inode_at t c.inode ≡ Some r)
  child_parts = by_entry (entry_named t parent name) refl found
    where
      by_child : (x : Content) → entry_named t parent name ≡ Some x → (own : Option Inode) → inode_at t x.inode ≡ own → child_of x own ≡ Some (c, r)
          → (entry_named t parent name ≡ Some c) × (inode_at t c.inode ≡ Some r)
      by_child x here None there is = absurd (cc is)
      by_child x here (Some y) there is =
          let entry : x ≡ c = ap (λ (o : Option (Content × Inode)). unwrap_or (option_map (λ p. p.0) o) x) is in
          let row : y ≡ r = ap (λ (o : Option (Content × Inode)). unwrap_or (option_map (λ p. p.1) o) y) is in
          (here ∙ ap Some entry, ap (λ (e : Content). inode_at t e.inode) (sym entry) ∙ there ∙ ap Some row)

      by_entry : (e : Option Content) → entry_named t parent name ≡ e → option_and_then (λ (x : Content). child_of x (inode_at t x.inode)) e ≡ Some (c, r)
          → (entry_named t parent name ≡ Some c) × (inode_at t c.inode ≡ Some r)
      by_entry None here is = absurd (cc is)
      by_entry (Some x) here is = by_child x here (inode_at t x.inode) refl is

  -- the row of its name
  pub name_found : IsValid t → HasUniqueNames t → (n : Name) × (name_of_bytes t name ≡ Some n) × (entry_at t parent n.id ≡ Some c)
  name_found v unique = by_name (name_of_bytes t name) refl
    where
      by_name : (own : Option Name) → name_of_bytes t name ≡ own → (n : Name) × (name_of_bytes t name ≡ Some n) × (entry_at t parent n.id ≡ Some c)
      by_name None none =
          let clash : None ≡ Some c =
          sym (row_named_none (λ (e : Content). e.parent) (λ (e : Content). e.name_id) t v unique t.contents (entries_have_names t v) parent name none) ∙ child_parts.0 in
          absurd (cc clash)
      by_name (Some n) there = (
        n,
        there,
        row_of_id-row_named (λ (e : Content). e.parent) (λ (e : Content). e.name_id) t v unique t.contents (entries_have_names t v) parent name n.id (Some n) there refl ∙ child_parts.0,
      )

-- ---- checks

module _ (t : Tables) (whole : Tree) (v : IsValid t) (same : Represents t whole) (parent : ℕ) (name : List ℕ) where
  -- an entry names an inode that has a row
  pub entry_at-child : tree.entry_at whole parent name ≡ option_map (λ (e : Content × Inode). e.0.inode) (child_named t parent name)
  entry_at-child = entry_at-row t whole same v parent name ∙ by_entry (entry_named t parent name) refl
    where
      has_row : (c : Content) (own : Option Inode) → IsTrue (elim own as (λ _. Bool) [ Some r ↦ any_kind r.kind | None ↦ false ])
          → Some c.inode ≡ option_map (λ (e : Content × Inode). e.0.inode) (child_of c own)
      has_row c None there = absurd (cc there)
      has_row c (Some r) there = refl

      by_entry : (e : Option Content) → entry_named t parent name ≡ e
          → option_map (λ (c : Content). c.inode) e ≡ option_map (λ (x : Content × Inode). x.0.inode) (option_and_then (λ (c : Content). child_of c (inode_at t c.inode)) e)
      by_entry None own = refl
      by_entry (Some c) own =
          let finds : IsTrue (finds_of_entry t c) = find_passes_all (λ x. x.parent == parent && is_eq (bytes_cmp name (bytes_of_name t x.name_id))) (finds_of_entry t) t.contents c v.rows.entries own in
          has_row c (inode_at t c.inode) (and_parts (has_inode is_directory t c.parent && is_some (name_at t c.name_id)) (has_inode any_kind t c.inode) finds).1

  pub entry_check-child : entry_check (tree.entry_at whole parent name) ≡ child_check (child_named t parent name)
  entry_check-child = ap entry_check entry_at-child ∙ by_child (child_named t parent name)
    where
      by_child : (e : Option (Content × Inode)) → entry_check (option_map (λ (x : Content × Inode). x.0.inode) e) ≡ child_check e
      by_child None = refl
      by_child (Some e) = refl

  module _ (found : Option Inode) (is : found ≡ inode_at t parent) (child : Option (Content × Inode)) (child_is : child ≡ child_named t parent name) where
    abbrev row_checks : List (Option ℕ)
    row_checks = name_check name ∷ row_check found ∷ directory_row_check found ∷ lock_row_check found ∷ keep_check parent name ∷ child_check child ∷ []

    drop_checks-rows : first_failure (drop_checks whole parent name) ≡ first_failure row_checks
    drop_checks-rows =
        let node : node_check (node_at whole parent) ≡ row_check found = node_check-row t whole same parent ∙ ap row_check (sym is) in
        let directory : directory_check (node_at whole parent) ≡ directory_row_check found = directory_check-row t whole same parent ∙ ap directory_row_check (sym is) in
        let lock : lock_check (node_at whole parent) ≡ lock_row_check found = lock_check-row t whole same parent ∙ ap lock_row_check (sym is) in
        let entry : entry_check (tree.entry_at whole parent name) ≡ child_check child = entry_check-child ∙ ap child_check (sym child_is) in
        λ i. first_failure (name_check name ∷ node i ∷ directory i ∷ lock i ∷ keep_check parent name ∷ entry i ∷ [])

    pub old_entry : (result : Result OldEntry Errno) → IfOk result (λ old. found ≡ Some old.directory) → IfOk result (λ old. child ≡ Some (old.entry, old.child))
        → Checks result (first_failure row_checks) → IsOldEntry t whole parent name result
    old_entry (Ok old) here there own = (sym is ∙ here, sym child_is ∙ there, drop_checks-rows ∙ own)
    old_entry (Err errno) here there own = drop_checks-rows ∙ own

  module _ (old : OldEntry) (is : IsOldEntry t whole parent name (Ok old)) where
    abbrev behind : List (Option ℕ)
    behind = lock_row_check (Some old.directory) ∷ keep_check parent name ∷ child_check (child_named t parent name) ∷ []

    passes : first_failure (name_check name ∷ None ∷ directory_row_check (Some old.directory) ∷ behind) ≡ None
    passes = sym (drop_checks-rows (Some old.directory) (sym is.0) (child_named t parent name) refl) ∙ is.2

    -- the directory, its entry and the inode that goes
    pub leaving : (n : Name) → name_of_bytes t name ≡ Some n → entry_at t parent n.id ≡ Some old.entry
        → IsLeaving t whole v.params old.directory old.child old.entry n parent name
    leaving n bytes entry = record {
      valid = v;
      same = same;
      params = v.is_made;
      found = is.0;
      kind =
          Directory_from_passes old.directory.kind
          (first_check_passes (directory_row_check (Some old.directory)) behind (other_checks_pass (name_check name) (None ∷ directory_row_check (Some old.directory) ∷ behind) passes));
      bytes = bytes;
      entry = entry;
      child = (child_parts t parent name old.entry old.child is.1).1;
    }

-- ---- the name of the entry, and its node

module _ (t : Tables) (whole : Tree) (v : IsValid t) (unique : HasUniqueNames t) (same : Represents t whole) (parent : ℕ) (name : List ℕ) (old : OldEntry)
    (is : IsOldEntry t whole parent name (Ok old)) where
  abbrev pub old_name : Name
  old_name = (name_found t parent name old.entry old.child is.1 v unique).0

  pub is_leaving : IsLeaving t whole v.params old.directory old.child old.entry old_name parent name
  is_leaving =
      let found = name_found t parent name old.entry old.child is.1 v unique in
      leaving t whole v same parent name old is found.0 found.1 found.2

  pub child_is : tree.child_at whole parent name ≡ node_at whole old.entry.inode
  child_is = ap (option_and_then (node_at whole)) (entry_is t whole v.params old.directory old.child old.entry old_name 0 parent name is_leaving)

-- The names of tables that represent a well-formed tree are one tree of directories from the root.
use Rattle.std.proofs.Common.{◌≡◌, ℕ, zero, suc, List, [], ◌∷◌, length, Bool, true, false, cond, Option, None, Some, refl, sym, ap, ◌∙◌, subst, arith, eqb-true, eq-eqb}
use Rattle.std.specs.Prelude.{IsTrue, not, ◌&&◌, ◌||◌, ◌==◌, count_by, sum_by, find, option_map, option_and_then}
use Rattle.std.specs.List.{list_all, list_any}
use Rattle.std.specs.Cmp.{nat_cmp_total, tied_back}
use Rattle.std.specs.Ordering.{is_eq}
use Rattle.std.proofs.lemmas.Cmp.{nat_list_cmp_total}
use Rattle.std.proofs.lemmas.Bool.{or_parts, and_from, and_parts}
use Rattle.std.proofs.lemmas.List.Sums.{sum_by-cons}
use Rattle.plain_tree.specs.Tree as tree
use Rattle.plain_tree.specs.Tree.{Node, Tree, node_at}
use Rattle.plain_tree.specs.Attributes.{names_in}
use Rattle.plain_tree.specs.Entries.{is_folder, entry_at, child_at, entries_of}
use Rattle.plain_tree.specs.Entries as entries
use Rattle.plain_tree.specs.WellFormed as wellformed
use Rattle.plain_tree.specs.WellFormed.{LeadsToRoot, entries_naming}
use Rattle.s3_rows.specs.Rows.{Inode, Content}
use Rattle.s3_rows.specs.Keyed.{rises}
use Rattle.s3_rows.specs.Tables.{Tables, by_inode}
use Rattle.s3_rows.specs.Selections.{inode_at, bytes_cmp, bytes_of_name}
use Rattle.s3_rows.specs.Counts.{listed_inode_count}
use Rattle.s3_base.specs.Numbers.{root}
use Rattle.s3_rows.specs.Validity.{HasOneTree, finds_of_entry, has_inode, is_directory, any_kind, is_named, have_one_name, differ, is_named_once, is_below_root, leads_to_root, parent_of, is_lost_and_found, lost_and_found, is_no_lost_directory}
use Rattle.row_lemmas.proofs.Tests.{find_passes, find_passes_all, list_any_from_find, equal_from_is_eq}
use Rattle.row_lemmas.proofs.Sums.{list_any_from_count_by}
use Rattle.row_lemmas.proofs.Keyed.RowAt.{row_at_own}
use Rattle.tree_rows.specs.Premises.{finds_directory_and_name}
use Rattle.tree_rows.specs.Shapes.{Represents}
use Rattle.tree_rows.proofs.Listed.{is_entry}
use Rattle.tree_rows.proofs.Whole.{folder_is, entry_found, count_is}
use Rattle.tree_rows.proofs.Validity.Each.{list_all_from_each, count_by_from_list_any, list_any_counted_once, find_counted_once}
use Rattle.tree_rows.proofs.Validity.Entries.{is_of_kind, finds_of_entries, legal_names}
use Rattle.tree_rows.proofs.Validity.Steps.{leads_to_root_within_inodes}

-- ---- inodes that no entry of the tree names

names_in-unnamed : (inode : ℕ) (content : tree.Content)
    → list_any (λ entry. entry.1 == inode) (entries_of content) ≡ false → names_in inode content ≡ 0
names_in-unnamed inode (tree.Directory es) none =
    count_by_from_list_any (λ (entry : List ℕ × ℕ). entry.1 == inode) es none
names_in-unnamed inode (tree.Regular bytes) none = refl
names_in-unnamed inode (tree.Link target) none = refl

sum_by-unnamed : (inode : ℕ) (nodes : List (ℕ × Node))
    → list_any (λ e. list_any (λ entry. entry.1 == inode) (entries_of e.1.content)) nodes ≡ false
    → sum_by (λ e. names_in inode e.1.content) nodes ≡ 0
sum_by-unnamed inode [] none = refl
sum_by-unnamed inode (e ∷ es) none =
    let one : ℕ × Node → ℕ = λ x. names_in inode x.1.content in
    let some : ℕ × Node → Bool = λ x. list_any (λ (entry : List ℕ × ℕ). entry.1 == inode) (entries_of x.1.content) in
    let parts : (some e ≡ false) × (list_any some es ≡ false) = or_parts (some e) (list_any some es) none in
    omega (arith, sum_by-cons one e es, names_in-unnamed inode e.1.content parts.0, sum_by-unnamed inode es parts.1)

-- ---- of tables whose entries find their rows

module _ (t : Tables) (finds : IsTrue (list_all (finds_of_entry t) t.contents))
    (unlike : IsTrue (differ (have_one_name t) t.contents)) (rise : IsTrue (rises by_inode t.inodes)) (whole : Tree)
    (same : Represents t whole) where
  -- an inode that no entry of the tree names, no row names
  pub is_named-unnamed : (inode : ℕ) → entries.is_named whole inode ≡ false → is_named t inode ≡ false
  is_named-unnamed inode none =
      list_any_from_count_by (λ (c : Content). c.inode == inode) t.contents
      (sym (count_is t finds unlike rise whole same inode) ∙ sum_by-unnamed inode whole.nodes none)

  module _ (one : wellformed.HasOneTree whole) where
    named_by_one : (x : ℕ) → IsTrue (has_inode is_directory t x) → (x == root) ≡ false
        → count_by (λ (c : Content). c.inode == x) t.contents ≡ 1
    named_by_one x folder other =
        sym (count_is t finds unlike rise whole same x) ∙ one.once x (folder_is t whole same x ∙ folder) not_root
      where
        not_root : x ≡ root → ⊥
        not_root here =
            let clash : false ≡ true = sym other ∙ eq-eqb x root here in
            cc clash

    -- the chain of parents that the tree has
    leads : (steps x : ℕ) → IsTrue (has_inode is_directory t x) → LeadsToRoot whole steps x
        → IsTrue (leads_to_root steps t x)
    leads zero x folder up = eq-eqb x root up
    leads (suc steps) x folder (parent, name, entry, up) =
        by_case (leads steps parent parent_folder up) (x == root) refl
      where
        row : (c : Content) × (find (is_entry t parent name) t.contents ≡ Some c) × (c.inode ≡ x)
        row = entry_found t whole same finds parent x name entry

        parent_is : row.0.parent ≡ parent
        parent_is =
            eqb-true row.0.parent parent
            (and_parts (row.0.parent == parent) _ (find_passes (is_entry t parent name) t.contents row.0 row.1)).0

        parent_folder : IsTrue (has_inode is_directory t parent)
        parent_folder =
            let own : IsTrue (finds_of_entry t row.0) =
            find_passes_all (is_entry t parent name) (finds_of_entry t) t.contents row.0 finds row.1 in
            subst (λ p. IsTrue (has_inode is_directory t p)) parent_is
            (and_parts (has_inode is_directory t row.0.parent) _
            (and_parts _ (has_inode any_kind t row.0.inode) own).0).0

        by_case : IsTrue (leads_to_root steps t parent) → (b : Bool) → (x == root) ≡ b
            → IsTrue (b || elim (parent_of t x) [ Some p ↦ leads_to_root steps t p | None ↦ false ])
        by_case further true here = refl
        by_case further false here =
            let found : find (λ (c : Content). c.inode == x) t.contents ≡ Some row.0 =
            find_counted_once (λ (c : Content). c.inode == x) (is_entry t parent name) t.contents row.0
            (named_by_one x folder here) row.1 (eq-eqb row.0.inode x row.2) in
            let above : parent_of t x ≡ Some parent =
            ap (option_map (λ (c : Content). c.parent)) found ∙ ap Some parent_is in
            ap (λ (p : Option ℕ). elim p [ Some y ↦ leads_to_root steps t y | None ↦ false ]) above ∙ further

    -- ---- each inode

    -- a test of rows that each directory's row passes
    each_directory : (test : Inode → Bool)
        → ((r : Inode) → is_directory r.kind ≡ true → IsTrue (has_inode is_directory t r.id) → IsTrue (test r))
        → ((r : Inode) → is_directory r.kind ≡ false → IsTrue (test r))
        → IsTrue (list_all test t.inodes)
    each_directory test directories others =
        list_all_from_each (λ (r : Inode). inode_at t r.id ≡ Some r) test
        (λ r there. by_case r there (is_directory r.kind) refl) t.inodes
        (row_at_own by_inode nat_cmp_total t.inodes rise)
      where
        by_case : (r : Inode) → inode_at t r.id ≡ Some r → (b : Bool) → is_directory r.kind ≡ b → IsTrue (test r)
        by_case r there true is = directories r is (ap (is_of_kind is_directory) there ∙ is)
        by_case r there false is = others r is

    named_once : IsTrue (list_all (is_named_once t) t.inodes)
    named_once =
        each_directory (is_named_once t) once
        (λ r is. ap (λ b. not b || r.id == root || listed_inode_count t r.id == 1) is)
      where
        once : (r : Inode) → is_directory r.kind ≡ true → IsTrue (has_inode is_directory t r.id)
            → IsTrue (is_named_once t r)
        once r is folder =
            ap (λ b. not b || r.id == root || listed_inode_count t r.id == 1) is ∙ by_case (r.id == root) refl
          where
            by_case : (b : Bool) → (r.id == root) ≡ b
                → IsTrue (b || cond b 1 (count_by (λ (c : Content). c.inode == r.id) t.contents) == 1)
            by_case true here = refl
            by_case false here =
                eq-eqb (count_by (λ (c : Content). c.inode == r.id) t.contents) 1 (named_by_one r.id folder here)

    below_root : IsTrue (list_all (is_below_root t) t.inodes)
    below_root =
        each_directory (is_below_root t) below (λ r is. ap (λ b. not b || leads_to_root (length t.inodes) t r.id) is)
      where
        below : (r : Inode) → is_directory r.kind ≡ true → IsTrue (has_inode is_directory t r.id)
            → IsTrue (is_below_root t r)
        below r is folder =
            let chain : (steps : ℕ) × LeadsToRoot whole steps r.id =
            one.leads r.id (folder_is t whole same r.id ∙ folder) in
            ap (λ b. not b || leads_to_root (length t.inodes) t r.id) is
            ∙ leads_to_root_within_inodes t finds chain.0 r.id (leads chain.0 r.id folder chain.1)

    -- no directory is lost
    pub no_lost_directories : IsTrue (list_all (is_no_lost_directory t) t.inodes)
    no_lost_directories =
        each_directory (is_no_lost_directory t) named (λ r is. other r is (r.id == root) (is_named t r.id))
      where
        other : (r : Inode) → is_directory r.kind ≡ false → (here any : Bool)
            → IsTrue (here || any || not (is_directory r.kind))
        other r is true any = refl
        other r is false true = refl
        other r is false false = ap not is

        named : (r : Inode) → is_directory r.kind ≡ true → IsTrue (has_inode is_directory t r.id)
            → IsTrue (is_no_lost_directory t r)
        named r is folder = by_case (r.id == root) refl
          where
            by_case : (b : Bool) → (r.id == root) ≡ b → IsTrue (b || is_named t r.id || not (is_directory r.kind))
            by_case true here = refl
            by_case false here =
                ap (λ b. b || not (is_directory r.kind))
                (list_any_counted_once (λ (c : Content). c.inode == r.id) t.contents (named_by_one r.id folder here))

    -- ---- lost+found

    keeps_lost_and_found : IsTrue (list_any (is_lost_and_found t) t.contents)
    keeps_lost_and_found = by_entry (entry_at whole root lost_and_found) refl one.keeps_lost_and_found
      where
        by_entry : (entry : Option ℕ) → entry_at whole root lost_and_found ≡ entry
            → IsTrue (is_folder (option_and_then (node_at whole) entry))
            → IsTrue (list_any (is_lost_and_found t) t.contents)
        by_entry None is folder = absurd (cc folder)
        by_entry (Some x) is folder =
            list_any_from_find (is_entry t root lost_and_found) (is_lost_and_found t) t.contents row.0 row.1 passes
          where
            row : (c : Content) × (find (is_entry t root lost_and_found) t.contents ≡ Some c) × (c.inode ≡ x)
            row = entry_found t whole same finds root x lost_and_found is

            text : List ℕ
            text = bytes_of_name t row.0.name_id

            own : IsTrue (row.0.parent == root && is_eq (bytes_cmp lost_and_found text))
            own = find_passes (is_entry t root lost_and_found) t.contents row.0 row.1

            passes : IsTrue (is_lost_and_found t row.0)
            passes =
                and_from (row.0.parent == root && is_eq (bytes_cmp text lost_and_found))
                (has_inode is_directory t row.0.inode)
                (and_from (row.0.parent == root) (is_eq (bytes_cmp text lost_and_found))
                (and_parts (row.0.parent == root) _ own).0
                (ap is_eq
                (tied_back nat_list_cmp_total lost_and_found text
                (equal_from_is_eq (bytes_cmp lost_and_found text) (and_parts (row.0.parent == root) _ own).1))))
                (subst (λ y. IsTrue (has_inode is_directory t y)) (sym row.2) (sym (folder_is t whole same x) ∙ folder))

-- ---- all of it

pub HasOneTree_from_tree : (t : Tables) (whole : Tree) → IsTrue (rises by_inode t.inodes)
    → IsTrue (differ (have_one_name t) t.contents) → IsTrue (list_all (finds_directory_and_name t) t.contents)
    → Represents t whole → wellformed.HasOneTree whole
    → HasOneTree t
HasOneTree_from_tree t whole rise unlike named same one =
    let finds : IsTrue (list_all (finds_of_entry t) t.contents) = finds_of_entries t whole same named unlike one in
    record {
      is_rooted = sym (folder_is t whole same root) ∙ one.is_rooted;
      root_is_unnamed = ap not (is_named-unnamed t finds unlike rise whole same root one.root_is_unnamed);
      named_once = named_once t finds unlike rise whole same one;
      below_root = below_root t finds unlike rise whole same one;
      legal = legal_names t whole same named unlike one;
      unlike = unlike;
      keeps_lost_and_found = keeps_lost_and_found t finds unlike rise whole same one;
    }

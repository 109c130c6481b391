-- The parts of a tree of names, for valid tables.
use Rattle.std.proofs.Common.{◌≡◌, ◌≢◌, ℕ, zero, suc, List, [], ◌∷◌, Bool, true, false, cond, Option, None, Some, refl, sym, ap, ◌∙◌, subst, arith, ltb-true, leb-true, eqb-true, eq-eqb}
use Rattle.std.specs.Prelude.{IsTrue, IsSome, not, ◌&&◌, ◌||◌, ◌==◌, length, count_by, find, is_some, option_map, option_and_then, nat_le, nat_lt}
use Rattle.std.specs.List.{list_all, list_any}
use Rattle.std.proofs.lemmas.Cmp.{nat_list_cmp_total}
use Rattle.std.specs.Cmp.{tied_back, tied_itself}
use Rattle.std.specs.FinMap.{slice_cmp-IsAntisymmetric, nat_cmp-IsAntisymmetric}
use Rattle.std.specs.Ordering.{is_eq}
use Rattle.std.proofs.lemmas.Bool.{and_from, and_parts}
use Rattle.s3_base.specs.Names.{is_forbidden_name}
use Rattle.plain_tree.specs.Tree.{Tree, node_at}
use Rattle.plain_tree.specs.Checks.{name_check}
use Rattle.plain_tree.specs.Entries.{is_folder, entry_at, child_at, is_named}
use Rattle.plain_tree.specs.WellFormed.{HasOneTree, LeadsToRoot, entries_naming}
use Rattle.s3_rows.specs.Rows.{Inode, Content}
use Rattle.s3_rows.specs.Keyed.{has_key}
use Rattle.s3_rows.specs.Tables.{Tables, by_inode}
use Rattle.s3_rows.specs.Selections.{inode_at, name_at, bytes_cmp, bytes_of_name}
use Rattle.s3_rows.specs.Counts.{listed_inode_count}
use Rattle.s3_base.specs.Numbers.{root}
use Rattle.s3_rows.specs.Validity.{IsValid, finds_of_entry, has_inode, is_directory, any_kind, have_one_name, differ, has_legal_name, counts_inode, is_named_once, is_below_root, leads_to_root, parent_of, is_lost_and_found, lost_and_found}
use Rattle.row_lemmas.proofs.Tests.{find_passes, find_passes_all, list_any_from_find, find_from_list_any, list_all_from_list_any, list_all_weaker, false_from_not, equal_from_is_eq}
use Rattle.row_lemmas.proofs.Sums.{count_by_none}
use Rattle.tree_rows.specs.Shapes.{Represents}
use Rattle.tree_rows.proofs.Listed.{is_entry}
use Rattle.tree_rows.proofs.Named.{unnamed, is_named-entries_naming}
use Rattle.tree_rows.proofs.Whole.{folder_is, node_is, entry_found, entry_made, count_is, number_of}

-- of rows of which no two are alike, a test that only rows like c pass finds c
found_one : {R : Type 0} (alike : R → R → Bool) (p q : R → Bool) (rows : List R) (c : R) → IsTrue (differ alike rows) → find p rows ≡ Some c
    → ((x : R) → IsTrue (q x) → IsTrue (alike x c)) → IsTrue (q c) → find q rows ≡ Some c
found_one alike p q [] c unlike found like passes = absurd (cc found)
found_one alike p q (r ∷ rs) c unlike found like passes =
    by_case (λ rest. found_one alike p q rs c (and_parts (not (list_any (alike r) rs)) (differ alike rs) unlike).1 rest like passes) (p r) found (q r) refl
  where
    by_case : (find p rs ≡ Some c → find q rs ≡ Some c) → (b : Bool) → cond b (Some r) (find p rs) ≡ Some c → (d : Bool) → q r ≡ d → cond d (Some r) (find q rs) ≡ Some c
    by_case others true there true is = there
    by_case others true there false is =
        let same : r ≡ c = cc there in
        let clash : false ≡ true = sym is ∙ subst (λ x. IsTrue (q x)) (sym same) passes in
        absurd (cc clash)
    by_case others false there true is =
        let clash : false ≡ true = sym (false_from_not (list_any (alike r) rs) (and_parts (not (list_any (alike r) rs)) (differ alike rs) unlike).0) ∙ list_any_from_find p (alike r) rs c there (like r is) in
        absurd (cc clash)
    by_case others false there false is = others there

same_bytes : (a b : List ℕ) → IsTrue (is_eq (bytes_cmp a b)) → a ≡ b
same_bytes a b is = slice_cmp-IsAntisymmetric nat_cmp-IsAntisymmetric a b (equal_from_is_eq (bytes_cmp a b) is)

-- ---- the parts

-- the row of a directory
row_of : (t : Tables) (x : ℕ) → IsTrue (has_inode is_directory t x) → (r : Inode) × (inode_at t x ≡ Some r) × IsTrue (is_directory r.kind)
row_of t x folder = by_case (inode_at t x) refl folder
  where
    by_case : (found : Option Inode) → inode_at t x ≡ found → IsTrue (elim found [ Some r ↦ is_directory r.kind | None ↦ false ]) → (r : Inode) × (inode_at t x ≡ Some r) × IsTrue (is_directory r.kind)
    by_case None is there = absurd (cc there)
    by_case (Some r) is there = (r, is, there)

module _ (t : Tables) (v : IsValid t) (whole : Tree) (same : Represents t whole) where
  legal_name : (parent inode : ℕ) (name : List ℕ) → entry_at whole parent name ≡ Some inode → name_check name ≡ None
  legal_name parent inode name is =
      let entry = entry_found t whole same v.rows.entries parent inode name is in
      let c : Content = entry.0 in
      let legal : IsTrue (has_legal_name t c) = find_passes_all (is_entry t parent name) (has_legal_name t) t.contents c v.tree.legal entry.1 in
      let bytes : name ≡ bytes_of_name t c.name_id = same_bytes name (bytes_of_name t c.name_id) (and_parts (c.parent == parent) _ (find_passes (is_entry t parent name) t.contents c entry.1)).1 in
      ap name_check bytes
      ∙ checked (bytes_of_name t c.name_id) (and_parts (nat_le (length (bytes_of_name t c.name_id)) 255) _ legal).0 (and_parts (nat_le (length (bytes_of_name t c.name_id)) 255) _ legal).1
    where
      checked : (text : List ℕ) → IsTrue (nat_le (length text) 255) → IsTrue (not (is_forbidden_name text)) → name_check text ≡ None
      checked text short fine = by_case (nat_lt 255 (length text)) refl (is_forbidden_name text) (false_from_not (is_forbidden_name text) fine)
        where
          by_case : (b : Bool) → nat_lt 255 (length text) ≡ b → (d : Bool) → d ≡ false → cond {A = Option ℕ} b (Some 36) (cond d (Some 22) None) ≡ None
          by_case true long d is = absurd (omega (arith, ltb-true 255 (length text) long, leb-true (length text) 255 short))
          by_case false long true is = absurd (cc is)
          by_case false long false is = refl

  entry_names_node : (parent inode : ℕ) (name : List ℕ) → entry_at whole parent name ≡ Some inode → IsSome (node_at whole inode)
  entry_names_node parent inode name is =
      let entry = entry_found t whole same v.rows.entries parent inode name is in
      let c : Content = entry.0 in
      let found : IsTrue (finds_of_entry t c) = find_passes_all (is_entry t parent name) (finds_of_entry t) t.contents c v.rows.entries entry.1 in
      subst (λ x. IsSome (node_at whole x)) entry.2 (node_is t whole same c.inode (and_parts _ (has_inode any_kind t c.inode) found).1)

  -- the entry of a row
  pub own_entry : (p : Content → Bool) (c : Content) → find p t.contents ≡ Some c → entry_at whole c.parent (bytes_of_name t c.name_id) ≡ Some c.inode
  own_entry p c found =
      entry_made t whole same v.rows.entries c.parent (bytes_of_name t c.name_id) c folder
      (found_one (have_one_name t) p (is_entry t c.parent (bytes_of_name t c.name_id)) t.contents c v.tree.unlike found alike itself)
    where
      finds : IsTrue (finds_of_entry t c)
      finds = find_passes_all p (finds_of_entry t) t.contents c v.rows.entries found

      folder : IsTrue (has_inode is_directory t c.parent)
      folder = (and_parts (has_inode is_directory t c.parent) _ (and_parts _ (has_inode any_kind t c.inode) finds).0).0

      text : List ℕ
      text = bytes_of_name t c.name_id

      alike : (x : Content) → IsTrue (is_entry t c.parent text x) → IsTrue (have_one_name t x c)
      alike x entry =
          and_from (x.parent == c.parent) (is_eq (bytes_cmp (bytes_of_name t x.name_id) text)) (and_parts (x.parent == c.parent) _ entry).0
          (ap is_eq (tied_back nat_list_cmp_total text (bytes_of_name t x.name_id) (equal_from_is_eq (bytes_cmp text (bytes_of_name t x.name_id)) (and_parts (x.parent == c.parent) _ entry).1)))

      itself : IsTrue (is_entry t c.parent text c)
      itself = and_from (c.parent == c.parent) (is_eq (bytes_cmp text text)) (eq-eqb c.parent c.parent refl) (ap is_eq (tied_itself nat_list_cmp_total text))

  leads : (steps inode : ℕ) → IsTrue (leads_to_root steps t inode) → (n : ℕ) × LeadsToRoot whole n inode
  leads zero inode is = (0, eqb-true inode root is)
  leads (suc steps) inode is = by_case (leads steps) (inode == root) refl is
    where
      by_row : ((x : ℕ) → IsTrue (leads_to_root steps t x) → (n : ℕ) × LeadsToRoot whole n x) → (found : Option Content) → find (λ (r : Content). r.inode == inode) t.contents ≡ found
          → IsTrue (elim (option_map (λ (r : Content). r.parent) found) [ Some parent ↦ leads_to_root steps t parent | None ↦ false ]) → (n : ℕ) × LeadsToRoot whole n inode
      by_row further None there up = absurd (cc up)
      by_row further (Some c) there up =
          let rest = further c.parent up in
          let number : c.inode ≡ inode = eqb-true c.inode inode (find_passes (λ (r : Content). r.inode == inode) t.contents c there) in
          (suc rest.0, (c.parent, bytes_of_name t c.name_id, own_entry (λ (r : Content). r.inode == inode) c there ∙ ap Some number, rest.1))

      by_case : ((x : ℕ) → IsTrue (leads_to_root steps t x) → (n : ℕ) × LeadsToRoot whole n x) → (b : Bool) → (inode == root) ≡ b
          → IsTrue (b || elim (parent_of t inode) [ Some parent ↦ leads_to_root steps t parent | None ↦ false ]) → (n : ℕ) × LeadsToRoot whole n inode
      by_case further true here up = (0, eqb-true inode root here)
      by_case further false here up = by_row further (find (λ (r : Content). r.inode == inode) t.contents) refl up

  -- the directory's row, and a test that all rows pass
  row_passes : (test : Inode → Bool) → IsTrue (list_all test t.inodes) → (inode : ℕ) → IsTrue (is_folder (node_at whole inode)) → (r : Inode) × (r.id ≡ inode) × IsTrue (is_directory r.kind) × IsTrue (test r)
  row_passes test all inode folder =
      let row = row_of t inode (sym (folder_is t whole same inode) ∙ folder) in
      (row.0, sym (number_of t inode row.0 row.1), row.2, find_passes_all (has_key by_inode inode) test t.inodes row.0 all row.1)

  kept : IsTrue (is_folder (child_at whole root lost_and_found))
  kept =
      let lost = find_from_list_any (is_lost_and_found t) t.contents v.tree.keeps_lost_and_found in
      let c : Content = lost.0 in
      let text : List ℕ = bytes_of_name t c.name_id in
      let passes : IsTrue (is_lost_and_found t c) = find_passes (is_lost_and_found t) t.contents c lost.1 in
      let named : IsTrue (c.parent == root && is_eq (bytes_cmp text lost_and_found)) = (and_parts (c.parent == root && is_eq (bytes_cmp text lost_and_found)) (has_inode is_directory t c.inode) passes).0 in
      let parent : c.parent ≡ root = eqb-true c.parent root (and_parts (c.parent == root) (is_eq (bytes_cmp text lost_and_found)) named).0 in
      let bytes : text ≡ lost_and_found = same_bytes text lost_and_found (and_parts (c.parent == root) (is_eq (bytes_cmp text lost_and_found)) named).1 in
      let entry : entry_at whole root lost_and_found ≡ Some c.inode = ap (λ p. entry_at whole p lost_and_found) (sym parent) ∙ ap (entry_at whole c.parent) (sym bytes) ∙ own_entry (is_lost_and_found t) c lost.1 in
      ap (λ found. is_folder (option_and_then (node_at whole) found)) entry ∙ folder_is t whole same c.inode
      ∙ (and_parts (c.parent == root && is_eq (bytes_cmp text lost_and_found)) (has_inode is_directory t c.inode) passes).1

  once : (inode : ℕ) → IsTrue (is_folder (node_at whole inode)) → inode ≢ root → entries_naming whole inode ≡ 1
  once inode folder other =
      let row = row_passes (is_named_once t) v.tree.named_once inode folder in
      let r : Inode = row.0 in
      count_is t v.rows.entries v.tree.unlike v.ordered.inodes whole same inode
      ∙ ap (λ x. count_by (λ (c : Content). c.inode == x) t.contents) (sym row.1)
      ∙ counted (is_directory r.kind) row.2 (r.id == root) (elsewhere r row.1 (r.id == root) refl) (count_by (λ (c : Content). c.inode == r.id) t.contents) row.3
    where
      elsewhere : (r : Inode) → r.id ≡ inode → (b : Bool) → (r.id == root) ≡ b → b ≡ false
      elsewhere r number true is = absurd (other (sym number ∙ eqb-true r.id root is))
      elsewhere r number false is = refl

      counted : (folder_kind : Bool) → IsTrue folder_kind → (here : Bool) → here ≡ false → (n : ℕ) → IsTrue (not folder_kind || here || (cond here 1 n == 1)) → n ≡ 1
      counted true is true away n passes = absurd (cc away)
      counted true is false away n passes = eqb-true n 1 passes
      counted false is here away n passes = absurd (cc is)

  climbs : (inode : ℕ) → IsTrue (is_folder (node_at whole inode)) → (steps : ℕ) × LeadsToRoot whole steps inode
  climbs inode folder =
      let row = row_passes (is_below_root t) v.tree.below_root inode folder in
      let r : Inode = row.0 in
      subst (λ x. (steps : ℕ) × LeadsToRoot whole steps x) row.1 (leads (length t.inodes) r.id (below (is_directory r.kind) row.2 (leads_to_root (length t.inodes) t r.id) row.3))
    where
      below : (folder_kind : Bool) → IsTrue folder_kind → (b : Bool) → IsTrue (not folder_kind || b) → IsTrue b
      below true is b passes = passes
      below false is b passes = absurd (cc is)

  pub is_one_tree : HasOneTree whole
  is_one_tree = record {
    is_rooted = folder_is t whole same root ∙ v.tree.is_rooted;
    root_is_unnamed =
        unnamed root whole.nodes (count_is t v.rows.entries v.tree.unlike v.ordered.inodes whole same root ∙ count_by_none (λ (c : Content). c.inode == root) t.contents (list_all_from_list_any (λ (c : Content). c.inode == root) t.contents v.tree.root_is_unnamed));
    keeps_lost_and_found = kept;
    entries = entry_names_node;
    names = legal_name;
    once = once;
    leads = climbs;
  }

-- ---- counts

pub stored_count : (t : Tables) (id : ℕ) (r : Inode) → IsValid t → inode_at t id ≡ Some r → r.refcount ≡ listed_inode_count t id
stored_count t id r v is =
    eqb-true r.refcount (listed_inode_count t r.id) (find_passes_all (has_key by_inode id) (counts_inode t) t.inodes r v.counts.inodes is)
    ∙ ap (listed_inode_count t) (sym (number_of t id r is))

pub link_count_is : (t : Tables) (whole : Tree) (id : ℕ) (r : Inode) → IsValid t → Represents t whole → inode_at t id ≡ Some r → id ≢ root → r.refcount ≡ entries_naming whole id
link_count_is t whole id r v same is other =
    stored_count t id r v is ∙ by_case (id == root) refl ∙ sym (count_is t v.rows.entries v.tree.unlike v.ordered.inodes whole same id)
  where
    by_case : (b : Bool) → (id == root) ≡ b → cond b 1 (count_by (λ (c : Content). c.inode == id) t.contents) ≡ count_by (λ (c : Content). c.inode == id) t.contents
    by_case true here = absurd (other (eqb-true id root here))
    by_case false here = refl

-- ---- whether an inode has a name

pub named_there : (t : Tables) (whole : Tree) (x : ℕ) (r : Inode) → IsValid t → Represents t whole → inode_at t x ≡ Some r
    → is_named whole x ≡ not (r.id == root || r.refcount == 0)
named_there t whole x r v same is = by_case (x == root) refl
  where
    own : (x == root) ≡ (r.id == root)
    own = ap (λ n. n == root) (number_of t x r is)

    by_case : (b : Bool) → (x == root) ≡ b → is_named whole x ≡ not (r.id == root || r.refcount == 0)
    by_case true here =
        ap (is_named whole) (eqb-true x root here) ∙ (is_one_tree t v whole same).root_is_unnamed
        ∙ ap (λ b. not (b || r.refcount == 0)) (sym here ∙ own)
    by_case false here =
        let count : r.refcount ≡ entries_naming whole x =
        link_count_is t whole x r v same is (λ equal.
        let clash : true ≡ false = sym (eq-eqb x root equal) ∙ here in
        cc clash) in
        is_named-entries_naming whole x ∙ ap (λ n. not (n == 0)) (sym count) ∙ ap (λ b. not (b || r.refcount == 0)) (sym here ∙ own)

-- an inode without a row has none
pub named_absent : (t : Tables) (whole : Tree) (x : ℕ) → IsValid t → Represents t whole → inode_at t x ≡ None → is_named whole x ≡ false
named_absent t whole x v same none =
    is_named-entries_naming whole x
    ∙ ap (λ n. not (n == 0))
    (count_is t v.rows.entries v.tree.unlike v.ordered.inodes whole same x
    ∙ count_by_none (λ (c : Content). c.inode == x) t.contents
    (list_all_weaker (finds_of_entry t) (λ (c : Content). not (c.inode == x)) other t.contents v.rows.entries))
  where
    other : (c : Content) → IsTrue (finds_of_entry t c) → IsTrue (not (c.inode == x))
    other c finds = by_case (c.inode == x) refl
      where
        there : IsTrue (has_inode any_kind t c.inode)
        there = (and_parts (has_inode is_directory t c.parent && is_some (name_at t c.name_id)) (has_inode any_kind t c.inode) finds).1

        by_case : (b : Bool) → (c.inode == x) ≡ b → IsTrue (not b)
        by_case true here =
            let clash : false ≡ true =
            sym (ap (λ (found : Option Inode). elim found [ Some r ↦ true | None ↦ false ]) (ap (inode_at t) (eqb-true c.inode x here) ∙ none)) ∙ there in
            absurd (cc clash)
        by_case false here = refl

-- The entries of a directory by their names, and the rows that they are.
use Rattle.std.proofs.Common.{◌≡◌, ℕ, List, [], ◌∷◌, Bool, true, false, cond, Option, None, Some, refl, sym, ap, ◌∙◌, subst, eqb-true, eq-eqb}
use Rattle.std.proofs.lemmas.Bool.{and_from, and_parts}
use Rattle.std.proofs.lemmas.Cmp.{nat_list_cmp_total}
use Rattle.std.specs.Prelude.{IsTrue, ◌==◌, filter, find, is_some, not, option_map, take}
use Rattle.std.specs.Cmp.{tied_itself}
use Rattle.std.specs.FinMap.{nat_cmp-IsAntisymmetric, slice_cmp-IsAntisymmetric}
use Rattle.std.specs.List.{AllByRecursion, cons_option, filter_map, list_all, list_any, slice_get}
use Rattle.std.specs.Ordering.{is_eq, is_lt}
use Rattle.plain_tree.specs.Entries as tree
use Rattle.plain_tree.specs.Tree.{Tree}
use Rattle.s3_rows.specs.declared.lists.NamedEntry.{NamedEntry}
use Rattle.s3_rows.specs.Keyed.{has_key, row_at, rows_past}
use Rattle.s3_rows.specs.Rows.{Content, Name}
use Rattle.s3_rows.specs.Selections.{by_entry_name, bytes_cmp, bytes_of_name, entry_at, name_at, with_entry_name}
use Rattle.s3_rows.specs.Tables.{Tables, by_entry}
use Rattle.s3_rows.specs.Validity.{IsValid, any_kind, differ, finds_of_entry, has_inode, have_one_name, is_directory}
use Rattle.row_lemmas.proofs.Tests.{equal_from_is_eq, find_passes_all, less_from_is_lt, list_all-filter_same, list_any_from_find, pair_parts}
use Rattle.row_lemmas.proofs.Keyed.RowAt.{row_at_own}
use Rattle.row_lemmas.proofs.Keyed.Sorted.{row_at-sorted_by}
use Rattle.row_lemmas.proofs.Tables.{pair_cmp_total}
use Rattle.tree_rows.specs.Shapes.{Represents}
use Rattle.tree_rows.proofs.Rooted.{own_entry}
use Rattle.row_steps.proofs.Shape.Entries.{bytes_found}
use Rattle.immutable_trees.specs.Branches.{HasGone, IsThere, named_at}
use Rattle.immutable_trees.proofs.NextNames.{entry_at-named_entries}
use Rattle.immutable_trees.proofs.TakenRest.{Leaves, entry_left}

-- ---- names in their order

pub later_trans : (a b c : List ℕ) → IsTrue (is_lt (bytes_cmp a b)) → IsTrue (is_lt (bytes_cmp b c)) → IsTrue (is_lt (bytes_cmp a c))
later_trans a b c first second = ap is_lt (nat_list_cmp_total.trans a b c (less_from_is_lt (bytes_cmp a b) first) (less_from_is_lt (bytes_cmp b c) second))

pub not_later_itself : (a : List ℕ) → IsTrue (is_lt (bytes_cmp a a)) → ⊥
not_later_itself a later =
    let clash : false ≡ true = sym (ap is_lt (tied_itself nat_list_cmp_total a)) ∙ later in
    cc clash

-- the next entry behind a name is later
pub next_later : (last : List ℕ) (rows : List NamedEntry) (e : NamedEntry) → slice_get (take 1 (rows_past by_entry_name last rows)) 0 ≡ Some e → IsTrue (is_lt (bytes_cmp last e.name))
next_later last rows e is_next = by_rows (rows_past by_entry_name last rows) refl (list_all-filter_same (λ (x : NamedEntry). is_lt (bytes_cmp last x.name)) rows)
  where
    by_rows : (behind : List NamedEntry) → rows_past by_entry_name last rows ≡ behind → IsTrue (list_all (λ (x : NamedEntry). is_lt (bytes_cmp last x.name)) behind)
        → IsTrue (is_lt (bytes_cmp last e.name))
    by_rows [] is all =
        let clash : None ≡ Some e = ap (λ (l : List NamedEntry). slice_get (take 1 l) 0) (sym is) ∙ is_next in
        absurd (cc clash)
    by_rows (x ∷ xs) is all =
        let first : Some x ≡ Some e = ap (λ (l : List NamedEntry). slice_get (take 1 l) 0) (sym is) ∙ is_next in
        let same : x ≡ e = cc first in
        subst (λ (y : NamedEntry). IsTrue (is_lt (bytes_cmp last y.name))) same
        (and_parts (is_lt (bytes_cmp last x.name)) (list_all (λ (y : NamedEntry). is_lt (bytes_cmp last y.name)) xs) all).0

-- ---- what is listed under a name

pub record IsNamed (t : Tables) (q : ℕ) (name : List ℕ) (e : NamedEntry) : Type 0 where
  pub parent : e.row.parent ≡ q
  pub makes : with_entry_name t e.row ≡ Some e
  pub called : name ≡ e.name
  pub there : IsThere t e.row

row_of : (r : Content) (found : Option Name) (e : NamedEntry) → option_map (λ (n : Name). let y : NamedEntry = record { row = r; name = n.name } in y) found ≡ Some e → e.row ≡ r
row_of r None e is = absurd (cc is)
row_of r (Some n) e is =
    let same : record { row = r; name = n.name } ≡ e = cc is in
    ap (λ (y : NamedEntry). y.row) (sym same)

named_in : (t : Tables) (q : ℕ) (name : List ℕ) (rows : List Content) → AllByRecursion (λ r. IsThere t r) rows → (e : NamedEntry)
    → row_at by_entry_name name (filter_map (with_entry_name t) (filter (λ (r : Content). r.parent == q) rows)) ≡ Some e → IsNamed t q name e
named_in t q name [] all e found = absurd (cc found)
named_in t q name (r ∷ rs) all e found = by_case (named_in t q name rs all.1 e) (r.parent == q) refl (with_entry_name t r) refl found
  where
    others : List NamedEntry
    others = filter_map (with_entry_name t) (filter (λ (x : Content). x.parent == q) rs)

    by_key : (row_at by_entry_name name others ≡ Some e → IsNamed t q name e) → r.parent ≡ q → (y : NamedEntry) → with_entry_name t r ≡ Some y
        → (b : Bool) → has_key by_entry_name name y ≡ b → cond b (Some y) (row_at by_entry_name name others) ≡ Some e → IsNamed t q name e
    by_key rest own y is true here one =
        let same : y ≡ e = cc one in
        let row : e.row ≡ r = row_of r (name_at t r.name_id) e (is ∙ ap Some same) in
        record {
          parent = ap (λ (x : Content). x.parent) row ∙ own;
          makes = ap (with_entry_name t) row ∙ is ∙ ap Some same;
          called = slice_cmp-IsAntisymmetric nat_cmp-IsAntisymmetric name y.name (equal_from_is_eq (bytes_cmp name y.name) here) ∙ ap (λ (x : NamedEntry). x.name) same;
          there = subst (λ (x : Content). IsThere t x) (sym row) all.0;
        }
    by_key rest own y is false here one = rest one

    by_case : (row_at by_entry_name name others ≡ Some e → IsNamed t q name e) → (b : Bool) → (r.parent == q) ≡ b → (made : Option NamedEntry) → with_entry_name t r ≡ made
        → row_at by_entry_name name (filter_map (with_entry_name t) (cond b (r ∷ filter (λ (x : Content). x.parent == q) rs) (filter (λ (x : Content). x.parent == q) rs))) ≡ Some e
        → IsNamed t q name e
    by_case rest false own made is one = rest one
    by_case rest true own None is one = rest (ap (λ (y : Option NamedEntry). row_at by_entry_name name (cons_option y others)) (sym is) ∙ one)
    by_case rest true own (Some y) is one =
        by_key rest (eqb-true r.parent q own) y is (has_key by_entry_name name y) refl (ap (λ (z : Option NamedEntry). row_at by_entry_name name (cons_option z others)) (sym is) ∙ one)

pub named_is : (t : Tables) → IsValid t → (q : ℕ) (name : List ℕ) (e : NamedEntry) → named_at t q name ≡ Some e → IsNamed t q name e
named_is t v q name e found =
    named_in t q name t.contents (row_at_own by_entry pair_cmp_total t.contents v.ordered.contents) e
    (sym (row_at-sorted_by by_entry_name nat_list_cmp_total name (filter_map (with_entry_name t) (filter (λ (r : Content). r.parent == q) t.contents))) ∙ found)

pub one_named : (t : Tables) (q p : ℕ) (name other : List ℕ) (e f : NamedEntry) → IsNamed t q name e → IsNamed t p other f → e.row ≡ f.row → e ≡ f
one_named t q p name other e f first second same =
    let both : Some e ≡ Some f = sym first.makes ∙ ap (with_entry_name t) same ∙ second.makes in
    cc both

-- ---- rows that are there, and have gone

apart_key : (t : Tables) (c x : Content) → IsThere t c → IsThere t x → (x ≡ c → ⊥) → is_eq (by_entry.compare (c.parent, c.name_id) (x.parent, x.name_id)) ≡ false
apart_key t c x there other apart = by_case (is_eq (by_entry.compare (c.parent, c.name_id) (x.parent, x.name_id))) refl
  where
    by_case : (b : Bool) → is_eq (by_entry.compare (c.parent, c.name_id) (x.parent, x.name_id)) ≡ b → b ≡ false
    by_case true is =
        let parts = pair_parts (c.parent, c.name_id) (x.parent, x.name_id) is in
        let both : Some x ≡ Some c = sym other ∙ (λ i. entry_at t (sym parts.0 i) (sym parts.1 i)) ∙ there in
        absurd (apart (cc both))
    by_case false is = refl

module _ (told u w : Tables) (c : Content) (there : IsThere told c) (leaves : Leaves u w c) where
  pub stays_there : (x : Content) → IsThere told x → (x ≡ c → ⊥) → IsThere u x → IsThere w x
  stays_there x told_too apart is =
      entry_left u w c leaves x.parent x.name_id ∙ ap (λ b. cond b None (entry_at u x.parent x.name_id)) (apart_key told c x there told_too apart) ∙ is

  pub stays_gone : (x : Content) → HasGone u x → HasGone w x
  stays_gone x gone = entry_left u w c leaves x.parent x.name_id ∙ either (is_eq (by_entry.compare (c.parent, c.name_id) (x.parent, x.name_id)))
    where
      either : (b : Bool) → cond b None (entry_at u x.parent x.name_id) ≡ None
      either true = refl
      either false = gone

  pub goes : HasGone w c
  goes = entry_left u w c leaves c.parent c.name_id ∙ ap (λ o. cond (is_eq o) None (entry_at u c.parent c.name_id)) (tied_itself pair_cmp_total (c.parent, c.name_id))

-- ---- each entry is listed

pub same_row : {R : Type 0} (alike : R → R → Bool) (p q : R → Bool) (rows : List R) (a b : R) → IsTrue (differ alike rows) → find p rows ≡ Some a → find q rows ≡ Some b
    → IsTrue (alike a b) → IsTrue (alike b a) → a ≡ b
same_row alike p q [] a b unlike first second one two = absurd (cc first)
same_row alike p q (r ∷ rs) a b unlike first second one two =
    by_case (λ x y. same_row alike p q rs a b parts.1 x y one two) (p r) first (q r) second
  where
    parts : IsTrue (not (list_any (alike r) rs)) × IsTrue (differ alike rs)
    parts = and_parts (not (list_any (alike r) rs)) (differ alike rs) unlike

    clash : {X : Type 0} (test : _ → Bool) (x y : _) → r ≡ x → find test rs ≡ Some y → IsTrue (alike x y) → X
    clash test x y same found like =
        let any : IsTrue (list_any (alike r) rs) = list_any_from_find test (alike r) rs y found (ap (λ z. alike z y) same ∙ like) in
        let both : false ≡ true = sym (ap not any) ∙ parts.0 in
        absurd (cc both)

    by_case : (find p rs ≡ Some a → find q rs ≡ Some b → a ≡ b) → (c : Bool) → cond c (Some r) (find p rs) ≡ Some a → (d : Bool) → cond d (Some r) (find q rs) ≡ Some b → a ≡ b
    by_case rest true x true y =
        let first_is : r ≡ a = cc x in
        let second_is : r ≡ b = cc y in
        sym first_is ∙ second_is
    by_case rest true x false y =
        let first_is : r ≡ a = cc x in
        clash q a b first_is y one
    by_case rest false x true y =
        let second_is : r ≡ b = cc y in
        clash p b a second_is x two
    by_case rest false x false y = rest x y

module _ (t : Tables) (whole : Tree) (v : IsValid t) (same : Represents t whole) where
  -- the entry of the tree that a row is
  pub entry_in_tree : (x : Content) → IsThere t x → tree.entry_at whole x.parent (bytes_of_name t x.name_id) ≡ Some x.inode
  entry_in_tree x there = own_entry t v whole same (has_key by_entry (x.parent, x.name_id)) x there

  pub name_in_tree : (q : ℕ) (name : List ℕ) (e : NamedEntry) → IsNamed t q name e → tree.entry_at whole q name ≡ Some e.row.inode
  name_in_tree q name e is =
      (λ i. tree.entry_at whole (sym is.parent i) ((is.called ∙ sym (bytes_found e.row (name_at t e.row.name_id) e is.makes)) i)) ∙ entry_in_tree e.row is.there

  pub listed : (x : Content) → IsThere t x → (e : NamedEntry) × (named_at t x.parent e.name ≡ Some e) × (e.row ≡ x)
  listed x there = held (named_at t x.parent text) refl (sym (entry_at-named_entries t whole same x.parent folder text) ∙ entry_in_tree x there)
    where
      text : List ℕ
      text = bytes_of_name t x.name_id

      finds : IsTrue (finds_of_entry t x)
      finds = find_passes_all (has_key by_entry (x.parent, x.name_id)) (finds_of_entry t) t.contents x v.rows.entries there

      folder : IsTrue (has_inode is_directory t x.parent)
      folder = (and_parts (has_inode is_directory t x.parent) (is_some (name_at t x.name_id)) (and_parts _ (has_inode any_kind t x.inode) finds).0).0

      held : (found : Option NamedEntry) → named_at t x.parent text ≡ found → option_map (λ (e : NamedEntry). e.row.inode) found ≡ Some x.inode
          → (e : NamedEntry) × (named_at t x.parent e.name ≡ Some e) × (e.row ≡ x)
      held None is one = absurd (cc one)
      held (Some e) is one =
          let own : IsNamed t x.parent text e = named_is t v x.parent text e is in
          let bytes : bytes_of_name t e.row.name_id ≡ text = bytes_found e.row (name_at t e.row.name_id) e own.makes ∙ sym own.called in
          let tied : is_eq (bytes_cmp text text) ≡ true = ap is_eq (tied_itself nat_list_cmp_total text) in
          let first : IsTrue (have_one_name t e.row x) =
          and_from (e.row.parent == x.parent) (is_eq (bytes_cmp (bytes_of_name t e.row.name_id) text)) (eq-eqb e.row.parent x.parent own.parent) (ap (λ y. is_eq (bytes_cmp y text)) bytes ∙ tied) in
          let second : IsTrue (have_one_name t x e.row) =
          and_from (x.parent == e.row.parent) (is_eq (bytes_cmp text (bytes_of_name t e.row.name_id))) (eq-eqb x.parent e.row.parent (sym own.parent)) (ap (λ y. is_eq (bytes_cmp text y)) bytes ∙ tied) in (
            e,
            ap (named_at t x.parent) (sym own.called) ∙ is,
            same_row (have_one_name t) (has_key by_entry (e.row.parent, e.row.name_id)) (has_key by_entry (x.parent, x.name_id)) t.contents e.row x v.tree.unlike own.there there first second,
          )

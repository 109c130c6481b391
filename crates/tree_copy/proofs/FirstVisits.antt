-- What an entry names is seen first, where it is a directory, or counts that entry alone.
use Rattle.std.proofs.Common.{◌≡◌, ◌≢◌, ◌≤◌, ℕ, ◌+◌, List, [], ◌∷◌, Bool, true, false, cond, Option, None, Some, refl, sym, ap, ◌∙◌, arith, eq-eqb, eqb-true}
use Rattle.std.proofs.lemmas.Bool.{and_parts, both_ways, false_from_ne_true}
use Rattle.std.proofs.lemmas.List.Sums.{sum_by-cons}
use Rattle.std.specs.FinMap.{nat_cmp-IsAntisymmetric, slice_cmp-IsAntisymmetric}
use Rattle.std.specs.Ordering.{is_eq}
use Rattle.std.specs.Prelude.{IsTrue, ◌==◌, count_by, find}
use Rattle.s3_base.specs.Numbers.{root}
use Rattle.s3_base.specs.declared.node_kind.Kind.TheVariants as kinds
use Rattle.plain_tree.specs.Below.{at_and_below, is_among}
use Rattle.plain_tree.specs.Entries.{entry_at}
use Rattle.plain_tree.specs.Tree.{Tree, node_at}
use Rattle.plain_tree.specs.WellFormed.{IsWellFormed}
use Rattle.s3_rows.specs.declared.lists.NamedEntry.{NamedEntry}
use Rattle.s3_rows.specs.Counts.{listed_inode_count}
use Rattle.s3_rows.specs.Keyed.{is_past}
use Rattle.s3_rows.specs.Rows.{Content, Inode}
use Rattle.s3_rows.specs.Selections.{by_entry_name, bytes_cmp, bytes_of_name, inode_at, named_entries}
use Rattle.s3_rows.specs.Tables.{Tables}
use Rattle.s3_rows.specs.Validity.{IsValid, has_inode, is_directory}
use Rattle.row_lemmas.proofs.Tests.{equal_from_is_eq, find_passes}
use Rattle.tree_laws.proofs.Node.Kind.{folder_kind, kind_in}
use Rattle.tree_laws.proofs.Shape.Below.{below_shape}
use Rattle.tree_laws.proofs.Shape.Definition.{grown_of}
use Rattle.tree_laws.proofs.Shape.Gain.{no_round}
use Rattle.tree_laws.proofs.Shape.Tree.{shape_of}
use Rattle.tree_laws.proofs.Shape.Words.{Grown, NoneGoes}
use Rattle.tree_rows.specs.Shapes.{Represents}
use Rattle.tree_rows.proofs.Listed.{is_entry}
use Rattle.tree_rows.proofs.Rooted.{stored_count}
use Rattle.tree_rows.proofs.Whole.{entry_found, folder_is}
use Rattle.tree_copy.specs.declared.walk.Level.{Level}
use Rattle.tree_copy.specs.CopiedRows.{Visit, all_seen, is_visited}
use Rattle.tree_copy.specs.CopyLevels.{HasCome, IsLevel}
use Rattle.tree_copy.proofs.CopyCome.{names, number}

-- ---- two rows that are found

count-cons : {X : Type 0} (p : X → Bool) (x : X) (xs : List X) → count_by p (x ∷ xs) ≡ cond (p x) 1 0 + count_by p xs
count-cons {X} p x xs =
    let one : X → ℕ = λ y. cond (p y) 1 0 in
    sum_by-cons one x xs

count_one : {X : Type 0} (q r : X → Bool) (xs : List X) (b : X) → find q xs ≡ Some b → r b ≡ true → 1 ≤ count_by r xs
count_one q r [] b is own = absurd (cc is)
count_one {X} q r (x ∷ xs) b is own = by_case (λ found. count_one q r xs b found own) (q x) is
  where
    by_case : (find q xs ≡ Some b → 1 ≤ count_by r xs) → (c : Bool) → cond c (Some x) (find q xs) ≡ Some b → 1 ≤ count_by r (x ∷ xs)
    by_case rest true found =
        let same : x ≡ b = cc found in
        let one : cond {A = ℕ} (r x) 1 0 ≡ 1 = ap (λ c. cond {A = ℕ} c 1 0) (ap r same ∙ own) in
        omega (arith, count-cons r x xs, one)
    by_case rest false found = omega (arith, count-cons r x xs, rest found)

count_two : {X : Type 0} (p q r : X → Bool) → ((x : X) → p x ≡ true → q x ≡ true → ⊥) → (xs : List X) (a b : X) → find p xs ≡ Some a → find q xs ≡ Some b
    → r a ≡ true → r b ≡ true → 2 ≤ count_by r xs
count_two p q r apart [] a b first second one two = absurd (cc first)
count_two {X} p q r apart (x ∷ xs) a b first second one two =
    by_case (λ f s. count_two p q r apart xs a b f s one two) (p x) refl first (q x) refl second
  where
    counted : (c : X) → x ≡ c → r c ≡ true → 1 ≤ count_by r xs → 2 ≤ count_by r (x ∷ xs)
    counted c same own rest =
        let here : cond {A = ℕ} (r x) 1 0 ≡ 1 = ap (λ d. cond {A = ℕ} d 1 0) (ap r same ∙ own) in
        omega (arith, count-cons r x xs, here, rest)

    by_case : (find p xs ≡ Some a → find q xs ≡ Some b → 2 ≤ count_by r xs) → (c : Bool) → p x ≡ c → cond c (Some x) (find p xs) ≡ Some a
        → (d : Bool) → q x ≡ d → cond d (Some x) (find q xs) ≡ Some b → 2 ≤ count_by r (x ∷ xs)
    by_case rest true is f true also s = absurd (apart x is also)
    by_case rest true is f false also s =
        let same : x ≡ a = cc f in
        counted a same one (count_one q r xs b s two)
    by_case rest false is f true also s =
        let same : x ≡ b = cc s in
        counted b same two (count_one p r xs a f one)
    by_case rest false is f false also s = omega (arith, count-cons r x xs, rest f s)

-- ---- of a tree

module _ (told : Tables) (whole : Tree) (v : IsValid told) (same : Represents told whole) (well : IsWellFormed whole) (top : ℕ)
    (top_folder : IsTrue (has_inode is_directory told top)) (visits : List Visit) (l : Level) (levels : List Level) (come : HasCome told whole top visits (l ∷ levels))
    (e : NamedEntry) (next : find (is_past by_entry_name l.last) (named_entries told l.directory) ≡ Some e) (r : Inode) (there : inode_at told e.row.inode ≡ Some r) where
  abbrev seen : List ℕ
  seen = all_seen (top ∷ []) visits

  grown : Grown NoneGoes (shape_of whole)
  grown = grown_of whole well.nodes well.names well.tree well.orphans

  names_it : entry_at whole l.directory e.name ≡ Some r.id
  names_it = names told whole v same well top top_folder visits l levels come e next r there

  level : IsLevel told whole.next_inode seen visits l
  level = come.levels_are.0

  -- no entry at or below the first directory names that
  not_top : r.id ≢ top
  not_top here =
      let folder : kind_in (node_at whole top) ≡ Some kinds.Directory = folder_kind (node_at whole top) (folder_is told whole same top ∙ top_folder) in
      no_round NoneGoes (shape_of whole) top (is_among (at_and_below whole top)) (below_shape whole well.names top) grown (λ no. no) folder l.directory e.name
      (come.below l.directory level.seen_before) (names_it ∙ ap Some here)

  last_less : IsTrue (is_past by_entry_name l.last e)
  last_less = find_passes (is_past by_entry_name l.last) (named_entries told l.directory) e next

  -- an entry that was visited is another
  not_visited : (d : ℕ) (name : List ℕ) → is_visited visits d name ≡ true → d ≡ l.directory → name ≡ e.name → ⊥
  not_visited d name is own text =
      both_ways (is_visited visits l.directory e.name) (level.behind e.name last_less) ((λ i. is_visited visits (sym own i) (sym text i)) ∙ is)

  from_seen : (X : Type 0) → is_among seen r.id ≡ true → ((d : ℕ) (name : List ℕ) → is_visited visits d name ≡ true → entry_at whole d name ≡ Some r.id → X) → X
  from_seen X among then =
      let from = come.named r.id among not_top in
      then from.0 from.1 from.2 from.3

  pub directory_is_new : IsTrue (is_directory r.kind) → is_among seen r.id ≡ false
  directory_is_new folder =
      false_from_ne_true (is_among seen r.id) (λ among. from_seen ⊥ among (λ d name is also.
      let kind : kind_in (node_at whole r.id) ≡ Some kinds.Directory =
      folder_kind (node_at whole r.id)
      (folder_is told whole same r.id
      ∙ ap (λ (found : Option Inode). elim found [ Some y ↦ is_directory y.kind | None ↦ false ]) (ap (inode_at told) (sym (number told whole v same well top top_folder visits l levels come e next r there)) ∙ there) ∙ folder) in
      let one = grown.once l.directory d r.id e.name name kind names_it also in
      not_visited d name is one.0 one.1))

  -- no row is an entry of two places
  one_place : (d : ℕ) (name : List ℕ) (x : Content) → is_entry told l.directory e.name x ≡ true → is_entry told d name x ≡ true → (d ≡ l.directory) × (name ≡ e.name)
  one_place d name x first second =
      let one = and_parts (x.parent == l.directory) (is_eq (bytes_cmp e.name (bytes_of_name told x.name_id))) first in
      let two = and_parts (x.parent == d) (is_eq (bytes_cmp name (bytes_of_name told x.name_id))) second in (
        sym (eqb-true x.parent d two.0) ∙ eqb-true x.parent l.directory one.0,
        text name two.1 ∙ sym (text e.name one.1),
      )
    where
      text : (n : List ℕ) → IsTrue (is_eq (bytes_cmp n (bytes_of_name told x.name_id))) → n ≡ bytes_of_name told x.name_id
      text n is = slice_cmp-IsAntisymmetric nat_cmp-IsAntisymmetric n (bytes_of_name told x.name_id) (equal_from_is_eq (bytes_cmp n (bytes_of_name told x.name_id)) is)

  pub single_is_new : r.refcount ≡ 1 → is_among seen r.id ≡ false
  single_is_new once =
      false_from_ne_true (is_among seen r.id) (λ among. from_seen ⊥ among (λ d name is also.
      let first = entry_found told whole same v.rows.entries l.directory r.id e.name names_it in
      let second = entry_found told whole same v.rows.entries d r.id name also in
      let two = count_two (is_entry told l.directory e.name) (is_entry told d name) (λ (c : Content). c.inode == r.id)
      (λ x one other.
      let place = one_place d name x one other in
      not_visited d name is place.0 place.1) told.contents first.0 second.0 first.1 second.1 (eq-eqb first.0.inode r.id first.2) (eq-eqb second.0.inode r.id second.2) in
      let count = stored_count told r.id r v (ap (inode_at told) (sym (number told whole v same well top top_folder visits l levels come e next r there)) ∙ there) in
      let inner : (r.id == root) ≡ false = false_from_ne_true (r.id == root) (λ here. grown.top l.directory e.name (names_it ∙ ap Some (eqb-true r.id root here))) in
      let listed : listed_inode_count told r.id ≡ count_by (λ (c : Content). c.inode == r.id) told.contents =
      ap (λ b. cond b 1 (count_by (λ (c : Content). c.inode == r.id) told.contents)) inner in
      omega (arith, once, count, listed, two)))

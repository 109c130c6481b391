-- The entries that name a copy are fewer than those that name its original, until all of these are visited.
use Rattle.std.proofs.Common.{◌≡◌, ◌≢◌, ◌≤◌, ◌<◌, inl, inr, ℕ, ◌+◌, ◌^◌, List, [], ◌∷◌, ◌++◌, Bool, true, false, cond, Some, refl, sym, ap, ◌∙◌, subst, arith, eq-eqb, eqb-true, lt-ltb}
use Rattle.std.proofs.lemmas.Bool.{and_from, and_parts, both_ways, false_from_ne_true, or_cases, or_left, or_right}
use Rattle.std.proofs.lemmas.Cmp.{nat_list_cmp_total}
use Rattle.std.proofs.lemmas.List.{append_assoc}
use Rattle.std.proofs.lemmas.List.Sums.{sum_by-cons}
use Rattle.std.specs.Cmp.{tied_itself}
use Rattle.std.specs.FinMap.{nat_cmp-IsAntisymmetric, slice_cmp-IsAntisymmetric}
use Rattle.std.specs.List.{list_any}
use Rattle.std.specs.Ordering.{is_eq}
use Rattle.std.specs.Prelude.{IsTrue, ◌&&◌, ◌||◌, ◌==◌, count_by, find, not}
use Rattle.s3_base.specs.Numbers.{root}
use Rattle.s3_base.specs.declared.node_kind.Kind.TheVariants as kinds
use Rattle.plain_tree.specs.Below.{at_and_below, is_among, is_at_or_below}
use Rattle.plain_tree.specs.Entries.{entry_at}
use Rattle.plain_tree.specs.Subtrees.{copy_number}
use Rattle.plain_tree.specs.Tree.{Tree, node_at}
use Rattle.s3_rows.specs.declared.change.Change.{Change}
use Rattle.s3_rows.specs.declared.change.Change.TheVariants as changes
use Rattle.s3_rows.specs.declared.lists.NamedEntry.{NamedEntry}
use Rattle.s3_rows.specs.Batches.{tables_after}
use Rattle.s3_rows.specs.Counts.{listed_inode_count}
use Rattle.s3_rows.specs.Keyed.{is_past}
use Rattle.s3_rows.specs.Rows.{Content, Inode, Parameters}
use Rattle.s3_rows.specs.Selections.{by_entry_name, bytes_cmp, bytes_of_name, inode_at, named_entries}
use Rattle.s3_rows.specs.Tables.{Tables}
use Rattle.row_lemmas.proofs.Tables.{tables_after-tables_after}
use Rattle.row_lemmas.proofs.Tests.{equal_from_is_eq, find_passes}
use Rattle.tree_laws.proofs.Node.Kind.{folder_kind, kind_in}
use Rattle.tree_laws.proofs.Shape.Below.{below_shape}
use Rattle.tree_laws.proofs.Shape.Definition.{grown_of}
use Rattle.tree_laws.proofs.Shape.Gain.{no_round}
use Rattle.tree_laws.proofs.Shape.Tree.{shape_of}
use Rattle.tree_laws.proofs.Shape.Words.{Grown, NoneGoes}
use Rattle.tree_rows.proofs.Listed.{is_entry}
use Rattle.tree_rows.proofs.Rooted.{stored_count}
use Rattle.tree_rows.proofs.Whole.{entry_found, folder_is, number_of}
use Rattle.row_steps.specs.RowChanges.{touched_row}
use Rattle.tree_copy.specs.declared.walk.Level.{Level}
use Rattle.tree_copy.specs.CopiedNames.{may_link}
use Rattle.tree_copy.specs.CopiedRows.{AreVisits, IsVisit, Visit, all_seen, copied_row, entry_copied, is_visited, names_copied, names_fit, node_copied, seen_after, source_copied, visits_copied}
use Rattle.tree_copy.specs.CopyLevels.{HasCome, visit_of}
use Rattle.tree_copy.specs.CopyPlans.{IsCopyable}
use Rattle.tree_copy.specs.CopySteps.{inodes_seen}
use Rattle.tree_copy.proofs.CopiedNames.{fits_parent}
use Rattle.tree_copy.proofs.CopyCome.{is_visit}
use Rattle.tree_copy.proofs.CopyMade.{takes, top_folder}
use Rattle.tree_copy.proofs.CountedLinks.{AreCounted, counted_all, entry_inodes, moved, node_inodes, times, times-last, unmoved}
use Rattle.tree_copy.proofs.Visits.{list_any-last, listed_entry}

-- ---- counts

count-cons : {X : Type 0} (p : X → Bool) (x : X) (xs : List X) → count_by p (x ∷ xs) ≡ cond (p x) 1 0 + count_by p xs
count-cons {X} p x xs =
    let one : X → ℕ = λ y. cond (p y) 1 0 in
    sum_by-cons one x xs

count_weaker : {X : Type 0} (p q : X → Bool) → ((x : X) → p x ≡ true → q x ≡ true) → (xs : List X) → count_by p xs ≤ count_by q xs
count_weaker p q follows [] = omega arith
count_weaker p q follows (x ∷ xs) = by_case (count_weaker p q follows xs) (p x) refl (q x) refl
  where
    by_case : count_by p xs ≤ count_by q xs → (a : Bool) → p x ≡ a → (b : Bool) → q x ≡ b → count_by p (x ∷ xs) ≤ count_by q (x ∷ xs)
    by_case rest a one true two =
        let more : cond {A = ℕ} (q x) 1 0 ≡ 1 = ap (λ c. cond {A = ℕ} c 1 0) two in
        omega (arith, count-cons p x xs, count-cons q x xs, rest, more, small (p x))
      where
        small : (b : Bool) → cond {A = ℕ} b 1 0 ≤ 1
        small true = omega arith
        small false = omega arith
    by_case rest true one false two = absurd (both_ways (q x) two (follows x one))
    by_case rest false one false two =
        let none : cond {A = ℕ} (p x) 1 0 ≡ 0 = ap (λ c. cond {A = ℕ} c 1 0) one in
        omega (arith, count-cons p x xs, count-cons q x xs, rest, none)

-- one that passes is found by another test
count_less : {X : Type 0} (s q : X → Bool) (xs : List X) (y : X) → find q xs ≡ Some y → s y ≡ true → count_by (λ x. s x && not (q x)) xs + 1 ≤ count_by s xs
count_less s q [] y is own = absurd (cc is)
count_less {X} s q (x ∷ xs) y is own = by_case (λ found. count_less s q xs y found own) (q x) refl is (s x) refl
  where
    by_case : (find q xs ≡ Some y → count_by (λ z. s z && not (q z)) xs + 1 ≤ count_by s xs) → (b : Bool) → q x ≡ b → cond b (Some x) (find q xs) ≡ Some y
        → (c : Bool) → s x ≡ c → count_by (λ z. s z && not (q z)) (x ∷ xs) + 1 ≤ count_by s (x ∷ xs)
    by_case rest true at found c here =
        let same : x ≡ y = cc found in
        let none : cond {A = ℕ} (s x && not (q x)) 1 0 ≡ 0 = (λ i. cond {A = ℕ} (s x && not (at i)) 1 0) ∙ zero_and (s x) in
        let one : cond {A = ℕ} (s x) 1 0 ≡ 1 = ap (λ b. cond {A = ℕ} b 1 0) (ap s same ∙ own) in
        omega (arith, count-cons (λ z. s z && not (q z)) x xs, count-cons s x xs, none, one, count_weaker (λ z. s z && not (q z)) s (λ z both. (and_parts (s z) (not (q z)) both).0) xs)
      where
        zero_and : (b : Bool) → cond {A = ℕ} (b && false) 1 0 ≡ 0
        zero_and true = refl
        zero_and false = refl
    by_case rest false at found true here =
        let first : cond {A = ℕ} (s x && not (q x)) 1 0 ≡ 1 = (λ i. cond {A = ℕ} (here i && not (at i)) 1 0) in
        let one : cond {A = ℕ} (s x) 1 0 ≡ 1 = ap (λ b. cond {A = ℕ} b 1 0) here in
        omega (arith, count-cons (λ z. s z && not (q z)) x xs, count-cons s x xs, first, one, rest found)
    by_case rest false at found false here =
        let first : cond {A = ℕ} (s x && not (q x)) 1 0 ≡ 0 = (λ i. cond {A = ℕ} (here i && not (at i)) 1 0) in
        let one : cond {A = ℕ} (s x) 1 0 ≡ 0 = ap (λ b. cond {A = ℕ} b 1 0) here in
        omega (arith, count-cons (λ z. s z && not (q z)) x xs, count-cons s x xs, first, one, rest found)

-- ---- entries that are visited

module _ (told : Tables) where
  abbrev entered : List Visit → Content → Bool
  entered done c = list_any (λ v. is_entry told v.directory v.entry.name c) done

  one_text : (n : List ℕ) (c : Content) → IsTrue (is_eq (bytes_cmp n (bytes_of_name told c.name_id))) → n ≡ bytes_of_name told c.name_id
  one_text n c is = slice_cmp-IsAntisymmetric nat_cmp-IsAntisymmetric n (bytes_of_name told c.name_id) (equal_from_is_eq (bytes_cmp n (bytes_of_name told c.name_id)) is)

  -- a row of a visited entry is that of no other
  entered_visited : (done : List Visit) (c : Content) (d : ℕ) (name : List ℕ) → is_entry told d name c ≡ true → entered done c ≡ true → is_visited done d name ≡ true
  entered_visited [] c d name own is = absurd (cc is)
  entered_visited (w ∷ done) c d name own is =
      elim (or_cases (is_entry told w.directory w.entry.name c) (entered done c) is) [
        | inl here ↦
            let one = and_parts (c.parent == d) (is_eq (bytes_cmp name (bytes_of_name told c.name_id))) own in
            let two = and_parts (c.parent == w.directory) (is_eq (bytes_cmp w.entry.name (bytes_of_name told c.name_id))) here in
            let folder : d ≡ w.directory = sym (eqb-true c.parent d one.0) ∙ eqb-true c.parent w.directory two.0 in
            let text : w.entry.name ≡ name = one_text w.entry.name c two.1 ∙ sym (one_text name c one.1) in
            or_left (d == w.directory && is_eq (bytes_cmp name w.entry.name)) (is_visited done d name)
            (and_from (d == w.directory) (is_eq (bytes_cmp name w.entry.name)) (eq-eqb d w.directory folder)
            (ap (λ n. is_eq (bytes_cmp name n)) text ∙ ap is_eq (tied_itself nat_list_cmp_total name)))
        | inr later ↦ or_right (d == w.directory && is_eq (bytes_cmp name w.entry.name)) (is_visited done d name) (entered_visited done c d name own later)
      ]

  -- those that name an inode, and are not visited
  abbrev is_left : ℕ → List Visit → Content → Bool
  is_left x done c = c.inode == x && not (entered done c)

  abbrev AreLeft : ℕ → List Visit → Type 0
  AreLeft x done = times done x + count_by (λ (c : Content). c.inode == x && not (entered done c)) told.contents ≤ count_by (λ (c : Content). c.inode == x) told.contents

  left_none : (x : ℕ) → AreLeft x []
  left_none x =
      omega (arith, count_weaker (λ (c : Content). c.inode == x && true) (λ (c : Content). c.inode == x) (λ c both. (and_parts (c.inode == x) true both).0) told.contents)

  still_left : (x : ℕ) (done : List Visit) (v : Visit) (c : Content) → is_left x (done ++ v ∷ []) c ≡ true
      → (is_left x done c && not (is_entry told v.directory v.entry.name c)) ≡ true
  still_left x done v c is =
      let parts = and_parts (c.inode == x) (not (entered (done ++ v ∷ []) c)) is in
      let apart = neither (entered done c) (is_entry told v.directory v.entry.name c) (ap not (sym (list_any-last (λ w. is_entry told w.directory w.entry.name c) done v)) ∙ parts.1) in
      and_from (is_left x done c) (not (is_entry told v.directory v.entry.name c)) (and_from (c.inode == x) (not (entered done c)) parts.0 apart.0) apart.1
    where
      neither : (a b : Bool) → not (a || b) ≡ true → (not a ≡ true) × (not b ≡ true)
      neither true b none = absurd (cc none)
      neither false b none = (refl, none)

  left_more : (x : ℕ) (done : List Visit) (v : Visit) → AreLeft x done
      → (v.child.id ≡ x → (c : Content) × (find (is_entry told v.directory v.entry.name) told.contents ≡ Some c) × (c.inode ≡ v.child.id))
      → is_visited done v.directory v.entry.name ≡ false → AreLeft x (done ++ v ∷ [])
  left_more x done v left row new = by_case (v.child.id == x) refl
    where
      now_left : count_by (is_left x (done ++ v ∷ [])) told.contents ≤ count_by (λ c. is_left x done c && not (is_entry told v.directory v.entry.name c)) told.contents
      now_left = count_weaker (is_left x (done ++ v ∷ [])) (λ c. is_left x done c && not (is_entry told v.directory v.entry.name c)) (still_left x done v) told.contents

      by_case : (b : Bool) → (v.child.id == x) ≡ b → AreLeft x (done ++ v ∷ [])
      by_case true is =
          let found = row (eqb-true v.child.id x is) in
          let entry : is_entry told v.directory v.entry.name found.0 ≡ true = find_passes (is_entry told v.directory v.entry.name) told.contents found.0 found.1 in
          let out : entered done found.0 ≡ false =
          false_from_ne_true (entered done found.0) (λ inside. both_ways (is_visited done v.directory v.entry.name) new (entered_visited done found.0 v.directory v.entry.name entry inside)) in
          let own : is_left x done found.0 ≡ true = and_from (found.0.inode == x) (not (entered done found.0)) (eq-eqb found.0.inode x (found.2 ∙ eqb-true v.child.id x is)) (ap not out) in
          let more : times (done ++ v ∷ []) x ≡ times done x + 1 = times-last done v x ∙ ap (λ b. times done x + cond {A = ℕ} b 1 0) is in
          omega (arith, left, now_left, more, count_less (is_left x done) (is_entry told v.directory v.entry.name) told.contents found.0 found.1 own)
      by_case false is =
          let more : times (done ++ v ∷ []) x ≡ times done x + 0 = times-last done v x ∙ ap (λ b. times done x + cond {A = ℕ} b 1 0) is in
          omega (
            arith,
            left,
            now_left,
            more,
            count_weaker (λ c. is_left x done c && not (is_entry told v.directory v.entry.name c)) (is_left x done)
                (λ c both. (and_parts (is_left x done c) (not (is_entry told v.directory v.entry.name c)) both).0) told.contents,
          )

-- ---- of a tree

module _ (told : Tables) (whole : Tree) (source parent now : ℕ) (name : List ℕ) (top directory : Inode) (p : Parameters)
    (k : IsCopyable told whole source parent name top directory p) where
  named : (seen : List ℕ) (v : Visit) → IsVisit told seen v → entry_at whole v.directory v.entry.name ≡ Some v.child.id
  named seen v is = listed_entry told whole k.same v.directory v.entry.name v.entry is.folder is.named ∙ ap Some (number_of told v.entry.row.inode v.child is.child)

  left_all : (x : ℕ) (visits : List Visit) (seen : List ℕ) (done : List Visit) → AreVisits told seen done visits → AreLeft told x done → AreLeft told x (done ++ visits)
  left_all x [] seen done are left = subst (AreLeft told x) (sym (nil done)) left
    where
      nil : (ds : List Visit) → ds ++ [] ≡ ds
      nil [] = refl
      nil (d ∷ ds) = ap (λ xs. d ∷ xs) (nil ds)
  left_all x (v ∷ visits) seen done are left =
      subst (AreLeft told x) (append_assoc done (v ∷ []) visits)
      (left_all x visits (seen_after seen v) (done ++ v ∷ []) are.2
      (left_more told x done v left (λ own. entry_found told whole k.same k.valid.rows.entries v.directory v.child.id v.entry.name (named seen v are.0)) are.1))

  grown : Grown NoneGoes (shape_of whole)
  grown = grown_of whole k.well.nodes k.well.names k.well.tree k.well.orphans

  -- nothing in the tree names the source
  not_source : (d : ℕ) (n : List ℕ) → is_at_or_below whole top.id d ≡ true → entry_at whole d n ≡ Some top.id → ⊥
  not_source d n below names =
      let folder : kind_in (node_at whole top.id) ≡ Some kinds.Directory =
      folder_kind (node_at whole top.id) (folder_is told whole k.same top.id ∙ top_folder told whole source parent now name top directory p k) in
      no_round NoneGoes (shape_of whole) top.id (is_among (at_and_below whole top.id)) (below_shape whole k.well.names top.id) grown (λ no. no) folder d n below names

  abbrev next : ℕ
  next = whole.next_inode

  abbrev first : List Change
  first = source_copied told whole.next_inode now top directory name

  counted_source : AreCounted whole.next_inode now top (top.id ∷ []) [] (tables_after (source_copied told whole.next_inode now top directory name) told)
  counted_source =
      let node : List Change = node_copied told whole.next_inode now top told in
      let entry : List Change = entry_copied directory.id name whole.next_inode (tables_after node told) in
      let x : Tables = tables_after (node ++ entry) told in
      let joined : tables_after entry (tables_after node told) ≡ x = tables_after-tables_after node entry told in
      let last : tables_after (changes.PutInode (touched_row now directory) ∷ []) x ≡ tables_after (source_copied told whole.next_inode now top directory name) told =
      tables_after-tables_after (node ++ entry) (changes.PutInode (touched_row now directory) ∷ []) told in
      let own : inode_at x whole.next_inode ≡ Some (copied_row whole.next_inode now top) =
      moved told whole.next_inode now top (copied_row whole.next_inode now top) told x
      (sym (ap (λ (t : Tables). t.inodes) joined) ∙ entry_inodes directory.id whole.next_inode name (tables_after node told) ∙ node_inodes told whole.next_inode now top told) in
      record {
        rows = λ y among other. absurd (other (sym (eqb-true top.id y (sym (or_none (top.id == y)) ∙ among))));
        none = λ y other. refl;
        source = or_left (top.id == top.id) false (eq-eqb top.id top.id refl);
        first = ap (λ b. whole.next_inode + cond {A = ℕ} b 0 1) (eq-eqb top.id top.id refl) ∙ omega arith;
        source_row =
            unmoved told whole.next_inode now top whole.next_inode (touched_row now directory) x (tables_after (source_copied told whole.next_inode now top directory name) told)
            (sym (ap (λ (t : Tables). t.inodes) last))
            (λ here.
            let number : parent ≡ directory.id = number_of told parent directory k.parent_found in
            let less : parent < whole.next_inode =
            fits_parent told whole k.valid k.unique k.same k.well source parent now name (takes told whole source parent now name top directory p k) directory top k.parent_found k.source_found in
            omega (arith, here, number, less))
            ∙ own;
      }
    where
      or_none : (b : Bool) → (b || false) ≡ b
      or_none true = refl
      or_none false = refl

  -- the rows of all copies so far
  pub counted_so_far : (visits : List Visit) → AreVisits told (top.id ∷ []) [] visits
      → ((x : ℕ) → is_among (all_seen (top.id ∷ []) visits) x ≡ true → is_at_or_below whole top.id x ≡ true)
      → AreCounted whole.next_inode now top (inodes_seen top visits) visits (tables_after (names_copied told whole.next_inode now top directory name visits) told)
  counted_so_far visits are below =
      subst (λ (w : Tables). AreCounted whole.next_inode now top (inodes_seen top visits) visits w) (tables_after-tables_after first rest told)
      (counted_all told whole.next_inode now top visits (top.id ∷ []) [] (tables_after first told) are
      (λ w s is grows same. not_source w.directory w.entry.name (below w.directory (grows w.directory is.seen_before)) (named s w is ∙ ap Some same)) counted_source)
    where
      rest : List Change
      rest = visits_copied told whole.next_inode now (top.id ∷ []) visits (tables_after first told)

  pub links_fit : (visits : List Visit) (l : Level) (levels : List Level) → HasCome told whole top.id visits (l ∷ levels) → (e : NamedEntry)
      → find (is_past by_entry_name l.last) (named_entries told l.directory) ≡ Some e → (r : Inode) → inode_at told e.row.inode ≡ Some r → r.refcount < 2 ^ 62
      → IsTrue (names_fit told whole.next_inode now top directory name visits) → is_among (inodes_seen top visits) r.id ≡ true
      → may_link (inode_at (tables_after (names_copied told whole.next_inode now top directory name visits) told) (copy_number whole.next_inode (inodes_seen top visits) r.id)) ≡ true
  links_fit visits l levels come e next_is r there few fits among =
      let folder = top_folder told whole source parent now name top directory p k in
      let visit : IsVisit told (all_seen (top.id ∷ []) visits) (visit_of l e r) = is_visit told whole k.valid k.same k.well top.id folder visits l levels come e next_is r there in
      let names : entry_at whole l.directory e.name ≡ Some r.id = named (all_seen (top.id ∷ []) visits) (visit_of l e r) visit in
      let new : is_visited visits l.directory e.name ≡ false =
      come.levels_are.0.behind e.name (find_passes (is_past by_entry_name l.last) (named_entries told l.directory) e next_is) in
      let counted = counted_so_far visits come.each come.below in
      let not_top : r.id ≢ top.id = λ same. not_source l.directory e.name (come.below l.directory visit.seen_before) (names ∙ ap Some same) in
      let row = counted.rows r.id among not_top in
      let left : AreLeft told r.id visits = left_all r.id visits (top.id ∷ []) [] come.each (left_none told r.id) in
      let later : AreLeft told r.id (visits ++ visit_of l e r ∷ []) =
      left_more told r.id visits (visit_of l e r) left (λ own. entry_found told whole k.same k.valid.rows.entries l.directory r.id e.name names) new in
      let one : times (visits ++ visit_of l e r ∷ []) r.id ≡ times visits r.id + 1 =
      times-last visits (visit_of l e r) r.id ∙ ap (λ b. times visits r.id + cond {A = ℕ} b 1 0) (eq-eqb r.id r.id refl) in
      let count = stored_count told r.id r k.valid (ap (inode_at told) (sym (number_of told e.row.inode r there)) ∙ there) in
      let inner : (r.id == root) ≡ false = false_from_ne_true (r.id == root) (λ here. grown.top l.directory e.name (names ∙ ap Some (eqb-true r.id root here))) in
      let listed : listed_inode_count told r.id ≡ count_by (λ (c : Content). c.inode == r.id) told.contents =
      ap (λ b. cond b 1 (count_by (λ (c : Content). c.inode == r.id) told.contents)) inner in
      ap may_link row.1 ∙ lt-ltb (row.0.refcount + 1) (2 ^ 62) (omega (arith, few, row.2, later, one, count, listed))

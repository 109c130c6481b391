-- How often the visits of a copy come to an entry of a name.
use Rattle.std.proofs.Common.{◌≡◌, ℕ, ◌+◌, List, [], ◌∷◌, ◌++◌, Bool, true, false, cond, inl, inr, refl, sym, ap, ◌∙◌, arith, eqb-true}
use Rattle.std.proofs.lemmas.Bool.{and_parts, both_ways, or_cases, or_left, or_right}
use Rattle.std.proofs.lemmas.List.Folds.{list_any-append}
use Rattle.std.proofs.lemmas.List.Sums.{sum_by-cons, sum_by_push}
use Rattle.std.specs.FinMap.{nat_cmp-IsAntisymmetric, slice_cmp-IsAntisymmetric}
use Rattle.std.specs.List.{AllByRecursion}
use Rattle.std.specs.Ordering.{is_eq}
use Rattle.std.specs.Prelude.{IsTrue, ◌&&◌, ◌||◌, ◌==◌, count_by, is_some, sum_by}
use Rattle.plain_tree.specs.Below.{is_among}
use Rattle.s3_rows.specs.Keyed.{row_at}
use Rattle.s3_rows.specs.Selections.{by_entry_name, bytes_cmp, inode_at, named_entries}
use Rattle.s3_rows.specs.Tables.{Tables}
use Rattle.s3_rows.specs.Validity.{has_inode, is_directory}
use Rattle.row_lemmas.proofs.Sums.{sum_by_agree, sum_by_comm}
use Rattle.row_lemmas.proofs.Tests.{equal_from_is_eq}
use Rattle.tree_rows.proofs.Whole.{number_of}
use Rattle.tree_copy.specs.CopiedRows.{AreVisits, Visit, all_seen, is_visited, seen_after}

-- ---- one entry

module _ (t : Tables) (x : ℕ) (b : List ℕ) where
  -- the visit is of the inode's entry of this name
  abbrev pub is_of : Visit → Bool
  is_of v = x == v.directory && is_eq (bytes_cmp b v.entry.name)

  of_both : (v : Visit) → is_of v ≡ true → (x ≡ v.directory) × (b ≡ v.entry.name)
  of_both v is =
      let parts = and_parts (x == v.directory) (is_eq (bytes_cmp b v.entry.name)) is in
      (eqb-true x v.directory parts.0, slice_cmp-IsAntisymmetric nat_cmp-IsAntisymmetric b v.entry.name (equal_from_is_eq (bytes_cmp b v.entry.name) parts.1))

  -- an entry is visited once
  none_again : (visits : List Visit) (seen : List ℕ) (done : List Visit) → AreVisits t seen done visits → is_visited done x b ≡ true → is_visited visits x b ≡ false
  none_again [] seen done are before = refl
  none_again (v ∷ visits) seen done are before =
      by_test
      (none_again visits (seen_after seen v) (done ++ v ∷ []) are.2 (list_any-append is_of done (v ∷ []) ∙ or_left (is_visited done x b) (is_visited (v ∷ []) x b) before))
      (is_of v) refl
    where
      by_test : is_visited visits x b ≡ false → (c : Bool) → is_of v ≡ c → (c || is_visited visits x b) ≡ false
      by_test later false is = later
      by_test later true is =
          let same = of_both v is in
          let both : is_visited done x b ≡ is_visited done v.directory v.entry.name = λ i. is_visited done (same.0 i) (same.1 i) in
          absurd (both_ways (is_visited done v.directory v.entry.name) are.1 (sym both ∙ before))

  pub count_by-visited : (visits : List Visit) (seen : List ℕ) (done : List Visit) → AreVisits t seen done visits → count_by is_of visits ≡ cond (is_visited visits x b) 1 0
  count_by-visited [] seen done are = refl
  count_by-visited (v ∷ visits) seen done are =
      sum_by-cons one v visits ∙ by_test (count_by-visited visits (seen_after seen v) (done ++ v ∷ []) are.2) (is_of v) refl
    where
      one : Visit → ℕ
      one w = cond (is_of w) 1 0

      by_test : count_by is_of visits ≡ cond (is_visited visits x b) 1 0 → (c : Bool) → is_of v ≡ c → cond c 1 0 + count_by is_of visits ≡ cond (c || is_visited visits x b) 1 0
      by_test rest false is = omega (arith, rest)
      by_test rest true is =
          let here : is_visited (done ++ v ∷ []) x b ≡ true =
          list_any-append is_of done (v ∷ []) ∙ or_right (is_visited done x b) (is_visited (v ∷ []) x b) (ap (λ c. c || false) is) in
          let none : is_visited visits x b ≡ false = none_again visits (seen_after seen v) (done ++ v ∷ []) are.2 here in
          let zero : count_by is_of visits ≡ 0 = rest ∙ ap (λ c. cond c 1 0) none in
          omega (arith, zero)

  -- what is visited is there
  pub visited_there : (visits : List Visit) (seen : List ℕ) (done : List Visit) → AreVisits t seen done visits → is_visited visits x b ≡ true
      → IsTrue (has_inode is_directory t x) × IsTrue (is_some (row_at by_entry_name b (named_entries t x)))
  visited_there [] seen done are is = absurd (cc is)
  visited_there (v ∷ visits) seen done are is =
      elim (or_cases (is_of v) (is_visited visits x b) is) [
        | inl here ↦ (
          ap (has_inode is_directory t) (of_both v here).0 ∙ are.0.folder,
          (λ i. is_some (row_at by_entry_name ((of_both v here).1 i) (named_entries t ((of_both v here).0 i)))) ∙ ap is_some are.0.named,
        )
        | inr later ↦ visited_there visits (seen_after seen v) (done ++ v ∷ []) are.2 later
      ]

-- ---- what is seen

-- what was seen is seen
pub among_later : (x : ℕ) (visits : List Visit) (seen : List ℕ) → is_among seen x ≡ true → is_among (all_seen seen visits) x ≡ true
among_later x [] seen among = among
among_later x (v ∷ visits) seen among = among_later x visits (seen_after seen v) (by_test (is_among seen v.child.id))
  where
    by_test : (c : Bool) → is_among (cond c seen (seen ++ v.child.id ∷ [])) x ≡ true
    by_test true = among
    by_test false = list_any-append (λ i. i == x) seen (v.child.id ∷ []) ∙ or_left (is_among seen x) (is_among (v.child.id ∷ []) x) among

or_none : (c : Bool) → (c || false) ≡ c
or_none true = refl
or_none false = refl

once_more : (d y : ℕ) (seen : List ℕ) → is_among seen y ≡ false → count_by (λ x. x == d) seen ≡ cond (is_among seen d) 1 0
    → count_by (λ x. x == d) (seen ++ y ∷ []) ≡ cond (is_among (seen ++ y ∷ []) d) 1 0
once_more d y seen new is =
    sum_by_push is_it seen y ∙ by_test (y == d) refl ∙ sym (ap (λ c. cond c 1 0) (list_any-append (λ x. x == d) seen (y ∷ [])))
  where
    is_it : ℕ → ℕ
    is_it x = cond (x == d) 1 0

    by_test : (c : Bool) → (y == d) ≡ c → count_by (λ x. x == d) seen + cond c 1 0 ≡ cond (is_among seen d || (c || false)) 1 0
    by_test true here =
        let none : is_among seen d ≡ false = ap (is_among seen) (sym (eqb-true y d here)) ∙ new in
        let zero : count_by (λ x. x == d) seen ≡ 0 = is ∙ ap (λ c. cond c 1 0) none in
        let all : cond {A = ℕ} (is_among seen d || true) 1 0 ≡ 1 = ap (λ c. cond {A = ℕ} (c || true) 1 0) none in
        omega (arith, zero, all)
    by_test false other =
        let same : cond {A = ℕ} (is_among seen d || false) 1 0 ≡ cond {A = ℕ} (is_among seen d) 1 0 = ap (λ c. cond {A = ℕ} c 1 0) (or_none (is_among seen d)) in
        omega (arith, is, same)

-- each is seen once
count_by-all_seen : (d : ℕ) (visits : List Visit) (seen : List ℕ) → count_by (λ x. x == d) seen ≡ cond (is_among seen d) 1 0
    → count_by (λ x. x == d) (all_seen seen visits) ≡ cond (is_among (all_seen seen visits) d) 1 0
count_by-all_seen d [] seen is = is
count_by-all_seen d (v ∷ visits) seen is = count_by-all_seen d visits (seen_after seen v) (by_test (is_among seen v.child.id) refl)
  where
    by_test : (c : Bool) → is_among seen v.child.id ≡ c → count_by (λ x. x == d) (cond c seen (seen ++ v.child.id ∷ [])) ≡ cond (is_among (cond c seen (seen ++ v.child.id ∷ [])) d) 1 0
    by_test true among = is
    by_test false new = once_more d v.child.id seen new is

module _ (t : Tables) where
  -- and has its row
  pub row_seen : (x : ℕ) (visits : List Visit) (seen : List ℕ) (done : List Visit) → AreVisits t seen done visits → (is_among seen x ≡ true → IsTrue (is_some (inode_at t x)))
      → is_among (all_seen seen visits) x ≡ true → IsTrue (is_some (inode_at t x))
  row_seen x [] seen done are there among = there among
  row_seen x (v ∷ visits) seen done are there among = row_seen x visits (seen_after seen v) (done ++ v ∷ []) are.2 (by_test (is_among seen v.child.id)) among
    where
      own : IsTrue (is_some (inode_at t v.child.id))
      own = ap (λ k. is_some (inode_at t k)) (sym (number_of t v.entry.row.inode v.child are.0.child)) ∙ ap is_some are.0.child

      by_test : (c : Bool) → is_among (cond c seen (seen ++ v.child.id ∷ [])) x ≡ true → IsTrue (is_some (inode_at t x))
      by_test true is = there is
      by_test false is =
          elim (or_cases (is_among seen x) (is_among (v.child.id ∷ []) x) (sym (list_any-append (λ i. i == x) seen (v.child.id ∷ [])) ∙ is)) [
            | inl before ↦ there before
            | inr last ↦ ap (λ k. is_some (inode_at t k)) (sym (eqb-true v.child.id x (sym (or_none (v.child.id == x)) ∙ last))) ∙ own
          ]

  -- the directory of each visit is seen
  directories_seen : (visits : List Visit) (seen : List ℕ) (done : List Visit) → AreVisits t seen done visits
      → AllByRecursion (λ v. is_among (all_seen seen visits) v.directory ≡ true) visits
  directories_seen [] seen done are = tt
  directories_seen (v ∷ visits) seen done are =
      (among_later v.directory (v ∷ visits) seen are.0.seen_before, directories_seen visits (seen_after seen v) (done ++ v ∷ []) are.2)

-- ---- all entries

nothing : (xs : List ℕ) → sum_by (λ x. 0) xs ≡ 0
nothing [] = refl
nothing (x ∷ xs) =
    let none : ℕ → ℕ = λ y. 0 in
    omega (arith, sum_by-cons none x xs, nothing xs)

and_true : (c : Bool) → (c && true) ≡ c
and_true true = refl
and_true false = refl

and_false : (c : Bool) → (c && false) ≡ false
and_false true = refl
and_false false = refl

module _ (t : Tables) (top : ℕ) (b : List ℕ) (visits : List Visit) (are : AreVisits t (top ∷ []) [] visits) where
  abbrev seen : List ℕ
  seen = all_seen (top ∷ []) visits

  once : (d : ℕ) → is_among seen d ≡ true → count_by (λ x. x == d) seen ≡ 1
  once d among = count_by-all_seen d visits (top ∷ []) first ∙ ap (λ c. cond c 1 0) among
    where
      is_it : ℕ → ℕ
      is_it x = cond (x == d) 1 0

      first : count_by (λ x. x == d) (top ∷ []) ≡ cond (is_among (top ∷ []) d) 1 0
      first =
          let one : count_by (λ x. x == d) (top ∷ []) ≡ cond (top == d) 1 0 + 0 = sum_by-cons is_it top [] in
          let same : cond {A = ℕ} (is_among (top ∷ []) d) 1 0 ≡ cond {A = ℕ} (top == d) 1 0 = ap (λ e. cond {A = ℕ} e 1 0) (or_none (top == d)) in
          omega (arith, one, same)

  -- a visit is of one inode that is seen
  of_one : (v : Visit) → is_among seen v.directory ≡ true → (e : Bool) → sum_by (λ x. cond (x == v.directory && e) 1 0) seen ≡ cond e 1 0
  of_one v among true =
      let with_test : ℕ → ℕ = λ x. cond (x == v.directory && true) 1 0 in
      let plain : ℕ → ℕ = λ x. cond (x == v.directory) 1 0 in
      let alike : with_test ≡ plain = λ i x. cond (and_true (x == v.directory) i) 1 0 in
      ap (λ (h : ℕ → ℕ). sum_by h seen) alike ∙ once v.directory among
  of_one v among false =
      let with_test : ℕ → ℕ = λ x. cond (x == v.directory && false) 1 0 in
      let none : ℕ → ℕ = λ x. 0 in
      let alike : with_test ≡ none = λ i x. cond (and_false (x == v.directory) i) 1 0 in
      ap (λ (h : ℕ → ℕ). sum_by h seen) alike ∙ nothing seen

  -- the visits of a name, by the inodes that are seen
  pub visits_by_inode : sum_by (λ x. count_by (is_of t x b) visits) seen ≡ count_by (λ v. is_eq (bytes_cmp b v.entry.name)) visits
  visits_by_inode =
      sum_by_comm one seen visits ∙ sum_by_agree in_all own visits (each visits (directories_seen t visits (top ∷ []) [] are))
    where
      one : ℕ → Visit → ℕ
      one x v = cond (is_of t x b v) 1 0

      in_all : Visit → ℕ
      in_all v = sum_by (λ x. cond (is_of t x b v) 1 0) seen

      own : Visit → ℕ
      own v = cond (is_eq (bytes_cmp b v.entry.name)) 1 0

      each : (vs : List Visit) → AllByRecursion (λ v. is_among seen v.directory ≡ true) vs
          → AllByRecursion (λ v. sum_by (λ x. cond (is_of t x b v) 1 0) seen ≡ cond (is_eq (bytes_cmp b v.entry.name)) 1 0) vs
      each [] all = tt
      each (v ∷ vs) all = (of_one v all.0 (is_eq (bytes_cmp b v.entry.name)), each vs all.1)

-- The places of a file from one on, found one after the other.
use Rattle.std.proofs.Common.{◌≡◌, ◌<◌, ◌⊎◌, inl, inr, ℕ, ◌+◌, List, [], ◌∷◌, ◌++◌, Bool, true, false, cond, Option, None, Some, refl, sym, ap, ◌∙◌, subst, arith, append_assoc, eqb-true}
use Rattle.std.proofs.lemmas.List.{append-nil}
use Rattle.std.proofs.lemmas.Bool.{and_parts}
use Rattle.std.proofs.lemmas.Bool.Decides.{nat_tests}
use Rattle.std.specs.Prelude.{IsTrue, ◌&&◌, ◌==◌, filter, find, nat_le, option_map, take}
use Rattle.std.specs.List.{list_all, slice_get}
use Rattle.s3_rows.specs.declared.change.Change.{Change}
use Rattle.s3_rows.specs.Rows.{InodeBlock}
use Rattle.s3_rows.specs.Keyed.{is_past, rises}
use Rattle.s3_rows.specs.Tables.{Tables, IsOrdered, by_spot}
use Rattle.s3_rows.specs.Batches.{tables_after}
use Rattle.s3_rows.specs.Selections.{inode_blocks_listed}
use Rattle.row_lemmas.proofs.Tests.{find_passes, find_passes_all}
use Rattle.row_lemmas.proofs.Keyed.Rises.{rises_head, rises_tail}
use Rattle.row_lemmas.proofs.Tables.{tables_after-tables_after}
use Rattle.ref_counts.specs.Links.{is_place_from, next_place, places_dropped, places_from, relinked}
use Rattle.ref_counts.proofs.AttrKeys.{greater_part}

-- ---- a page of one

page_found : (p : InodeBlock → Bool) (rows : List InodeBlock) → slice_get (take 1 (filter p rows)) 0 ≡ find p rows
page_found p [] = refl
page_found p (x ∷ xs) = by_case (page_found p xs) (p x)
  where
    by_case : slice_get (take 1 (filter p xs)) 0 ≡ find p xs → (b : Bool) → slice_get (take 1 (cond b (x ∷ filter p xs) (filter p xs))) 0 ≡ cond b (Some x) (find p xs)
    by_case others true = refl
    by_case others false = others

-- the first row of a page
pub found_row : (t : Tables) (inode from : ℕ) (page : List InodeBlock) (found : Option InodeBlock) → page ≡ inode_blocks_listed t inode from 1
    → found ≡ slice_get page 0 → found ≡ find (is_place_from inode from) t.inode_blocks
found_row t inode from page found is first = first ∙ ap (λ (l : List InodeBlock). slice_get l 0) is ∙ page_found (is_place_from inode from) t.inode_blocks

-- its number
pub found_place : (t : Tables) (inode from : ℕ) (page : List InodeBlock) (found : Option InodeBlock) → page ≡ inode_blocks_listed t inode from 1
    → found ≡ slice_get page 0 → option_map (λ r. r.blockno) found ≡ next_place t inode from
found_place t inode from page found is first = ap (option_map (λ (r : InodeBlock). r.blockno)) (found_row t inode from page found is first)

-- ---- the first place, and those behind it

filter_agree_all : (p q s : InodeBlock → Bool) → ((x : InodeBlock) → IsTrue (s x) → p x ≡ q x) → (rows : List InodeBlock) → IsTrue (list_all s rows) → filter p rows ≡ filter q rows
filter_agree_all p q s agree [] all = refl
filter_agree_all p q s agree (x ∷ xs) all =
    let parts = and_parts (s x) (list_all s xs) all in
    ap (λ b. cond b (x ∷ filter p xs) (filter p xs)) (agree x parts.0) ∙ ap (λ ys. cond (q x) (x ∷ ys) ys) (filter_agree_all p q s agree xs parts.1)

-- a place behind another of the file is among those from a number on, where the other is, and among those behind the other
behind_agrees : (inode from : ℕ) (x y : InodeBlock) → IsTrue (is_place_from inode from x) → IsTrue (is_past by_spot (x.inode, x.blockno) y)
    → is_place_from inode from y ≡ is_place_from inode (x.blockno + 1) y
behind_agrees inode from x y own past =
    let parts = and_parts (x.inode == inode) (nat_le from x.blockno) own in
    by_case parts.0 parts.1 (greater_part x.inode x.blockno y.inode y.blockno past)
  where
    by_case : IsTrue (x.inode == inode) → IsTrue (nat_le from x.blockno) → (x.inode < y.inode) ⊎ ((x.inode ≡ y.inode) × (x.blockno < y.blockno))
        → is_place_from inode from y ≡ is_place_from inode (x.blockno + 1) y
    by_case same reached (inl less) =
        let apart : (y.inode == inode) ≡ false = grind (arith, nat_tests, same, less) in
        ap (λ b. b && nat_le from y.blockno) apart ∙ sym (ap (λ b. b && nat_le (x.blockno + 1) y.blockno) apart)
    by_case same reached (inr further) =
        let one : nat_le from y.blockno ≡ true = grind (arith, nat_tests, reached, further.1) in
        let two : nat_le (x.blockno + 1) y.blockno ≡ true = grind (arith, nat_tests, further.1) in
        ap (λ b. (y.inode == inode) && b) (one ∙ sym two)

-- a place before another is not behind it
before_is_not_behind : (inode from : ℕ) (x r : InodeBlock) → IsTrue (is_place_from inode from r) → IsTrue (is_past by_spot (x.inode, x.blockno) r)
    → is_place_from inode (r.blockno + 1) x ≡ false
before_is_not_behind inode from x r own past = by_case (and_parts (r.inode == inode) (nat_le from r.blockno) own).0 (greater_part x.inode x.blockno r.inode r.blockno past) (x.inode == inode) refl
  where
    by_case : IsTrue (r.inode == inode) → (x.inode < r.inode) ⊎ ((x.inode ≡ r.inode) × (x.blockno < r.blockno)) → (b : Bool) → (x.inode == inode) ≡ b
        → (b && nat_le (r.blockno + 1) x.blockno) ≡ false
    by_case same either false at = refl
    by_case same (inl less) true at = absurd (omega (arith, less, eqb-true r.inode inode same, eqb-true x.inode inode at))
    by_case same (inr further) true at = grind (arith, nat_tests, further.1)

-- no place is behind itself
itself_is_not_behind : (inode : ℕ) (r : InodeBlock) → is_place_from inode (r.blockno + 1) r ≡ false
itself_is_not_behind inode r =
    let short : nat_le (r.blockno + 1) r.blockno ≡ false = grind (arith, nat_tests) in
    by_case (r.inode == inode) short
  where
    by_case : (b : Bool) → nat_le (r.blockno + 1) r.blockno ≡ false → (b && nat_le (r.blockno + 1) r.blockno) ≡ false
    by_case true short = short
    by_case false short = refl

pub places_first : (inode from : ℕ) (rows : List InodeBlock) (r : InodeBlock) → IsTrue (rises by_spot rows) → find (is_place_from inode from) rows ≡ Some r
    → filter (is_place_from inode from) rows ≡ r ∷ filter (is_place_from inode (r.blockno + 1)) rows
places_first inode from [] r up is = absurd (cc is)
places_first inode from (x ∷ xs) r up is = by_case (places_first inode from xs r (rises_tail by_spot x xs up)) (is_place_from inode from x) refl is
  where
    later : IsTrue (list_all (is_past by_spot (x.inode, x.blockno)) xs)
    later = rises_head by_spot x xs up

    by_case : (find (is_place_from inode from) xs ≡ Some r → filter (is_place_from inode from) xs ≡ r ∷ filter (is_place_from inode (r.blockno + 1)) xs)
        → (b : Bool) → is_place_from inode from x ≡ b → cond b (Some x) (find (is_place_from inode from) xs) ≡ Some r
        → cond b (x ∷ filter (is_place_from inode from) xs) (filter (is_place_from inode from) xs) ≡ r ∷ filter (is_place_from inode (r.blockno + 1)) (x ∷ xs)
    by_case others true own found =
        let same : x ≡ r = cc found in
        let rest : List InodeBlock = filter (is_place_from inode (x.blockno + 1)) xs in
        subst (λ (y : InodeBlock). x ∷ filter (is_place_from inode from) xs ≡ y ∷ filter (is_place_from inode (y.blockno + 1)) (x ∷ xs)) same
        (ap (λ ys. x ∷ ys)
        (filter_agree_all (is_place_from inode from) (is_place_from inode (x.blockno + 1)) (is_past by_spot (x.inode, x.blockno)) (λ y past. behind_agrees inode from x y own past) xs later
        ∙ sym (ap (λ b. cond b (x ∷ rest) rest) (itself_is_not_behind inode x))))
    by_case others false own found =
        let rest : List InodeBlock = filter (is_place_from inode (r.blockno + 1)) xs in
        let past : IsTrue (is_past by_spot (x.inode, x.blockno) r) = find_passes_all (is_place_from inode from) (is_past by_spot (x.inode, x.blockno)) xs r later found in
        others found
        ∙ ap (λ ys. r ∷ ys) (sym (ap (λ b. cond b (x ∷ rest) rest) (before_is_not_behind inode from x r (find_passes (is_place_from inode from) xs r found) past)))

pub places_none : (inode from : ℕ) (rows : List InodeBlock) → find (is_place_from inode from) rows ≡ None → filter (is_place_from inode from) rows ≡ []
places_none inode from [] none = refl
places_none inode from (x ∷ xs) none = by_case (places_none inode from xs) (is_place_from inode from x) none
  where
    by_case : (find (is_place_from inode from) xs ≡ None → filter (is_place_from inode from) xs ≡ []) → (b : Bool) → cond b (Some x) (find (is_place_from inode from) xs) ≡ None
        → cond b (x ∷ filter (is_place_from inode from) xs) (filter (is_place_from inode from) xs) ≡ []
    by_case rest true is = absurd (cc is)
    by_case rest false is = rest is

-- ---- what is added

-- one more place is dropped
pub one_dropped : (t : Tables) (batch after : List Change) (inode from blockno : ℕ) (found : Option ℕ) → IsOrdered t → found ≡ next_place t inode from → found ≡ Some blockno
    → after ≡ batch ++ relinked (tables_after batch t) inode blockno None
    → after ++ places_dropped (places_from t inode (blockno + 1)) (tables_after after t) ≡ batch ++ places_dropped (places_from t inode from) (tables_after batch t)
one_dropped t batch after inode from blockno found o is here added = by_row (find (is_place_from inode from) t.inode_blocks) refl (sym here ∙ is)
  where
    by_row : (row : Option InodeBlock) → find (is_place_from inode from) t.inode_blocks ≡ row → Some blockno ≡ option_map (λ (r : InodeBlock). r.blockno) row
        → after ++ places_dropped (places_from t inode (blockno + 1)) (tables_after after t) ≡ batch ++ places_dropped (places_from t inode from) (tables_after batch t)
    by_row None there same = absurd (cc same)
    by_row (Some r) there same =
        let number : blockno ≡ r.blockno = cc same in
        let own : r.inode ≡ inode = eqb-true r.inode inode (and_parts (r.inode == inode) (nat_le from r.blockno) (find_passes (is_place_from inode from) t.inode_blocks r there)).0 in
        let this : List Change = relinked (tables_after batch t) r.inode r.blockno None in
        let rest : List InodeBlock = places_from t inode (r.blockno + 1) in
        let added_here : after ≡ batch ++ this =
        added ∙ ap (λ n. batch ++ relinked (tables_after batch t) inode n None) number ∙ ap (λ n. batch ++ relinked (tables_after batch t) n r.blockno None) (sym own) in
        ap (λ n. after ++ places_dropped (places_from t inode (n + 1)) (tables_after after t)) number
        ∙ ap (λ (b : List Change). b ++ places_dropped rest (tables_after b t)) added_here
        ∙ ap (λ (u : Tables). batch ++ this ++ places_dropped rest u) (sym (tables_after-tables_after batch this t))
        ∙ append_assoc batch this (places_dropped rest (tables_after this (tables_after batch t)))
        ∙ ap (λ (rows : List InodeBlock). batch ++ places_dropped rows (tables_after batch t)) (sym (places_first inode from t.inode_blocks r o.inode_blocks there))

-- no more
pub all_dropped : (t : Tables) (batch first : List Change) (inode from next : ℕ) (found : Option ℕ) → found ≡ next_place t inode next → found ≡ None
    → batch ++ places_dropped (places_from t inode next) (tables_after batch t) ≡ first ++ places_dropped (places_from t inode from) (tables_after first t)
    → batch ≡ first ++ places_dropped (places_from t inode from) (tables_after first t)
all_dropped t batch first inode from next found is here left =
    sym (append-nil batch)
    ∙ ap (λ (rows : List InodeBlock). batch ++ places_dropped rows (tables_after batch t))
    (sym (places_none inode next t.inode_blocks (none_found (find (is_place_from inode next) t.inode_blocks) (sym is ∙ here))))
    ∙ left
  where
    none_found : (row : Option InodeBlock) → option_map (λ (r : InodeBlock). r.blockno) row ≡ None → row ≡ None
    none_found None none = refl
    none_found (Some r) none = absurd (cc none)

-- places that go behind others
pub places_dropped-append : (xs ys : List InodeBlock) (t : Tables) → places_dropped (xs ++ ys) t ≡ places_dropped xs t ++ places_dropped ys (tables_after (places_dropped xs t) t)
places_dropped-append [] ys t = refl
places_dropped-append (x ∷ xs) ys t =
    let first : List Change = relinked t x.inode x.blockno None in
    let now : Tables = tables_after first t in
    ap (λ (cs : List Change). first ++ cs) (places_dropped-append xs ys now)
    ∙ ap (λ (u : Tables). first ++ (places_dropped xs now ++ places_dropped ys u)) (tables_after-tables_after first (places_dropped xs now) t)
    ∙ sym (append_assoc first (places_dropped xs now) (places_dropped ys (tables_after (first ++ places_dropped xs now) t)))

-- The places of copied files: tables stay valid, and each place of a copy has the form of the place that it is copied from.
use Rattle.std.proofs.Common.{◌≡◌, ◌≢◌, ◌≤◌, ◌<◌, ℕ, ◌+◌, ◌^◌, List, [], ◌∷◌, ◌++◌, Bool, true, false, cond, Option, None, Some, inl, inr, refl, sym, ap, ◌∙◌, subst, arith, eq-eqb, eqb-true, leb-true, le-leb, ltb-true}
use Rattle.std.proofs.lemmas.Bool.{and_parts, cases_eq, false_from_ne_true}
use Rattle.std.specs.Cmp.{nat_cmp_total, tied_itself}
use Rattle.std.specs.List.{list_all}
use Rattle.std.specs.Option.{option_or}
use Rattle.std.specs.Ordering.{is_eq, is_lt, nat_cmp, ordering_then}
use Rattle.std.specs.Prelude.{IsTrue, not, ◌&&◌, ◌||◌, ◌==◌, filter, find, nat_le, nat_lt, option_map}
use Rattle.std.specs.declared.cmp.Ordering.TheVariants.{Less, Equal, Greater}
use Rattle.plain_tree.specs.Below.{is_among}
use Rattle.plain_tree.specs.Subtrees.{copy_number}
use Rattle.s3_rows.specs.declared.change.Change.{Change}
use Rattle.s3_rows.specs.declared.change.Change.TheVariants as changes
use Rattle.s3_rows.specs.Batches.{after_change, tables_after}
use Rattle.s3_rows.specs.Keyed.{has_key, is_past, pair_cmp, put, rises, row_at, without}
use Rattle.s3_rows.specs.Rows.{Block, InodeBlock, Parameters}
use Rattle.s3_rows.specs.Selections.{block_at}
use Rattle.s3_rows.specs.Tables.{Tables, by_block, by_spot}
use Rattle.s3_rows.specs.Validity.{differ, has_inode, is_in_file, is_regular}
use Rattle.row_lemmas.proofs.Tests.{find_passes, list_all_weaker_both, pair_parts}
use Rattle.row_lemmas.proofs.Keyed.Put.{row_at-put, row_at-put_other, row_at-put_same}
use Rattle.row_lemmas.proofs.Tables.{pair_cmp_total, tables_after-tables_after}
use Rattle.tree_laws.proofs.Copy.Nodes.{place_of-one}
use Rattle.ref_counts.specs.Links.{is_place_from, link_replaced, places_from}
use Rattle.block_steps.specs.Owed.{OwesPlaces}
use Rattle.block_steps.proofs.DebtsBlocks.{OwesPlaces-counted, one_number}
use Rattle.block_steps.proofs.DebtsPlaces.{OwesPlaces-relinked}
use Rattle.tree_copy.specs.CopiedPlaces.{block_fits, file_copied, file_fits, files_copied, files_fit, moved_place, place_changes, place_copied}
use Rattle.tree_copy.specs.CopySteps.{uncounted}

-- ---- changes by the blocks alone

blocks-after_change : (c : Change) (t w : Tables) → w.blocks ≡ t.blocks → (after_change c w).blocks ≡ (after_change c t).blocks
blocks-after_change (changes.PutBlock r) t w same = ap (put by_block r) same
blocks-after_change (changes.DeleteBlock id) t w same = ap (without by_block id) same
blocks-after_change _ t w same = same

blocks-tables_after : (cs : List Change) (t w : Tables) → w.blocks ≡ t.blocks → (tables_after cs w).blocks ≡ (tables_after cs t).blocks
blocks-tables_after [] t w same = same
blocks-tables_after (c ∷ cs) t w same = blocks-tables_after cs (after_change c t) (after_change c w) (blocks-after_change c t w same)

place_alike : (id : ℕ) (r : InodeBlock) (t w : Tables) → w.blocks ≡ t.blocks → place_copied id r w ≡ place_copied id r t
place_alike id r t w same = ap (λ (rows : List Block). place_changes id r (row_at by_block r.block rows)) same

file_alike : (id : ℕ) (rows : List InodeBlock) (t w : Tables) → w.blocks ≡ t.blocks
    → (file_copied id rows w ≡ file_copied id rows t) × (file_fits id rows w ≡ file_fits id rows t)
file_alike id [] t w same = (refl, refl)
file_alike id (r ∷ rows) t w same =
    let here : place_copied id r w ≡ place_copied id r t = place_alike id r t w same in
    let moved : Tables = tables_after (place_copied id r w) w in
    let blocks : moved.blocks ≡ (tables_after (place_copied id r t) t).blocks =
    ap (λ (cs : List Change). (tables_after cs w).blocks) here ∙ blocks-tables_after (place_copied id r t) t w same in
    let rest = file_alike id rows (tables_after (place_copied id r t) t) (tables_after (place_copied id r w) w) blocks in (
      λ i. here i ++ rest.0 i,
      λ i. block_fits (row_at by_block r.block (same i)) && rest.1 i,
    )

pub files_alike : (told : Tables) (next : ℕ) (seen xs : List ℕ) (t w : Tables) → w.blocks ≡ t.blocks
    → (files_copied told next seen xs w ≡ files_copied told next seen xs t) × (files_fit told next seen xs w ≡ files_fit told next seen xs t)
files_alike told next seen [] t w same = (refl, refl)
files_alike told next seen (x ∷ xs) t w same =
    let id : ℕ = copy_number next seen x in
    let rows : List InodeBlock = places_from told x 0 in
    let here = file_alike id rows t w same in
    let moved : Tables = tables_after (file_copied id rows w) w in
    let blocks : moved.blocks ≡ (tables_after (file_copied id rows t) t).blocks =
    ap (λ (cs : List Change). (tables_after cs w).blocks) here.0 ∙ blocks-tables_after (file_copied id rows t) t w same in
    let rest = files_alike told next seen xs (tables_after (file_copied id rows t) t) (tables_after (file_copied id rows w) w) blocks in (
      λ i. here.0 i ++ rest.0 i,
      λ i. here.1 i && rest.1 i,
    )

-- ---- the places of a file in told tables

pub spot_key : (x n : ℕ) (r : InodeBlock) → has_key by_spot (x, n) r ≡ (r.inode == x && r.blockno == n)
spot_key x n r = by_case (has_key by_spot (x, n) r) refl (r.inode == x) refl (r.blockno == n) refl
  where
    own : r.inode ≡ x → r.blockno ≡ n → IsTrue (has_key by_spot (x, n) r)
    own a b = (λ i. is_eq (pair_cmp (x, n) (a i, b i))) ∙ ap is_eq (tied_itself pair_cmp_total (x, n))

    by_case : (k : Bool) → has_key by_spot (x, n) r ≡ k → (a : Bool) → (r.inode == x) ≡ a → (b : Bool) → (r.blockno == n) ≡ b → k ≡ (a && b)
    by_case true key true one true two = refl
    by_case true key true one false two =
        let parts = pair_parts (x, n) (r.inode, r.blockno) key in
        let clash : true ≡ false = sym (eq-eqb r.blockno n (sym parts.1)) ∙ two in
        absurd (cc clash)
    by_case true key false one b two =
        let parts = pair_parts (x, n) (r.inode, r.blockno) key in
        let clash : true ≡ false = sym (eq-eqb r.inode x (sym parts.0)) ∙ one in
        absurd (cc clash)
    by_case false key true one true two =
        let clash : false ≡ true = sym key ∙ own (eqb-true r.inode x one) (eqb-true r.blockno n two) in
        absurd (cc clash)
    by_case false key true one false two = refl
    by_case false key false one b two = refl

-- a place of a file is that of its number among them
pub place_found : (x n : ℕ) (rows : List InodeBlock) → find (λ r. r.blockno == n) (filter (is_place_from x 0) rows) ≡ row_at by_spot (x, n) rows
place_found x n [] = refl
place_found x n (r ∷ rows) =
    by_case (place_found x n rows) (r.inode == x) refl (nat_le 0 r.blockno) (le-leb 0 r.blockno (omega arith)) ∙ sym (ap (λ b. cond b (Some r) (row_at by_spot (x, n) rows)) (spot_key x n r))
  where
    by_case : find (λ r. r.blockno == n) (filter (is_place_from x 0) rows) ≡ row_at by_spot (x, n) rows → (a : Bool) → (r.inode == x) ≡ a → (b : Bool) → b ≡ true
        → find (λ (y : InodeBlock). y.blockno == n) (cond (a && b) (r ∷ filter (is_place_from x 0) rows) (filter (is_place_from x 0) rows))
        ≡ cond (a && r.blockno == n) (Some r) (row_at by_spot (x, n) rows)
    by_case rest true is true all = ap (λ (y : Option InodeBlock). cond (r.blockno == n) (Some r) y) rest
    by_case rest true is false all = absurd (cc all)
    by_case rest false is b all = rest

-- the rows of a file rise by the numbers of their places; each lies in a regular file, within it
abbrev pub FileRows : Tables → Parameters → ℕ → ℕ → ℕ → List InodeBlock → Type 0
FileRows u p x id low [] = Unit {0}
FileRows u p x id low (r ∷ rows) =
    (r.inode ≡ x) × (low ≤ r.blockno) × IsTrue (has_inode is_regular u id) × IsTrue (is_in_file u p id r.blockno) × FileRows u p x id (r.blockno + 1) rows

less_from_cmp : (a b : ℕ) → IsTrue (is_lt (nat_cmp a b)) → a < b
less_from_cmp a b is = by_case (nat_lt a b) refl (a == b) is
  where
    by_case : (c : Bool) → nat_lt a b ≡ c → (d : Bool) → IsTrue (is_lt (cond c Less (cond d Equal Greater))) → a < b
    by_case true less d is = ltb-true a b less
    by_case false more true is = absurd (cc is)
    by_case false more false is = absurd (cc is)

later_place : (r y : InodeBlock) → y.inode ≡ r.inode → IsTrue (is_past by_spot (r.inode, r.blockno) y) → r.blockno < y.blockno
later_place r y same past =
    less_from_cmp r.blockno y.blockno
    (sym (ap (λ k. is_lt (ordering_then (nat_cmp r.inode k) (nat_cmp r.blockno y.blockno))) same
    ∙ ap (λ c. is_lt (ordering_then c (nat_cmp r.blockno y.blockno))) (tied_itself nat_cmp_total r.inode)) ∙ past)

module _ (u : Tables) (p : Parameters) (x id : ℕ) (good : InodeBlock → Bool)
    (regular : (r : InodeBlock) → r.inode ≡ x → IsTrue (good r) → IsTrue (has_inode is_regular u id) × IsTrue (is_in_file u p id r.blockno)) where
  pub file_rows : (rows : List InodeBlock) (low : ℕ) → IsTrue (rises by_spot rows) → IsTrue (list_all (is_place_from x 0) rows) → IsTrue (list_all good rows)
      → IsTrue (list_all (λ (r : InodeBlock). nat_le low r.blockno) rows) → FileRows u p x id low rows
  file_rows [] low up own all least = _
  file_rows (r ∷ rows) low up own all least =
      let ups = and_parts (list_all (is_past by_spot (r.inode, r.blockno)) rows) (rises by_spot rows) up in
      let owns = and_parts (is_place_from x 0 r) (list_all (is_place_from x 0) rows) own in
      let alls = and_parts (good r) (list_all good rows) all in
      let leasts = and_parts (nat_le low r.blockno) (list_all (λ (y : InodeBlock). nat_le low y.blockno) rows) least in
      let here : r.inode ≡ x = inode_is r owns.0 in
      let fits = regular r here alls.0 in (
        here,
        leb-true low r.blockno leasts.0,
        fits.0,
        fits.1,
        file_rows rows (r.blockno + 1) ups.1 owns.1 alls.1
            (list_all_weaker_both (is_past by_spot (r.inode, r.blockno)) (is_place_from x 0) (λ (y : InodeBlock). nat_le (r.blockno + 1) y.blockno)
            (λ y past place. le-leb (r.blockno + 1) y.blockno (omega (arith, later_place r y (inode_is y place ∙ sym here) past))) rows ups.0 owns.1),
      )
    where
      inode_is : (y : InodeBlock) → IsTrue (is_place_from x 0 y) → y.inode ≡ x
      inode_is y place = eqb-true y.inode x (and_parts (y.inode == x) (nat_le 0 y.blockno) place).0

-- ---- on the way

-- tables with other places and other counts of blocks, which are valid
pub record IsPlacing (told u : Tables) (p : Parameters) (w : Tables) : Type 0 where
  pub places : List InodeBlock
  pub blocks : List Block
  pub is : w ≡ record u { inode_blocks = places; blocks = blocks }
  pub owes : OwesPlaces (record u { inode_blocks = places; blocks = blocks }) p []
  pub kept : (id : ℕ) → option_map uncounted (row_at by_block id blocks) ≡ option_map uncounted (block_at told id)

-- no place of a file from a number on
abbrev pub NoneFrom : List InodeBlock → ℕ → ℕ → Type 0
NoneFrom places id low = (n : ℕ) → low ≤ n → row_at by_spot (id, n) places ≡ None

other_spot : (i j n m : ℕ) → (i ≡ j → ⊥) → has_key by_spot (i, n) (record { inode = j; blockno = m; block = 0 }) ≡ false
other_spot i j n m apart =
    spot_key i n (record { inode = j; blockno = m; block = 0 }) ∙ ap (λ b. b && m == n) (false_from_ne_true (j == i) (λ is. apart (sym (eqb-true j i is))))

other_number : (i j n m : ℕ) → (n ≡ m → ⊥) → has_key by_spot (i, n) (record { inode = j; blockno = m; block = 0 }) ≡ false
other_number i j n m apart =
    spot_key i n (record { inode = j; blockno = m; block = 0 }) ∙ ap (λ b. j == i && b) (false_from_ne_true (m == n) (λ is. apart (sym (eqb-true m n is)))) ∙ none (j == i)
  where
    none : (b : Bool) → (b && false) ≡ false
    none true = refl
    none false = refl

-- ---- one place

module _ (told u : Tables) (p : Parameters) (id : ℕ) (r : InodeBlock) (w : Tables) (is : IsPlacing told u p w) (free : row_at by_spot (id, r.blockno) is.places ≡ None)
    (regular : IsTrue (has_inode is_regular u id)) (within : IsTrue (is_in_file u p id r.blockno)) (b : Block) (found : row_at by_block r.block is.blocks ≡ Some b)
    (fits : IsTrue (nat_lt (b.refcount + 1) (2 ^ 62))) where
  abbrev up : Block
  up = record b { refcount = b.refcount + 1 }

  abbrev before : Tables
  before = record u { inode_blocks = is.places; blocks = is.blocks }

  abbrev counted : Tables
  counted = record u { inode_blocks = is.places; blocks = put by_block up is.blocks }

  abbrev pub places_after : List InodeBlock
  places_after = put by_spot (moved_place id r) is.places

  id_is : r.block ≡ b.id
  id_is = one_number r.block b.id (find_passes (has_key by_block r.block) is.blocks b found)

  there : block_at before b.id ≡ Some b
  there = ap (λ k. row_at by_block k is.blocks) (sym id_is) ∙ found

  owes_counted : OwesPlaces counted p (r.block ∷ [])
  owes_counted =
      subst (λ k. OwesPlaces counted p (k ∷ [])) (sym id_is)
      (OwesPlaces-counted before p [] is.owes b there (changes.PutBlock up ∷ [])
      (ap (λ c. cond c (Some (changes.PutBlock (record b { refcount = b.refcount + 1 }) ∷ [])) None) fits))

  owes_after : OwesPlaces (record u { inode_blocks = places_after; blocks = put by_block up is.blocks }) p []
  owes_after =
      subst (λ (cs : List Change). OwesPlaces (tables_after cs counted) p []) (ap (link_replaced counted id r.blockno (Some r.block)) free)
      (OwesPlaces-relinked counted p id r.blockno r.block [] owes_counted regular within)

  kept_after : (k : ℕ) → option_map uncounted (row_at by_block k (put by_block up is.blocks)) ≡ option_map uncounted (block_at told k)
  kept_after k = ap (option_map uncounted) (row_at-put by_block nat_cmp_total k up is.blocks) ∙ by_case (has_key by_block k up) refl
    where
      by_case : (c : Bool) → has_key by_block k up ≡ c → option_map uncounted (cond c (Some up) (row_at by_block k is.blocks)) ≡ option_map uncounted (block_at told k)
      by_case true key =
          let same : k ≡ b.id = one_number k b.id key in
          sym (ap (option_map uncounted) (ap (λ j. row_at by_block j is.blocks) same ∙ there)) ∙ is.kept k
      by_case false key = is.kept k

  pub placed : IsPlacing told u p (tables_after (place_copied id r w) w)
  placed = record {
    places = places_after;
    blocks = put by_block up is.blocks;
    is =
        ap (λ (x : Tables). tables_after (place_copied id r x) x) is.is
        ∙ ap (λ (row : Option Block). tables_after (place_changes id r row) (record u { inode_blocks = is.places; blocks = is.blocks })) found;
    owes = owes_after;
    kept = kept_after;
  }

-- ---- the places of a file

-- the rows that are put
abbrev pub row_in : ℕ → List InodeBlock → ℕ → Option InodeBlock
row_in id rows n = option_map (moved_place id) (find (λ r. r.blockno == n) rows)

-- tables with the places of one file more
record HasFile (told u : Tables) (p : Parameters) (id : ℕ) (rows before : List InodeBlock) (w : Tables) : Type 0 where
  placing : IsPlacing told u p w
  others : (i n : ℕ) → i ≢ id → row_at by_spot (i, n) placing.places ≡ row_at by_spot (i, n) before
  own : (n : ℕ) → row_at by_spot (id, n) placing.places ≡ option_or (row_in id rows n) (row_at by_spot (id, n) before)

block_in : (found : Option Block) → IsTrue (block_fits found) → (b : Block) × (found ≡ Some b) × IsTrue (nat_lt (b.refcount + 1) (2 ^ 62))
block_in None fits = absurd (cc fits)
block_in (Some b) fits = (b, refl, fits)

none_below : (u : Tables) (p : Parameters) (x id low n : ℕ) (rows : List InodeBlock) → FileRows u p x id low rows → n < low → find (λ (r : InodeBlock). r.blockno == n) rows ≡ None
none_below u p x id low n [] good less = refl
none_below u p x id low n (r ∷ rows) good less =
    ap (λ b. cond b (Some r) (find (λ (y : InodeBlock). y.blockno == n) rows)) (false_from_ne_true (r.blockno == n) (λ is. omega (arith, eqb-true r.blockno n is, less, good.1)))
    ∙ none_below u p x id (r.blockno + 1) n rows good.4 (omega (arith, less, good.1))

-- one place more
HasFile-more : (told u : Tables) (p : Parameters) (id : ℕ) (r : InodeBlock) (rows old : List InodeBlock) (w : Tables)
    → ((i n : ℕ) → i ≢ id → row_at by_spot (i, n) (put by_spot (moved_place id r) old) ≡ row_at by_spot (i, n) old)
    → ((n : ℕ) → option_or (row_in id rows n) (row_at by_spot (id, n) (put by_spot (moved_place id r) old)) ≡ option_or (row_in id (r ∷ rows) n) (row_at by_spot (id, n) old))
    → HasFile told u p id rows (put by_spot (moved_place id r) old) w → HasFile told u p id (r ∷ rows) old w
HasFile-more told u p id r rows old w others own file = record {
  placing = file.placing;
  others = λ i n apart. file.others i n apart ∙ others i n apart;
  own = λ n. file.own n ∙ own n;
}

module _ (told u : Tables) (p : Parameters) (x id : ℕ) where
  file_placed : (rows : List InodeBlock) (low : ℕ) (w : Tables) (is : IsPlacing told u p w) → FileRows u p x id low rows → NoneFrom is.places id low
      → IsTrue (file_fits id rows w) → HasFile told u p id rows is.places (tables_after (file_copied id rows w) w)
  unfolding placed
  file_placed [] low w is good none fits = record { placing = is; others = λ i n apart. refl; own = λ n. refl }
  file_placed (r ∷ rows) low w is good none fits =
      let next : Tables = tables_after (place_copied id r w) w in
      let parts = and_parts (block_fits (block_at w r.block)) (file_fits id rows next) fits in
      let b = block_in (row_at by_block r.block is.blocks) (ap (λ (y : Tables). block_fits (block_at y r.block)) (sym is.is) ∙ parts.0) in
      let free : row_at by_spot (id, r.blockno) is.places ≡ None = none r.blockno good.1 in
      let put_there : List InodeBlock = put by_spot (moved_place id r) is.places in
      let other : (i n : ℕ) → (i ≡ id → n ≡ r.blockno → ⊥) → row_at by_spot (i, n) put_there ≡ row_at by_spot (i, n) is.places =
      (λ i n apart. row_at-put_other by_spot pair_cmp_total (i, n) (moved_place id r) is.places (other_key i n apart)) in
      let rest : HasFile told u p id rows put_there (tables_after (file_copied id rows next) next) =
      file_placed rows (r.blockno + 1) next (placed told u p id r w is free good.2 good.3 b.0 b.1 b.2) good.4
      (λ n least. other id n (λ own same. omega (arith, same, least)) ∙ none n (omega (arith, least, good.1))) parts.1 in
      subst (λ (y : Tables). HasFile told u p id (r ∷ rows) is.places y) (tables_after-tables_after (place_copied id r w) (file_copied id rows next) w)
      (HasFile-more told u p id r rows is.places (tables_after (file_copied id rows next) next) (λ i n apart. other i n (λ own same. apart own)) (λ n. own_at n (r.blockno == n) refl) rest)
    where
      other_key : (i n : ℕ) → (i ≡ id → n ≡ r.blockno → ⊥) → has_key by_spot (i, n) (moved_place id r) ≡ false
      other_key i n apart =
          elim (cases_eq i id) [
            | inl own ↦ other_number i id n r.blockno (λ same. apart own same)
            | inr other ↦ other_spot i id n r.blockno other
          ]

      own_at : (n : ℕ) (c : Bool) → (r.blockno == n) ≡ c
          → option_or (row_in id rows n) (row_at by_spot (id, n) (put by_spot (moved_place id r) is.places))
          ≡ option_or (option_map (moved_place id) (cond c (Some r) (find (λ (y : InodeBlock). y.blockno == n) rows))) (row_at by_spot (id, n) is.places)
      own_at n true here =
          let same : r.blockno ≡ n = eqb-true r.blockno n here in
          ap (λ (y : Option InodeBlock). option_or (option_map (moved_place id) y) (row_at by_spot (id, n) (put by_spot (moved_place id r) is.places)))
          (none_below u p x id (r.blockno + 1) n rows good.4 (omega (arith, same)))
          ∙ ap (λ k. row_at by_spot (id, k) (put by_spot (moved_place id r) is.places)) (sym same)
          ∙ row_at-put_same by_spot pair_cmp_total (moved_place id r) is.places
      own_at n false other =
          ap (option_or (row_in id rows n))
          (row_at-put_other by_spot pair_cmp_total (id, n) (moved_place id r) is.places
          (other_number id id n r.blockno (λ same.
          let clash : true ≡ false = sym (eq-eqb r.blockno n (sym same)) ∙ other in
          cc clash)))

-- ---- the places of all files

abbrev pub IsWithin : List ℕ → List ℕ → Type 0
IsWithin xs seen = (x : ℕ) → is_among xs x ≡ true → is_among seen x ≡ true

module _ (told u : Tables) (p : Parameters) (next : ℕ) (seen : List ℕ) where
  abbrev number : ℕ → ℕ
  number x = copy_number next seen x

  -- tables with the places of some files more
  pub record HasFiles (xs : List ℕ) (before : List InodeBlock) (w : Tables) : Type 0 where
    pub placing : IsPlacing told u p w
    pub others : (i n : ℕ) → ((x : ℕ) → is_among xs x ≡ true → i ≢ copy_number next seen x) → row_at by_spot (i, n) placing.places ≡ row_at by_spot (i, n) before
    pub own : (x n : ℕ) → is_among xs x ≡ true → row_at by_spot (copy_number next seen x, n) placing.places ≡ row_in (copy_number next seen x) (places_from told x 0) n

  one_inode : (x y : ℕ) → is_among seen x ≡ true → number x ≡ number y → x ≡ y
  one_inode x y among same = place_of-one seen x y among (omega (arith, same))

  or_right : (a b : Bool) → b ≡ true → (a || b) ≡ true
  or_right true b is = refl
  or_right false b is = is

  none_left : (found : Option InodeBlock) → option_or found None ≡ found
  none_left None = refl
  none_left (Some r) = refl

  pub files_placed : (xs : List ℕ) (w : Tables) (is : IsPlacing told u p w) → IsWithin xs seen → IsTrue (differ (λ a b. b == a) xs)
      → ((x : ℕ) → is_among xs x ≡ true → FileRows u p x (copy_number next seen x) 0 (places_from told x 0))
      → ((x : ℕ) → is_among xs x ≡ true → NoneFrom is.places (copy_number next seen x) 0)
      → IsTrue (files_fit told next seen xs w) → HasFiles xs is.places (tables_after (files_copied told next seen xs w) w)
  files_placed [] w is within apart good none fits = record { placing = is; others = λ i n other. refl; own = λ x n among. absurd (cc among) }
  files_placed (x ∷ xs) w is within apart good none fits =
      let id : ℕ = copy_number next seen x in
      let rows : List InodeBlock = places_from told x 0 in
      let after : Tables = tables_after (file_copied id rows w) w in
      let parts = and_parts (file_fits id rows w) (files_fit told next seen xs after) fits in
      let aparts = and_parts (not (is_among xs x)) (differ (λ a b. b == a) xs) apart in
      let here : is_among (x ∷ xs) x ≡ true = ap (λ b. b || is_among xs x) (eq-eqb x x refl) in
      let more : (y : ℕ) → is_among xs y ≡ true → is_among (x ∷ xs) y ≡ true = λ y among. or_right (x == y) (is_among xs y) among in
      let file : HasFile told u p id rows is.places after = file_placed told u p x id rows 0 w is (good x here) (none x here) parts.0 in
      let other : (y : ℕ) → is_among xs y ≡ true → number y ≢ number x =
      (λ y among same.
      let one : y ≡ x = one_inode y x (within y (more y among)) same in
      let clash : not true ≡ true = ap not (sym (ap (is_among xs) (sym one) ∙ among)) ∙ aparts.0 in
      cc clash) in
      let rest : HasFiles xs file.placing.places (tables_after (files_copied told next seen xs after) after) =
      files_placed xs after file.placing (λ y among. within y (more y among)) aparts.1 (λ y among. good y (more y among))
      (λ y among n least. file.others (number y) n (other y among) ∙ none y (more y among) n least) parts.1 in
      subst (λ (y : Tables). HasFiles (x ∷ xs) is.places y) (tables_after-tables_after (file_copied id rows w) (files_copied told next seen xs after) w)
      (record {
        placing = rest.placing;
        others = λ i n apart. rest.others i n (λ y among. apart y (more y among)) ∙ file.others i n (apart x here);
        own = λ y n among. own_at y n (x == y) refl among file rest (λ z w. other z w);
      })
    where
      own_at : (y n : ℕ) (c : Bool) → (x == y) ≡ c → (c || is_among xs y) ≡ true
          → (file : HasFile told u p (copy_number next seen x) (places_from told x 0) is.places (tables_after (file_copied (copy_number next seen x) (places_from told x 0) w) w))
          → (rest : HasFiles xs file.placing.places
          (tables_after (files_copied told next seen xs (tables_after (file_copied (copy_number next seen x) (places_from told x 0) w) w)) (tables_after (file_copied (copy_number next seen x) (places_from told x 0) w) w)))
          → ((z : ℕ) → is_among xs z ≡ true → copy_number next seen z ≢ copy_number next seen x)
          → row_at by_spot (copy_number next seen y, n) rest.placing.places ≡ row_in (copy_number next seen y) (places_from told y 0) n
      own_at y n true same among file rest other =
          let one : x ≡ y = eqb-true x y same in
          subst (λ z. row_at by_spot (copy_number next seen z, n) rest.placing.places ≡ row_in (copy_number next seen z) (places_from told z 0) n) one
          (rest.others (copy_number next seen x) n (λ z there clash. other z there (sym clash)) ∙ file.own n
          ∙ ap (option_or (row_in (copy_number next seen x) (places_from told x 0) n)) (none x (ap (λ b. b || is_among xs x) (eq-eqb x x refl)) n (omega arith))
          ∙ none_left (row_in (copy_number next seen x) (places_from told x 0) n))
      own_at y n false apart_too among file rest other = rest.own y n among

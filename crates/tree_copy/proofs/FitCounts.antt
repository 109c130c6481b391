-- The places of copies fit just where each block may count all of them.
use Rattle.std.proofs.Common.{◌≡◌, ◌≤◌, ◌<◌, ℕ, ◌+◌, ◌^◌, List, [], ◌∷◌, ◌++◌, Bool, true, false, cond, Option, None, Some, inl, inr, refl, sym, ap, ◌∙◌, subst, arith, eq-eqb, eqb-true, lt-ltb, ltb-true}
use Rattle.std.proofs.lemmas.Bool.{and_parts, cases_lt, false_from_ne_true}
use Rattle.std.proofs.lemmas.List.Sums.{sum_by-append, sum_by-cons}
use Rattle.std.specs.Cmp.{nat_cmp_total, tied_itself}
use Rattle.std.specs.Ordering.{is_eq}
use Rattle.std.specs.Prelude.{IsTrue, not, ◌&&◌, ◌==◌, count_by, is_some, option_map}
use Rattle.plain_tree.specs.Subtrees.{copy_number}
use Rattle.s3_rows.specs.Batches.{tables_after}
use Rattle.s3_rows.specs.Keyed.{has_key, put, row_at}
use Rattle.s3_rows.specs.Rows.{Block, InodeBlock}
use Rattle.s3_rows.specs.Selections.{block_at}
use Rattle.s3_rows.specs.Tables.{Tables, by_block}
use Rattle.s3_rows.specs.Validity.{IsValid, finds_of_inode_block, has_inode, is_regular}
use Rattle.row_lemmas.proofs.Sums.{count_by_none}
use Rattle.row_lemmas.proofs.Tests.{find_passes, is_some-option_map, list_all-filter, list_all_weaker}
use Rattle.row_lemmas.proofs.Keyed.Put.{row_at-put}
use Rattle.row_lemmas.proofs.Tables.{tables_after-tables_after}
use Rattle.tree_laws.proofs.Node.Kind.{none_some, one_some}
use Rattle.ref_counts.specs.Links.{is_place_from, places_from, places_of}
use Rattle.block_steps.proofs.DebtsBlocks.{one_number}
use Rattle.tree_copy.specs.CopiedCounts.{copied_block_count}
use Rattle.tree_copy.specs.CopiedPlaces.{block_fits, file_copied, file_fits, files_copied, files_fit, place_changes, place_copied}

-- ---- places that name a block

abbrev named : ℕ → List InodeBlock → ℕ
named k rows = count_by (λ r. r.block == k) rows

abbrev one_of : ℕ → InodeBlock → ℕ
one_of k r = cond (r.block == k) 1 0

named-append : (k : ℕ) (more rows : List InodeBlock) → named k (more ++ rows) ≡ named k more + named k rows
named-append k more rows = sum_by-append (one_of k) more rows

named-one : (k : ℕ) (r : InodeBlock) (own : Bool) → (r.block == k) ≡ own → named k (r ∷ []) ≡ cond own 1 0
named-one k r own is =
    let one : named k (r ∷ []) ≡ one_of k r + 0 = sum_by-cons (one_of k) r [] in
    let rest : one_of k r + 0 ≡ one_of k r = omega arith in
    one ∙ rest ∙ ap (λ b. cond b 1 0) is

-- each block that is named has a row
abbrev Have : Tables → List InodeBlock → Type 0
Have w rows = (k : ℕ) → 1 ≤ named k rows → IsTrue (is_some (block_at w k))

-- ---- blocks that count so many places more

abbrev raised_by : ℕ → Block → Block
raised_by n b = record b { refcount = b.refcount + n }

raised_none : (found : Option Block) → option_map (raised_by 0) found ≡ found
raised_none None = refl
raised_none (Some b) =
    let same : b.refcount + 0 ≡ b.refcount = omega arith in
    ap (λ n. Some (record b { refcount = n })) same

raised_twice : (n m : ℕ) (found : Option Block) → option_map (raised_by m) (option_map (raised_by n) found) ≡ option_map (raised_by (n + m)) found
raised_twice n m None = refl
raised_twice n m (Some b) =
    let same : b.refcount + n + m ≡ b.refcount + (n + m) = omega arith in
    ap (λ x. Some (record b { refcount = x })) same

-- a block that would count too many
record Worn (w : Tables) (rows : List InodeBlock) : Type 0 where
  number : ℕ
  block : Block
  there : block_at w number ≡ Some block
  least : 1 ≤ named number rows
  over : 2 ^ 62 ≤ block.refcount + named number rows

-- tables after places more, and whether they fitted
record Counted (w v : Tables) (rows : List InodeBlock) (fits : Bool) : Type 0 where
  raised : (k : ℕ) → block_at v k ≡ option_map (raised_by (named k rows)) (block_at w k)
  fit : IsTrue fits → (k : ℕ) (b : Block) → block_at w k ≡ Some b → 1 ≤ named k rows → b.refcount + named k rows < 2 ^ 62
  worn : fits ≡ false → Worn w rows

Counted-nil : (w : Tables) → Counted w w [] true
Counted-nil w = record {
  raised = λ k. sym (raised_none (block_at w k));
  fit = λ fits k b there least. absurd (omega (arith, least));
  worn = λ is. absurd (cc is);
}

-- ---- one list of places after another

module _ (w v u : Tables) (more rows : List InodeBlock) where
  worn_first : Worn w more → Worn w (more ++ rows)
  worn_first worn = record {
    number = worn.number;
    block = worn.block;
    there = worn.there;
    least = omega (arith, worn.least, named-append worn.number more rows);
    over = omega (arith, worn.over, named-append worn.number more rows);
  }

  worn_later : ((k : ℕ) → block_at v k ≡ option_map (raised_by (named k more)) (block_at w k)) → Worn v rows → Worn w (more ++ rows)
  worn_later raised worn = by_row (block_at w worn.number) refl
    where
      by_row : (found : Option Block) → block_at w worn.number ≡ found → Worn w (more ++ rows)
      by_row None none =
          absurd (none_some (block_at v worn.number) worn.block (raised worn.number ∙ ap (option_map (raised_by (named worn.number more))) none) worn.there)
      by_row (Some b) there =
          let both : worn.block ≡ raised_by (named worn.number more) b =
          one_some (block_at v worn.number) worn.block (raised_by (named worn.number more) b) worn.there (raised worn.number ∙ ap (option_map (raised_by (named worn.number more))) there) in
          let count : worn.block.refcount ≡ b.refcount + named worn.number more = ap (λ (x : Block). x.refcount) both in
          record {
            number = worn.number;
            block = b;
            there = there;
            least = omega (arith, worn.least, named-append worn.number more rows);
            over = omega (arith, worn.over, count, named-append worn.number more rows);
          }

  worn_either : (a b : Bool) → (a ≡ false → Worn w more) → (b ≡ false → Worn v rows) → ((k : ℕ) → block_at v k ≡ option_map (raised_by (named k more)) (block_at w k))
      → (a && b) ≡ false → Worn w (more ++ rows)
  worn_either true b first second raised is = worn_later raised (second is)
  worn_either false b first second raised is = worn_first (first refl)

  Counted-append : (a b : Bool) → Counted w v more a → Counted v u rows b → Counted w u (more ++ rows) (a && b)
  Counted-append a b first second = record {
    raised = λ k.
        second.raised k ∙ ap (option_map (raised_by (named k rows))) (first.raised k) ∙ raised_twice (named k more) (named k rows) (block_at w k)
        ∙ ap (λ n. option_map (raised_by n) (block_at w k)) (sym (named-append k more rows));
    fit = fit;
    worn = worn_either a b first.worn second.worn first.raised;
  }
    where
      fit : IsTrue (a && b) → (k : ℕ) (x : Block) → block_at w k ≡ Some x → 1 ≤ named k (more ++ rows) → x.refcount + named k (more ++ rows) < 2 ^ 62
      fit both k x there least =
          let parts = and_parts a b both in
          let sum : named k (more ++ rows) ≡ named k more + named k rows = named-append k more rows in
          let later : block_at v k ≡ Some (raised_by (named k more) x) = first.raised k ∙ ap (option_map (raised_by (named k more))) there in
          elim (cases_lt (named k rows) 1) [
            | inl none ↦
                let some : 1 ≤ named k more = omega (arith, least, sum, none) in
                omega (arith, first.fit parts.0 k x there some, sum, none)
            | inr some ↦ omega (arith, second.fit parts.1 k (raised_by (named k more) x) later some, sum)
          ]

-- ---- one place

module _ (id : ℕ) (r : InodeBlock) (w : Tables) (b : Block) (found : block_at w r.block ≡ Some b) where
  id_is : r.block ≡ b.id
  id_is = one_number r.block b.id (find_passes (has_key by_block r.block) w.blocks b found)

  blocks_is : (tables_after (place_copied id r w) w).blocks ≡ put by_block (raised_by 1 b) w.blocks
  blocks_is = ap (λ (row : Option Block). (tables_after (place_changes id r row) w).blocks) found

  raised_one : (k : ℕ) → block_at (tables_after (place_copied id r w) w) k ≡ option_map (raised_by (named k (r ∷ []))) (block_at w k)
  raised_one k = ap (row_at by_block k) blocks_is ∙ row_at-put by_block nat_cmp_total k (raised_by 1 b) w.blocks ∙ by_key (has_key by_block k (raised_by 1 b)) refl
    where
      by_key : (c : Bool) → has_key by_block k (raised_by 1 b) ≡ c → cond c (Some (raised_by 1 b)) (block_at w k) ≡ option_map (raised_by (named k (r ∷ []))) (block_at w k)
      by_key true key =
          let same : k ≡ b.id = one_number k b.id key in
          let own : block_at w k ≡ Some b = ap (block_at w) (same ∙ sym id_is) ∙ found in
          let count : named k (r ∷ []) ≡ 1 = named-one k r true (eq-eqb r.block k (id_is ∙ sym same)) in
          sym (ap (λ n. option_map (raised_by n) (block_at w k)) count ∙ ap (option_map (raised_by 1)) own)
      by_key false key =
          let apart : (r.block == k) ≡ false =
          false_from_ne_true (r.block == k) (λ same.
          let clash : true ≡ false =
          sym (ap is_eq (tied_itself nat_cmp_total k)) ∙ ap (λ n. has_key by_block k (record (raised_by 1 b) { id = n })) (sym (eqb-true r.block k same) ∙ id_is) ∙ key in
          cc clash) in
          sym (ap (λ n. option_map (raised_by n) (block_at w k)) (named-one k r false apart) ∙ raised_none (block_at w k))

  fit_one : IsTrue (block_fits (block_at w r.block)) → (k : ℕ) (x : Block) → block_at w k ≡ Some x → 1 ≤ named k (r ∷ []) → x.refcount + named k (r ∷ []) < 2 ^ 62
  fit_one fits k x there least = by_test (r.block == k) refl
    where
      by_test : (own : Bool) → (r.block == k) ≡ own → x.refcount + named k (r ∷ []) < 2 ^ 62
      by_test true own =
          let same : r.block ≡ k = eqb-true r.block k own in
          let equal : x ≡ b = one_some (block_at w k) x b there (ap (block_at w) (sym same) ∙ found) in
          let count : x.refcount ≡ b.refcount = ap (λ (y : Block). y.refcount) equal in
          let less : b.refcount + 1 < 2 ^ 62 = ltb-true (b.refcount + 1) (2 ^ 62) (sym (ap block_fits found) ∙ fits) in
          omega (arith, named-one k r true own, count, less)
      by_test false own = absurd (omega (arith, named-one k r false own, least))

  worn_one : block_fits (block_at w r.block) ≡ false → Worn w (r ∷ [])
  worn_one failed = record { number = r.block; block = b; there = found; least = omega (arith, one); over = over }
    where
      one : named r.block (r ∷ []) ≡ 1
      one = named-one r.block r true (eq-eqb r.block r.block refl)

      over : 2 ^ 62 ≤ b.refcount + named r.block (r ∷ [])
      over =
          elim (cases_lt (b.refcount + 1) (2 ^ 62)) [
            | inl less ↦
                let clash : true ≡ false = sym (lt-ltb (b.refcount + 1) (2 ^ 62) less) ∙ sym (ap block_fits found) ∙ failed in
                absurd (cc clash)
            | inr above ↦ omega (arith, above, one)
          ]

  Counted-one : Counted w (tables_after (place_copied id r w) w) (r ∷ []) (block_fits (block_at w r.block))
  Counted-one = record { raised = raised_one; fit = fit_one; worn = worn_one }

-- ---- the places of a file, and of all files

some_row : (found : Option Block) → IsTrue (is_some found) → (b : Block) × (found ≡ Some b)
some_row None is = absurd (cc is)
some_row (Some b) is = (b, refl)

have_more : (w : Tables) (more rows : List InodeBlock) → Have w (more ++ rows) → Have w more
have_more w more rows have k least = have k (omega (arith, named-append k more rows, least))

have_rest : (w v : Tables) (more rows : List InodeBlock) (fits : Bool) → Counted w v more fits → Have w (more ++ rows) → Have v rows
have_rest w v more rows fits counted have k least =
    ap is_some (counted.raised k) ∙ is_some-option_map (raised_by (named k more)) (block_at w k) ∙ have k (omega (arith, named-append k more rows, least))

counted_file : (id : ℕ) (rows : List InodeBlock) (w : Tables) → Have w rows → Counted w (tables_after (file_copied id rows w) w) rows (file_fits id rows w)
counted_file id [] w have = Counted-nil w
counted_file id (r ∷ rows) w have =
    let row = some_row (block_at w r.block) (have r.block (omega (arith, named-append r.block (r ∷ []) rows, named-one r.block r true (eq-eqb r.block r.block refl)))) in
    let v : Tables = tables_after (place_copied id r w) w in
    let first : Counted w v (r ∷ []) (block_fits (block_at w r.block)) = Counted-one id r w row.0 row.1 in
    let second : Counted v (tables_after (file_copied id rows v) v) rows (file_fits id rows v) =
    counted_file id rows v (have_rest w v (r ∷ []) rows (block_fits (block_at w r.block)) first have) in
    subst (λ (u : Tables). Counted w u (r ∷ rows) (file_fits id (r ∷ rows) w)) (tables_after-tables_after (place_copied id r w) (file_copied id rows v) w)
    (Counted-append w v (tables_after (file_copied id rows v) v) (r ∷ []) rows (block_fits (block_at w r.block)) (file_fits id rows v) first second)

module _ (told : Tables) (next : ℕ) (seen : List ℕ) where
  counted_files : (xs : List ℕ) (w : Tables) → Have w (places_of told xs) → Counted w (tables_after (files_copied told next seen xs w) w) (places_of told xs) (files_fit told next seen xs w)
  counted_files [] w have = Counted-nil w
  counted_files (x ∷ xs) w have =
      let id : ℕ = copy_number next seen x in
      let rows : List InodeBlock = places_from told x 0 in
      let v : Tables = tables_after (file_copied id rows w) w in
      let first : Counted w v rows (file_fits id rows w) = counted_file id rows w (have_more w rows (places_of told xs) have) in
      let second : Counted v (tables_after (files_copied told next seen xs v) v) (places_of told xs) (files_fit told next seen xs v) =
      counted_files xs v (have_rest w v rows (places_of told xs) (file_fits id rows w) first have) in
      subst (λ (u : Tables). Counted w u (places_of told (x ∷ xs)) (files_fit told next seen (x ∷ xs) w)) (tables_after-tables_after (file_copied id rows w) (files_copied told next seen xs v) w)
      (Counted-append w v (tables_after (files_copied told next seen xs v) v) rows (places_of told xs) (file_fits id rows w) (files_fit told next seen xs v) first second)

-- ---- valid tables

module _ (t : Tables) (valid : IsValid t) where
  -- a block that has no row is named by no place
  unnamed : (k : ℕ) → block_at t k ≡ None → (xs : List ℕ) → named k (places_of t xs) ≡ 0
  unnamed k none [] = refl
  unnamed k none (x ∷ xs) = omega (arith, named-append k (places_from t x 0) (places_of t xs), unnamed k none xs, here)
    where
      other : (r : InodeBlock) → IsTrue (finds_of_inode_block t r) → IsTrue (not (r.block == k))
      other r finds =
          ap not (false_from_ne_true (r.block == k) (λ same.
          let some : is_some (block_at t k) ≡ true =
          ap (λ n. is_some (block_at t n)) (sym (eqb-true r.block k same)) ∙ (and_parts (has_inode is_regular t r.inode) (is_some (block_at t r.block)) finds).1 in
          let clash : false ≡ true = sym (ap is_some none) ∙ some in
          cc clash))

      here : named k (places_from t x 0) ≡ 0
      here =
          count_by_none (λ r. r.block == k) (places_from t x 0)
          (list_all-filter (is_place_from x 0) (λ r. not (r.block == k)) t.inode_blocks (list_all_weaker (finds_of_inode_block t) (λ r. not (r.block == k)) other t.inode_blocks valid.rows.inode_blocks))

  have_blocks : (xs : List ℕ) → Have t (places_of t xs)
  have_blocks xs k least = by_row (block_at t k) refl
    where
      by_row : (found : Option Block) → block_at t k ≡ found → IsTrue (is_some (block_at t k))
      by_row None none = absurd (omega (arith, unnamed k none xs, least))
      by_row (Some b) there = ap is_some there

  module _ (next : ℕ) (seen xs : List ℕ) where
    abbrev all : Counted t (tables_after (files_copied t next seen xs t) t) (places_of t xs) (files_fit t next seen xs t)
    all = counted_files t next seen xs t (have_blocks xs)

    pub count_below : IsTrue (files_fit t next seen xs t) → (b : Block) → block_at t b.id ≡ Some b → 1 ≤ copied_block_count t xs b.id → b.refcount + copied_block_count t xs b.id < 2 ^ 62
    count_below fits b there least = all.fit fits b.id b there least

    pub count_over : files_fit t next seen xs t ≡ false → (b : Block) × (block_at t b.id ≡ Some b) × (1 ≤ copied_block_count t xs b.id) × (2 ^ 62 ≤ b.refcount + copied_block_count t xs b.id)
    count_over failed =
        let worn : Worn t (places_of t xs) = all.worn failed in
        let same : worn.number ≡ worn.block.id = one_number worn.number worn.block.id (find_passes (has_key by_block worn.number) t.blocks worn.block worn.there) in (
          worn.block,
          ap (block_at t) (sym same) ∙ worn.there,
          subst (λ k. 1 ≤ named k (places_of t xs)) same worn.least,
          subst (λ k. 2 ^ 62 ≤ worn.block.refcount + named k (places_of t xs)) same worn.over,
        )

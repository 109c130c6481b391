-- A file that gets shorter: its blocks are placed, its places past the end go, and its row is put.
use Rattle.std.proofs.Common.{◌≡◌, ℕ, ◌*◌, ◌<◌, ◌≤◌, List, [], ◌∷◌, ◌++◌, Bool, true, false, cond, not, Option, None, Some, IsTrue, refl, sym, ap, ◌∙◌, subst, arith, eqb-true, leb-false, leb-true, lt-ltb}
use Rattle.std.specs.Prelude.{◌==◌, ◌&&◌, ◌||◌, All, filter, is_some, nat_le, nat_lt, option_and_then, option_map}
use Rattle.std.specs.List.{list_all, list_any}
use Rattle.std.specs.Ordering.{is_eq}
use Rattle.std.proofs.Math.Nat.{mul-le-mul_right}
use Rattle.std.proofs.lemmas.Bool.{and_from, and_parts}
use Rattle.std.proofs.lemmas.List.Elements.{All-head, All-tail}
use Rattle.s3_base.specs.declared.node_kind.Kind.TheVariants as kinds
use Rattle.s3_rows.specs.declared.change.Change.{Change}
use Rattle.s3_rows.specs.declared.change.Change.TheVariants as changes
use Rattle.s3_rows.specs.Rows.{Block, Inode, InodeBlock, Parameters}
use Rattle.s3_rows.specs.Keyed.{Order, has_key, pair_cmp, row_at, without}
use Rattle.s3_rows.specs.Tables.{IsOrdered, Tables, by_inode, by_spot}
use Rattle.s3_rows.specs.Batches.{after_change, tables_after}
use Rattle.s3_rows.specs.Selections.{block_at, inode_at, inode_block_at}
use Rattle.s3_rows.specs.Validity.{IsValid, finds_of_inode_block, has_inode, is_regular}
use Rattle.row_lemmas.proofs.Tables.{IsOrdered-tables_after, pair_cmp_total, tables_after-tables_after}
use Rattle.row_lemmas.proofs.Tests.{is_some-option_map, list_all-filter, list_all-filter_same, list_all_weaker, list_all_weaker_both, list_any_from_find, pair_parts}
use Rattle.row_lemmas.proofs.Keyed.RowAt.{has_key_same, list_all_from_row_at, row_at_from_find, row_at_key, row_at_passes}
use Rattle.tree_rows.specs.Contents.{Contents, HaveBytes}
use Rattle.tree_rows.specs.Spots.{form_at, form_of_row}
use Rattle.ref_counts.specs.Links.{AreRowsOf, places_dropped, places_from}
use Rattle.block_steps.specs.Owed.{KeepsNames}
use Rattle.block_steps.proofs.DebtsTables.{OwesPlaces-IsValid}
use Rattle.block_steps.proofs.DroppedPlaces.{AreRowsOf-places_dropped, IsValid-places_dropped, KeepsNames-places_dropped, form_at-places_dropped, inode_blocks-places_dropped, is_one_of, without_all}
use Rattle.block_steps.proofs.KeptNames.{KeepsNames-trans}
use Rattle.block_steps.proofs.RelinkedForms.{is_eq-pair_cmp_other}
use Rattle.file_ops.specs.declared.new_block.NewBlock.{NewBlock}
use Rattle.file_ops.specs.FileChanges.{AreInFile, AreWithin, IsFileAt, with_length}
use Rattle.file_ops.proofs.FileForms.{same_block_size}
use Rattle.file_ops.proofs.FileSteps.{placeable_first}
use Rattle.file_ops.specs.Placed.{ArePlaceable, ArePlaced, HaveTheirForms, KnowsBlocks, is_placed}

-- ---- rows of which each of a list goes by its key

module _ {K R : Type 0} (o : Order K R) where
  -- what each row passes that has none of the keys, all pass that stay
  list_all-left : (p : R → Bool) (xs rows : List R) → IsTrue (list_all (λ r. p r || is_one_of o xs r) rows) → IsTrue (list_all p (without_all o xs rows))
  list_all-left p [] rows all = list_all_weaker (λ r. p r || false) p (λ r. either (p r)) rows all
    where
      either : (b : Bool) → IsTrue (b || false) → IsTrue b
      either true is = refl
      either false is = is
  list_all-left p (x ∷ xs) rows all =
      list_all-left p xs (without o (o.key x) rows)
      (list_all_weaker_both stays (λ r. p r || is_one_of o (x ∷ xs) r) (λ r. p r || is_one_of o xs r)
      (λ r. either (p r) (has_key o (o.key x) r) (is_one_of o xs r)) (without o (o.key x) rows)
      (list_all-filter_same stays rows) (list_all-filter stays (λ r. p r || is_one_of o (x ∷ xs) r) rows all))
    where
      stays : R → Bool
      stays r = not (has_key o (o.key x) r)

      either : (a b c : Bool) → IsTrue (not b) → IsTrue (a || (b || c)) → IsTrue (a || c)
      either true b c other is = refl
      either false true c other is = absurd (cc other)
      either false false c other is = is

list_any-filter : {R : Type 0} (h q : R → Bool) (rows : List R) → list_any h (filter q rows) ≡ list_any (λ x. q x && h x) rows
list_any-filter h q [] = refl
list_any-filter h q (x ∷ xs) = by_case (list_any-filter h q xs) (q x)
  where
    by_case : list_any h (filter q xs) ≡ list_any (λ y. q y && h y) xs → (b : Bool)
        → list_any h (cond b (x ∷ filter q xs) (filter q xs)) ≡ ((b && h x) || list_any (λ y. q y && h y) xs)
    by_case rest true = ap (λ c. h x || c) rest
    by_case rest false = rest

-- ---- places of a file from one on

-- the row is of the file, from the number on
abbrev goes : ℕ → ℕ → InodeBlock → Bool
goes id from r = r.inode == id && nat_le from r.blockno

-- a row of the file from the number on has the key of one of those of other tables, where these have a form there
one_of_places : (t : Tables) (id from : ℕ) (r : InodeBlock) → goes id from r ≡ true → is_some (form_at t r.inode r.blockno) ≡ true
    → is_one_of by_spot (places_from t id from) r ≡ true
one_of_places t id from r is there = by_place (inode_block_at t r.inode r.blockno) refl there
  where
    by_place : (found : Option InodeBlock) → inode_block_at t r.inode r.blockno ≡ found
        → is_some (option_and_then (λ (x : InodeBlock). option_map form_of_row (block_at t x.block)) found) ≡ true → is_one_of by_spot (places_from t id from) r ≡ true
    by_place None at some = absurd (cc some)
    by_place (Some x) at some =
        let key = pair_parts (r.inode, r.blockno) (x.inode, x.blockno) (ap is_eq (row_at_key by_spot (r.inode, r.blockno) t.inode_blocks x at)) in
        let passes : goes id from x ≡ true =
        ap (λ (k : ℕ). k == id && nat_le from x.blockno) (sym key.0) ∙ ap (λ (k : ℕ). r.inode == id && nat_le from k) (sym key.1) ∙ is in
        let keyed : has_key by_spot (x.inode, x.blockno) r ≡ true =
        ap (λ (k : ℕ). has_key by_spot (k, x.blockno) r) (sym key.0) ∙ ap (λ (k : ℕ). has_key by_spot (r.inode, k) r) (sym key.1) ∙ has_key_same by_spot pair_cmp_total r in
        list_any-filter (λ (y : InodeBlock). has_key by_spot (y.inode, y.blockno) r) (goes id from) t.inode_blocks
        ∙ list_any_from_find (has_key by_spot (r.inode, r.blockno)) (λ (y : InodeBlock). goes id from y && has_key by_spot (y.inode, y.blockno) r) t.inode_blocks x at
        (and_from (goes id from x) (has_key by_spot (x.inode, x.blockno) r) passes keyed)

-- the places of other tables from a number on go, where the forms there are the same
module _ (t v : Tables) (id from : ℕ) (valid : IsValid v) (same : (n : ℕ) → from ≤ n → form_at v id n ≡ form_at t id n) where
  abbrev gone : Tables
  gone = tables_after (places_dropped (places_from t id from) v) v

  -- a row from the number on has a form in the other tables
  has_form : (k : ℕ × ℕ) (r : InodeBlock) → row_at by_spot k v.inode_blocks ≡ Some r → goes id from r ≡ true → is_some (form_at t r.inode r.blockno) ≡ true
  has_form k r found is =
      let parts = and_parts (r.inode == id) (nat_le from r.blockno) is in
      let inode : r.inode ≡ id = eqb-true r.inode id parts.0 in
      let late : from ≤ r.blockno = leb-true from r.blockno parts.1 in
      let own : inode_block_at v r.inode r.blockno ≡ Some r = row_at_from_find by_spot pair_cmp_total (has_key by_spot k) v.inode_blocks r valid.ordered.inode_blocks found in
      let block = and_parts (has_inode is_regular v r.inode) (is_some (block_at v r.block)) (row_at_passes by_spot (finds_of_inode_block v) k v.inode_blocks r valid.rows.inode_blocks found) in
      let here : is_some (form_at v r.inode r.blockno) ≡ true =
      ap (λ (x : Option InodeBlock). is_some (option_and_then (λ (y : InodeBlock). option_map form_of_row (block_at v y.block)) x)) own
      ∙ is_some-option_map form_of_row (block_at v r.block) ∙ block.1 in
      ap (λ (x : ℕ). is_some (form_at t x r.blockno)) inode ∙ ap is_some (sym (same r.blockno late)) ∙ ap (λ (x : ℕ). is_some (form_at v x r.blockno)) (sym inode) ∙ here

  among : (k : ℕ × ℕ) (r : InodeBlock) → row_at by_spot k v.inode_blocks ≡ Some r → IsTrue (not (goes id from r) || is_one_of by_spot (places_from t id from) r)
  among k r found = by_test (goes id from r) refl
    where
      by_test : (b : Bool) → goes id from r ≡ b → IsTrue (not b || is_one_of by_spot (places_from t id from) r)
      by_test false is = refl
      by_test true is = one_of_places t id from r is (has_form k r found is)

  -- none of them has a row then
  pub none_from : IsTrue (list_all (λ (r : InodeBlock). not (goes id from r)) gone.inode_blocks)
  none_from =
      subst (λ (rows : List InodeBlock). IsTrue (list_all (λ (r : InodeBlock). not (goes id from r)) rows)) (sym (inode_blocks-places_dropped (places_from t id from) v))
      (list_all-left by_spot (λ (r : InodeBlock). not (goes id from r)) (places_from t id from) v.inode_blocks
      (list_all_from_row_at by_spot pair_cmp_total (λ (r : InodeBlock). not (goes id from r) || is_one_of by_spot (places_from t id from) r) v.inode_blocks valid.ordered.inode_blocks among))

-- places of other files and those before keep their forms
form_kept : (t v : Tables) (id from other number : ℕ) → IsValid v → (other == id && nat_le from number) ≡ false
    → form_at (tables_after (places_dropped (places_from t id from) v) v) other number ≡ form_at v other number
form_kept t v id from other number valid outside =
    form_at-places_dropped valid.params [] other number (places_from t id from) v (OwesPlaces-IsValid v valid.params valid valid.is_made)
    (list_all_weaker (goes id from) (λ (r : InodeBlock). not (is_eq (pair_cmp (other, number) (r.inode, r.blockno))))
    (λ r is. ap not (is_eq-pair_cmp_other (other, number) (r.inode, r.blockno)
    (λ first second. let clash : true ≡ false = sym is ∙ ap (λ (n : ℕ). n == id && nat_le from r.blockno) (sym first) ∙ ap (λ (n : ℕ). other == id && nat_le from n) (sym second) ∙ outside in
    cc clash))) (places_from t id from) (list_all-filter_same (goes id from) t.inode_blocks))

-- ---- ends of files

later_number : (from n size end : ℕ) → end ≤ from * size → from ≤ n → end ≤ n * size
later_number from n size end past later =
    let more : from * size ≤ n * size = mul-le-mul_right size later in
    omega (arith, more, past)

-- a block that begins before the end comes before all that lie past it
before_end : (from n size end : ℕ) → end ≤ from * size → n * size < end → nat_le from n ≡ false
before_end from n size end past low = by_case (nat_le from n) refl
  where
    by_case : (b : Bool) → nat_le from n ≡ b → b ≡ false
    by_case true is =
        let over : end ≤ n * size = later_number from n size end past (leb-true from n is) in
        absurd (omega (arith, over, low))
    by_case false is = refl

-- a row that stays begins before the end
within_end : (size id from end : ℕ) → ((n : ℕ) → n < from → n * size < end) → (l : InodeBlock) → IsTrue (not (goes id from l))
    → IsTrue (not (l.inode == id) || nat_lt (l.blockno * size) end)
within_end size id from end inside l stays = by_file (l.inode == id) stays
  where
    by_number : (b : Bool) → nat_le from l.blockno ≡ b → IsTrue (not b) → IsTrue (nat_lt (l.blockno * size) end)
    by_number true is other = absurd (cc other)
    by_number false is other = lt-ltb (l.blockno * size) end (inside l.blockno (omega (arith, leb-false from l.blockno is)))

    by_file : (b : Bool) → IsTrue (not (b && nat_le from l.blockno)) → IsTrue (not b || nat_lt (l.blockno * size) end)
    by_file true other = by_number (nat_le from l.blockno) refl other
    by_file false other = refl

-- the forms of blocks before the end are kept
forms_kept : (digest_of : List ℕ → List ℕ) (v after : Tables) (id size from end : ℕ) → end ≤ from * size
    → ((n : ℕ) → nat_le from n ≡ false → form_at after id n ≡ form_at v id n) → (blocks : List NewBlock) → All (λ b. b.blockno * size < end) blocks
    → HaveTheirForms digest_of v id blocks → HaveTheirForms digest_of after id blocks
forms_kept digest_of v after id size from end past kept [] low have = tt
forms_kept digest_of v after id size from end past kept (b ∷ bs) low have =
    let P : NewBlock → Type 0 = λ c. c.blockno * size < end in (
      kept b.blockno (before_end from b.blockno size end past (All-head P b bs low)) ∙ have.0,
      forms_kept digest_of v after id size from end past kept bs (All-tail P b bs low) have.1,
    )

-- ---- all of it

pub record CutLaws : Type 0 where
  pub valid : (t : Tables) (p : Parameters) (r new : Inode) → IsValid t → t.params ≡ Some p → inode_at t new.id ≡ Some r → r.kind ≡ kinds.Regular
      → new.kind ≡ r.kind → new.refcount ≡ r.refcount → t.slots ≡ []
      → IsTrue (list_all (λ l. not (l.inode == new.id) || nat_lt (l.blockno * p.block_size) new.size) t.inode_blocks)
      → IsValid (after_change (changes.PutInode new) t)
  pub forms : (t : Tables) (new : Inode) (inode blockno : ℕ) → form_at (after_change (changes.PutInode new) t) inode blockno ≡ form_at t inode blockno
  pub kept : (t after : Tables) (new : Inode) → KeepsNames t after → KeepsNames (after_change (changes.PutInode new) t) (after_change (changes.PutInode new) after)
  pub known : (m : Contents) (t after : Tables) → IsOrdered t → IsOrdered after → AreRowsOf t after → HaveBytes m t.blocks → HaveBytes m after.blocks

-- what the three parts of the batch make of the tables
pub cut_tables : (t : Tables) (placed dropped batch : List Change) (id from : ℕ) (row : Inode) → dropped ≡ placed ++ places_dropped (places_from t id from) (tables_after placed t)
    → batch ≡ dropped ++ changes.PutInode row ∷ []
    → tables_after batch t ≡ after_change (changes.PutInode row) (tables_after (places_dropped (places_from t id from) (tables_after placed t)) (tables_after placed t))
cut_tables t placed dropped batch id from row drops puts =
    ap (λ (cs : List Change). tables_after cs t) puts ∙ sym (tables_after-tables_after dropped (changes.PutInode row ∷ []) t)
    ∙ ap (after_change (changes.PutInode row)) (ap (λ (cs : List Change). tables_after cs t) drops ∙ sym (tables_after-tables_after placed (places_dropped (places_from t id from) (tables_after placed t)) t))

module _ (laws : CutLaws) (digest_of : List ℕ → List ℕ) (t v after : Tables) (file : Inode) (size now block_size from : ℕ) (blocks : List NewBlock)
    (there : IsFileAt t file block_size) (are : AreWithin size block_size blocks) (past : size ≤ from * block_size) (inside : (n : ℕ) → n < from → n * block_size < size)
    (placed : ArePlaced t v file.id blocks)
    (is_after : after ≡ after_change (changes.PutInode (with_length size now file)) (tables_after (places_dropped (places_from t file.id from) v) v)) where
  abbrev dropped : Tables
  dropped = tables_after (places_dropped (places_from t file.id from) v) v

  abbrev row : Inode
  row = with_length size now file

  -- no block is placed from there on
  none_placed : (n : ℕ) → from ≤ n → (bs : List NewBlock) → All (λ b. b.blockno * block_size < size) bs → list_any (λ (b : NewBlock). b.blockno == n) bs ≡ false
  none_placed n later [] low = refl
  none_placed n later (b ∷ bs) low = by_case (b.blockno == n) refl (none_placed n later bs (All-tail P b bs low))
    where
      P : NewBlock → Type 0
      P c = c.blockno * block_size < size

      own : (b.blockno == n) ≡ true → n * block_size < size
      own same = subst (λ (k : ℕ). k * block_size < size) (eqb-true b.blockno n same) (All-head P b bs low)

      by_case : (e : Bool) → (b.blockno == n) ≡ e → list_any (λ (c : NewBlock). c.blockno == n) bs ≡ false → (e || list_any (λ (c : NewBlock). c.blockno == n) bs) ≡ false
      by_case true same rest =
          let over : size ≤ n * block_size = later_number from n block_size size past later in
          let low : n * block_size < size = own same in
          absurd (omega (arith, over, low))
      by_case false other rest = rest

  same_past : (n : ℕ) → from ≤ n → form_at v file.id n ≡ form_at t file.id n
  same_past n later = placed.elsewhere file.id n (both (file.id == file.id) (list_any (λ (b : NewBlock). b.blockno == n) blocks) (none_placed n later blocks are.within))
    where
      both : (a b : Bool) → b ≡ false → (a && b) ≡ false
      both true b is = is
      both false b is = refl

  dropped_valid : IsValid dropped
  dropped_valid = IsValid-places_dropped (places_from t file.id from) v placed.valid

  names_dropped : KeepsNames t dropped
  names_dropped = KeepsNames-trans t v dropped placed.names (KeepsNames-places_dropped (places_from t file.id from) v)

  size_same : dropped_valid.params.block_size ≡ block_size
  size_same =
      same_block_size dropped.params t.params dropped_valid.params there.valid.params dropped_valid.is_made there.valid.is_made names_dropped.params ∙ there.size

  pub cut_valid : IsValid (after_change (changes.PutInode row) dropped)
  cut_valid =
      laws.valid dropped dropped_valid.params file row dropped_valid dropped_valid.is_made (ap (row_at by_inode file.id) names_dropped.inodes ∙ there.there) there.regular refl refl
      (names_dropped.slots ∙ there.slots)
      (list_all_weaker (λ (l : InodeBlock). not (goes file.id from l)) (λ (l : InodeBlock). not (l.inode == file.id) || nat_lt (l.blockno * dropped_valid.params.block_size) size)
      (λ l stays. subst (λ (s : ℕ). IsTrue (not (l.inode == file.id) || nat_lt (l.blockno * s) size)) (sym size_same) (within_end block_size file.id from size inside l stays))
      dropped.inode_blocks (none_from t v file.id from placed.valid same_past))

  form_after : (other number : ℕ) → (other == file.id && nat_le from number) ≡ false → form_at after other number ≡ form_at v other number
  form_after other number outside =
      ap (λ (u : Tables). form_at u other number) is_after ∙ laws.forms dropped row other number ∙ form_kept t v file.id from other number placed.valid outside

  elsewhere_after : (other number : ℕ) → is_placed file.id blocks other number ≡ false → ((other ≡ file.id) → size ≤ number * block_size → ⊥)
      → form_at after other number ≡ form_at t other number
  elsewhere_after other number none apart = form_after other number (by_file (other == file.id) refl) ∙ placed.elsewhere other number none
    where
      by_number : (other ≡ file.id) → (b : Bool) → nat_le from number ≡ b → b ≡ false
      by_number same true is = absurd (apart same (later_number from number block_size size past (leb-true from number is)))
      by_number same false is = refl

      by_file : (b : Bool) → (other == file.id) ≡ b → (b && nat_le from number) ≡ false
      by_file true same = by_number (eqb-true other file.id same) (nat_le from number) refl
      by_file false is = refl

  pub cut_in_file : ((m : Contents) → HaveBytes m t.blocks → KnowsBlocks digest_of m blocks → HaveTheirForms digest_of v file.id blocks × HaveBytes m v.blocks)
      → AreInFile digest_of t after row block_size blocks
  cut_in_file forms = record {
    step =
        record {
          valid = subst IsValid (sym is_after) cut_valid;
          names = subst (KeepsNames (after_change (changes.PutInode row) t)) (sym is_after) (laws.kept t dropped row names_dropped);
        };
    elsewhere = elsewhere_after;
    forms =
        λ m have knows.
        let before = forms m have knows in (
          forms_kept digest_of v after file.id block_size from size past (λ n early. form_after file.id n (second (file.id == file.id) (nat_le from n) early)) blocks are.within before.0,
          subst (λ (u : Tables). HaveBytes m u.blocks) (sym is_after)
              (laws.known m v dropped placed.valid.ordered dropped_valid.ordered (AreRowsOf-places_dropped (places_from t file.id from) v) before.1),
        );
  }
    where
      second : (a b : Bool) → b ≡ false → (a && b) ≡ false
      second true b is = is
      second false b is = refl

module _ (laws : CutLaws) (digest_of : List ℕ → List ℕ) (t : Tables) (first placed dropped batch : List Change) (file row : Inode) (id dropped_id size now block_size from : ℕ) (blocks : List NewBlock)
    (own : id ≡ file.id) (own_too : dropped_id ≡ file.id) (none : first ≡ []) (same : row ≡ with_length size now file)
    (there : IsFileAt t file block_size) (less : size ≤ file.size) (are : AreWithin size block_size blocks)
    (drops : IsOrdered t → dropped ≡ placed ++ places_dropped (places_from t dropped_id from) (tables_after placed t)) (puts : batch ≡ dropped ++ changes.PutInode row ∷ []) where
  abbrev placed_tables : Tables
  placed_tables = tables_after placed t

  abbrev dropped_tables : Tables
  dropped_tables = tables_after (places_dropped (places_from t file.id from) (tables_after placed t)) (tables_after placed t)

  pub first_placeable : ArePlaceable t first id blocks
  first_placeable =
      subst (λ (n : ℕ). ArePlaceable t first n blocks) (sym own)
      (subst (λ (cs : List Change). ArePlaceable t cs file.id blocks) (sym none) (placeable_first t file size block_size blocks there less are))

  tables_now : tables_after batch t ≡ after_change (changes.PutInode (with_length size now file)) dropped_tables
  tables_now =
      cut_tables t placed dropped batch file.id from (with_length size now file)
      (subst (λ (n : ℕ). dropped ≡ placed ++ places_dropped (places_from t n from) (tables_after placed t)) own_too (drops there.valid.ordered))
      (puts ∙ ap (λ (r : Inode). dropped ++ changes.PutInode r ∷ []) same)

  pub in_file_cut : size ≤ from * block_size → ((n : ℕ) → n < from → n * block_size < size)
      → (ArePlaceable t first id blocks → ArePlaced (tables_after first t) placed_tables id blocks)
      → (ArePlaceable t first id blocks → (m : Contents) → HaveBytes m t.blocks → KnowsBlocks digest_of m blocks
      → HaveTheirForms digest_of placed_tables id blocks × HaveBytes m placed_tables.blocks)
      → AreInFile digest_of t (tables_after batch t) (with_length size now file) block_size blocks
  in_file_cut past inside places forms =
      cut_in_file laws digest_of t placed_tables (tables_after batch t) file size now block_size from blocks there are past inside
      (subst (λ (n : ℕ). ArePlaced t placed_tables n blocks) own
      (subst (λ (cs : List Change). ArePlaced (tables_after cs t) placed_tables id blocks) none (places first_placeable)))
      tables_now
      (subst
      (λ (n : ℕ). (m : Contents) → HaveBytes m t.blocks → KnowsBlocks digest_of m blocks → HaveTheirForms digest_of placed_tables n blocks × HaveBytes m placed_tables.blocks)
      own (forms first_placeable))

  -- what holds of the rows once blocks are placed holds of those that stay
  pub held_cut : (Q : List Block → Type 0) → ((a b : Tables) → IsOrdered a → IsOrdered b → AreRowsOf a b → Q a.blocks → Q b.blocks) → Q placed_tables.blocks
      → Q (tables_after batch t).blocks
  held_cut Q kept holds =
      let ordered : IsOrdered placed_tables = IsOrdered-tables_after placed t there.valid.ordered in
      let drop = places_dropped (places_from t file.id from) placed_tables in
      subst (λ (u : Tables). Q u.blocks) (sym tables_now)
      (kept placed_tables dropped_tables ordered (IsOrdered-tables_after drop placed_tables ordered) (AreRowsOf-places_dropped (places_from t file.id from) placed_tables) holds)

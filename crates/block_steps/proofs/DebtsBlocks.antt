-- Blocks that count one place more or less: what is owed then, and what of their objects.
use Rattle.std.proofs.Common.{◌≡◌, ◌≤◌, ℕ, ◌+◌, ◌-◌, List, [], ◌∷◌, Bool, true, false, cond, Option, None, Some, refl, sym, ap, ◌∙◌, subst, arith, eq-eqb, eqb-true, le-leb, leb-true}
use Rattle.std.specs.Prelude.{IsTrue, not, ◌&&◌, ◌||◌, ◌==◌, ◌^◌, filter, is_some, nat_le, nat_lt, option_and_then}
use Rattle.std.specs.List.{list_all, list_any}
use Rattle.std.specs.Cmp.{nat_cmp_total}
use Rattle.std.specs.FinMap.{nat_cmp-IsAntisymmetric}
use Rattle.std.specs.Ordering.{nat_cmp, is_eq}
use Rattle.std.proofs.lemmas.Bool.{and_from, and_parts}
use Rattle.s3_rows.specs.declared.change.Change.{Change}
use Rattle.s3_rows.specs.declared.change.Change.TheVariants as changes
use Rattle.s3_rows.specs.Rows.{InodeBlock, Block, Object, Parameters}
use Rattle.s3_rows.specs.Keyed.{has_key, put, row_at, without}
use Rattle.s3_rows.specs.Tables.{Tables, by_block, by_object}
use Rattle.s3_rows.specs.Batches.{tables_after}
use Rattle.s3_rows.specs.Selections.{block_at, bytes_cmp, object_at}
use Rattle.s3_rows.specs.Counts.{listed_block_count, listed_object_count}
use Rattle.s3_rows.specs.Validity.{counts_object, differ, finds_of_inode_block, has_inode, has_size_of_object, have_one_digest, have_one_object, is_number, is_regular}
use Rattle.row_lemmas.proofs.Sums.{list_any_from_count_by}
use Rattle.row_lemmas.proofs.Tests.{differ-map, equal_from_is_eq, false_from_not, eqb_comm, is_eq-nat_cmp, list_all-filter, list_all-filter_same, list_all_from_list_any, list_all_weaker, list_all_weaker_both, list_any_from_list_all}
use Rattle.row_lemmas.proofs.Keyed.Count.{count_by-put_there, count_by-without_there}
use Rattle.row_lemmas.proofs.Keyed.Put.{list_all-put, list_all-put_else, map-put_there, rises-put, row_at-put}
use Rattle.row_lemmas.proofs.Keyed.Rises.{rises-without}
use Rattle.row_lemmas.proofs.Keyed.RowAt.{row_at_key, row_at_passes}
use Rattle.row_lemmas.proofs.Keyed.Without.{list_all-without, row_at-without_other}
use Rattle.ref_counts.specs.Links.{counted_block, lowered_block, lowered_object}
use Rattle.block_steps.specs.Owed.{OwesPlaces, owes_places, times}
use Rattle.block_steps.proofs.DebtsLists.{list_all_from_times_none, times_first, times_other}
use Rattle.block_steps.proofs.DebtsTables.{OwesPlaces-rows}

-- the numbers of one key
pub one_number : (a b : ℕ) → IsTrue (is_eq (nat_cmp a b)) → a ≡ b
one_number a b same = nat_cmp-IsAntisymmetric a b (equal_from_is_eq (nat_cmp a b) same)

abbrev digest_of_row : Block → List ℕ
digest_of_row r = r.digest.0

abbrev object_of_row : Block → ℕ
object_of_row r = r.object

abbrev same_bytes : List ℕ → List ℕ → Bool
same_bytes a b = is_eq (bytes_cmp a b)

abbrev same_number : ℕ → ℕ → Bool
same_number a b = a == b

-- rows that differ still do when some are left out
list_any-filter : {R : Type 0} (q p : R → Bool) (rows : List R) → IsTrue (not (list_any p rows)) → IsTrue (not (list_any p (filter q rows)))
list_any-filter q p rows none =
    list_any_from_list_all p (filter q rows) (list_all-filter q (λ x. not (p x)) rows (list_all_from_list_any p rows none))

differ-filter : {R : Type 0} (alike : R → R → Bool) (q : R → Bool) (rows : List R) → IsTrue (differ alike rows) → IsTrue (differ alike (filter q rows))
differ-filter alike q [] unlike = refl
differ-filter {R} alike q (x ∷ xs) unlike = by_case (differ-filter alike q xs parts.1) (q x)
  where
    parts : IsTrue (not (list_any (alike x) xs)) × IsTrue (differ alike xs)
    parts = and_parts (not (list_any (alike x) xs)) (differ alike xs) unlike

    by_case : IsTrue (differ alike (filter q xs)) → (b : Bool) → IsTrue (differ alike (cond b (x ∷ filter q xs) (filter q xs)))
    by_case rest true = and_from (not (list_any (alike x) (filter q xs))) (differ alike (filter q xs)) (list_any-filter q (alike x) xs parts.0) rest
    by_case rest false = rest

-- ---- a row that is there

module _ (t : Tables) (p : Parameters) (owed : List ℕ) (o : OwesPlaces t p owed) (b : Block) (there : block_at t b.id ≡ Some b) where
  owes : IsTrue (owes_places t owed b)
  owes = row_at_passes by_block (owes_places t owed) b.id t.blocks b o.counts there

  count_is : b.refcount ≡ listed_block_count t b.id + times b.id owed
  count_is =
      eqb-true b.refcount (listed_block_count t b.id + times b.id owed)
      (and_parts (b.refcount == listed_block_count t b.id + times b.id owed) (nat_le 1 b.refcount) owes).0

  some_count : 1 ≤ b.refcount
  some_count =
      leb-true 1 b.refcount
      (and_parts (b.refcount == listed_block_count t b.id + times b.id owed) (nat_le 1 b.refcount) owes).1

  module _ (count : ℕ) where
    abbrev row : Block
    row = record b { refcount = count }

    abbrev rows : List Block
    rows = put by_block row t.blocks

    there_after : (id : ℕ) → IsTrue (is_some (block_at t id)) → IsTrue (is_some (row_at by_block id rows))
    there_after id some = ap is_some (row_at-put by_block nat_cmp_total id row t.blocks) ∙ by_case (has_key by_block id row)
      where
        by_case : (c : Bool) → IsTrue (is_some (cond c (Some row) (block_at t id)))
        by_case true = refl
        by_case false = some

    -- the row with another count, and what is owed then
    OwesPlaces-put_block : (now : List ℕ) → count ≡ listed_block_count t b.id + times b.id now → 1 ≤ count
        → ((id : ℕ) → (b.id == id) ≡ false → times id now ≡ times id owed) → IsTrue (list_all (λ id. is_some (block_at t id)) now)
        → OwesPlaces (record t { blocks = rows }) p now
    OwesPlaces-put_block now own some others are =
        OwesPlaces-rows t p owed o t.params p.next_block t.inode_blocks rows t.objects now (record {
          made = o.made;
          rising_places = o.ordered.inode_blocks;
          rising_blocks = rises-put by_block nat_cmp_total row t.blocks o.ordered.blocks;
          rising_objects = o.ordered.objects;
          counts =
              list_all-put_else by_block nat_cmp_total (owes_places t now) row t.blocks o.ordered.blocks
              (and_from (count == listed_block_count t b.id + times b.id now) (nat_le 1 count)
              (eq-eqb count (listed_block_count t b.id + times b.id now) own) (le-leb 1 count some))
              (list_all_weaker (owes_places t owed) (λ (r : Block). has_key by_block b.id r || owes_places t now r) each t.blocks o.counts);
          objects =
              list_all_weaker (counts_object t) (counts_object (record t { blocks = rows }))
              (λ x one. ap (λ n. x.refcount == n) (same_objects x.id) ∙ one) t.objects o.objects;
          there = list_all_weaker (λ id. is_some (block_at t id)) (λ id. is_some (row_at by_block id rows)) there_after now are;
          found_blocks =
              list_all_weaker (finds_of_inode_block t) (finds_of_inode_block (record t { blocks = rows }))
              (λ r finds.
              let parts = and_parts (has_inode is_regular t r.inode) (is_some (block_at t r.block)) finds in
              and_from (has_inode is_regular t r.inode) (is_some (row_at by_block r.block rows)) parts.0 (there_after r.block parts.1))
              t.inode_blocks o.rows.inode_blocks;
          found_objects =
              list_all-put by_block (λ (r : Block). is_some (object_at t r.object)) row t.blocks
              (row_at_passes by_block (λ (r : Block). is_some (object_at t r.object)) b.id t.blocks b o.rows.objects there) o.rows.objects;
          distinct = record {
            digests =
                differ-map same_bytes digest_of_row rows
                ∙ ap (differ same_bytes) (map-put_there by_block nat_cmp_total digest_of_row row b t.blocks o.ordered.blocks there refl)
                ∙ sym (differ-map same_bytes digest_of_row t.blocks) ∙ o.distinct.digests;
            objects =
                differ-map same_number object_of_row rows
                ∙ ap (differ same_number) (map-put_there by_block nat_cmp_total object_of_row row b t.blocks o.ordered.blocks there refl)
                ∙ sym (differ-map same_number object_of_row t.blocks) ∙ o.distinct.objects;
            sizes =
                list_all-put by_block (has_size_of_object t) row t.blocks
                (row_at_passes by_block (has_size_of_object t) b.id t.blocks b o.distinct.sizes there) o.distinct.sizes;
            within =
                list_all-put by_block (λ (r : Block). nat_le r.size p.block_size) row t.blocks
                (row_at_passes by_block (λ (r : Block). nat_le r.size p.block_size) b.id t.blocks b o.distinct.within there) o.distinct.within;
          };
          inside = o.sizes.inode_blocks;
          free_blocks =
              list_all-put by_block (λ (r : Block). nat_lt r.id p.next_block) row t.blocks
              (row_at_passes by_block (λ (r : Block). nat_lt r.id p.next_block) b.id t.blocks b o.free.blocks there) o.free.blocks;
          free_objects = o.free.objects;
        })
      where
        each : (r : Block) → IsTrue (owes_places t owed r) → IsTrue (has_key by_block b.id r || owes_places t now r)
        each r one = by_case (has_key by_block b.id r) refl
          where
            by_case : (c : Bool) → has_key by_block b.id r ≡ c → IsTrue (c || owes_places t now r)
            by_case true is = refl
            by_case false is =
                ap (λ n. r.refcount == listed_block_count t r.id + n && nat_le 1 r.refcount)
                (others r.id (sym (is_eq-nat_cmp b.id r.id) ∙ is)) ∙ one

        same_objects : (id : ℕ) → listed_object_count (record t { blocks = rows }) id ≡ listed_object_count t id
        same_objects id =
            omega (arith, count_by-put_there by_block nat_cmp_total (λ (r : Block). r.object == id) row b t.blocks o.ordered.blocks there)

  -- a block that counts one place more owes it
  pub OwesPlaces-counted : (more : List Change) → counted_block (Some b) ≡ Some more → OwesPlaces (tables_after more t) p (b.id ∷ owed)
  OwesPlaces-counted more is = by_case (nat_lt (b.refcount + 1) (2 ^ 62)) is
    where
      by_case : (c : Bool) → cond c (Some (changes.PutBlock (record b { refcount = b.refcount + 1 }) ∷ [])) None ≡ Some more
          → OwesPlaces (tables_after more t) p (b.id ∷ owed)
      by_case true made =
          let same : changes.PutBlock (record b { refcount = b.refcount + 1 }) ∷ [] ≡ more = cc made in
          subst (λ (cs : List Change). OwesPlaces (tables_after cs t) p (b.id ∷ owed)) same
          (OwesPlaces-put_block (b.refcount + 1) (b.id ∷ owed) (omega (arith, count_is, times_first b.id owed)) (omega arith)
          (λ id other. times_other b.id id owed other)
          (and_from (is_some (block_at t b.id)) (list_all (λ id. is_some (block_at t id)) owed) (ap is_some there) o.there))
      by_case false made = absurd (cc made)

-- ---- one place less

module _ (t : Tables) (p : Parameters) (b : Block) (owed : List ℕ) (o : OwesPlaces t p (b.id ∷ owed)) (there : block_at t b.id ≡ Some b) where
  still_there : IsTrue (list_all (λ id. is_some (block_at t id)) owed)
  still_there = (and_parts (is_some (block_at t b.id)) (list_all (λ id. is_some (block_at t id)) owed) o.there).1

  -- a block that counts another place
  OwesPlaces-fewer : (b.refcount == 1) ≡ false → OwesPlaces (record t { blocks = put by_block (record b { refcount = b.refcount - 1 }) t.blocks }) p owed
  OwesPlaces-fewer is =
      let some = some_count t p (b.id ∷ owed) o b there in
      let not_one : b.refcount ≡ 1 → ⊥ =
      λ (one : b.refcount ≡ 1).
      let clash : true ≡ false = sym (eq-eqb b.refcount 1 one) ∙ is in
      cc clash in
      OwesPlaces-put_block t p (b.id ∷ owed) o b there (b.refcount - 1) owed
      (omega (arith, count_is t p (b.id ∷ owed) o b there, times_first b.id owed, some)) (omega arith)
      (λ id other. sym (times_other b.id id owed other)) still_there

  module _ (last : b.refcount ≡ 1) (x : Object) (has : object_at t b.object ≡ Some x) where
    abbrev low : Object
    low = record x { refcount = x.refcount - 1 }

    abbrev rest : List Block
    rest = without by_block b.id t.blocks

    abbrev objects : List Object
    objects = put by_object low t.objects

    abbrev after : Tables
    after = record t { blocks = rest; objects = objects }

    number_is : b.object ≡ x.id
    number_is = one_number b.object x.id (ap is_eq (row_at_key by_object b.object t.objects x has))

    listed_none : listed_block_count t b.id ≡ 0
    listed_none = omega (arith, count_is t p (b.id ∷ owed) o b there, times_first b.id owed, last)

    owed_none : times b.id owed ≡ 0
    owed_none = omega (arith, count_is t p (b.id ∷ owed) o b there, times_first b.id owed, last)

    -- other blocks are there
    other_there : (id : ℕ) → IsTrue (not (id == b.id)) → IsTrue (is_some (block_at t id)) → IsTrue (is_some (row_at by_block id rest))
    other_there id apart some =
        ap is_some (row_at-without_other by_block nat_cmp_total b.id id t.blocks
        (is_eq-nat_cmp b.id id ∙ eqb_comm b.id id ∙ false_from_not (id == b.id) apart)) ∙ some

    -- each object is there, with its size
    object_there : (id : ℕ) → IsTrue (is_some (object_at t id)) → IsTrue (is_some (row_at by_object id objects))
    object_there id some = ap is_some (row_at-put by_object nat_cmp_total id low t.objects) ∙ by_case (has_key by_object id low)
      where
        by_case : (c : Bool) → IsTrue (is_some (cond c (Some low) (object_at t id)))
        by_case true = refl
        by_case false = some

    abbrev size_found : Option Object → Option ℕ
    size_found found = option_and_then (λ y. y.size) found

    same_size : (id : ℕ) → size_found (row_at by_object id objects) ≡ size_found (object_at t id)
    same_size id = ap size_found (row_at-put by_object nat_cmp_total id low t.objects) ∙ by_case (has_key by_object id low) refl
      where
        by_case : (c : Bool) → has_key by_object id low ≡ c → size_found (cond c (Some low) (object_at t id)) ≡ size_found (object_at t id)
        by_case true is = sym (ap size_found (ap (object_at t) (one_number id x.id is ∙ sym number_is) ∙ has))
        by_case false is = refl

    counts_less : (id : ℕ) → cond (b.object == id) 1 0 + listed_object_count after id ≡ listed_object_count t id
    counts_less id = count_by-without_there by_block nat_cmp_total (λ (r : Block). r.object == id) b.id b t.blocks o.ordered.blocks there

    own_count : IsTrue (counts_object after low)
    own_count =
        let now : x.refcount ≡ listed_object_count t x.id =
        eqb-true x.refcount (listed_object_count t x.id) (row_at_passes by_object (counts_object t) b.object t.objects x o.objects has) in
        let one : cond {A = ℕ} (b.object == x.id) 1 0 ≡ 1 = ap (λ c. cond {A = ℕ} c 1 0) (eq-eqb b.object x.id number_is) in
        eq-eqb (x.refcount - 1) (listed_object_count after x.id) (omega (arith, now, one, counts_less x.id))

    other_count : (y : Object) → IsTrue (counts_object t y) → IsTrue (has_key by_object x.id y || counts_object after y)
    other_count y own = by_case (has_key by_object x.id y) refl
      where
        by_case : (c : Bool) → has_key by_object x.id y ≡ c → IsTrue (c || counts_object after y)
        by_case true is = refl
        by_case false is =
            let none : cond {A = ℕ} (b.object == y.id) 1 0 ≡ 0 =
            ap (λ n. cond {A = ℕ} (n == y.id) 1 0) number_is ∙ ap (λ c. cond {A = ℕ} c 1 0) (sym (is_eq-nat_cmp x.id y.id) ∙ is) in
            let same : listed_object_count after y.id ≡ listed_object_count t y.id = omega (arith, none, counts_less y.id) in
            ap (λ n. y.refcount == n) same ∙ own

    -- a block that counts no other place goes, and its object has one block less
    OwesPlaces-gone : OwesPlaces after p owed
    OwesPlaces-gone =
        OwesPlaces-rows t p (b.id ∷ owed) o t.params p.next_block t.inode_blocks rest objects owed (record {
          made = o.made;
          rising_places = o.ordered.inode_blocks;
          rising_blocks = rises-without by_block b.id t.blocks o.ordered.blocks;
          rising_objects = rises-put by_object nat_cmp_total low t.objects o.ordered.objects;
          counts =
              list_all_weaker_both (λ r. not (has_key by_block b.id r)) (owes_places t (b.id ∷ owed)) (owes_places t owed)
              (λ r away own. ap (λ n. r.refcount == listed_block_count t r.id + n && nat_le 1 r.refcount)
              (sym (times_other b.id r.id owed (sym (is_eq-nat_cmp b.id r.id) ∙ false_from_not (has_key by_block b.id r) away))) ∙ own)
              rest (list_all-filter_same (λ r. not (has_key by_block b.id r)) t.blocks)
              (list_all-without by_block (owes_places t (b.id ∷ owed)) b.id t.blocks o.counts);
          objects =
              list_all-put_else by_object nat_cmp_total (counts_object after) low t.objects o.ordered.objects own_count
              (list_all_weaker (counts_object t) (λ (y : Object). has_key by_object x.id y || counts_object after y) other_count t.objects o.objects);
          there =
              list_all_weaker_both (λ id. not (id == b.id)) (λ id. is_some (block_at t id)) (λ id. is_some (row_at by_block id rest)) other_there owed
              (list_all_from_times_none b.id owed owed_none) still_there;
          found_blocks =
              list_all_weaker_both (λ (r : InodeBlock). not (r.block == b.id)) (finds_of_inode_block t) (finds_of_inode_block after)
              (λ r apart finds.
              let parts = and_parts (has_inode is_regular t r.inode) (is_some (block_at t r.block)) finds in
              and_from (has_inode is_regular t r.inode) (is_some (row_at by_block r.block rest)) parts.0 (other_there r.block apart parts.1))
              t.inode_blocks
              (list_all_from_list_any (λ (r : InodeBlock). r.block == b.id) t.inode_blocks
              (ap not (list_any_from_count_by (λ (r : InodeBlock). r.block == b.id) t.inode_blocks listed_none)))
              o.rows.inode_blocks;
          found_objects =
              list_all_weaker (λ (r : Block). is_some (object_at t r.object)) (λ (r : Block). is_some (row_at by_object r.object objects))
              (λ r some. object_there r.object some) rest
              (list_all-without by_block (λ (r : Block). is_some (object_at t r.object)) b.id t.blocks o.rows.objects);
          distinct = record {
            digests = differ-filter have_one_digest (λ r. not (has_key by_block b.id r)) t.blocks o.distinct.digests;
            objects = differ-filter have_one_object (λ r. not (has_key by_block b.id r)) t.blocks o.distinct.objects;
            sizes =
                list_all_weaker (has_size_of_object t) (has_size_of_object after) (λ r own. ap (is_number r.size) (same_size r.object) ∙ own) rest
                (list_all-without by_block (has_size_of_object t) b.id t.blocks o.distinct.sizes);
            within = list_all-without by_block (λ (r : Block). nat_le r.size p.block_size) b.id t.blocks o.distinct.within;
          };
          inside = o.sizes.inode_blocks;
          free_blocks = list_all-without by_block (λ (r : Block). nat_lt r.id p.next_block) b.id t.blocks o.free.blocks;
          free_objects =
              list_all-put by_object (λ (y : Object). nat_lt y.id p.next_object) low t.objects
              (row_at_passes by_object (λ (y : Object). nat_lt y.id p.next_object) b.object t.objects x o.free.objects has) o.free.objects;
        })

  -- a block with one place less owes it no more
  pub OwesPlaces-lowered : OwesPlaces (tables_after (lowered_block t (Some b)) t) p owed
  OwesPlaces-lowered = by_case (b.refcount == 1) refl
    where
      by_object_found : b.refcount ≡ 1 → (found : Option Object) → object_at t b.object ≡ found
          → OwesPlaces (tables_after (changes.DeleteBlock b.id ∷ lowered_object found) t) p owed
      by_object_found last None has =
          let finds : IsTrue (is_some (object_at t b.object)) =
          row_at_passes by_block (λ (r : Block). is_some (object_at t r.object)) b.id t.blocks b o.rows.objects there in
          let clash : false ≡ true = sym (ap is_some has) ∙ finds in
          absurd (cc clash)
      by_object_found last (Some x) has = OwesPlaces-gone last x has

      by_case : (c : Bool) → (b.refcount == 1) ≡ c
          → OwesPlaces (tables_after (cond c (changes.DeleteBlock b.id ∷ lowered_object (object_at t b.object))
          (changes.PutBlock (record b { refcount = b.refcount - 1 }) ∷ [])) t) p owed
      by_case true is = by_object_found (eqb-true b.refcount 1 is) (object_at t b.object) refl
      by_case false is = OwesPlaces-fewer is

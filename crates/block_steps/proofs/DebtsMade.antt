-- A block that comes with its object: it owes the place that it counts.
use Rattle.std.proofs.Common.{◌≡◌, ◌≤◌, ℕ, ◌+◌, List, ◌∷◌, Bool, true, false, cond, Option, None, Some, refl, sym, ap, ◌∙◌, arith, eq-eqb, eqb-true, le-leb, lt-ltb, ltb-true}
use Rattle.std.specs.Prelude.{IsTrue, not, ◌&&◌, ◌||◌, ◌==◌, is_some, nat_le, nat_lt, option_and_then}
use Rattle.std.specs.List.{list_all}
use Rattle.std.specs.Cmp.{nat_cmp_total}
use Rattle.std.specs.declared.cmp.Ordering.{Ordering}
use Rattle.std.specs.declared.cmp.Ordering.TheVariants.{Less, Equal, Greater}
use Rattle.std.specs.Ordering.{is_eq, ordering_reverse}
use Rattle.std.proofs.lemmas.Bool.{and_from, and_parts}
use Rattle.std.proofs.lemmas.Cmp.{nat_list_cmp_total}
use Rattle.std.proofs.lemmas.List.Sums.{sum_by-cons}
use Rattle.s3_rows.specs.declared.digest.Digest.{Digest}
use Rattle.s3_rows.specs.Rows.{InodeBlock, Block, Object, Parameters}
use Rattle.s3_rows.specs.Keyed.{has_key, put, row_at}
use Rattle.s3_rows.specs.Tables.{Tables, by_block, by_object}
use Rattle.s3_rows.specs.Batches.{tables_after}
use Rattle.s3_rows.specs.Selections.{block_at, block_of_digest, bytes_cmp, object_at}
use Rattle.s3_rows.specs.Counts.{listed_block_count, listed_object_count}
use Rattle.s3_rows.specs.Validity.{counts_object, finds_of_inode_block, has_inode, has_size_of_object, have_one_digest, have_one_object, is_number, is_regular}
use Rattle.row_lemmas.proofs.Sums.{count_by_none, list_any_from_count_by}
use Rattle.row_lemmas.proofs.Tests.{eqb_comm, find_none, is_eq-nat_cmp, list_all_from_find, list_all_from_list_any, list_all_weaker, list_all_weaker_both}
use Rattle.row_lemmas.proofs.Keyed.Count.{count_by-put_new}
use Rattle.row_lemmas.proofs.Keyed.Put.{differ-put, list_all-put, list_all-put_else, rises-put, row_at-put}
use Rattle.row_lemmas.proofs.Keyed.RowAt.{row_at_passes}
use Rattle.core_model.specs.Safe.{new_object}
use Rattle.block_steps.specs.Owed.{OwesPlaces, owes_places, times}
use Rattle.block_steps.specs.Places.{block_drawn, block_made}
use Rattle.block_steps.proofs.DebtsLists.{times_first, times_none, times_other}
use Rattle.block_steps.proofs.DebtsTables.{OwesPlaces-rows}

-- bytes compared the other way round
bytes_turned : (a b : List ℕ) → is_eq (bytes_cmp a b) ≡ is_eq (bytes_cmp b a)
bytes_turned a b = ap is_eq (nat_list_cmp_total.antisymm a b) ∙ turned (bytes_cmp b a)
  where
    turned : (c : Ordering) → is_eq (ordering_reverse c) ≡ is_eq c
    turned Less = refl
    turned Equal = refl
    turned Greater = refl

module _ (t : Tables) (p : Parameters) (object size : ℕ) (digest : Digest) (owed : List ℕ) (o : OwesPlaces t p owed)
    (has : object_at t object ≡ Some (new_object object)) (free : block_of_digest t digest ≡ None) (short : size ≤ p.block_size) where
  abbrev new : Block
  new = record { id = p.next_block; digest = digest; refcount = 1; size = size; object = object }

  abbrev stored : Object
  stored = record { id = object; refcount = 1; size = Some size }

  abbrev rows : List Block
  rows = put by_block new t.blocks

  abbrev objects : List Object
  objects = put by_object stored t.objects

  abbrev after : Tables
  after = record t { params = Some (block_drawn p); blocks = rows; objects = objects }

  -- ---- the next number of a block

  -- no row has it
  next_has_no_row : block_at t p.next_block ≡ None
  next_has_no_row =
      find_none (has_key by_block p.next_block) (λ (r : Block). nat_lt r.id p.next_block)
      (λ r less. is_eq-nat_cmp p.next_block r.id ∙ above r.id less) t.blocks o.free.blocks
    where
      above : (x : ℕ) → IsTrue (nat_lt x p.next_block) → (p.next_block == x) ≡ false
      above x less = by_case (p.next_block == x) refl
        where
          by_case : (c : Bool) → (p.next_block == x) ≡ c → c ≡ false
          by_case true is = absurd (omega (arith, ltb-true x p.next_block less, eqb-true p.next_block x is))
          by_case false is = refl

  -- what has a row is another
  not_next : (id : ℕ) → IsTrue (is_some (block_at t id)) → IsTrue (not (id == p.next_block))
  not_next id some = by_case (id == p.next_block) refl
    where
      by_case : (c : Bool) → (id == p.next_block) ≡ c → IsTrue (not c)
      by_case true is =
          let clash : false ≡ true = sym (ap is_some (ap (block_at t) (eqb-true id p.next_block is) ∙ next_has_no_row)) ∙ some in
          absurd (cc clash)
      by_case false is = refl

  -- and so nothing names it or is owed to it
  listed_none : listed_block_count t p.next_block ≡ 0
  listed_none =
      count_by_none (λ (r : InodeBlock). r.block == p.next_block) t.inode_blocks
      (list_all_weaker (finds_of_inode_block t) (λ (r : InodeBlock). not (r.block == p.next_block))
      (λ r finds. not_next r.block (and_parts (has_inode is_regular t r.inode) (is_some (block_at t r.block)) finds).1) t.inode_blocks o.rows.inode_blocks)

  owed_none : times p.next_block owed ≡ 0
  owed_none = times_none (λ id. is_some (block_at t id)) p.next_block owed not_next o.there

  there_after : (id : ℕ) → IsTrue (is_some (block_at t id)) → IsTrue (is_some (row_at by_block id rows))
  there_after id some = ap is_some (row_at-put by_block nat_cmp_total id new t.blocks) ∙ by_case (has_key by_block id new)
    where
      by_case : (c : Bool) → IsTrue (is_some (cond c (Some new) (block_at t id)))
      by_case true = refl
      by_case false = some

  own_count : IsTrue (owes_places t (p.next_block ∷ owed) new)
  own_count =
      and_from (1 == listed_block_count t p.next_block + times p.next_block (p.next_block ∷ owed)) (nat_le 1 1)
      (eq-eqb 1 (listed_block_count t p.next_block + times p.next_block (p.next_block ∷ owed))
      (omega (arith, listed_none, owed_none, times_first p.next_block owed))) refl

  other_count : (r : Block) → IsTrue (owes_places t owed r) → IsTrue (has_key by_block p.next_block r || owes_places t (p.next_block ∷ owed) r)
  other_count r own = by_case (has_key by_block p.next_block r) refl
    where
      by_case : (c : Bool) → has_key by_block p.next_block r ≡ c → IsTrue (c || owes_places t (p.next_block ∷ owed) r)
      by_case true is = refl
      by_case false is =
          ap (λ n. r.refcount == listed_block_count t r.id + n && nat_le 1 r.refcount)
          (times_other p.next_block r.id owed (sym (is_eq-nat_cmp p.next_block r.id) ∙ is)) ∙ own

  -- ---- the object

  -- no block has it
  unused : IsTrue (list_all (λ (r : Block). not (r.object == object)) t.blocks)
  unused =
      let none : 0 ≡ listed_object_count t object =
      eqb-true 0 (listed_object_count t object) (row_at_passes by_object (counts_object t) object t.objects (new_object object) o.objects has) in
      list_all_from_list_any (λ (r : Block). r.object == object) t.blocks
      (ap not (list_any_from_count_by (λ (r : Block). r.object == object) t.blocks (sym none)))

  apart_from : (x : ℕ) → IsTrue (not (x == object)) → has_key by_object x stored ≡ false
  apart_from x apart = is_eq-nat_cmp x object ∙ by_case (x == object) apart
    where
      by_case : (c : Bool) → IsTrue (not c) → c ≡ false
      by_case true is = absurd (cc is)
      by_case false is = refl

  -- other objects are found as before
  other_object : (x : ℕ) → IsTrue (not (x == object)) → row_at by_object x objects ≡ object_at t x
  other_object x apart = row_at-put by_object nat_cmp_total x stored t.objects ∙ ap (λ c. cond c (Some stored) (object_at t x)) (apart_from x apart)

  own_object : row_at by_object object objects ≡ Some stored
  own_object =
      row_at-put by_object nat_cmp_total object stored t.objects
      ∙ ap (λ c. cond c (Some stored) (object_at t object)) (is_eq-nat_cmp object object ∙ eq-eqb object object refl)

  counts_more : (id : ℕ) → listed_object_count after id ≡ cond (object == id) 1 0 + listed_object_count t id
  counts_more id =
      let one : Block → ℕ = λ r. cond (r.object == id) 1 0 in
      count_by-put_new by_block (λ (r : Block). r.object == id) new t.blocks (ap is_some next_has_no_row) ∙ sum_by-cons one new t.blocks

  own_objects : IsTrue (counts_object after stored)
  own_objects =
      let none : 0 ≡ listed_object_count t object =
      eqb-true 0 (listed_object_count t object) (row_at_passes by_object (counts_object t) object t.objects (new_object object) o.objects has) in
      let one : cond {A = ℕ} (object == object) 1 0 ≡ 1 = ap (λ c. cond {A = ℕ} c 1 0) (eq-eqb object object refl) in
      eq-eqb 1 (listed_object_count after object) (omega (arith, none, one, counts_more object))

  other_objects : (y : Object) → IsTrue (counts_object t y) → IsTrue (has_key by_object object y || counts_object after y)
  other_objects y own = by_case (has_key by_object object y) refl
    where
      by_case : (c : Bool) → has_key by_object object y ≡ c → IsTrue (c || counts_object after y)
      by_case true is = refl
      by_case false is =
          let none : cond {A = ℕ} (object == y.id) 1 0 ≡ 0 = ap (λ c. cond {A = ℕ} c 1 0) (sym (is_eq-nat_cmp object y.id) ∙ is) in
          let same : listed_object_count after y.id ≡ listed_object_count t y.id = omega (arith, none, counts_more y.id) in
          ap (λ n. y.refcount == n) same ∙ own

  -- ---- blocks that differ

  unlike_digest : IsTrue (list_all (λ (r : Block). not (is_eq (bytes_cmp r.digest.0 digest.0))) t.blocks)
  unlike_digest = list_all_from_find (λ (r : Block). is_eq (bytes_cmp r.digest.0 digest.0)) t.blocks free

  digests_differ : IsTrue (list_all (λ (r : Block). not (have_one_digest new r)) t.blocks)
  digests_differ =
      list_all_weaker (λ (r : Block). not (is_eq (bytes_cmp r.digest.0 digest.0))) (λ (r : Block). not (have_one_digest new r))
      (λ r apart. ap not (bytes_turned digest.0 r.digest.0) ∙ apart) t.blocks unlike_digest

  objects_differ : IsTrue (list_all (λ (r : Block). not (have_one_object new r)) t.blocks)
  objects_differ =
      list_all_weaker (λ (r : Block). not (r.object == object)) (λ (r : Block). not (have_one_object new r))
      (λ r apart. ap not (eqb_comm object r.object) ∙ apart) t.blocks unused

  -- ---- all of it

  lower : (x n : ℕ) → IsTrue (nat_lt x n) → IsTrue (nat_lt x (n + 1))
  lower x n less = lt-ltb x (n + 1) (omega (arith, ltb-true x n less))

  -- a block that comes owes the place that it counts
  pub OwesPlaces-made : OwesPlaces (tables_after (block_made p object digest size) t) (block_drawn p) (p.next_block ∷ owed)
  OwesPlaces-made =
      OwesPlaces-rows t p owed o (Some (block_drawn p)) (p.next_block + 1) t.inode_blocks rows objects (p.next_block ∷ owed) (record {
        made = refl;
        rising_places = o.ordered.inode_blocks;
        rising_blocks = rises-put by_block nat_cmp_total new t.blocks o.ordered.blocks;
        rising_objects = rises-put by_object nat_cmp_total stored t.objects o.ordered.objects;
        counts =
            list_all-put_else by_block nat_cmp_total (owes_places t (p.next_block ∷ owed)) new t.blocks o.ordered.blocks own_count
            (list_all_weaker (owes_places t owed) (λ (r : Block). has_key by_block p.next_block r || owes_places t (p.next_block ∷ owed) r) other_count
            t.blocks o.counts);
        objects =
            list_all-put_else by_object nat_cmp_total (counts_object after) stored t.objects o.ordered.objects own_objects
            (list_all_weaker (counts_object t) (λ (y : Object). has_key by_object object y || counts_object after y) other_objects t.objects o.objects);
        there =
            and_from (is_some (row_at by_block p.next_block rows)) (list_all (λ id. is_some (row_at by_block id rows)) owed)
            (ap is_some (row_at-put by_block nat_cmp_total p.next_block new t.blocks
            ∙ ap (λ c. cond c (Some new) (block_at t p.next_block)) (is_eq-nat_cmp p.next_block p.next_block ∙ eq-eqb p.next_block p.next_block refl)))
            (list_all_weaker (λ id. is_some (block_at t id)) (λ id. is_some (row_at by_block id rows)) there_after owed o.there);
        found_blocks =
            list_all_weaker (finds_of_inode_block t) (finds_of_inode_block after)
            (λ r finds.
            let parts = and_parts (has_inode is_regular t r.inode) (is_some (block_at t r.block)) finds in
            and_from (has_inode is_regular t r.inode) (is_some (row_at by_block r.block rows)) parts.0 (there_after r.block parts.1))
            t.inode_blocks o.rows.inode_blocks;
        found_objects =
            list_all-put by_block (λ (r : Block). is_some (row_at by_object r.object objects)) new t.blocks (ap is_some own_object)
            (list_all_weaker_both (λ (r : Block). not (r.object == object)) (λ (r : Block). is_some (object_at t r.object))
            (λ (r : Block). is_some (row_at by_object r.object objects))
            (λ r apart some. ap is_some (other_object r.object apart) ∙ some) t.blocks unused o.rows.objects);
        distinct = record {
          digests =
              differ-put by_block have_one_digest new t.blocks digests_differ unlike_digest o.distinct.digests;
          objects =
              differ-put by_block have_one_object new t.blocks objects_differ unused o.distinct.objects;
          sizes =
              list_all-put by_block (has_size_of_object after) new t.blocks
              (ap (λ (found : Option Object). is_number size (option_and_then (λ (y : Object). y.size) found)) own_object ∙ eq-eqb size size refl)
              (list_all_weaker_both (λ (r : Block). not (r.object == object)) (has_size_of_object t) (has_size_of_object after)
              (λ r apart own.
              ap (λ (found : Option Object). is_number r.size (option_and_then (λ (y : Object). y.size) found)) (other_object r.object apart) ∙ own)
              t.blocks unused o.distinct.sizes);
          within = list_all-put by_block (λ (r : Block). nat_le r.size p.block_size) new t.blocks (le-leb size p.block_size short) o.distinct.within;
        };
        inside = o.sizes.inode_blocks;
        free_blocks =
            list_all-put by_block (λ (r : Block). nat_lt r.id (p.next_block + 1)) new t.blocks (lt-ltb p.next_block (p.next_block + 1) (omega arith))
            (list_all_weaker (λ (r : Block). nat_lt r.id p.next_block) (λ (r : Block). nat_lt r.id (p.next_block + 1))
            (λ r less. lower r.id p.next_block less) t.blocks o.free.blocks);
        free_objects =
            list_all-put by_object (λ (y : Object). nat_lt y.id p.next_object) stored t.objects
            (row_at_passes by_object (λ (y : Object). nat_lt y.id p.next_object) object t.objects (new_object object) o.free.objects has) o.free.objects;
      })

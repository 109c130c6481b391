-- As many objects have a block as there are blocks.
use Rattle.std.proofs.Common.{◌≡◌, ℕ, List, length, Bool, true, false, cond, Option, None, Some, refl, sym, ap, ◌∙◌, eqb-true}
use Rattle.std.specs.Prelude.{IsTrue, ◌==◌, not, count_by, filter, find, is_some}
use Rattle.std.specs.List.{list_any}
use Rattle.std.specs.Cmp.{nat_cmp_total}
use Rattle.std.specs.Ordering.{eq_by_cmp, is_eq, nat_cmp}
use Rattle.std.proofs.lemmas.Bool.{eq-eqb}
use Rattle.s3_rows.specs.Rows.{Block, Object}
use Rattle.s3_rows.specs.Keyed.{has_key}
use Rattle.s3_rows.specs.Tables.{Tables, by_object}
use Rattle.s3_rows.specs.Selections.{object_at}
use Rattle.s3_rows.specs.Counts.{listed_object_count}
use Rattle.s3_rows.specs.Validity.{IsValid, counts_object, have_one_object}
use Rattle.row_lemmas.proofs.Sums.{count_by_none, list_any_from_count_by}
use Rattle.row_lemmas.proofs.Tests.{false_from_not, find_from_list_any, find_passes, find_passes_all, is_eq-nat_cmp, list_all_from_list_any, list_any-find, list_any_from_find, list_any_weaker}
use Rattle.row_lemmas.proofs.Keyed.Filter.{if_passes, row_at-filter}
use Rattle.row_lemmas.proofs.Keyed.Rises.{rises-filter}
use Rattle.row_lemmas.proofs.Keyed.RowAt.{row_at_passes}
use Rattle.byte_steps.proofs.DistinctRows.{AreAmong, IsDistinct-differ, IsDistinct-rises, length-same_keys}

-- what is counted more than never passes for some
pub list_any-counted : {R : Type 0} (p : R → Bool) (rows : List R) → (count_by p rows ≡ 0 → ⊥) → IsTrue (list_any p rows)
list_any-counted p rows some = by_test (list_any p rows) refl
  where
    by_test : (b : Bool) → list_any p rows ≡ b → b ≡ true
    by_test true is = refl
    by_test false is = absurd (some (count_by_none p rows (list_all_from_list_any p rows (ap not is))))

-- a number that is found has the key
same_id : (q n : ℕ) → IsTrue (is_eq (nat_cmp q n)) → q ≡ n
same_id q n is = eqb-true q n (sym (is_eq-nat_cmp q n) ∙ is)

-- an object that some block has
abbrev pub has_block : Object → Bool
has_block o = not (o.refcount == 0)

module _ (t : Tables) (valid : IsValid t) where
  count_of : (q : ℕ) (o : Object) → object_at t q ≡ Some o → (q ≡ o.id) × (o.refcount ≡ listed_object_count t o.id)
  count_of q o there = (
    same_id q o.id (find_passes (has_key by_object q) t.objects o there),
    eqb-true o.refcount (listed_object_count t o.id) (row_at_passes by_object (counts_object t) q t.objects o valid.counts.objects there),
  )

  -- an object that has a block is that of a block
  of_block : (q : ℕ) (o : Object) → object_at t q ≡ Some o → has_block o ≡ true → IsTrue (list_any (λ (b : Block). is_eq (nat_cmp q b.object)) t.blocks)
  of_block q o there used =
      let counted = count_of q o there in
      let some : count_by (λ (b : Block). b.object == o.id) t.blocks ≡ 0 → ⊥ = λ none.
      (let zero : (o.refcount == 0) ≡ true = ap (λ n. n == 0) (counted.1 ∙ none) in
      let clash : false ≡ true = sym (false_from_not (o.refcount == 0) used) ∙ zero in
      absurd (cc clash)) in
      list_any_weaker (λ (b : Block). b.object == o.id) (λ (b : Block). is_eq (nat_cmp q b.object))
      (λ b is. is_eq-nat_cmp q b.object ∙ ap (λ n. n == b.object) (counted.0 ∙ sym (eqb-true b.object o.id is)) ∙ eq-eqb b.object b.object refl) t.blocks (list_any-counted (λ (b : Block). b.object == o.id) t.blocks some)

  -- and the object of a block has it
  of_object : (b : Block) (o : Object) → IsTrue (list_any (λ (x : Block). x.object == b.object) t.blocks) → object_at t b.object ≡ Some o → has_block o ≡ true
  of_object b o here there = by_test (o.refcount == 0) refl
    where
      by_test : (c : Bool) → (o.refcount == 0) ≡ c → not c ≡ true
      by_test true zero =
          let counted = count_of b.object o there in
          let none : list_any (λ (x : Block). x.object == o.id) t.blocks ≡ false =
          list_any_from_count_by (λ (x : Block). x.object == o.id) t.blocks (sym counted.1 ∙ eqb-true o.refcount 0 zero) in
          let clash : true ≡ false = sym here ∙ ap (λ n. list_any (λ (x : Block). x.object == n) t.blocks) counted.0 ∙ none in
          absurd (cc clash)
      by_test false some = refl

  at_filter : (q : ℕ) → list_any (λ (o : Object). is_eq (nat_cmp q o.id)) (filter has_block t.objects) ≡ is_some (if_passes has_block (object_at t q))
  at_filter q = list_any-find (has_key by_object q) (filter has_block t.objects) ∙ ap is_some (row_at-filter by_object nat_cmp_total has_block q t.objects valid.ordered.objects)

  objects_among : AreAmong nat_cmp nat_cmp_total (λ (o : Object). o.id) (λ (b : Block). b.object) (filter has_block t.objects) t.blocks
  objects_among q any = by_row (object_at t q) refl (sym (at_filter q) ∙ any)
    where
      by_test : (o : Object) → object_at t q ≡ Some o → (c : Bool) → has_block o ≡ c → is_some (cond c (Some o) None) ≡ true → IsTrue (list_any (λ (b : Block). is_eq (nat_cmp q b.object)) t.blocks)
      by_test o there true used is = of_block q o there used
      by_test o there false used is = absurd (cc is)

      by_row : (found : Option Object) → object_at t q ≡ found → is_some (if_passes has_block found) ≡ true → IsTrue (list_any (λ (b : Block). is_eq (nat_cmp q b.object)) t.blocks)
      by_row None there is = absurd (cc is)
      by_row (Some o) there is = by_test o there (has_block o) refl is

  blocks_among : AreAmong nat_cmp nat_cmp_total (λ (b : Block). b.object) (λ (o : Object). o.id) t.blocks (filter has_block t.objects)
  blocks_among q any =
      let found = find_from_list_any (λ (b : Block). is_eq (nat_cmp q b.object)) t.blocks any in
      of_found found.0 found.1
    where
      of_found : (b : Block) → find (λ (x : Block). is_eq (nat_cmp q x.object)) t.blocks ≡ Some b → IsTrue (list_any (λ (o : Object). is_eq (nat_cmp q o.id)) (filter has_block t.objects))
      of_found b there =
          by_row (object_at t b.object) refl
          (find_passes_all (λ (x : Block). is_eq (nat_cmp q x.object)) (λ (x : Block). is_some (object_at t x.object)) t.blocks b valid.rows.objects there)
        where
          number : q ≡ b.object
          number = same_id q b.object (find_passes (λ (x : Block). is_eq (nat_cmp q x.object)) t.blocks b there)

          here : IsTrue (list_any (λ (x : Block). x.object == b.object) t.blocks)
          here = list_any_from_find (λ (x : Block). is_eq (nat_cmp q x.object)) (λ (x : Block). x.object == b.object) t.blocks b there (eq-eqb b.object b.object refl)

          by_row : (o : Option Object) → object_at t b.object ≡ o → IsTrue (is_some o) → IsTrue (list_any (λ (x : Object). is_eq (nat_cmp q x.id)) (filter has_block t.objects))
          by_row None of_it has = absurd (cc has)
          by_row (Some o) of_it has =
              at_filter q ∙ ap (λ n. is_some (if_passes has_block (object_at t n))) number ∙ ap (λ (x : Option Object). is_some (if_passes has_block x)) of_it
              ∙ ap (λ c. is_some (cond c (Some o) None)) (of_object b o here of_it)

  pub length-used_objects : length (filter has_block t.objects) ≡ length t.blocks
  length-used_objects =
      length-same_keys nat_cmp nat_cmp_total (λ (o : Object). o.id) (λ (b : Block). b.object) (filter has_block t.objects) t.blocks objects_among blocks_among
      (IsDistinct-rises by_object (filter has_block t.objects) (rises-filter by_object has_block t.objects valid.ordered.objects))
      (IsDistinct-differ (eq_by_cmp nat_cmp) have_one_object (λ (b : Block). b.object) (λ a b. is_eq-nat_cmp a.object b.object) t.blocks valid.blocks.objects)

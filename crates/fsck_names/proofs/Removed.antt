-- Deleting the rows that pass a test, one after the other, leaves those that do not pass.
use Rattle.std.proofs.Common.{◌≡◌, List, [], ◌∷◌, map, Bool, true, false, cond, refl, ap, ◌∙◌}
use Rattle.std.specs.Prelude.{IsTrue, not, filter, is_some}
use Rattle.std.specs.List.{list_all}
use Rattle.std.specs.Ordering.{is_eq}
use Rattle.std.specs.Cmp.{IsTotalOrder}
use Rattle.std.proofs.lemmas.Bool.{and_parts}
use Rattle.s3_rows.specs.Rows.{Content}
use Rattle.s3_rows.specs.Keyed.{Order, is_past, has_key, rises, without}
use Rattle.s3_rows.specs.Tables.{Tables, by_entry}
use Rattle.s3_rows.specs.Batches.{tables_after}
use Rattle.row_lemmas.proofs.Tests.{less_from_is_lt, list_all-filter}
use Rattle.row_lemmas.proofs.Keyed.Rises.{rises_head, rises_tail, compare_less_back}
use Rattle.row_lemmas.proofs.Keyed.RowAt.{row_at_none, has_key_same}
use Rattle.row_lemmas.proofs.Keyed.Without.{without_none}
use Rattle.fsck_names.specs.Entries.{delete_entry}

module _ {K R : Type 0} (o : Order K R) where
  -- without the rows of the keys of these, one key after the other
  abbrev pub without_all : List R → List R → List R
  without_all [] rows = rows
  without_all (g ∷ gs) rows = without_all gs (without o (o.key g) rows)

  module _ (total : IsTotalOrder o.compare) where
    -- a row below all whose keys go stays
    without_all_past : (x : R) (gone rows : List R) → IsTrue (list_all (is_past o (o.key x)) gone)
        → without_all gone (x ∷ rows) ≡ x ∷ without_all gone rows
    without_all_past x [] rows all = refl
    without_all_past x (g ∷ gs) rows all =
        let parts = and_parts (is_past o (o.key x) g) (list_all (is_past o (o.key x)) gs) all in
        let other : has_key o (o.key g) x ≡ false =
        ap is_eq (compare_less_back o total (o.key x) (o.key g) (less_from_is_lt _ parts.0)) in
        ap (λ b. without_all gs (cond (not b) (x ∷ without o (o.key g) rows) (without o (o.key g) rows))) other
        ∙ without_all_past x gs (without o (o.key g) rows) parts.1

    pub without_all-filter : (p : R → Bool) (rows : List R) → IsTrue (rises o rows)
        → without_all (filter p rows) rows ≡ filter (λ r. not (p r)) rows
    without_all-filter p [] up = refl
    without_all-filter p (x ∷ xs) up = by_case (without_all-filter p xs (rises_tail o x xs up)) (p x)
      where
        first : without o (o.key x) (x ∷ xs) ≡ xs
        first =
            ap (λ b. cond (not b) (x ∷ without o (o.key x) xs) (without o (o.key x) xs)) (has_key_same o total x)
            ∙ without_none o (o.key x) xs (ap is_some (row_at_none o (o.key x) xs (rises_head o x xs up)))

        by_case : without_all (filter p xs) xs ≡ filter (λ r. not (p r)) xs → (b : Bool)
            → without_all (cond b (x ∷ filter p xs) (filter p xs)) (x ∷ xs)
            ≡ cond (not b) (x ∷ filter (λ r. not (p r)) xs) (filter (λ r. not (p r)) xs)
        by_case others true = ap (λ rows. without_all (filter p xs) rows) first ∙ others
        by_case others false =
            without_all_past x (filter p xs) xs (list_all-filter p (is_past o (o.key x)) xs (rises_head o x xs up))
            ∙ ap (λ rows. x ∷ rows) others

-- deletes of entries change nothing else
tables_after-deletes : (gone : List Content) (t : Tables)
    → tables_after (map delete_entry gone) t ≡ record t { contents = without_all by_entry gone t.contents }
tables_after-deletes [] t = refl
tables_after-deletes (g ∷ gs) t = tables_after-deletes gs (record t { contents = without by_entry (by_entry.key g) t.contents })

-- where all entries that pass a test go, the others stay
pub tables_after-dropped : IsTotalOrder by_entry.compare → (p : Content → Bool) (t : Tables) → IsTrue (rises by_entry t.contents)
    → tables_after (map delete_entry (filter p t.contents)) t ≡ record t { contents = filter (λ r. not (p r)) t.contents }
tables_after-dropped total p t up =
    tables_after-deletes (filter p t.contents) t
    ∙ ap (λ rows. record t { contents = rows }) (without_all-filter by_entry total p t.contents up)

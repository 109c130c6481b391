-- Which ids an index lists, and when it lists all rows of a table.
use Rattle.std.specs.Prelude.{◌≡◌, ℕ, ◌≤◌, List, Bool, false, ◌==◌, nat_eq, IsTrue, Option, Some, None}
use Rattle.std.specs.List.{list_any}
use Rattle.std.specs.Option.{IsSomeAnd}
use Rattle.std.specs.Ordering.{is_eq, nat_cmp}
use Rattle.std.specs.Cmp.Lexicographic.{pointwise, slice_cmp}
use Rattle.std.specs.HashMap.{get_by}
use Rattle.s3_rows.specs.Keyed.{Order, row_at}
use Rattle.mem_keeper.specs.declared.index.Index.{Index}

-- the id is one of these
abbrev pub has_id : ℕ → List ℕ → Bool
has_id id ids = list_any (λ y. y == id) ids

-- the id is listed under the bytes
abbrev pub IsListed : Index → List ℕ → ℕ → Type 0
IsListed x bytes id = IsSomeAnd (get_by (λ k. pointwise nat_eq bytes k.items) x.ids) (λ ids. IsTrue (has_id id ids.items))

-- each row's id is listed under the row's bytes
abbrev pub Covers : {R : Type 0} → Order ℕ R → (R → List ℕ) → Index → List R → Type 0
Covers {R} o bytes x rows = (id : ℕ) (r : R) → row_at o id rows ≡ Some r → IsListed x (bytes r) id

-- the row has the bytes
abbrev pub has_bytes : {R : Type 0} → (R → List ℕ) → List ℕ → R → Bool
has_bytes bytes wanted r = is_eq (slice_cmp nat_cmp (bytes r) wanted)

-- there is a row of the id, and it has the bytes
abbrev pub row_has_bytes : {R : Type 0} → Order ℕ R → (R → List ℕ) → List R → List ℕ → ℕ → Bool
row_has_bytes o bytes rows wanted id = elim (row_at o id rows) [ None ↦ false | Some r ↦ has_bytes bytes wanted r ]

-- the answer is the least of the ids that pass the test, or none where none passes
abbrev pub IsLeast : (ℕ → Bool) → List ℕ → Option ℕ → Type 0
IsLeast test ids None = (n : ℕ) → IsTrue (has_id n ids) → test n ≡ false
IsLeast test ids (Some least) = IsTrue (test least) × ((n : ℕ) → IsTrue (has_id n ids) → IsTrue (test n) → least ≤ n)

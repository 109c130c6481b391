-- Rows in the order of their keys.
use Rattle.std.specs.Prelude.{ℕ, List, [], ◌∷◌, Bool, true, not, ◌&&◌, Option, None, Some, filter, find, if◌then◌else◌}
use Rattle.std.specs.List.{list_all}
use Rattle.std.specs.declared.cmp.Ordering.{Ordering}
use Rattle.std.specs.declared.cmp.Ordering.TheVariants.{Less, Equal, Greater}
use Rattle.std.specs.Ordering.{is_lt, is_eq, is_gt, nat_cmp, ordering_then}

-- the key of a row, and how keys are ordered
pub record Order (K R : Type 0) : Type 0 where
  pub compare : K → K → Ordering
  pub key : R → K

-- pairs by their first part and then by their second
abbrev pub pair_cmp : ℕ × ℕ → ℕ × ℕ → Ordering
pair_cmp a b = ordering_then (nat_cmp a.0 b.0) (nat_cmp a.1 b.1)

-- the row comes after the key
abbrev pub is_past : {K R : Type 0} → Order K R → K → R → Bool
is_past o k r = is_lt (o.compare k (o.key r))

-- the row has the key
abbrev pub has_key : {K R : Type 0} → Order K R → K → R → Bool
has_key o k r = is_eq (o.compare k (o.key r))

-- each row comes after all before it
abbrev pub rises : {K R : Type 0} → Order K R → List R → Bool
rises o [] = true
rises o (r ∷ rs) = list_all (is_past o (o.key r)) rs && rises o rs

-- at its place in the order, instead of the row of its key
abbrev pub put : {K R : Type 0} → Order K R → R → List R → List R
put o r [] = r ∷ []
put o r (x ∷ xs) = elim (o.compare (o.key r) (o.key x)) [ Less ↦ r ∷ x ∷ xs | Equal ↦ r ∷ xs | Greater ↦ x ∷ put o r xs ]

-- without the rows of a key
abbrev pub without : {K R : Type 0} → Order K R → K → List R → List R
without o k rows = filter (λ r. not (has_key o k r)) rows

-- the row of a key
abbrev pub row_at : {K R : Type 0} → Order K R → K → List R → Option R
row_at o k rows = find (has_key o k) rows

-- the rows past a key
abbrev pub rows_past : {K R : Type 0} → Order K R → K → List R → List R
rows_past o k rows = filter (is_past o k) rows

-- any rows in the order, of those with one key the first
abbrev pub sorted_by : {K R : Type 0} → Order K R → List R → List R
sorted_by o [] = []
sorted_by o (r ∷ rs) = put o r (sorted_by o rs)

-- the least row, of those with one key the first
abbrev pub least : {K R : Type 0} → Order K R → List R → Option R
least o [] = None
least o (r ∷ rs) = elim (least o rs) [ None ↦ Some r | Some x ↦ if is_gt (o.compare (o.key r) (o.key x)) then Some x else Some r ]

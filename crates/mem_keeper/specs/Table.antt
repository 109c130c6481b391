-- Rows by their keys in a map, where a key may be held for a row to come.
use Rattle.std.specs.Prelude.{◌≡◌, List, IfSome, IsSome, Option, Some, None}
use Rattle.std.specs.List.{AllByRecursion, filter_map}
use Rattle.std.specs.List.Sorted.{IsStrictlySortedBy}
use Rattle.std.specs.Map.{keys_of, lookup}
use Rattle.std.specs.BTreeMap.{BTreeMap, is_at, get}
use Rattle.std.specs.declared.cmp.Ordering.{Ordering}
use Rattle.std.specs.declared.cmp.Ordering.TheVariants.{Equal}
use Rattle.s3_rows.specs.Keyed.{Order}

-- the rows, in the order of their keys
abbrev pub rows_of : {K R : Type 0} → List (K × Option R) → List R
rows_of es = filter_map (λ e. e.1) es

-- the row of what a look-up gives
abbrev pub held_in : {R : Type 0} → Option (Option R) → Option R
held_in None = None
held_in (Some held) = held

-- the row at a key
abbrev pub held_at : {K R : Type 0} → (K → K → Ordering) → K → List (K × Option R) → Option R
held_at cmp k es = held_in (lookup (is_at (cmp k)) es)

-- the keys rise, and each row is at its own
pub record IsTable {K R : Type 0} (o : Order K R) (es : List (K × Option R)) : Type 0 where
  pub ordered : IsStrictlySortedBy o.compare (keys_of es)
  pub keyed : AllByRecursion (λ e. IfSome e.1 (λ r. o.compare e.0 (o.key r) ≡ Equal)) es

-- the second map has all keys of the first
abbrev pub KeepsPlaces : {K X : Type 0} → (K → K → Ordering) → BTreeMap K X → BTreeMap K X → Type 0
KeepsPlaces {K} cmp m n = (q : K) → IsSome (get cmp m q) → IsSome (get cmp n q)

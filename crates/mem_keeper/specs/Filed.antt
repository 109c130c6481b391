-- Rows by their owners and the bytes of their names: when they are filed, and what a walk over them gives.
use Rattle.std.specs.Prelude.{ℕ, ◌-◌, ◌≤◌, List, [], ◌∷◌, length, Bool, true, ◌||◌, nat_lt, slice_get, IsTrue, IfSome, IsSome, All, Option, None, Some, if◌then◌else◌}
use Rattle.std.specs.BTreeMap.{BTreeMap, get}
use Rattle.std.specs.declared.cmp.Ordering.{Ordering}
use Rattle.std.specs.Ordering.{is_eq, nat_cmp, ordering_then}
use Rattle.s3_rows.specs.declared.change.Change.{Change}
use Rattle.s3_rows.specs.declared.change.Change.TheVariants as changes
use Rattle.s3_rows.specs.Rows.{Name, Content, Attr}
use Rattle.s3_rows.specs.Keyed.{Order, row_at}
use Rattle.s3_rows.specs.Tables.{Tables, by_name, by_entry, by_attr}
use Rattle.s3_rows.specs.Selections.{bytes_cmp}
use Rattle.row_lists.specs.Listing.{with_name}
use Rattle.mem_keeper.specs.declared.filing.Filing.{Filing}
use Rattle.mem_keeper.specs.declared.filings.Filings.{Filings}
use Rattle.mem_keeper.specs.Index.{row_has_bytes}
use Rattle.mem_keeper.specs.Indexes.{bytes_of_name}

-- ---- places

-- an owner and the bytes of a name, and then the number of the name
abbrev pub Place : Type 0
Place = (ℕ × List ℕ) × ℕ

abbrev pub mark_cmp : ℕ × List ℕ → ℕ × List ℕ → Ordering
mark_cmp a b = ordering_then (nat_cmp a.0 b.0) (bytes_cmp a.1 b.1)

abbrev pub place_cmp : Place → Place → Ordering
place_cmp a b = ordering_then (mark_cmp a.0 b.0) (nat_cmp a.1 b.1)

-- the row of the key is at the bytes of its name, where that has a row
abbrev pub IsPlaced : BTreeMap Place (Unit {0}) → List Name → ℕ × ℕ → Type 0
IsPlaced places names key = IfSome (row_at by_name key.1 names) (λ n. IsSome (get place_cmp places ((key.0, n.name), key.1)))

-- and the number of the name is counted among those that are used
pub record IsFiled (x : Filing) (names : List Name) (key : ℕ × ℕ) : Type 0 where
  pub used : key.1 ≤ x.used
  pub placed : IsPlaced x.places names key

-- what was filed still is
pub record StayFiled (x y : Filing) : Type 0 where
  pub used : x.used ≤ y.used
  pub places : (q : Place) → IsSome (get place_cmp x.places q) → IsSome (get place_cmp y.places q)

-- each row is filed
abbrev pub AllFiled : {R : Type 0} → (R → ℕ × ℕ) → Filing → List Name → List R → Type 0
AllFiled key x names rows = All (λ r. IsFiled x names (key r)) rows

abbrev pub IsStanding : {R : Type 0} → (R → ℕ × ℕ) → Filing → List Name → List R → Type 0
IsStanding key x names rows = IsTrue x.stand → AllFiled key x names rows

-- the entries and the attributes are filed, where their filings stand
pub record AreStanding (x : Filings) (t : Tables) : Type 0 where
  pub entries : IsStanding by_entry.key x.entries t.names t.contents
  pub attrs : IsStanding by_attr.key x.attrs t.names t.attrs

-- ---- changes

-- no row that is filed uses the number of the name, or its row has these bytes
abbrev pub keeps_bytes : ℕ → List Name → Change → Bool
keeps_bytes used names (changes.PutName n) = nat_lt used n.id || row_has_bytes by_name bytes_of_name names n.name n.id
keeps_bytes used names _ = true

-- the entry that a change puts
abbrev pub entry_put : Change → Option Content
entry_put (changes.PutContent r) = Some r
entry_put _ = None

-- the attribute that a change puts
abbrev pub attr_put : Change → Option Attr
attr_put (changes.PutAttr r) = Some r
attr_put _ = None

-- each row that the changes put is filed
abbrev pub PutsFiled : {R : Type 0} → (R → ℕ × ℕ) → (Change → Option R) → Filing → List Name → List Change → Type 0
PutsFiled key put x names cs = All (λ c. IfSome (put c) (λ r. IsFiled x names (key r))) cs

-- each row of a table that the changes made is filed, where those that they put are
abbrev pub IsMoved : {R : Type 0} → (R → ℕ × ℕ) → (Change → Option R) → Filing → List Name → List Change → List R → Type 0
IsMoved key put x names cs rows = (y : Filing) → StayFiled x y → PutsFiled key put y names cs → AllFiled key y names rows

-- ---- walks

-- the item, where it has the bytes
abbrev pub named_as : {T : Type 0} → (T → List ℕ) → List ℕ → Option T → Option T
named_as name_of bytes None = None
named_as name_of bytes (Some x) = if is_eq (bytes_cmp bytes (name_of x)) then Some x else None

-- what a row and the bytes of its name make
abbrev pub made_of : {R T : Type 0} → (R → ℕ × ℕ) → (R → List ℕ → T) → List Name → Option R → Option T
made_of key made names None = None
made_of key made names (Some r) = with_name (λ s. (key s).1) made names r

-- what a place gives
abbrev pub found : {R T : Type 0} → Order (ℕ × ℕ) R → (R → List ℕ → T) → (T → List ℕ) → List Name → List R → Place → Option T
found o made name_of names rows place = named_as name_of place.0.1 (made_of o.key made names (row_at o (place.0.0, place.1) rows))

-- without the items that have the name of the one before
abbrev pub apart : {T : Type 0} → (T → List ℕ) → List ℕ → List T → List T
apart name_of last [] = []
apart name_of last (x ∷ xs) = if is_eq (bytes_cmp last (name_of x)) then apart name_of last xs else x ∷ apart name_of (name_of x) xs

-- the name of the last item
abbrev pub last_name : {T : Type 0} → (T → List ℕ) → List ℕ → List T → List ℕ
last_name name_of after items = elim (slice_get items (length items - 1)) [ None ↦ after | Some x ↦ name_of x ]

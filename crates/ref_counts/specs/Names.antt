-- What one more entry or attribute of a name makes of the tables, and what one less does.
use Rattle.std.specs.Prelude.{◌≡◌, ℕ, ◌+◌, ◌-◌, ◌^◌, ◌==◌, List, [], ◌∷◌, ◌++◌, nat_lt, Option, None, Some, if◌then◌else◌}
use Rattle.s3_rows.specs.declared.change.Change.{Change}
use Rattle.s3_rows.specs.declared.change.Change.TheVariants as changes
use Rattle.s3_rows.specs.Rows.{Name, Parameters}
use Rattle.s3_rows.specs.Tables.{Tables}
use Rattle.s3_rows.specs.Batches.{after_change}
use Rattle.s3_rows.specs.Selections.{name_at, name_of_bytes}
use Rattle.s3_rows.specs.Validity.{HasUniqueNames}

-- the id of a name that is used once more, and the changes that say so
pub record Raised : Type 0 where
  pub id : ℕ
  pub changes : List Change

-- a name that is there: its count is one more, while that is below 2^62
abbrev pub raised_row : Name → Option Raised
raised_row n = if nat_lt (n.refcount + 1) (2 ^ 62) then Some (record { id = n.id; changes = changes.PutName (record n { refcount = n.refcount + 1 }) ∷ [] }) else None

-- a name that is not there gets the next id, while that is below 2^62
abbrev pub new_row : List ℕ → Parameters → Option Raised
new_row bytes p =
    if nat_lt p.next_name (2 ^ 62)
    then Some (record {
      id = p.next_name;
      changes = changes.PutName (record { id = p.next_name; refcount = 1; name = bytes }) ∷ changes.SetParams (record p { next_name = p.next_name + 1 }) ∷ [];
    })
    else None

abbrev pub new_row_of : List ℕ → Option Parameters → Option Raised
new_row_of bytes None = None
new_row_of bytes (Some p) = new_row bytes p

abbrev pub raised_of : List ℕ → Option Name → Option Parameters → Option Raised
raised_of bytes (Some n) p = raised_row n
raised_of bytes None p = new_row_of bytes p

-- one more use of a name in these tables; none where its count or its id would not be below 2^62
abbrev pub raised : Tables → List ℕ → Option Raised
raised t bytes = raised_of bytes (name_of_bytes t bytes) t.params

-- no two names have the same bytes, at first and after each change
abbrev pub StaysUnique : List Change → Tables → Type 0
StaysUnique [] t = HasUniqueNames t
StaysUnique (c ∷ cs) t = HasUniqueNames t × StaysUnique cs (after_change c t)

-- what a use of a name makes of a batch and answers; nothing is added where there is no use more
abbrev pub IsRaised : Option Raised → List Change → Option ℕ → List Change → Type 0
IsRaised None before answer now = (answer ≡ None) × (now ≡ before)
IsRaised (Some r) before answer now = (answer ≡ Some r.id) × (now ≡ before ++ r.changes)

-- ---- one use less

-- its count is one less, or its row goes
abbrev pub lowered : Name → List Change
lowered n = if n.refcount == 1 then changes.DeleteName n.id ∷ [] else changes.PutName (record n { refcount = n.refcount - 1 }) ∷ []

abbrev pub lowered_of : Option Name → List Change
lowered_of None = []
lowered_of (Some n) = lowered n

-- one use less of a name in these tables; nothing where it has no row
abbrev pub lowered_at : Tables → ℕ → List Change
lowered_at t id = lowered_of (name_at t id)

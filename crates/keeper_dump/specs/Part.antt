-- Parts of a dump: their one spelling, the values that they may have, and how they are read from the left. A table is a part
-- whose rows rise by key.
use Rattle.std.specs.Prelude.{◌≡◌, ℕ, zero, suc, ◌==◌, List, [], ◌∷◌, ◌++◌, length, flat_map, Bool, true, false, ◌&&◌, if◌then◌else◌, Result, Ok, Err}
use Rattle.std.specs.List.{list_all}
use Rattle.std.specs.Ordering.{is_lt, nat_cmp}
use Rattle.s3_rows.specs.declared.table_rows.RowKey.{RowKey}
use Rattle.s3_rows.specs.declared.table_rows.RowKey.TheVariants as keys
use Rattle.s3_rows.specs.Keyed.{pair_cmp}
use Rattle.frame_fields.specs.declared.fault.FrameFault.{FrameFault}
use Rattle.frame_fields.specs.declared.fault.FrameFault.TheVariants as frames
use Rattle.frame_fields.specs.Format.{Rest, Format}
use Rattle.frame_fields.specs.Fields.{u64_field}
use Rattle.keeper_dump.specs.declared.fault.DumpFault.{DumpFault}
use Rattle.keeper_dump.specs.declared.fault.DumpFault.TheVariants as faults

-- a field's fault
abbrev pub fault_of_field : FrameFault → DumpFault
fault_of_field frames.Short = faults.Short
fault_of_field (frames.Bad place) = faults.Bad place
fault_of_field frames.Memory = faults.Memory

-- what reading a field gives
abbrev pub of_field : {A : Type 0} → Result A FrameFault → Result A DumpFault
of_field (Ok x) = Ok x
of_field (Err e) = Err (fault_of_field e)

-- what reading gives, or the first fault
infixl 10 ◌⟫◌
abbrev pub ◌⟫◌ : {A B : Type 0} → Result A DumpFault → (A → Result B DumpFault) → Result B DumpFault
(Ok x) ⟫ f = f x
(Err e) ⟫ f = Err e

-- a part of a dump
pub record Part (A : Type 0) : Type 0 where
  -- the one spelling of a value
  pub spell : A → List ℕ
  -- the values that the part may have
  pub allows : A → Bool
  -- the value in front and where the reader stands behind it
  pub read : Rest → Result (A × Rest) DumpFault

-- fields
abbrev pub plain : {A : Type 0} → Format A → Part A
plain f = record { spell = λ x. f.spell x; allows = λ x. f.allows x; read = λ r. of_field (f.read r) }

-- one behind the other
infixr 12 ◌▹◌
abbrev pub ◌▹◌ : {A B : Type 0} → Part A → Part B → Part (A × B)
p ▹ q = record {
  spell = λ x. p.spell x.0 ++ q.spell x.1;
  allows = λ x. p.allows x.0 && q.allows x.1;
  read = λ r. p.read r ⟫ λ x. q.read x.1 ⟫ λ y. Ok ((x.0, y.0), y.1);
}

-- ---- tables

-- how a row is spelled, what its key is, and how a key in front is read without the rules of its fields
pub record RowFormat (R : Type 0) : Type 0 where
  pub fields : Format R
  pub key : R → RowKey
  pub front : Rest → Result (RowKey × Rest) FrameFault

-- the second key comes after the first: pairs by their first part and then by their second
abbrev pub is_key_past : RowKey → RowKey → Bool
is_key_past keys.Start k = true
is_key_past (keys.One a) keys.Start = false
is_key_past (keys.One a) (keys.One b) = is_lt (nat_cmp a b)
is_key_past (keys.One a) (keys.Two b c) = false
is_key_past (keys.Two a b) keys.Start = false
is_key_past (keys.Two a b) (keys.One c) = false
is_key_past (keys.Two a b) (keys.Two c d) = is_lt (pair_cmp (a, b) (c, d))

-- each row comes after all before it
abbrev pub keys_rise : {R : Type 0} → (R → RowKey) → List R → Bool
keys_rise key [] = true
keys_rise key (r ∷ rs) = list_all (λ x. is_key_past (key r) (key x)) rs && keys_rise key rs

-- a value whose key has to come after the one before; else the row that begins at this place is out of order
abbrev pub in_order : {A : Type 0} → RowKey → RowKey → ℕ → Result A DumpFault → Result A DumpFault
in_order before key place x = if is_key_past before key then x else Err (faults.OutOfOrder place)

-- the same of a row that cannot be read: of what its key is, where that is all there
abbrev pub unless_low : {A : Type 0} → RowKey → Result (RowKey × Rest) FrameFault → ℕ → DumpFault → Result A DumpFault
unless_low before (Ok k) place e = in_order before k.0 place (Err e)
unless_low before (Err _) place e = Err e

-- the fault of a row that begins at this place: at its very start the field's own, else the order comes first
abbrev pub row_fault : {A : Type 0} → RowKey → Result (RowKey × Rest) FrameFault → ℕ → FrameFault → Result A DumpFault
row_fault before front place frames.Short = unless_low before front place faults.Short
row_fault before front place (frames.Bad bad) =
    if bad == place then Err (faults.Bad bad) else unless_low before front place (faults.Bad bad)
row_fault before front place frames.Memory = Err faults.Memory

-- what a reading of the fields of the row in front means behind a row with the key before
abbrev pub judged : {R : Type 0} → RowFormat R → RowKey → Rest → Result (R × Rest) FrameFault → Result (R × Rest) DumpFault
judged f before r (Ok x) = in_order before (f.key x.0) r.place (Ok x)
judged f before r (Err e) = row_fault before (f.front r) r.place e

-- the row in front, behind one with the key before
unfoldable pub row_after : {R : Type 0} → RowFormat R → RowKey → Rest → Result (R × Rest) DumpFault
row_after f before r = judged f before r (f.fields.read r)

-- so many rows, behind one with the key before
unfoldable pub rows_after : {R : Type 0} → RowFormat R → ℕ → RowKey → Rest → Result (List R × Rest) DumpFault
rows_after f zero before r = Ok ([], r)
rows_after f (suc n) before r = row_after f before r ⟫ λ x. rows_after f n (f.key x.0) x.1 ⟫ λ xs. Ok (x.0 ∷ xs.0, xs.1)

-- a number, and so many rows that rise by key
unfoldable pub table : {R : Type 0} → RowFormat R → Part (List R)
table f = record {
  spell = λ rows. u64_field.spell (length rows) ++ flat_map f.fields.spell rows;
  allows = λ rows. u64_field.allows (length rows) && list_all f.fields.allows rows && keys_rise f.key rows;
  read = λ r. of_field (u64_field.read r) ⟫ λ n. rows_after f n.0 keys.Start n.1;
}

-- What a function returned, seen by view, is what reading gives, unless memory ran out.
abbrev pub Refuses : {B : Type 0} → DumpFault → Result B DumpFault → Type 0
Refuses faults.Memory read = Unit {0}
Refuses faults.Short read = read ≡ Err faults.Short
Refuses (faults.Bad place) read = read ≡ Err (faults.Bad place)
Refuses (faults.OutOfOrder place) read = read ≡ Err (faults.OutOfOrder place)

abbrev pub Answers : {A B : Type 0} → (A → B) → Result A DumpFault → Result B DumpFault → Type 0
Answers view (Ok x) read = read ≡ Ok (view x)
Answers view (Err e) read = Refuses e read

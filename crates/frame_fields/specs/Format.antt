-- How a field is spelled, which of its values are allowed, and how it is read from the left: the first decided field
-- outside its rule is the fault.
use Rattle.std.specs.Prelude.{◌≡◌, ℕ, zero, suc, ◌≤◌, ◌+◌, ◌-◌, ◌*◌, ◌^◌, ◌==◌, List, [], ◌∷◌, ◌++◌, length, take, drop, slice_index, flat_map, Bool, IsTrue, true, ◌&&◌, nat_lt, nat_le, if◌then◌else◌, Option, None, Some, Result, Ok, Err}
use Rattle.std.specs.List.{list_all}
use Rattle.std.specs.Int.{Width, byte_len, from_be_bytes, to_be_bytes}
use Rattle.frame_fields.specs.declared.fault.FrameFault.{FrameFault}
use Rattle.frame_fields.specs.declared.fault.FrameFault.TheVariants as faults

-- where a reader stands: the place of the next byte, how many bytes its frame still has, and the bytes from there on
pub record Rest : Type 0 where
  pub place : ℕ
  pub room : ℕ
  pub bytes : List ℕ

-- n bytes further
abbrev pub past : ℕ → Rest → Rest
past n r = record { place = r.place + n; room = r.room - n; bytes = drop n r.bytes }

-- what reading gives, or the first fault
infixl 10 ◌>>=◌
abbrev pub ◌>>=◌ : {A B : Type 0} → Result A FrameFault → (A → Result B FrameFault) → Result B FrameFault
(Ok x) >>= f = f x
(Err e) >>= f = Err e

-- a kind of field, or of several in a row
pub record Format (A : Type 0) : Type 0 where
  -- the one spelling of a value
  pub spell : A → List ℕ
  -- the values that the field may have
  pub allows : A → Bool
  -- the value in front and where the reader stands behind it
  pub read : Rest → Result (A × Rest) FrameFault

-- a field of n bytes: outside its rule where the frame has no room for it, and not decided where some of it is missing
abbrev pub front : ℕ → Rest → Result (List ℕ × Rest) FrameFault
front n r =
    if nat_lt r.room n then Err (faults.Bad r.place)
    else (if nat_lt (length r.bytes) n then Err faults.Short else Ok (take n r.bytes, past n r))

-- the value, where it is allowed; else the field that began at this place is outside its rule
abbrev pub checked : {A : Type 0} → Bool → ℕ → A → Result A FrameFault
checked allowed place x = if allowed then Ok x else Err (faults.Bad place)

-- every value
abbrev pub always : ℕ → Bool
always n = true

-- from low to high, both allowed
abbrev pub between : ℕ → ℕ → ℕ → Bool
between low high n = nat_le low n && nat_le n high

-- one byte
abbrev pub byte : (ℕ → Bool) → Format ℕ
byte allowed = record {
  spell = λ n. n ∷ [];
  allows = λ n. nat_lt n 256 && allowed n;
  read = λ r. front 1 r >>= λ b. checked (allowed (slice_index b.0 0)) r.place (slice_index b.0 0, b.1);
}

-- a number, its highest byte first
abbrev pub number : Width → (ℕ → Bool) → Format ℕ
number w allowed = record {
  spell = λ n. to_be_bytes w n;
  allows = λ n. nat_lt n (2 ^ (8 * byte_len w)) && allowed n;
  read = λ r. front (byte_len w) r >>= λ b. checked (allowed (from_be_bytes w b.0)) r.place (from_be_bytes w b.0, b.1);
}

-- a length, and so many bytes: two fields
abbrev pub counted : Format ℕ → Format (List ℕ)
counted size = record {
  spell = λ bytes. size.spell (length bytes) ++ bytes;
  allows = λ bytes. size.allows (length bytes);
  read = λ r. size.read r >>= λ n. front n.0 n.1;
}

-- one behind the other
infixr 12 ◌▸◌
abbrev pub ◌▸◌ : {A B : Type 0} → Format A → Format B → Format (A × B)
f ▸ g = record {
  spell = λ x. f.spell x.0 ++ g.spell x.1;
  allows = λ x. f.allows x.0 && g.allows x.1;
  read = λ r. f.read r >>= λ x. g.read x.1 >>= λ y. Ok ((x.0, y.0), y.1);
}

-- what was read, as a value made of it
abbrev pub made : {A B : Type 0} → (A → B) → Result (A × Rest) FrameFault → Result (B × Rest) FrameFault
made make read = read >>= λ x. Ok (make x.0, x.1)

-- a value made of the parts that are spelled
abbrev pub shaped : {A B : Type 0} → (A → B) → (B → A) → Format A → Format B
shaped make parts f = record {
  spell = λ x. f.spell (parts x);
  allows = λ x. f.allows (parts x);
  read = λ r. made make (f.read r);
}

-- one of a few values, told by a byte
abbrev pub coded : {T : Type 0} → (ℕ → Bool) → (ℕ → T) → (T → ℕ) → Format T
coded known value code = record {
  spell = λ x. code x ∷ [];
  allows = λ x. true;
  read = λ r. made value ((byte known).read r);
}

-- n bytes
abbrev pub fixed : ℕ → Format (List ℕ)
fixed n = record {
  spell = λ bytes. bytes;
  allows = λ bytes. length bytes == n;
  read = λ r. front n r;
}

-- n values in a row
unfoldable pub items_of : {A : Type 0} → Format A → ℕ → Rest → Result (List A × Rest) FrameFault
items_of f zero r = Ok ([], r)
items_of f (suc n) r = f.read r >>= λ x. items_of f n x.1 >>= λ xs. Ok (x.0 ∷ xs.0, xs.1)

-- a number, and so many values
abbrev pub listed : {A : Type 0} → Format ℕ → Format A → Format (List A)
listed size f = record {
  spell = λ xs. size.spell (length xs) ++ flat_map f.spell xs;
  allows = λ xs. size.allows (length xs) && list_all f.allows xs;
  read = λ r. size.read r >>= λ n. items_of f n.0 n.1;
}

abbrev pub option_spelling : {A : Type 0} → Format A → Option A → List ℕ
option_spelling f None = 0 ∷ []
option_spelling f (Some x) = 1 ∷ f.spell x

abbrev pub option_allowed : {A : Type 0} → Format A → Option A → Bool
option_allowed f None = true
option_allowed f (Some x) = f.allows x

abbrev pub option_behind : {A : Type 0} → Format A → ℕ → Rest → Result (Option A × Rest) FrameFault
option_behind f code r = if code == 0 then Ok (None, r) else made Some (f.read r)

-- a value, if there is one: the byte 0, or 1 and the value
abbrev pub optional : {A : Type 0} → Format A → Format (Option A)
optional f = record {
  spell = option_spelling f;
  allows = option_allowed f;
  read = λ r. (byte (between 0 1)).read r >>= λ code. option_behind f code.0 code.1;
}

-- What a function returned, seen by view, is what reading gives, unless memory ran out.
abbrev pub Fails : {B : Type 0} → FrameFault → Result B FrameFault → Type 0
Fails faults.Memory read = Unit {0}
Fails faults.Short read = read ≡ Err faults.Short
Fails (faults.Bad place) read = read ≡ Err (faults.Bad place)

abbrev pub Gives : {A B : Type 0} → (A → B) → Result A FrameFault → Result B FrameFault → Type 0
Gives view (Ok x) read = read ≡ Ok (view x)
Gives view (Err e) read = Fails e read

-- what is spelled is read again, whatever follows it
abbrev pub ReadsBack : {A : Type 0} → Format A → Type 0
ReadsBack {A} f = (x : A) (place room : ℕ) (rest : List ℕ) → IsTrue (f.allows x) → length (f.spell x) ≤ room
    → f.read (record { place = place; room = room; bytes = f.spell x ++ rest }) ≡ Ok (x, record { place = place + length (f.spell x); room = room - length (f.spell x); bytes = rest })

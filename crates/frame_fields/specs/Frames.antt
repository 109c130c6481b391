-- A frame: four bytes of length, from 1 to 262,144, and so many bytes, which its fields fill exactly.
use Rattle.std.specs.Prelude.{◌≡◌, ℕ, ◌+◌, ◌==◌, ◌<◌, ◌≤◌, List, ◌++◌, length, take, IsTrue, if◌then◌else◌, Result, Ok, Err}
use Rattle.std.specs.Int.{w32, from_be_bytes, to_be_bytes}
use Rattle.frame_fields.specs.declared.fault.FrameFault.{FrameFault}
use Rattle.frame_fields.specs.declared.fault.FrameFault.TheVariants as faults
use Rattle.frame_fields.specs.Format.{Rest, Format, ◌>>=◌, number, between}

unfoldable pub length_field : Format ℕ
length_field = number w32 (between 1 262144)

-- the frame around what is spelled in it
abbrev pub framed : List ℕ → List ℕ
framed body = to_be_bytes w32 (length body) ++ body

-- the frame of a value
abbrev pub frame_of : {A : Type 0} → Format A → A → List ℕ
frame_of f x = framed (f.spell x)

-- the fields of the frame in front: behind its length, with so much room
abbrev pub body_at : List ℕ → Result Rest FrameFault
body_at bytes = length_field.read (record { place = 0; room = 4; bytes = bytes }) >>= λ n. Ok (record { place = 4; room = n.0; bytes = n.1.bytes })

-- the frame's length where its fields fill it: the first byte that is left over is outside every rule
abbrev pub end_at : Rest → Result ℕ FrameFault
end_at r = if r.room == 0 then Ok r.place else Err (faults.Bad r.place)

-- the value of the frame in front and the frame's length, or the first fault
unfoldable pub read_frame : {A : Type 0} → Format A → List ℕ → Result (A × ℕ) FrameFault
read_frame f bytes = body_at bytes >>= λ body. f.read body >>= λ x. end_at x.1 >>= λ n. Ok (x.0, n)

-- the length that the first four bytes say
abbrev pub said_length : List ℕ → ℕ
said_length bytes = from_be_bytes w32 (take 4 bytes)

-- the bytes end before their first frame does, whose length is within its rule where it is there
abbrev pub EndsInside : List ℕ → Type 0
EndsInside bytes = 4 ≤ length bytes → (said_length bytes ≤ 262144) × (length bytes < 4 + said_length bytes)

-- the first n bytes are the frame of the value, and its fields are within their rules
pub record StandsInFront {A : Type 0} (f : Format A) (bytes : List ℕ) (x : A) (n : ℕ) : Type 0 where
  pub allowed : IsTrue (f.allows x)
  pub there : n ≤ length bytes
  pub spelled : take n bytes ≡ frame_of f x

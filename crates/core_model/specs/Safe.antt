-- What the object store holds of the blocks that rows name, and tables before a call puts objects there.
use Rattle.std.specs.Prelude.{◌≡◌, ℕ, zero, suc, ◌+◌, List, [], ◌∷◌, Option, None, Some}
use Rattle.s3_rows.specs.Rows.{Block, Object, Parameters}
use Rattle.s3_rows.specs.Keyed.{put}
use Rattle.s3_rows.specs.Tables.{Tables, by_object}
use Rattle.tree_rows.specs.Contents.{Contents, bytes_of}

-- The bytes under the key of an object, by its number. Whether they have the digest is asked where rows name the object.
abbrev pub Held : Type 0
Held = ℕ → Option (List ℕ)

-- the object of each block is held with the bytes that the contents have of it
abbrev pub HaveHeld : Contents → Held → List Block → Type 0
HaveHeld m held [] = Unit {0}
HaveHeld m held (r ∷ rs) = (held r.object ≡ bytes_of m r.digest.0) × HaveHeld m held rs

-- ---- objects that are drawn before they are put

-- an object that no block has yet, and that is not uploaded
abbrev pub new_object : ℕ → Object
new_object id = record { id = id; refcount = 0; size = None }

-- one object more, under the next number
abbrev pub with_new_object : Option Parameters → Tables → Tables
with_new_object None t = t
with_new_object (Some p) t =
    record t { params = Some (record p { next_object = p.next_object + 1 }); objects = put by_object (new_object p.next_object) t.objects }

-- so many objects more
abbrev pub with_new_objects : ℕ → Tables → Tables
with_new_objects zero t = t
with_new_objects (suc count) t = with_new_objects count (with_new_object t.params t)

-- Some objects were drawn, or none. All else is as before.
abbrev pub IsPrepared : Tables → Tables → Type 0
IsPrepared before after = (count : ℕ) × (after ≡ with_new_objects count before)

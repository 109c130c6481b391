-- Tables together with the object store beside them.
use Rattle.std.specs.Prelude.{◌≡◌, ℕ, ◌==◌, List, [], ◌∷◌, length, Bool, not, ◌&&◌, nat_lt, nat_le, IsTrue, Option, None, Some, is_some}
use Rattle.std.specs.List.{list_all, filter_map}
use Rattle.s3_rows.specs.Rows.{Object, Block}
use Rattle.s3_rows.specs.Tables.{Tables}
use Rattle.s3_rows.specs.Validity.{IsValid, HasUniqueNames}

-- the keys of the store: of data objects the number and the size, of generations the number; each in rising order
pub record Keys : Type 0 where
  pub objects : List (ℕ × ℕ)
  pub generations : List ℕ

-- an object that a block has, and that is uploaded
abbrev pub is_settled : Object → Bool
is_settled r = not (r.refcount == 0) && is_some r.size

-- the number of an object and its size
abbrev pub key_of_object : Object → Option (ℕ × ℕ)
key_of_object r = elim r.size [ Some size ↦ Some (r.id, size) | None ↦ None ]

-- valid tables in which nothing is unfinished, and a store that has their objects and no others
pub record IsClean (t : Tables) (keys : Keys) : Type 0 where
  pub valid : IsValid t
  pub inodes : IsTrue (list_all (λ r. not (r.refcount == 0)) t.inodes)
  pub slots : t.slots ≡ []
  pub objects : IsTrue (list_all is_settled t.objects)
  pub held : keys.objects ≡ filter_map key_of_object t.objects
  pub numbers : IsTrue (list_all (λ k. nat_lt k.0 valid.params.next_object) keys.objects)
  pub generations : IsTrue (list_all (λ n. nat_le n valid.params.last_done) keys.generations)

-- the object of a block is held with bytes of the block's digest and length
pub record IsHeld (digest_of : List ℕ → List ℕ) (held : ℕ → Option (List ℕ)) (r : Block) : Type 0 where
  pub bytes : List ℕ
  pub there : held r.object ≡ Some bytes
  pub digest : digest_of bytes ≡ r.digest.0
  pub size : length bytes ≡ r.size

abbrev pub AreHeld : (List ℕ → List ℕ) → (ℕ → Option (List ℕ)) → List Block → Type 0
AreHeld digest_of held [] = Unit {0}
AreHeld digest_of held (r ∷ rs) = IsHeld digest_of held r × AreHeld digest_of held rs

-- valid tables that may be opened; objects that no block has may remain
pub record IsReady (digest_of : List ℕ → List ℕ) (held : ℕ → Option (List ℕ)) (t : Tables) : Type 0 where
  pub valid : IsValid t
  pub unique : HasUniqueNames t
  pub inodes : IsTrue (list_all (λ r. not (r.refcount == 0)) t.inodes)
  pub slots : t.slots ≡ []
  pub blocks : AreHeld digest_of held t.blocks

-- Bytes of new blocks that are put one after the other.
use Rattle.std.proofs.Common.{◌≡◌, ℕ, ◌+◌, ◌<◌, ◌≤◌, ◌^◌, List, [], ◌∷◌, length, drop, Bool, false, cond, Option, None, Some, refl, sym, ap, ◌∙◌}
use Rattle.std.specs.List.{list_any}
use Rattle.std.proofs.lemmas.List.{drop_all}
use Rattle.s3_devices.specs.Keys.{objects_in}
use Rattle.s3_devices.specs.Objects.{Objects}
use Rattle.s3_devices.specs.Told.{Becomes}
use Rattle.file_ops.specs.declared.new_block.NewBlock.{NewBlock}
use Rattle.file_ops.specs.declared.place.Place.{Place}
use Rattle.file_ops.specs.declared.place.Place.TheVariants as places
use Rattle.file_ops.proofs.Left.{first_false, list_any-drop, second_false}
use Rattle.file_ops.specs.Placed.{ArePut, IsPut, KeepsOldObject, KeepsOldObjects, held_after, held_after_all, is_object_of}

-- ---- what is told

pub Becomes-joined : {T : Type 0} (R S X : T → T → Type 0) → ((a b c : T) → R a b → S b c → X a c) → (a b c : Option T) → Becomes R a b → Becomes S b c → Becomes X a c
Becomes-joined R S X follows None None c r s = s
Becomes-joined R S X follows None (Some y) c r s = absurd (cc r)
Becomes-joined R S X follows (Some x) None c r s = absurd r
Becomes-joined R S X follows (Some x) (Some y) None r s = absurd s
Becomes-joined R S X follows (Some x) (Some y) (Some z) r s = follows x y z r s

pub Becomes-same : {T : Type 0} (R : T → T → Type 0) → ((a : T) → R a a) → (told : Option T) → Becomes R told told
Becomes-same R same None = refl
Becomes-same R same (Some x) = same x

pub Becomes-follows : {T : Type 0} (R S : T → T → Type 0) → ((a b : T) → R a b → S a b) → (before after : Option T) → Becomes R before after → Becomes S before after
Becomes-follows R S follows None after r = r
Becomes-follows R S follows (Some x) None r = r
Becomes-follows R S follows (Some x) (Some y) r = follows x y r

-- ---- objects

held_after-old : (object : ℕ) (bytes : List ℕ) (y : Place) (held : Option (List ℕ)) → is_object_of object y ≡ false → held_after object bytes y held ≡ held
held_after-old object bytes places.Zeros held is = refl
held_after-old object bytes (places.Known r) held is = refl
held_after-old object bytes (places.New r) held is = ap (λ (k : Bool). cond k (Some bytes) held) is

pub held_after_all-old : (object : ℕ) (bs : List NewBlock) (ys : List Place) (held : Option (List ℕ))
    → list_any (is_object_of object) ys ≡ false → held_after_all object bs ys held ≡ held
held_after_all-old object [] ys held is = refl
held_after_all-old object (c ∷ bs) [] held is = refl
held_after_all-old object (c ∷ bs) (y ∷ ys) held is =
    held_after_all-old object bs ys (held_after object c.stored y held) (second_false (is_object_of object y) (list_any (is_object_of object) ys) is)
    ∙ held_after-old object c.stored y held (first_false (is_object_of object y) (list_any (is_object_of object) ys) is)

-- what the places from one on make of the objects now is what all make of those before
abbrev pub ArePartlyPut : List NewBlock → List Place → ℕ → Objects → Objects → Type 0
ArePartlyPut blocks xs i before now =
    (object : ℕ) → object < 2 ^ 64 → held_after_all object (drop i blocks) (drop i xs) (objects_in now object) ≡ held_after_all object blocks xs (objects_in before object)

pub partly_put_none : (blocks : List NewBlock) (xs : List Place) (told : Option Objects) → Becomes (ArePartlyPut blocks xs 0) told told
partly_put_none blocks xs told = Becomes-same (ArePartlyPut blocks xs 0) (λ o object below. refl) told

module _ (blocks : List NewBlock) (xs : List Place) (i : ℕ) where
  module _ (b : NewBlock) (x : Place) (block_here : drop i blocks ≡ b ∷ drop (i + 1) blocks) (place_here : drop i xs ≡ x ∷ drop (i + 1) xs) where
    here : (object : ℕ) (held : Option (List ℕ))
        → held_after_all object (drop (i + 1) blocks) (drop (i + 1) xs) (held_after object b.stored x held) ≡ held_after_all object (drop i blocks) (drop i xs) held
    here object held =
        sym (ap (λ (bs : List NewBlock). held_after_all object bs (drop i xs) held) block_here
        ∙ ap (λ (ys : List Place). held_after_all object (b ∷ drop (i + 1) blocks) ys held) place_here)

    pub partly_put_more : (a b' c : Option Objects) → Becomes (ArePartlyPut blocks xs i) a b' → Becomes (IsPut b.stored x) b' c → Becomes (ArePartlyPut blocks xs (i + 1)) a c
    partly_put_more a b' c =
        Becomes-joined (ArePartlyPut blocks xs i) (IsPut b.stored x) (ArePartlyPut blocks xs (i + 1))
        (λ o u v so_far put object below.
        ap (held_after_all object (drop (i + 1) blocks) (drop (i + 1) xs)) (put object below)
        ∙ here object (objects_in u object) ∙ so_far object below)
        a b' c

    -- a put that is refused
    pub partly_put_refused : (a b' c : Option Objects) → Becomes (ArePartlyPut blocks xs i) a b' → Becomes (KeepsOldObject x) b' c → Becomes (KeepsOldObjects xs) a c
    partly_put_refused a b' c =
        Becomes-joined (ArePartlyPut blocks xs i) (KeepsOldObject x) (KeepsOldObjects xs)
        (λ o u v so_far kept object below old.
        let left : list_any (is_object_of object) (drop i xs) ≡ false = list_any-drop (is_object_of object) i xs old in
        let own : list_any (is_object_of object) (x ∷ drop (i + 1) xs) ≡ false = sym (ap (list_any (is_object_of object)) place_here) ∙ left in
        kept object below (first_false (is_object_of object x) (list_any (is_object_of object) (drop (i + 1) xs)) own)
        ∙ sym (held_after_all-old object (drop i blocks) (drop i xs) (objects_in u object) left)
        ∙ so_far object below
        ∙ held_after_all-old object blocks xs (objects_in o object) old)
        a b' c

  -- all are put
  pub partly_put_all : length blocks ≤ i → (before after : Option Objects) → Becomes (ArePartlyPut blocks xs i) before after → Becomes (ArePut blocks xs) before after
  partly_put_all past before after =
      Becomes-follows (ArePartlyPut blocks xs i) (ArePut blocks xs)
      (λ o u so_far object below.
      let none : drop i blocks ≡ [] = drop_all i blocks past in
      sym (ap (λ (bs : List NewBlock). held_after_all object bs (drop i xs) (objects_in u object)) none) ∙ so_far object below)
      before after

-- What a put makes of the objects of a store.
use Rattle.std.proofs.Common.{◌≡◌, ◌≢◌, ℕ, ◌<◌, ◌^◌, List, Bool, true, false, Option, None, Some, Result, Ok, Err, OnOk, OnErr, refl, sym, ap, ◌∙◌, subst, arith, eqb-true}
use Rattle.std.proofs.lemmas.Bool.Decides.{nat_tests}
use Rattle.std.specs.Prelude.{◌==◌, option_map, if◌then◌else◌}
use Rattle.s3_devices.specs.Keys.{data_key, objects_in}
use Rattle.s3_devices.specs.Objects.{Objects, KeepsOthers, with_object}
use Rattle.s3_devices.specs.Told.{Becomes}
use Rattle.file_ops.specs.Loads.{IsStored, KeepsOtherObjects}

-- ---- what is told

Becomes-changed : (f : Objects → Objects) (R : Objects → Objects → Type 0) (before after : Option Objects) → after ≡ option_map f before → ((o : Objects) → R o (f o)) → Becomes R before after
Becomes-changed f R None after is each = is
Becomes-changed f R (Some o) None is each = absurd (cc is)
Becomes-changed f R (Some o) (Some x) is each =
    let same : x ≡ f o = cc is in
    subst (R o) (sym same) (each o)

Becomes-weaker : (R S : Objects → Objects → Type 0) (before after : Option Objects) → ((x y : Objects) → R x y → S x y) → Becomes R before after → Becomes S before after
Becomes-weaker R S None after follows is = is
Becomes-weaker R S (Some o) None follows is = is
Becomes-weaker R S (Some o) (Some x) follows is = follows o x is

-- ---- objects

apart : (a b : ℕ) → (a == b) ≡ false → a ≢ b
apart a b is same = absurd (let own : (a == b) ≡ true = ap (λ x. a == x) (sym same) ∙ grind (arith, nat_tests) in cc (sym own ∙ is))

-- what the store says of puts under the keys of data objects
module _ (held : (id : ℕ) (bytes : List ℕ) (o : Objects) → objects_in (with_object (data_key id) bytes o) id ≡ Some bytes)
    (kept : (key bytes : List ℕ) (o : Objects) → KeepsOthers key o (with_object key bytes o))
    (others : (id other : ℕ) (before after : Objects) → id < 2 ^ 64 → other < 2 ^ 64 → other ≢ id → KeepsOthers (data_key id) before after → objects_in after other ≡ objects_in before other)
    (id : ℕ) (fits : id < 2 ^ 64) (key bytes : List ℕ) (is : key ≡ data_key id) where
  IsStored-with_object : (o : Objects) → IsStored id bytes o (with_object key bytes o)
  IsStored-with_object o other below =
      ap (λ (k : List ℕ). objects_in (with_object k bytes o) other) is ∙ by_case (other == id) refl
    where
      by_case : (b : Bool) → (other == id) ≡ b → objects_in (with_object (data_key id) bytes o) other ≡ (if b then Some bytes else objects_in o other)
      by_case true same =
          let own : other ≡ id = eqb-true other id same in
          ap (objects_in (with_object (data_key id) bytes o)) own ∙ held id bytes o
      by_case false differs = others id other o (with_object (data_key id) bytes o) fits below (apart other id differs) (kept (data_key id) bytes o)

  pub stored : (before after : Option Objects) → after ≡ option_map (with_object key bytes) before → Becomes (IsStored id bytes) before after
  stored before after made = Becomes-changed (with_object key bytes) (IsStored id bytes) before after made IsStored-with_object

  pub kept_others : (before after : Option Objects) → Becomes (KeepsOthers key) before after → Becomes (KeepsOtherObjects id) before after
  kept_others before after =
      Becomes-weaker (KeepsOthers key) (KeepsOtherObjects id) before after
      (λ x y others_kept other below differs. others id other x y fits below differs (subst (λ (k : List ℕ). KeepsOthers k x y) is others_kept))

-- ---- answers

pub on_ok : {T E : Type 0} (P Q : Type 0) → (P → Q) → (r : Result T E) → OnOk r P → OnOk r Q
on_ok P Q follows (Ok x) fact = follows fact
on_ok P Q follows (Err e) fact = tt

pub on_err : {T E : Type 0} (P Q : Type 0) → (P → Q) → (r : Result T E) → OnErr r P → OnErr r Q
on_err P Q follows (Ok x) fact = tt
on_err P Q follows (Err e) fact = follows fact

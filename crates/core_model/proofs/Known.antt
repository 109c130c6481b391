-- Contents that know blocks.
use Rattle.std.proofs.Common.{◌≡◌, ℕ, List, [], ◌∷◌, Bool, true, false, cond, Some, refl, sym, ap, ◌∙◌, inl, inr}
use Rattle.std.specs.Prelude.{Contains, IsTrue}
use Rattle.std.specs.Ordering.{is_eq, nat_cmp}
use Rattle.std.specs.Cmp.{tied_itself}
use Rattle.std.specs.Cmp.Lexicographic.{slice_cmp}
use Rattle.std.specs.FinMap.{slice_cmp-IsAntisymmetric, nat_cmp-IsAntisymmetric}
use Rattle.std.specs.BTreeMap.{is_at}
use Rattle.std.proofs.lemmas.Cmp.{nat_list_cmp_total}
use Rattle.row_lemmas.proofs.Tests.{equal_from_is_eq}
use Rattle.tree_rows.specs.Contents.{Contents, bytes_of}
use Rattle.core_model.specs.Occurring.{IsCollisionFree, Knows, KnowsAll, contents_of}
use Rattle.core_model.proofs.Elements.{Contains-none, Contains-first, Contains-later, Contains-cases}

same_digest : (a b : List ℕ) → IsTrue (is_eq (slice_cmp nat_cmp a b)) → a ≡ b
same_digest a b is = slice_cmp-IsAntisymmetric nat_cmp-IsAntisymmetric a b (equal_from_is_eq (slice_cmp nat_cmp a b) is)

is_itself : (a : List ℕ) → is_eq (slice_cmp nat_cmp a a) ≡ true
is_itself a = ap is_eq (tied_itself nat_list_cmp_total a)

module _ (digest_of : List ℕ → List ℕ) where
  pub IsCollisionFree-fewer : (blocks others : List (List ℕ)) → ((b : List ℕ) → Contains others b → Contains blocks b) → IsCollisionFree digest_of blocks → IsCollisionFree digest_of others
  IsCollisionFree-fewer blocks others within free a b first second = free a b (within a first) (within b second)

  pub KnowsAll-fewer : (m : Contents) (blocks others : List (List ℕ)) → ((b : List ℕ) → Contains others b → Contains blocks b) → KnowsAll digest_of m blocks → KnowsAll digest_of m others
  KnowsAll-fewer m blocks others within known b there = known b (within b there)

  -- the first block of a digest is the only one
  pub KnowsAll-contents_of : (blocks : List (List ℕ)) → IsCollisionFree digest_of blocks → KnowsAll digest_of (contents_of digest_of blocks) blocks
  KnowsAll-contents_of [] free b there = absurd (Contains-none b there)
  KnowsAll-contents_of (a ∷ blocks) free b there =
      by_test (KnowsAll-contents_of blocks (λ x y first second. free x y (Contains-later a blocks x first) (Contains-later a blocks y second)) b)
      (is_at (slice_cmp nat_cmp (digest_of b)) (digest_of a)) refl
    where
      by_test : (Contains blocks b → bytes_of (contents_of digest_of blocks) (digest_of b) ≡ Some b) → (r : Bool) → is_at (slice_cmp nat_cmp (digest_of b)) (digest_of a) ≡ r
          → cond r (Some a) (bytes_of (contents_of digest_of blocks) (digest_of b)) ≡ Some b
      by_test others true is = ap (λ (x : List ℕ). Some x) (free a b (Contains-first a blocks) there (sym (same_digest (digest_of b) (digest_of a) is)))
      by_test others false is =
          elim (Contains-cases a blocks b there) [
            | inl same ↦
                let itself : is_at (slice_cmp nat_cmp (digest_of b)) (digest_of a) ≡ true =
                ap (λ (x : List ℕ). is_eq (slice_cmp nat_cmp (digest_of b) (digest_of x))) same ∙ is_itself (digest_of b) in
                let clash : true ≡ false = sym itself ∙ is in
                absurd (cc clash)
            | inr later ↦ others later
          ]

  pub Knows-own : (m : Contents) (bytes found digest : List ℕ) → Knows digest_of m bytes → digest_of bytes ≡ digest → bytes_of m digest ≡ Some found → found ≡ bytes
  Knows-own m bytes found digest known is own =
      let one : Some found ≡ Some bytes = sym own ∙ ap (bytes_of m) (sym is) ∙ known in
      cc one

-- What is held of blocks, when a block comes or goes, and when other objects change.
use Rattle.std.proofs.Common.{◌≡◌, ℕ, List, [], ◌∷◌, Bool, true, false, cond, refl, ap, ◌∙◌, arith}
use Rattle.std.specs.Prelude.{IsTrue, not, ◌==◌, ◌||◌}
use Rattle.std.specs.List.{list_any}
use Rattle.std.specs.Ordering.{nat_cmp}
use Rattle.std.specs.declared.cmp.Ordering.{Ordering}
use Rattle.std.specs.declared.cmp.Ordering.TheVariants.{Less, Equal, Greater}
use Rattle.std.proofs.lemmas.Bool.Decides.{nat_tests}
use Rattle.s3_rows.specs.Rows.{Block}
use Rattle.s3_rows.specs.Keyed.{has_key, put, without}
use Rattle.s3_rows.specs.Stores.{AreHeld, IsHeld}
use Rattle.s3_rows.specs.Tables.{by_block}
use Rattle.tree_rows.specs.Contents.{Contents, bytes_of}
use Rattle.core_model.specs.Safe.{HaveHeld, Held}

-- A fact of every block, by recursion over the blocks: that of the held bytes in either form.
module _ (P : Block → Type 0) where
  abbrev pub Each : List Block → Type 0
  Each [] = Unit {0}
  Each (r ∷ rs) = P r × Each rs

  pub Each-put : (r : Block) (rows : List Block) → P r → Each rows → Each (put by_block r rows)
  Each-put r [] own all = (own, tt)
  Each-put r (x ∷ xs) own all = by_order (Each-put r xs own all.1) (nat_cmp r.id x.id)
    where
      by_order : Each (put by_block r xs) → (c : Ordering) → Each (elim c [ Less ↦ r ∷ x ∷ xs | Equal ↦ r ∷ xs | Greater ↦ x ∷ put by_block r xs ])
      by_order rest Less = (own, all)
      by_order rest Equal = (own, all.1)
      by_order rest Greater = (all.0, rest)

  pub Each-without : (id : ℕ) (rows : List Block) → Each rows → Each (without by_block id rows)
  Each-without id [] all = tt
  Each-without id (x ∷ xs) all = by_test (Each-without id xs all.1) (not (has_key by_block id x))
    where
      by_test : Each (without by_block id xs) → (b : Bool) → Each (cond b (x ∷ without by_block id xs) (without by_block id xs))
      by_test rest true = (all.0, rest)
      by_test rest false = rest

-- a fact that rests on the held bytes of the block's own object
Each-other : (P Q : Block → Type 0) (held after : Held) → ((r : Block) → after r.object ≡ held r.object → P r → Q r) → (rows : List Block)
    → ((object : ℕ) → IsTrue (list_any (λ (r : Block). r.object == object) rows) → after object ≡ held object) → Each P rows → Each Q rows
Each-other P Q held after follows [] same all = tt
Each-other P Q held after follows (r ∷ rs) same all = (
  follows r (same r.object (ap (λ b. b || list_any (λ (x : Block). x.object == r.object) rs) (itself r.object))) all.0,
  Each-other P Q held after follows rs (λ object there. same object (later (r.object == object) (list_any (λ (x : Block). x.object == object) rs) there)) all.1,
)
  where
    itself : (n : ℕ) → (n == n) ≡ true
    itself n = grind (arith, nat_tests)

    later : (a b : Bool) → IsTrue b → IsTrue (a || b)
    later true b is = refl
    later false b is = is

module _ (m : Contents) where
  to_each : (held : Held) (rows : List Block) → HaveHeld m held rows → Each (λ r. held r.object ≡ bytes_of m r.digest.0) rows
  to_each held [] all = tt
  to_each held (r ∷ rs) all = (all.0, to_each held rs all.1)

  from_each : (held : Held) (rows : List Block) → Each (λ r. held r.object ≡ bytes_of m r.digest.0) rows → HaveHeld m held rows
  from_each held [] all = tt
  from_each held (r ∷ rs) all = (all.0, from_each held rs all.1)

  pub HaveHeld-other : (held after : Held) (rows : List Block) → ((object : ℕ) → IsTrue (list_any (λ (r : Block). r.object == object) rows) → after object ≡ held object)
      → HaveHeld m held rows → HaveHeld m after rows
  HaveHeld-other held after rows same all =
      from_each after rows (Each-other (λ r. held r.object ≡ bytes_of m r.digest.0) (λ r. after r.object ≡ bytes_of m r.digest.0) held after (λ r own is. own ∙ is) rows same (to_each held rows all))

  pub HaveHeld-put : (held : Held) (r : Block) (rows : List Block) → held r.object ≡ bytes_of m r.digest.0 → HaveHeld m held rows → HaveHeld m held (put by_block r rows)
  HaveHeld-put held r rows own all = from_each held (put by_block r rows) (Each-put (λ x. held x.object ≡ bytes_of m x.digest.0) r rows own (to_each held rows all))

  pub HaveHeld-without : (held : Held) (id : ℕ) (rows : List Block) → HaveHeld m held rows → HaveHeld m held (without by_block id rows)
  HaveHeld-without held id rows all = from_each held (without by_block id rows) (Each-without (λ x. held x.object ≡ bytes_of m x.digest.0) id rows (to_each held rows all))

module _ (digest_of : List ℕ → List ℕ) where
  each_held : (held : Held) (rows : List Block) → AreHeld digest_of held rows → Each (IsHeld digest_of held) rows
  each_held held [] all = tt
  each_held held (r ∷ rs) all = (all.0, each_held held rs all.1)

  held_each : (held : Held) (rows : List Block) → Each (IsHeld digest_of held) rows → AreHeld digest_of held rows
  held_each held [] all = tt
  held_each held (r ∷ rs) all = (all.0, held_each held rs all.1)

  pub AreHeld-other : (held after : Held) (rows : List Block) → ((object : ℕ) → IsTrue (list_any (λ (r : Block). r.object == object) rows) → after object ≡ held object)
      → AreHeld digest_of held rows → AreHeld digest_of after rows
  AreHeld-other held after rows same all =
      held_each after rows (Each-other (IsHeld digest_of held) (IsHeld digest_of after) held after
      (λ r own is. record { bytes = is.bytes; there = own ∙ is.there; digest = is.digest; size = is.size }) rows same (each_held held rows all))

  pub AreHeld-put : (held : Held) (r : Block) (rows : List Block) → IsHeld digest_of held r → AreHeld digest_of held rows → AreHeld digest_of held (put by_block r rows)
  AreHeld-put held r rows own all = held_each held (put by_block r rows) (Each-put (IsHeld digest_of held) r rows own (each_held held rows all))

  pub AreHeld-without : (held : Held) (id : ℕ) (rows : List Block) → AreHeld digest_of held rows → AreHeld digest_of held (without by_block id rows)
  AreHeld-without held id rows all = held_each held (without by_block id rows) (Each-without (IsHeld digest_of held) id rows (each_held held rows all))

-- Rows that are filed, while more is filed, while places go, and after changes.
use Rattle.std.proofs.Common.{◌≡◌, ℕ, ◌≤◌, List, [], ◌∷◌, Bool, true, false, not, Option, None, Some, Result, Ok, Err, OnOk, refl, ap, ◌∙◌, arith}
use Rattle.std.specs.Prelude.{IsTrue, IsSome, IfSome}
use Rattle.std.specs.List.{AllByRecursion}
use Rattle.std.specs.Result.{is_err}
use Rattle.std.specs.BTreeMap.{get}
use Rattle.std.specs.declared.cmp.Ordering.TheVariants.{Equal}
use Rattle.std.proofs.lemmas.List.Elements.{All-from_recursion, recursion_from_All}
use Rattle.s3_rows.specs.Rows.{Name}
use Rattle.s3_rows.specs.Keyed.{Order, pair_cmp, rises, row_at}
use Rattle.s3_rows.specs.Tables.{by_name}
use Rattle.row_lemmas.proofs.Tables.{pair_cmp_total}
use Rattle.row_lemmas.proofs.Keyed.RowAt.{row_at_own}
use Rattle.mem_keeper.specs.declared.filing.Filing.{Filing}
use Rattle.mem_keeper.specs.Filed.{Place, place_cmp, IsFiled, StayFiled, AllFiled}
use Rattle.mem_keeper.proofs.Tabled.{if_held}
use Rattle.mem_keeper.proofs.Found.{place_equal}

pub filed_stays : (x y : Filing) (names : List Name) → StayFiled x y → (key : ℕ × ℕ) → IsFiled x names key → IsFiled y names key
filed_stays x y names stays key filed = record {
  used = omega (arith, stays.used, filed.used);
  placed = if_held (λ n. IsSome (get place_cmp x.places ((key.0, n.name), key.1))) (λ n. IsSome (get place_cmp y.places ((key.0, n.name), key.1))) (λ n there. stays.places ((key.0, n.name), key.1) there) (row_at by_name key.1 names) filed.placed;
}

pub stay_joined : (x y z : Filing) → StayFiled x y → StayFiled y z → StayFiled x z
stay_joined x y z one two = record {
  used = omega (arith, one.used, two.used);
  places = λ q there. two.places q (one.places q there);
}

pub stay_itself : (x : Filing) → StayFiled x x
stay_itself x = record { used = omega arith; places = λ q there. there }

pub put_stays : {R : Type 0} (key : R → ℕ × ℕ) (x y : Filing) (names : List Name) → StayFiled x y → (v : Option R)
    → IfSome v (λ r. IsFiled x names (key r)) → IfSome v (λ r. IsFiled y names (key r))
put_stays key x y names stays v filed =
    if_held (λ r. IsFiled x names (key r)) (λ r. IsFiled y names (key r)) (λ r is. filed_stays x y names stays (key r) is) v filed

-- a place whose row is gone
module _ {R : Type 0} (key : R → ℕ × ℕ) (names : List Name) (rows : List R) (place : Place) (x y : Filing) where
  abbrev by_key : Order (ℕ × ℕ) R
  by_key = record { compare = pair_cmp; key = key }

  one_dropped : None ≡ row_at by_key (place.0.0, place.1) rows → x.used ≤ y.used
      → ((q : Place) → (place_cmp place q ≡ Equal → ⊥) → IsSome (get place_cmp x.places q) → IsSome (get place_cmp y.places q))
      → (r : R) → row_at by_key (key r) rows ≡ Some r → IsFiled x names (key r) → IsFiled y names (key r)
  one_dropped none used kept r there filed = record {
    used = omega (arith, used, filed.used);
    placed = if_held (λ n. IsSome (get place_cmp x.places (((key r).0, n.name), (key r).1))) (λ n. IsSome (get place_cmp y.places (((key r).0, n.name), (key r).1))) (λ n is. kept (((key r).0, n.name), (key r).1) (apart n) is) (row_at by_name (key r).1 names) filed.placed;
  }
    where
      apart : (n : Name) → place_cmp place (((key r).0, n.name), (key r).1) ≡ Equal → ⊥
      apart n tied =
          let same : place ≡ (((key r).0, n.name), (key r).1) = place_equal place (((key r).0, n.name), (key r).1) tied in
          let clash : None ≡ Some r = none ∙ ap (λ (p : Place). row_at by_key (p.0.0, p.1) rows) same ∙ there in
          cc clash

  all_dropped : None ≡ row_at by_key (place.0.0, place.1) rows → x.used ≤ y.used
      → ((q : Place) → (place_cmp place q ≡ Equal → ⊥) → IsSome (get place_cmp x.places q) → IsSome (get place_cmp y.places q))
      → (rs : List R) → AllByRecursion (λ r. row_at by_key (key r) rows ≡ Some r) rs → AllByRecursion (λ r. IsFiled x names (key r)) rs
      → AllByRecursion (λ r. IsFiled y names (key r)) rs
  all_dropped none used kept [] there filed = tt
  all_dropped none used kept (r ∷ rs) there filed =
      (one_dropped none used kept r there.0 filed.0, all_dropped none used kept rs there.1 filed.1)

  pub dropped : IsTrue (rises by_key rows) → None ≡ row_at by_key (place.0.0, place.1) rows → x.used ≤ y.used
      → ((q : Place) → (place_cmp place q ≡ Equal → ⊥) → IsSome (get place_cmp x.places q) → IsSome (get place_cmp y.places q))
      → AllFiled key x names rows → AllFiled key y names rows
  dropped up none used kept filed =
      All-from_recursion (λ r. IsFiled y names (key r)) rows
      (all_dropped none used kept rows (row_at_own by_key pair_cmp_total rows up) (recursion_from_All (λ r. IsFiled x names (key r)) rows filed))

-- ---- answers of calls

pub on_ok : {X E : Type 0} (r : Result X E) (P : Type 0) → is_err r ≡ false → OnOk r P → P
on_ok (Ok x) P is h = h
on_ok (Err e) P is h = absurd (cc is)

pub true_from_not : (b : Bool) → not b ≡ false → b ≡ true
true_from_not true is = refl
true_from_not false is = absurd (cc is)

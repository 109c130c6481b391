-- A page of keys with one more.
use Rattle.std.proofs.Common.{◌≡◌, ◌≤◌, ◌<◌, ℕ, ◌+◌, List, [], ◌∷◌, ◌++◌, length, Result, Ok, Err, refl, sym, ap, subst, arith}
use Rattle.std.specs.Prelude.{map, All, OnOk}
use Rattle.std.specs.List.{AllByRecursion}
use Rattle.std.specs.List.Sorted.{IsStrictlySortedBy}
use Rattle.std.specs.Cmp.{IsTotalOrder}
use Rattle.std.specs.declared.cmp.Ordering.TheVariants.{Less}
use Rattle.std.proofs.lemmas.Cmp.{nat_list_cmp_total}
use Rattle.std.proofs.lemmas.List.{length-append, map-append}
use Rattle.std.proofs.lemmas.List.Elements.{All-nil, All-push}
use Rattle.s3_devices.specs.Objects.{key_cmp}
use Rattle.s3_devices.specs.LinkAnswers.{IsKeyPage, key_limit}
use Rattle.s3_devices.specs.declared.key_list.KeyItem.{KeyItem}
use Rattle.local_devices.specs.Pages.{ComesNext}

abbrev key_of : KeyItem → List ℕ
key_of i = i.key

all_push : {X : Type 0} (P : X → Type 0) (xs : List X) (x : X) → AllByRecursion P xs → P x → AllByRecursion P (xs ++ x ∷ [])
all_push P [] x all here = (here, tt)
all_push P (y ∷ ys) x all here = (all.0, all_push P ys x all.1 here)

last_of_all : {X : Type 0} (P : X → Type 0) (xs : List X) (x : X) → AllByRecursion P (xs ++ x ∷ []) → P x
last_of_all P [] x all = all.0
last_of_all P (y ∷ ys) x all = last_of_all P ys x all.1

-- the last of the items is below the key
abbrev IsBelow : List KeyItem → List ℕ → Type 0
IsBelow items key = (front : List KeyItem) (item : KeyItem) → items ≡ front ++ item ∷ [] → key_cmp item.key key ≡ Less

-- keys that rise do so with a last one that is past the last of them
rises_push : (key : List ℕ) (items : List KeyItem) → IsStrictlySortedBy key_cmp (map key_of items) → IsBelow items key → IsStrictlySortedBy key_cmp (map key_of items ++ key ∷ [])
unfolding IsStrictlySortedBy
rises_push key [] rises below = (tt, tt)
rises_push key (i ∷ []) rises below = ((below [] i refl, tt), (tt, tt))
rises_push key (i ∷ j ∷ js) rises below =
    let rest : IsStrictlySortedBy key_cmp (map key_of (j ∷ js) ++ key ∷ []) =
    rises_push key (j ∷ js) rises.1 (λ front item same. below (i ∷ front) item (ap (λ (xs : List KeyItem). i ∷ xs) same)) in
    let near : key_cmp j.key key ≡ Less = last_of_all (λ k. key_cmp j.key k ≡ Less) (map key_of js) key rest.0 in
    let far : key_cmp i.key key ≡ Less = nat_list_cmp_total.trans i.key j.key key rises.0.0 near in
    (all_push (λ k. key_cmp i.key k ≡ Less) (map key_of (j ∷ js)) key rises.0 far, rest)

pub IsKeyPage-push : (after : List ℕ) (max : ℕ) (items : List KeyItem) (item : KeyItem) → IsKeyPage after max items → length items < max → ComesNext after items item.key
    → length item.key ≤ key_limit → IsKeyPage after max (items ++ item ∷ [])
IsKeyPage-push after max items item page room next short = record {
  few = omega (arith, length-append items (item ∷ []), room);
  past = All-push (λ (i : KeyItem). key_cmp after i.key ≡ Less) items item page.past next.past;
  short = All-push (λ (i : KeyItem). length i.key ≤ key_limit) items item page.short short;
  rises = subst (IsStrictlySortedBy key_cmp) (sym (map-append key_of items (item ∷ []))) (rises_push item.key items page.rises next.last);
}

pub IsKeyPage-none : (after : List ℕ) (max : ℕ) → IsKeyPage after max []
unfolding IsStrictlySortedBy
IsKeyPage-none after max = record {
  few = omega arith;
  past = All-nil (λ (i : KeyItem). key_cmp after i.key ≡ Less);
  short = All-nil (λ (i : KeyItem). length i.key ≤ key_limit);
  rises = tt;
}

-- what follows from what holds where it is Ok
pub on_ok_from : {T E A B : Type 0} (answer : Result T E) → (A → B) → OnOk answer A → OnOk answer B
on_ok_from (Ok x) follows holds = follows holds
on_ok_from (Err e) follows holds = holds

-- The objects of a store after a put and after a delete, and the keys that a page of them lists.
use Rattle.std.proofs.Common.{◌≡◌, ◌≢◌, ℕ, zero, suc, ◌≤◌, List, [], ◌∷◌, Bool, true, false, cond, Option, None, Some, length, take, refl, sym, ap, ◌∙◌, subst, arith}
use Rattle.std.specs.Prelude.{not, filter, map, All}
use Rattle.std.specs.List.{AllByRecursion}
use Rattle.std.specs.List.Sorted.{IsStrictlySortedBy}
use Rattle.std.specs.Map.{lookup, keys_of}
use Rattle.std.specs.BTreeMap.{is_at, insert_entry}
use Rattle.std.specs.Cmp.{IsTotalOrder}
use Rattle.std.specs.declared.cmp.Ordering.{Ordering}
use Rattle.std.specs.declared.cmp.Ordering.TheVariants.{Less, Equal, Greater}
use Rattle.std.specs.Ordering.{is_eq, is_lt, match_ordering, ordering_reverse}
use Rattle.std.proofs.lemmas.Cmp.{nat_list_cmp_total, alike_right, tied_itself}
use Rattle.std.proofs.lemmas.List.{length-take}
use Rattle.std.proofs.lemmas.List.Elements.{All-filter, All-map, All-take}
use Rattle.std.proofs.lemmas.List.Kept.{IsStrictlySortedBy-filter}
use Rattle.std.proofs.lemmas.List.Elements.{filter_passes}
use Rattle.std.proofs.lemmas.Map.Entries.{lookup-filter-keys}
use Rattle.std.proofs.lemmas.Map.Lookups.{exact_bytes}
use Rattle.s3_devices.specs.declared.key_list.KeyItem.{KeyItem}
use Rattle.s3_devices.specs.Objects.{Objects, key_cmp, held_at, with_object, without_object, AreOrdered, KeepsOthers}
use Rattle.s3_devices.specs.LinkAnswers.{item_of, listed, key_limit, IsKeyPage}

equal_from_is_eq : (o : Ordering) → is_eq o ≡ true → o ≡ Equal
equal_from_is_eq Less h = cc
equal_from_is_eq Equal h = refl
equal_from_is_eq Greater h = cc

less_from_is_lt : (o : Ordering) → is_lt o ≡ true → o ≡ Less
less_from_is_lt Less h = refl
less_from_is_lt Equal h = cc
less_from_is_lt Greater h = cc

false_from : (b : Bool) → (b ≡ true → ⊥) → b ≡ false
false_from true never = absurd (never refl)
false_from false never = refl

-- ---- a put, over any order

all_below : {K : Type 0} (cmp : K → K → Ordering) (total : IsTotalOrder cmp) (k m : K) (ks : List K) → cmp k m ≡ Less
    → AllByRecursion (λ y. cmp m y ≡ Less) ks → AllByRecursion (λ y. cmp k y ≡ Less) ks
all_below cmp total k m [] first all = tt
all_below cmp total k m (x ∷ xs) first all = (total.trans k m x first all.0, all_below cmp total k m xs first all.1)

module _ {K X : Type 0} (cmp : K → K → Ordering) (total : IsTotalOrder cmp) where
  pub lookup-insert_entry : (q k : K) (v : X) (es : List (K × X))
      → lookup (is_at (cmp q)) (insert_entry cmp es k v) ≡ cond (is_at (cmp q) k) (Some v) (lookup (is_at (cmp q)) es)
  lookup-insert_entry q k v [] = refl
  lookup-insert_entry q k v (e ∷ es) = by_case (cmp k e.0) refl (lookup-insert_entry q k v es)
    where
      tied : (x y z : Option X) (a b : Bool) → a ≡ b → cond b x y ≡ cond a x (cond b z y)
      tied x y z true true same = refl
      tied x y z false false same = refl
      tied x y z true false same = cc
      tied x y z false true same = cc

      apart : (x y z r : Option X) (a b : Bool) → (a ≡ true → b ≡ true → ⊥) → r ≡ cond a x y → cond b z r ≡ cond a x (cond b z y)
      apart x y z r true true never is = absurd (never refl refl)
      apart x y z r true false never is = is
      apart x y z r false true never is = refl
      apart x y z r false false never is = is

      by_case : (o : Ordering) → cmp k e.0 ≡ o
          → lookup (is_at (cmp q)) (insert_entry cmp es k v) ≡ cond (is_at (cmp q) k) (Some v) (lookup (is_at (cmp q)) es)
          → lookup (is_at (cmp q)) (match_ordering o ((k, v) ∷ e ∷ es) ((e.0, v) ∷ es) (e ∷ insert_entry cmp es k v))
          ≡ cond (is_at (cmp q) k) (Some v) (cond (is_at (cmp q) e.0) (Some e.1) (lookup (is_at (cmp q)) es))
      by_case Less is rest = refl
      by_case Equal is rest =
          tied (Some v) (lookup (is_at (cmp q)) es) (Some e.1) (is_at (cmp q) k) (is_at (cmp q) e.0) (ap is_eq (alike_right total k e.0 q is))
      by_case Greater is rest =
          apart (Some v) (lookup (is_at (cmp q)) es) (Some e.1) _ (is_at (cmp q) k) (is_at (cmp q) e.0)
          (λ here there.
          let one : cmp q k ≡ Equal = equal_from_is_eq (cmp q k) here in
          let other : cmp q e.0 ≡ Equal = equal_from_is_eq (cmp q e.0) there in
          let turned : cmp q e.0 ≡ cmp k e.0 = total.congr q k e.0 one in
          let clash : Equal ≡ Greater = sym other ∙ turned ∙ is in
          cc clash)
          rest

  all_keys-insert_entry : (P : K → Type 0) (k : K) (v : X) (es : List (K × X)) → P k → AllByRecursion P (keys_of es)
      → AllByRecursion P (keys_of (insert_entry cmp es k v))
  all_keys-insert_entry P k v [] here all = (here, tt)
  all_keys-insert_entry P k v (e ∷ es) here all = by_case (cmp k e.0) (all_keys-insert_entry P k v es here all.1)
    where
      by_case : (o : Ordering) → AllByRecursion P (keys_of (insert_entry cmp es k v))
          → AllByRecursion P (keys_of (match_ordering o ((k, v) ∷ e ∷ es) ((e.0, v) ∷ es) (e ∷ insert_entry cmp es k v)))
      by_case Less rest = (here, all)
      by_case Equal rest = all
      by_case Greater rest = (all.0, rest)

  pub sorted-insert_entry : (k : K) (v : X) (es : List (K × X)) → IsStrictlySortedBy cmp (keys_of es)
      → IsStrictlySortedBy cmp (keys_of (insert_entry cmp es k v))
  unfolding IsStrictlySortedBy
  sorted-insert_entry k v [] sorted = (tt, tt)
  sorted-insert_entry k v (e ∷ es) sorted = by_case (cmp k e.0) refl (sorted-insert_entry k v es sorted.1)
    where
      by_case : (o : Ordering) → cmp k e.0 ≡ o → IsStrictlySortedBy cmp (keys_of (insert_entry cmp es k v))
          → IsStrictlySortedBy cmp (keys_of (match_ordering o ((k, v) ∷ e ∷ es) ((e.0, v) ∷ es) (e ∷ insert_entry cmp es k v)))
      by_case Less is rest = ((is, all_below cmp total k e.0 (keys_of es) is sorted.0), sorted)
      by_case Equal is rest = sorted
      by_case Greater is rest =
          let behind : cmp e.0 k ≡ Less = total.antisymm e.0 k ∙ ap ordering_reverse is in
          (all_keys-insert_entry (λ y. cmp e.0 y ≡ Less) k v es behind sorted.0, rest)

-- ---- held_at

other_is_not_at : (key other : List ℕ) → other ≢ key → is_at (key_cmp other) key ≡ false
other_is_not_at key other differ =
    false_from _ (λ h. differ (exact_bytes other key (equal_from_is_eq (key_cmp other key) h)))

pub held_at-with_object_same : (key bytes : List ℕ) (o : Objects) → held_at (with_object key bytes o) key ≡ Some bytes
held_at-with_object_same key bytes o =
    lookup-insert_entry key_cmp nat_list_cmp_total key key bytes o
    ∙ ap (λ b. cond b (Some bytes) (held_at o key)) (ap is_eq (tied_itself nat_list_cmp_total key))

pub KeepsOthers-with_object : (key bytes : List ℕ) (o : Objects) → KeepsOthers key o (with_object key bytes o)
KeepsOthers-with_object key bytes o = record {
  others = λ other differ. lookup-insert_entry key_cmp nat_list_cmp_total other key bytes o
      ∙ ap (λ b. cond b (Some bytes) (held_at o other)) (other_is_not_at key other differ);
  ordered = sorted-insert_entry key_cmp nat_list_cmp_total key bytes o;
}

pub held_at-without_object_same : (key : List ℕ) (o : Objects) → held_at (without_object key o) key ≡ None
held_at-without_object_same key o =
    lookup-filter-keys (is_at (key_cmp key)) (λ k. not (is_at (key_cmp key) k)) false (λ k at. ap not at) o

pub keys_of-filter : {K X : Type 0} (p : K → Bool) (es : List (K × X)) → keys_of (filter (λ e. p e.0) es) ≡ filter p (keys_of es)
keys_of-filter p [] = refl
keys_of-filter {K} {X} p (e ∷ es) = by_case (p e.0) (keys_of-filter p es)
  where
    by_case : (b : Bool) → keys_of (filter (λ (f : K × X). p f.0) es) ≡ filter p (keys_of es)
        → keys_of (cond b (e ∷ filter (λ (f : K × X). p f.0) es) (filter (λ (f : K × X). p f.0) es)) ≡ cond b (e.0 ∷ filter p (keys_of es)) (filter p (keys_of es))
    by_case true rest = ap (λ ks. e.0 ∷ ks) rest
    by_case false rest = rest

pub KeepsOthers-without_object : (key : List ℕ) (o : Objects) → KeepsOthers key o (without_object key o)
KeepsOthers-without_object key o = record {
  others = λ other differ. lookup-filter-keys (is_at (key_cmp other)) (λ k. not (is_at (key_cmp key) k)) true
      (λ k at.
      let same : other ≡ k = exact_bytes other k (equal_from_is_eq (key_cmp other k) at) in
      ap not (false_from _ (λ h. differ (same ∙ sym (exact_bytes key k (equal_from_is_eq (key_cmp key k) h))))))
      o;
  ordered = λ sorted. subst (IsStrictlySortedBy key_cmp) (sym (keys_of-filter (λ k. not (is_at (key_cmp key) k)) o))
      (IsStrictlySortedBy-filter key_cmp (λ k. not (is_at (key_cmp key) k)) (keys_of o) sorted);
}

-- ---- listed

sorted_take : {K : Type 0} (cmp : K → K → Ordering) (n : ℕ) (ks : List K) → IsStrictlySortedBy cmp ks → IsStrictlySortedBy cmp (take n ks)
unfolding IsStrictlySortedBy
sorted_take cmp zero ks sorted = tt
sorted_take cmp (suc n) [] sorted = tt
sorted_take {K} cmp (suc n) (k ∷ ks) sorted = (all_take n ks sorted.0, sorted_take cmp n ks sorted.1)
  where
    all_take : (m : ℕ) (xs : List K) → AllByRecursion (λ y. cmp k y ≡ Less) xs → AllByRecursion (λ y. cmp k y ≡ Less) (take m xs)
    all_take zero xs all = tt
    all_take (suc m) [] all = tt
    all_take (suc m) (x ∷ xs) all = (all.0, all_take m xs all.1)

all_past : (after : List ℕ) (o : Objects) → All (λ (e : List ℕ × List ℕ). key_cmp after e.0 ≡ Less) (filter (λ e. is_lt (key_cmp after e.0)) o)
all_past after o = λ k d low. less_from_is_lt _ (filter_passes (λ e. is_lt (key_cmp after e.0)) o k d low)

pub keys_listed : (n : ℕ) (o : Objects) → map (λ i. i.key) (map item_of (take n o)) ≡ take n (keys_of o)
keys_listed zero o = refl
keys_listed (suc n) [] = refl
keys_listed (suc n) (e ∷ es) = ap (λ ks. e.0 ∷ ks) (keys_listed n es)

length-map : {A B : Type 0} (f : A → B) (xs : List A) → length (map f xs) ≡ length xs
length-map f [] = refl
length-map f (x ∷ xs) = ap suc (length-map f xs)

-- of ordered keys, none too long, a page
pub IsKeyPage-listed : (after : List ℕ) (max : ℕ) (o : Objects) → AreOrdered o → All (λ (e : List ℕ × List ℕ). length e.0 ≤ key_limit) o
    → IsKeyPage after max (listed after max o)
IsKeyPage-listed after max o ordered short =
    let past : Objects = filter (λ e. is_lt (key_cmp after e.0)) o in
    record {
      few = omega (arith, length-map item_of (take max past), length-take max past);
      past = All-map (λ (i : KeyItem). key_cmp after i.key ≡ Less) item_of (take max past)
          (All-take (λ (e : List ℕ × List ℕ). key_cmp after e.0 ≡ Less) max past (all_past after o));
      short = All-map (λ (i : KeyItem). length i.key ≤ key_limit) item_of (take max past)
          (All-take (λ (e : List ℕ × List ℕ). length e.0 ≤ key_limit) max past
          (All-filter (λ e. is_lt (key_cmp after e.0)) (λ (e : List ℕ × List ℕ). length e.0 ≤ key_limit) o short));
      rises = subst (IsStrictlySortedBy key_cmp) (sym (keys_listed max past))
          (sorted_take key_cmp max (keys_of past) (subst (IsStrictlySortedBy key_cmp) (sym (keys_of-filter (λ k. is_lt (key_cmp after k)) o))
          (IsStrictlySortedBy-filter key_cmp (λ k. is_lt (key_cmp after k)) (keys_of o) ordered)));
    }

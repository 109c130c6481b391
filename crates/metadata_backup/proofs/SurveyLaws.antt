-- What keys name together, page by page: each page goes on behind the last key so far.
use Rattle.std.proofs.Common.{◌≡◌, ℕ, suc, ◌+◌, ◌≤◌, max, Bool, true, false, cond, IsTrue, List, [], ◌∷◌, ◌++◌, length, take, drop, map, Option, None, Some, refl, sym, ap, ◌∙◌, subst, append_assoc, append-nil, arith}
use Rattle.std.specs.Prelude.{filter}
use Rattle.std.specs.List.{AllByRecursion}
use Rattle.std.specs.List.Sorted.{IsStrictlySortedBy}
use Rattle.std.specs.Map.{keys_of}
use Rattle.std.specs.Cmp.{IsTotalOrder}
use Rattle.std.specs.declared.cmp.Ordering.{Ordering}
use Rattle.std.specs.declared.cmp.Ordering.TheVariants.{Less}
use Rattle.std.specs.Ordering.{is_lt}
use Rattle.std.proofs.lemmas.Cmp.{nat_list_cmp_total, tied_itself}
use Rattle.std.proofs.lemmas.List.{take-append-drop, map-append}
use Rattle.std.proofs.lemmas.List.Elements.{filter_map-append}
use Rattle.std.proofs.lemmas.List.Kept.{IsStrictlySortedBy-filter}
use Rattle.row_lemmas.proofs.Filters.{filter-filter_weaker}
use Rattle.row_lemmas.proofs.Tests.{less_from_is_lt}
use Rattle.s3_devices.specs.declared.key_list.KeyItem.{KeyItem}
use Rattle.s3_devices.specs.Objects.{Objects, key_cmp, AreOrdered}
use Rattle.s3_devices.specs.LinkAnswers.{listed}
use Rattle.s3_devices.proofs.ObjectLemmas.{keys_of-filter, keys_listed}
use Rattle.s3_devices.specs.Told.{IfTold}
use Rattle.metadata_backup.specs.Numbers.{generation_of, object_of}
use Rattle.metadata_backup.specs.Survey.{generations_in, object_end, objects_end, keys_past, last_or, IsReadTo, IsReadPage}

-- ---- objects_end

object_end_positive : (k : List ℕ) → 1 ≤ object_end k
object_end_positive k = by_case (object_of k)
  where
    by_case : (o : Option ℕ) → 1 ≤ elim o [ Some id ↦ id + 1 | None ↦ 1 ]
    by_case None = omega arith
    by_case (Some id) = omega arith

pub objects_end_positive : (ks : List (List ℕ)) → 1 ≤ objects_end ks
objects_end_positive [] = omega arith
objects_end_positive (k ∷ ks) =
    let rest = objects_end_positive ks in
    omega (arith, rest)

pub objects_end-append : (xs ys : List (List ℕ)) → objects_end (xs ++ ys) ≡ max (objects_end xs) (objects_end ys)
objects_end-append [] ys = omega (arith, objects_end_positive ys)
objects_end-append (x ∷ xs) ys =
    let rest = objects_end-append xs ys in
    omega (arith, rest)

-- ---- last_or

pub last_or-push : (before key : List ℕ) (ks : List (List ℕ)) → last_or before (ks ++ key ∷ []) ≡ key
last_or-push before key [] = refl
last_or-push before key (k ∷ ks) = last_or-push k key ks

-- ---- keys past one of ordered keys

passes_first : {A : Type 0} (p : A → Bool) (xs ys : List A) (x : A) → filter p xs ≡ x ∷ ys → p x ≡ true
passes_first p [] ys x is = absurd (cc is)
passes_first {A} p (z ∷ zs) ys x is = by_case (passes_first p zs ys x) (p z) refl is
  where
    by_case : (filter p zs ≡ x ∷ ys → p x ≡ true) → (b : Bool) → p z ≡ b → cond b (z ∷ filter p zs) (filter p zs) ≡ x ∷ ys → p x ≡ true
    by_case others true passes there =
        let same : z ≡ x = cc there in
        ap p (sym same) ∙ passes
    by_case others false fails there = others there

module _ {K : Type 0} (cmp : K → K → Ordering) (total : IsTotalOrder cmp) where
  all_past : (k : K) (ks : List K) → AllByRecursion (λ y. cmp k y ≡ Less) ks → filter (λ y. is_lt (cmp k y)) ks ≡ ks
  all_past k [] all = refl
  all_past k (x ∷ xs) all =
      ap (λ (o : Ordering). cond (is_lt o) (x ∷ filter (λ y. is_lt (cmp k y)) xs) (filter (λ y. is_lt (cmp k y)) xs)) all.0
      ∙ ap (λ (ys : List K). x ∷ ys) (all_past k xs all.1)

  -- behind the first key past one are the keys past that
  past_first : (after k : K) (keys rest : List K) → IsStrictlySortedBy cmp keys → filter (λ y. is_lt (cmp after y)) keys ≡ k ∷ rest
      → filter (λ y. is_lt (cmp k y)) keys ≡ rest
  unfolding IsStrictlySortedBy
  past_first after k keys rest sorted first =
      let below : cmp after k ≡ Less = less_from_is_lt (cmp after k) (passes_first (λ y. is_lt (cmp after y)) keys rest k first) in
      let behind : IsStrictlySortedBy cmp (k ∷ rest) =
      subst (IsStrictlySortedBy cmp) first (IsStrictlySortedBy-filter cmp (λ y. is_lt (cmp after y)) keys sorted) in
      sym (filter-filter_weaker (λ y. is_lt (cmp after y)) (λ y. is_lt (cmp k y)) (λ y past. ap is_lt (total.trans after k y below (less_from_is_lt (cmp k y) past))) keys)
      ∙ ap (filter (λ y. is_lt (cmp k y))) first
      ∙ ap (λ (o : Ordering). cond (is_lt o) (k ∷ filter (λ y. is_lt (cmp k y)) rest) (filter (λ y. is_lt (cmp k y)) rest)) (tied_itself total k)
      ∙ all_past k rest behind.0

pub keys_past-last_or : (o : Objects) → AreOrdered o → (after : List ℕ) (ks rest : List (List ℕ)) → keys_past after o ≡ ks ++ rest
    → keys_past (last_or after ks) o ≡ rest
keys_past-last_or o ordered after [] rest is = is
keys_past-last_or o ordered after (k ∷ ks) rest is =
    keys_past-last_or o ordered k ks rest (past_first key_cmp nat_list_cmp_total after k (keys_of o) (ks ++ rest) ordered is)

-- ---- pages

pub keys_of_listed : (after : List ℕ) (max : ℕ) (o : Objects) → map (λ (i : KeyItem). i.key) (listed after max o) ≡ take max (keys_past after o)
keys_of_listed after max o =
    keys_listed max (filter (λ e. is_lt (key_cmp after e.0)) o) ∙ ap (take max) (keys_of-filter (λ k. is_lt (key_cmp after k)) o)

no_items : (page : List KeyItem) → length page ≡ 0 → map (λ (i : KeyItem). i.key) page ≡ []
no_items [] e = refl
no_items (x ∷ xs) e = absurd (omega (arith, e))

none_taken : (max : ℕ) (ks : List (List ℕ)) → take (suc max) ks ≡ [] → ks ≡ []
none_taken max [] e = refl
none_taken max (x ∷ xs) e = absurd (cc e)

-- what a page that is told makes of what was read
pub IsReadPage-listed : (start after : List ℕ) (most : ℕ) (generations new_generations : List ℕ) (next new_next : ℕ) (page : List KeyItem) (new_after : List ℕ) (last : Bool) (o : Objects)
    → page ≡ listed after (suc most) o → AreOrdered o → (IsTrue last → length page ≡ 0)
    → new_generations ≡ generations ++ generations_in (map (λ (i : KeyItem). i.key) page)
    → new_next ≡ max next (objects_end (map (λ (i : KeyItem). i.key) page))
    → new_after ≡ last_or after (map (λ (i : KeyItem). i.key) page)
    → IsReadTo start after generations next o → IsReadPage last start new_after new_generations new_next o
IsReadPage-listed start after most generations new_generations next new_next page new_after last o given ordered empty more_generations more_next more_after read =
    let rest = keys_past after o in
    let ks = map (λ (i : KeyItem). i.key) page in
    let taken : ks ≡ take (suc most) rest = ap (map (λ (i : KeyItem). i.key)) given ∙ keys_of_listed after (suc most) o in
    let parts : rest ≡ ks ++ drop (suc most) rest = sym (take-append-drop (suc most) rest) ∙ ap (λ (xs : List (List ℕ)). xs ++ drop (suc most) rest) (sym taken) in
    let left : keys_past new_after o ≡ drop (suc most) rest =
    ap (λ (a : List ℕ). keys_past a o) more_after ∙ keys_past-last_or o ordered after ks (drop (suc most) rest) parts in
    record {
      read = record {
        seen = read.seen ++ ks;
        parts = read.parts ∙ ap (λ (xs : List (List ℕ)). read.seen ++ xs) (parts ∙ ap (λ (xs : List (List ℕ)). ks ++ xs) (sym left)) ∙ sym (append_assoc read.seen ks (keys_past new_after o));
        numbers = more_generations ∙ ap (λ (ns : List ℕ). ns ++ generations_in ks) read.numbers ∙ sym (filter_map-append generation_of read.seen ks);
        next = more_next ∙ ap (λ (n : ℕ). max n (objects_end ks)) read.next ∙ sym (objects_end-append read.seen ks);
      };
      whole = λ end.
          let none : rest ≡ [] = none_taken most rest (sym taken ∙ no_items page (empty end)) in
          left ∙ ap (drop (suc most)) none;
    }

-- all is read where nothing is left
pub read_whole : (start after : List ℕ) (generations : List ℕ) (next : ℕ) (o : Objects) → IsReadPage true start after generations next o
    → (generations ≡ generations_in (keys_past start o)) × (next ≡ objects_end (keys_past start o))
read_whole start after generations next o page =
    let read = page.read in
    let all : keys_past start o ≡ read.seen = read.parts ∙ ap (λ (xs : List (List ℕ)). read.seen ++ xs) (page.whole refl) ∙ append-nil read.seen in
    (read.numbers ∙ ap generations_in (sym all), read.next ∙ ap objects_end (sym all))

-- ---- a key more of a page

module _ (yielded : List KeyItem) (item : KeyItem) where
  keys_more : map (λ (i : KeyItem). i.key) (yielded ++ item ∷ []) ≡ map (λ (i : KeyItem). i.key) yielded ++ item.key ∷ []
  keys_more = map-append (λ (i : KeyItem). i.key) yielded (item ∷ [])

  pub generations_in-push : (first now next : List ℕ) → now ≡ first ++ generations_in (map (λ (i : KeyItem). i.key) yielded)
      → next ≡ now ++ generations_in (item.key ∷ []) → next ≡ first ++ generations_in (map (λ (i : KeyItem). i.key) (yielded ++ item ∷ []))
  generations_in-push first now next before more =
      let ks = map (λ (i : KeyItem). i.key) yielded in
      more ∙ ap (λ (ns : List ℕ). ns ++ generations_in (item.key ∷ [])) before ∙ append_assoc first (generations_in ks) (generations_in (item.key ∷ []))
      ∙ ap (λ (ns : List ℕ). first ++ ns) (sym (filter_map-append generation_of ks (item.key ∷ [])) ∙ ap generations_in (sym keys_more))

  pub objects_end-push : (first now next : ℕ) → now ≡ max first (objects_end (map (λ (i : KeyItem). i.key) yielded))
      → next ≡ max now (object_end item.key) → next ≡ max first (objects_end (map (λ (i : KeyItem). i.key) (yielded ++ item ∷ [])))
  objects_end-push first now next before more =
      let ks = map (λ (i : KeyItem). i.key) yielded in
      let all : objects_end (map (λ (i : KeyItem). i.key) (yielded ++ item ∷ [])) ≡ max (objects_end ks) (objects_end (item.key ∷ [])) =
      ap objects_end keys_more ∙ objects_end-append ks (item.key ∷ []) in
      let positive = object_end_positive item.key in
      omega (arith, all, before, more, positive)

  pub last_or-items : (before : List ℕ) → item.key ≡ last_or before (map (λ (i : KeyItem). i.key) (yielded ++ item ∷ []))
  last_or-items before = sym (ap (last_or before) keys_more ∙ last_or-push before item.key (map (λ (i : KeyItem). i.key) yielded))

-- ---- what is told

pub told_weaker : {T : Type 0} (told : Option T) (P Q : T → Type 0) → ((t : T) → P t → Q t) → IfTold told P → IfTold told Q
told_weaker None P Q follows fact = tt
told_weaker (Some t) P Q follows fact = follows t fact

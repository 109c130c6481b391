-- The keys that a check looks at, page by page: each page goes on behind the last key so far, and no such key comes before `s3ql_`.
use Rattle.std.proofs.Common.{◌≡◌, ℕ, suc, Bool, true, false, cond, IsTrue, List, [], ◌∷◌, ◌++◌, length, take, drop, map, Option, None, Some, is_some, refl, sym, ap, ◌∙◌, subst, append_assoc, append-nil, arith}
use Rattle.std.specs.Prelude.{◌||◌, All, filter, codes}
use Rattle.std.specs.List.{AllByRecursion}
use Rattle.std.specs.List.Sorted.{IsStrictlySortedBy}
use Rattle.std.specs.Map.{keys_of}
use Rattle.std.specs.declared.cmp.Ordering.{Ordering}
use Rattle.std.specs.declared.cmp.Ordering.TheVariants.{Less}
use Rattle.std.specs.Ordering.{is_lt}
use Rattle.std.proofs.lemmas.Cmp.{nat_list_cmp_total, tied_itself}
use Rattle.std.proofs.lemmas.List.{take-append-drop, map-append}
use Rattle.std.proofs.lemmas.List.Elements.{All-head, filter-append, filter_passes}
use Rattle.std.proofs.lemmas.List.Kept.{IsStrictlySortedBy-filter}
use Rattle.row_lemmas.proofs.Filters.{filter-filter_weaker}
use Rattle.row_lemmas.proofs.Tests.{less_from_is_lt}
use Rattle.s3_devices.specs.declared.key_list.KeyItem.{KeyItem}
use Rattle.s3_devices.specs.LinkAnswers.{item_of, listed}
use Rattle.s3_devices.specs.Objects.{Objects, key_cmp, AreOrdered}
use Rattle.s3_devices.specs.Told.{IfTold}
use Rattle.s3_devices.proofs.ObjectLemmas.{keys_of-filter}
use Rattle.metadata_backup.specs.Numbers.{generation_of, object_of}
use Rattle.metadata_backup.specs.Survey.{last_or}
use Rattle.metadata_backup.proofs.KeyNumbers.{is_past_s3ql, is_object_past_s3ql}
use Rattle.fsck_run.specs.Listing.{is_own, is_own_key, is_past, own_keys, own_keys_past, IsReadTo, IsReadPage}

-- ---- objects past a key

all_past : (k : List ℕ) (es : Objects) → AllByRecursion (λ y. key_cmp k y ≡ Less) (keys_of es) → filter (is_past k) es ≡ es
all_past k [] all = refl
all_past k (x ∷ xs) all =
    ap (λ (c : Ordering). cond (is_lt c) (x ∷ filter (is_past k) xs) (filter (is_past k) xs)) all.0
    ∙ ap (λ (ys : Objects). x ∷ ys) (all_past k xs all.1)

first_passes : {A : Type 0} (p : A → Bool) (xs ys : List A) (x : A) → filter p xs ≡ x ∷ ys → p x ≡ true
first_passes p xs ys x is = All-head (λ y. p y ≡ true) x ys (subst (All (λ y. p y ≡ true)) is (filter_passes p xs))

-- behind the first object past a key are the objects past that
past_first : (after : List ℕ) (e : List ℕ × List ℕ) (o rest : Objects) → AreOrdered o → filter (is_past after) o ≡ e ∷ rest → filter (is_past e.0) o ≡ rest
unfolding IsStrictlySortedBy
past_first after e o rest ordered first =
    let below : key_cmp after e.0 ≡ Less = less_from_is_lt (key_cmp after e.0) (first_passes (is_past after) o rest e first) in
    let sorted : IsStrictlySortedBy key_cmp (keys_of (filter (is_past after) o)) =
    subst (IsStrictlySortedBy key_cmp) (sym (keys_of-filter (λ k. is_lt (key_cmp after k)) o))
    (IsStrictlySortedBy-filter key_cmp (λ k. is_lt (key_cmp after k)) (keys_of o) ordered) in
    let behind : IsStrictlySortedBy key_cmp (keys_of (e ∷ rest)) = subst (λ (es : Objects). IsStrictlySortedBy key_cmp (keys_of es)) first sorted in
    sym (filter-filter_weaker (is_past after) (is_past e.0)
    (λ y past. ap is_lt (nat_list_cmp_total.trans after e.0 y.0 below (less_from_is_lt (key_cmp e.0 y.0) past))) o)
    ∙ ap (filter (is_past e.0)) first
    ∙ ap (λ (c : Ordering). cond (is_lt c) (e ∷ filter (is_past e.0) rest) (filter (is_past e.0) rest)) (tied_itself nat_list_cmp_total e.0)
    ∙ all_past e.0 rest behind.0

past_last : (o : Objects) → AreOrdered o → (after : List ℕ) (es rest : Objects) → filter (is_past after) o ≡ es ++ rest
    → filter (is_past (last_or after (keys_of es))) o ≡ rest
past_last o ordered after [] rest is = is
past_last o ordered after (e ∷ es) rest is = past_last o ordered e.0 es rest (past_first after e o (es ++ rest) ordered is)

-- ---- pages

keys_of_items : (es : Objects) → map (λ (i : KeyItem). i.key) (map item_of es) ≡ keys_of es
keys_of_items [] = refl
keys_of_items (e ∷ es) = ap (λ (ks : List (List ℕ)). e.0 ∷ ks) (keys_of_items es)

own_keys-append : (es fs : Objects) → own_keys (es ++ fs) ≡ own_keys es ++ own_keys fs
own_keys-append es fs = ap (filter is_own) (map-append item_of es fs) ∙ filter-append is_own (map item_of es) (map item_of fs)

none_taken : (most : ℕ) (es : Objects) → length (map item_of (take (suc most) es)) ≡ 0 → drop (suc most) es ≡ []
none_taken most [] none = refl
none_taken most (e ∷ es) none = absurd (omega (arith, none))

-- what a page that is told makes of the keys so far
pub IsReadPage-listed : (start after : List ℕ) (most : ℕ) (keys new_keys page : List KeyItem) (new_after : List ℕ) (last : Bool) (o : Objects)
    → page ≡ listed after (suc most) o → AreOrdered o → (IsTrue last → length page ≡ 0)
    → new_keys ≡ keys ++ filter is_own page → new_after ≡ last_or after (map (λ (i : KeyItem). i.key) page)
    → IsReadTo start after keys o → IsReadPage last start new_after new_keys o
IsReadPage-listed start after most keys new_keys page new_after last o given ordered empty more_keys more_after read =
    let all = filter (is_past after) o in
    let front = take (suc most) all in
    let rest = drop (suc most) all in
    let parts : all ≡ front ++ rest = sym (take-append-drop (suc most) all) in
    let last_key : new_after ≡ last_or after (keys_of front) =
    more_after ∙ ap (λ (is : List KeyItem). last_or after (map (λ (i : KeyItem). i.key) is)) given ∙ ap (last_or after) (keys_of_items front) in
    let left : filter (is_past new_after) o ≡ rest = ap (λ (a : List ℕ). filter (is_past a) o) last_key ∙ past_last o ordered after front rest parts in
    let split : own_keys_past after o ≡ filter is_own page ++ own_keys_past new_after o =
    ap own_keys parts ∙ own_keys-append front rest ∙ ap (λ (is : List KeyItem). filter is_own is ++ own_keys rest) (sym given)
    ∙ ap (λ (es : Objects). filter is_own page ++ own_keys es) (sym left) in
    record {
      read = read ∙ ap (λ (is : List KeyItem). keys ++ is) split ∙ sym (append_assoc keys (filter is_own page) (own_keys_past new_after o))
          ∙ ap (λ (is : List KeyItem). is ++ own_keys_past new_after o) (sym more_keys);
      whole = λ end. ap own_keys (left ∙ none_taken most all (ap (λ (is : List KeyItem). length is) (sym given) ∙ empty end));
    }

-- a key more of a page
pub own-push : (yielded : List KeyItem) (item : KeyItem) (first now next : List KeyItem) → now ≡ first ++ filter is_own yielded
    → next ≡ now ++ filter is_own (item ∷ []) → next ≡ first ++ filter is_own (yielded ++ item ∷ [])
own-push yielded item first now next before more =
    more ∙ ap (λ (ks : List KeyItem). ks ++ filter is_own (item ∷ [])) before ∙ append_assoc first (filter is_own yielded) (filter is_own (item ∷ []))
    ∙ ap (λ (ks : List KeyItem). first ++ ks) (sym (filter-append is_own yielded (item ∷ [])))

-- ---- all keys

past_s3ql : (k : List ℕ) → is_own_key k ≡ true → is_lt (key_cmp (codes "s3ql_") k) ≡ true
past_s3ql k = by_case (object_of k) refl (generation_of k) refl
  where
    by_case : (a : Option ℕ) → object_of k ≡ a → (b : Option ℕ) → generation_of k ≡ b → (is_some a || is_some b) ≡ true
        → is_lt (key_cmp (codes "s3ql_") k) ≡ true
    by_case (Some id) is b other own = is_object_past_s3ql k id is
    by_case None nothing (Some n) is own = is_past_s3ql k n is
    by_case None nothing None neither own = absurd (cc own)

own_keys-filter : (p : List ℕ × List ℕ → Bool) → ((e : List ℕ × List ℕ) → is_own (item_of e) ≡ true → p e ≡ true)
    → (es : Objects) → own_keys (filter p es) ≡ own_keys es
own_keys-filter p passes [] = refl
own_keys-filter p passes (e ∷ es) = by_case (own_keys-filter p passes es) (p e) refl (is_own (item_of e)) refl
  where
    by_case : own_keys (filter p es) ≡ own_keys es → (b : Bool) → p e ≡ b → (c : Bool) → is_own (item_of e) ≡ c
        → own_keys (cond b (e ∷ filter p es) (filter p es)) ≡ cond c (item_of e ∷ own_keys es) (own_keys es)
    by_case rest true passed c is =
        ap (λ (d : Bool). cond d (item_of e ∷ own_keys (filter p es)) (own_keys (filter p es))) is
        ∙ ap (λ (ks : List KeyItem). cond c (item_of e ∷ ks) ks) rest
    by_case rest false failed true own = absurd (let clash : false ≡ true = sym failed ∙ passes e own in cc clash)
    by_case rest false failed false other = rest

-- all is read where nothing is left
pub read_whole : (keys : List KeyItem) (after : List ℕ) (o : Objects) → IsReadPage true (codes "s3ql_") after keys o → keys ≡ own_keys o
read_whole keys after o page =
    sym (append-nil keys) ∙ ap (λ (ks : List KeyItem). keys ++ ks) (sym (page.whole refl)) ∙ sym page.read
    ∙ own_keys-filter (is_past (codes "s3ql_")) (λ e own. past_s3ql e.0 own) o

-- the same of what a link tells
pub keys_told : (before middle : Option Objects) (last : Bool) (keys new_keys : List KeyItem) (after new_after : List ℕ) → middle ≡ before → last ≡ true
    → IfTold middle (λ o. AreOrdered o → (start : List ℕ) → IsReadTo start after keys o → IsReadPage last start new_after new_keys o)
    → IfTold before (λ o. AreOrdered o → IsReadTo (codes "s3ql_") after keys o) → IfTold before (λ o. AreOrdered o → new_keys ≡ own_keys o)
keys_told before middle last keys new_keys after new_after same end page read =
    by_case before
    (subst (λ (b : Option Objects). IfTold b (λ o. AreOrdered o → (start : List ℕ) → IsReadTo start after keys o → IsReadPage last start new_after new_keys o)) same page)
    read
  where
    by_case : (b : Option Objects) → IfTold b (λ o. AreOrdered o → (start : List ℕ) → IsReadTo start after keys o → IsReadPage last start new_after new_keys o)
        → IfTold b (λ o. AreOrdered o → IsReadTo (codes "s3ql_") after keys o) → IfTold b (λ o. AreOrdered o → new_keys ≡ own_keys o)
    by_case None next so_far = tt
    by_case (Some o) next so_far = λ ordered.
        read_whole new_keys new_after o
        (subst (λ (b : Bool). IsReadPage b (codes "s3ql_") new_after new_keys o) end (next ordered (codes "s3ql_") (so_far ordered)))

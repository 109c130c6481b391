-- Generations that go from a store, and the greatest of numbers.
use Rattle.std.proofs.Common.{◌≡◌, ℕ, ◌+◌, ◌<◌, max, Bool, true, false, cond, IsTrue, List, [], ◌∷◌, ◌++◌, length, get_or, take, Option, None, Some, inl, inr, refl, sym, ap, ◌∙◌, subst, arith, append-nil, length-append}
use Rattle.std.specs.Prelude.{◌&&◌, ◌||◌, not, nat_le, filter, All, option_map, codes, Result, Ok, Err, OnOk, IfOk}
use Rattle.std.specs.Option.{ForSome}
use Rattle.std.specs.List.{list_any, cons_option}
use Rattle.std.specs.Map.{keys_of}
use Rattle.std.specs.Ordering.{is_eq, is_lt}
use Rattle.std.specs.BTreeMap.{is_at}
use Rattle.std.proofs.lemmas.Bool.{and_from}
use Rattle.std.proofs.lemmas.Cmp.{nat_list_cmp_total, tied_itself}
use Rattle.std.proofs.lemmas.List.{take_more}
use Rattle.std.proofs.lemmas.List.Elements.{All-head, All-tail, filter-append}
use Rattle.std.proofs.lemmas.List.Folds.{list_any-append}
use Rattle.std.proofs.lemmas.Map.Entries.{lookup-filter-keys}
use Rattle.std.proofs.lemmas.Map.Lookups.{exact_bytes}
use Rattle.row_lemmas.proofs.Tests.{equal_from_is_eq, false_from_not}
use Rattle.s3_rows.specs.Rows.{IsId}
use Rattle.s3_devices.specs.Keys.{generation_key}
use Rattle.s3_devices.specs.Objects.{Objects, key_cmp, held_at, AreOrdered, without_object, IsKeptOrGone}
use Rattle.s3_devices.specs.Told.{Becomes, IfTold}
use Rattle.metadata_backup.specs.Numbers.{generation_of}
use Rattle.metadata_backup.specs.Survey.{generations_in, greatest, objects_end, keys_past}
use Rattle.metadata_backup.specs.Generations.{is_old, without_old, up_to, without_generations, LosesOld}
use Rattle.metadata_backup.proofs.KeyNumbers.{generation_of-generation_key, key_of_generation, is_past_metadata, filter_map-filter}

-- ---- greatest

pub greatest-push : (ns : List ℕ) (n : ℕ) → greatest (ns ++ n ∷ []) ≡ Some (elim (greatest ns) [ Some m ↦ max m n | None ↦ n ])
greatest-push [] n = refl
greatest-push (x ∷ ns) n = ap (λ (o : Option ℕ). Some (elim o [ None ↦ x | Some m ↦ max x m ])) (greatest-push ns n) ∙ by_case (greatest ns)
  where
    by_case : (o : Option ℕ) → Some (max x (elim o [ Some m ↦ max m n | None ↦ n ])) ≡ Some (max (elim o [ None ↦ x | Some m ↦ max x m ]) n)
    by_case None = refl
    by_case (Some m) = ap Some (omega arith)

pub greatest_more : (ns : List ℕ) (i : ℕ) (found : Option ℕ) (r : ℕ) → i < length ns → found ≡ greatest (take i ns)
    → r ≡ elim found [ Some m ↦ max m (get_or ns i 0) | None ↦ get_or ns i 0 ] → Some r ≡ greatest (take (i + 1) ns)
greatest_more ns i found r within before is =
    ap Some (is ∙ ap (λ (o : Option ℕ). elim o [ Some m ↦ max m (get_or ns i 0) | None ↦ get_or ns i 0 ]) before)
    ∙ sym (greatest-push (take i ns) (get_or ns i 0)) ∙ ap greatest (sym (take_more ns i 0 within))

pub greatest_is_id : (ns : List ℕ) → All IsId ns → ForSome (greatest ns) IsId
greatest_is_id [] all n is = absurd (cc is)
greatest_is_id (x ∷ ns) all n is = by_case (greatest ns) (greatest_is_id ns (All-tail IsId x ns all)) is
  where
    here : IsId x
    here = All-head IsId x ns all

    by_case : (o : Option ℕ) → ((m : ℕ) → o ≡ Some m → IsId m) → Some (elim o [ None ↦ x | Some m ↦ max x m ]) ≡ Some n → IsId n
    by_case None rest same = subst IsId (let e : x ≡ n = cc same in e) here
    by_case (Some m) rest same =
        let e : max x m ≡ n = cc same in
        let there = rest m refl in
        (omega (arith, here.0, e), omega (arith, here.1, there.1, e))

-- ---- filters

filter_alike : {A : Type 0} (p q : A → Bool) → ((x : A) → p x ≡ q x) → (xs : List A) → filter p xs ≡ filter q xs
filter_alike p q same [] = refl
filter_alike p q same (x ∷ xs) =
    ap (λ (b : Bool). cond b (x ∷ filter p xs) (filter p xs)) (same x) ∙ ap (λ ys. cond (q x) (x ∷ ys) ys) (filter_alike p q same xs)

filter-filter_both : {A : Type 0} (p q : A → Bool) (xs : List A) → filter q (filter p xs) ≡ filter (λ x. p x && q x) xs
filter-filter_both p q [] = refl
filter-filter_both {A} p q (x ∷ xs) = by_case (p x) (filter-filter_both p q xs)
  where
    by_case : (b : Bool) → filter q (filter p xs) ≡ filter (λ y. p y && q y) xs
        → filter q (cond b (x ∷ filter p xs) (filter p xs)) ≡ cond (b && q x) (x ∷ filter (λ y. p y && q y) xs) (filter (λ y. p y && q y) xs)
    by_case true rest = ap (λ (ys : List A). cond (q x) (x ∷ ys) ys) rest
    by_case false rest = rest

all_pass : {A : Type 0} (xs : List A) → filter (λ (x : A). true) xs ≡ xs
all_pass [] = refl
all_pass (x ∷ xs) = ap (λ ys. x ∷ ys) (all_pass xs)

-- ---- named keys

-- the key is that of one of the generations
abbrev is_named : List ℕ → List ℕ → Bool
is_named numbers key = list_any (λ n. is_at (key_cmp (generation_key n)) key) numbers

-- the key of an old generation, by its number
named_is_old : (limit n : ℕ) (key : List ℕ) → IsId n → nat_le n limit ≡ true → is_at (key_cmp (generation_key n)) key ≡ true → is_old limit key ≡ true
named_is_old limit n key id low at =
    let same : generation_key n ≡ key = exact_bytes (generation_key n) key (equal_from_is_eq (key_cmp (generation_key n) key) at) in
    ap (is_old limit) (sym same)
    ∙ ap (λ (o : Option ℕ). elim o [ Some m ↦ nat_le m limit | None ↦ false ]) (generation_of-generation_key n id)
    ∙ low

-- no key of an old generation is left out, and none that is not old is named
young_is_unnamed : (limit : ℕ) (numbers : List ℕ) (key : List ℕ) → All IsId numbers → is_old limit key ≡ false → is_named (up_to limit numbers) key ≡ false
young_is_unnamed limit [] key ids young = refl
young_is_unnamed limit (n ∷ ns) key ids young =
    by_case (nat_le n limit) refl (is_at (key_cmp (generation_key n)) key) refl (young_is_unnamed limit ns key (All-tail IsId n ns ids) young)
  where
    by_case : (b : Bool) → nat_le n limit ≡ b → (a : Bool) → is_at (key_cmp (generation_key n)) key ≡ a → is_named (up_to limit ns) key ≡ false
        → is_named (cond b (n ∷ up_to limit ns) (up_to limit ns)) key ≡ false
    by_case false high a at rest = rest
    by_case true low true at rest =
        absurd (let clash : true ≡ false = sym (named_is_old limit n key (All-head IsId n ns ids) low at) ∙ young in cc clash)
    by_case true low false at rest = ap (λ (a : Bool). a || is_named (up_to limit ns) key) at ∙ rest

old_parts : (limit : ℕ) (key : List ℕ) → is_old limit key ≡ true → (n : ℕ) × (generation_of key ≡ Some n) × (nat_le n limit ≡ true)
old_parts limit key = by_case (generation_of key) refl
  where
    by_case : (o : Option ℕ) → generation_of key ≡ o → elim o [ Some n ↦ nat_le n limit | None ↦ false ] ≡ true
        → (n : ℕ) × (generation_of key ≡ Some n) × (nat_le n limit ≡ true)
    by_case None is low = absurd (cc low)
    by_case (Some n) is low = (n, is, low)

-- a generation more before the others
named_more : (limit : ℕ) (o : Option ℕ) (rest : List ℕ) (key : List ℕ) → is_named (up_to limit rest) key ≡ true → is_named (up_to limit (cons_option o rest)) key ≡ true
named_more limit None rest key named = named
named_more limit (Some n) rest key named = by_case (nat_le n limit) (is_at (key_cmp (generation_key n)) key) refl
  where
    by_case : (b a : Bool) → is_at (key_cmp (generation_key n)) key ≡ a → is_named (cond b (n ∷ up_to limit rest) (up_to limit rest)) key ≡ true
    by_case false a at = named
    by_case true true at = ap (λ (x : Bool). x || is_named (up_to limit rest) key) at
    by_case true false at = ap (λ (x : Bool). x || is_named (up_to limit rest) key) at ∙ named

named_first : (limit n : ℕ) (rest : List ℕ) (key : List ℕ) → key ≡ generation_key n → nat_le n limit ≡ true → is_named (up_to limit (n ∷ rest)) key ≡ true
named_first limit n rest key is low =
    ap (λ (b : Bool). is_named (cond b (n ∷ up_to limit rest) (up_to limit rest)) key) low
    ∙ ap (λ (b : Bool). b || is_named (up_to limit rest) key)
    (ap (λ (k : List ℕ). is_at (key_cmp (generation_key n)) k) is ∙ ap is_eq (tied_itself nat_list_cmp_total (generation_key n)))

-- all numbers of the objects' keys are among those that go
old_are_gone : (limit : ℕ) (numbers : List ℕ) → All IsId numbers → (es : Objects)
    → ((key : List ℕ) → is_named (up_to limit (generations_in (keys_of es))) key ≡ true → is_named (up_to limit numbers) key ≡ true)
    → filter (λ e. not (is_named (up_to limit numbers) e.0)) es ≡ filter (λ e. not (is_old limit e.0)) es
old_are_gone limit numbers ids [] among = refl
old_are_gone limit numbers ids (e ∷ es) among =
    ap (λ (b : Bool). cond (not b) (e ∷ filter (λ x. not (is_named (up_to limit numbers) x.0)) es) (filter (λ x. not (is_named (up_to limit numbers) x.0)) es)) (here (is_old limit e.0) refl)
    ∙ ap (λ (ys : Objects). cond (not (is_old limit e.0)) (e ∷ ys) ys)
    (old_are_gone limit numbers ids es (λ key named. among key (named_more limit (generation_of e.0) (generations_in (keys_of es)) key named)))
  where
    here : (b : Bool) → is_old limit e.0 ≡ b → is_named (up_to limit numbers) e.0 ≡ is_old limit e.0
    here true old =
        let parts = old_parts limit e.0 old in
        let same : e.0 ≡ generation_key parts.0 = (key_of_generation e.0 parts.0 parts.1).0 in
        let first : is_named (up_to limit (cons_option (generation_of e.0) (generations_in (keys_of es)))) e.0 ≡ true =
        ap (λ (o : Option ℕ). is_named (up_to limit (cons_option o (generations_in (keys_of es)))) e.0) parts.1
        ∙ named_first limit parts.0 (generations_in (keys_of es)) e.0 same parts.2 in
        among e.0 first ∙ sym old
    here false young = young_is_unnamed limit numbers e.0 ids young ∙ sym young

pub without_generations-all : (limit : ℕ) (o : Objects) (numbers : List ℕ) → numbers ≡ generations_in (keys_of o) → All IsId numbers
    → without_generations (up_to limit numbers) o ≡ without_old limit o
unfolding without_generations
without_generations-all limit o numbers is ids =
    old_are_gone limit numbers ids o (λ key named. ap (λ (ns : List ℕ). is_named (up_to limit ns) key) is ∙ named)

-- ---- one generation more goes

without_generations-none : (o : Objects) → without_generations [] o ≡ o
unfolding without_generations
without_generations-none o = all_pass o

without_generations-push : (numbers : List ℕ) (n : ℕ) (o : Objects)
    → without_object (generation_key n) (without_generations numbers o) ≡ without_generations (numbers ++ n ∷ []) o
unfolding without_generations
without_generations-push numbers n o =
    filter-filter_both (λ e. not (is_named numbers e.0)) (λ e. not (is_at (key_cmp (generation_key n)) e.0)) o
    ∙ filter_alike (λ e. not (is_named numbers e.0) && not (is_at (key_cmp (generation_key n)) e.0)) (λ e. not (is_named (numbers ++ n ∷ []) e.0))
    (λ e. both (is_named numbers e.0) (is_at (key_cmp (generation_key n)) e.0)
    ∙ ap not (sym (list_any-append (λ m. is_at (key_cmp (generation_key m)) e.0) numbers (n ∷ [])))) o
  where
    both : (a b : Bool) → (not a && not b) ≡ not (a || (b || false))
    both true b = refl
    both false true = refl
    both false false = refl

module _ (limit : ℕ) (numbers : List ℕ) (i : ℕ) (within : i < length numbers) where
  pub up_to-low : nat_le (get_or numbers i 0) limit ≡ true → up_to limit (take (i + 1) numbers) ≡ up_to limit (take i numbers) ++ get_or numbers i 0 ∷ []
  up_to-low low =
      ap (up_to limit) (take_more numbers i 0 within) ∙ filter-append (λ n. nat_le n limit) (take i numbers) (get_or numbers i 0 ∷ [])
      ∙ ap (λ (b : Bool). up_to limit (take i numbers) ++ cond b (get_or numbers i 0 ∷ []) []) low

  pub counted_more : (count : ℕ) → nat_le (get_or numbers i 0) limit ≡ true → count ≡ length (up_to limit (take i numbers))
      → count + 1 ≡ length (up_to limit (take (i + 1) numbers))
  counted_more count low before =
      let all : length (up_to limit (take (i + 1) numbers)) ≡ length (up_to limit (take i numbers) ++ get_or numbers i 0 ∷ []) = ap (λ (ns : List ℕ). length ns) (up_to-low low) in
      omega (arith, all, before, length-append (up_to limit (take i numbers)) (get_or numbers i 0 ∷ []))

  pub up_to-high : nat_le (get_or numbers i 0) limit ≡ false → up_to limit (take (i + 1) numbers) ≡ up_to limit (take i numbers)
  up_to-high high =
      ap (up_to limit) (take_more numbers i 0 within) ∙ filter-append (λ n. nat_le n limit) (take i numbers) (get_or numbers i 0 ∷ [])
      ∙ ap (λ (b : Bool). up_to limit (take i numbers) ++ cond b (get_or numbers i 0 ∷ []) []) high ∙ append-nil (up_to limit (take i numbers))

  pub gone_more : (before mid after : Option Objects) → nat_le (get_or numbers i 0) limit ≡ true
      → mid ≡ option_map (without_generations (up_to limit (take i numbers))) before
      → after ≡ option_map (without_object (generation_key (get_or numbers i 0))) mid
      → after ≡ option_map (without_generations (up_to limit (take (i + 1) numbers))) before
  gone_more before mid after low first then =
      then ∙ ap (option_map (without_object (generation_key (get_or numbers i 0)))) first ∙ by_case before
      ∙ ap (λ (ns : List ℕ). option_map (without_generations ns) before) (sym (up_to-low low))
    where
      by_case : (o : Option Objects)
          → option_map (without_object (generation_key (get_or numbers i 0))) (option_map (without_generations (up_to limit (take i numbers))) o)
          ≡ option_map (without_generations (up_to limit (take i numbers) ++ get_or numbers i 0 ∷ [])) o
      by_case None = refl
      by_case (Some o) = ap Some (without_generations-push (up_to limit (take i numbers)) (get_or numbers i 0) o)

  pub gone_less : (before mid : Option Objects) → nat_le (get_or numbers i 0) limit ≡ false
      → mid ≡ option_map (without_generations (up_to limit (take i numbers))) before
      → mid ≡ option_map (without_generations (up_to limit (take (i + 1) numbers))) before
  gone_less before mid high first = first ∙ ap (λ (ns : List ℕ). option_map (without_generations ns) before) (sym (up_to-high high))

pub gone_none : (limit : ℕ) (before : Option Objects) → before ≡ option_map (without_generations (up_to limit [])) before
gone_none limit None = refl
gone_none limit (Some o) = ap Some (sym (without_generations-none o))

-- ---- LosesOld

loses_named : (limit : ℕ) (numbers : List ℕ) (o : Objects) → All IsId numbers → LosesOld limit o (without_generations (up_to limit numbers) o)
unfolding without_generations
loses_named limit numbers o ids = record {
  stays = λ key. not (is_named (up_to limit numbers) key);
  others = λ key young. ap not (young_is_unnamed limit numbers key ids (false_from_not (is_old limit key) young));
  left = refl;
}

loses_more : (limit n : ℕ) (o x y : Objects) → IsId n → nat_le n limit ≡ true → LosesOld limit o x → IsKeptOrGone (generation_key n) x y → LosesOld limit o y
loses_more limit n o x y id low loses (inl same) = subst (LosesOld limit o) (sym same) loses
loses_more limit n o x y id low loses (inr gone) = record {
  stays = λ key. loses.stays key && not (is_at (key_cmp (generation_key n)) key);
  others = λ key young. and_from (loses.stays key) (not (is_at (key_cmp (generation_key n)) key)) (loses.others key young)
      (other key young (is_at (key_cmp (generation_key n)) key) refl);
  left = gone ∙ ap (without_object (generation_key n)) loses.left ∙ filter-filter_both (λ e. loses.stays e.0) (λ e. not (is_at (key_cmp (generation_key n)) e.0)) o;
}
  where
    other : (key : List ℕ) → IsTrue (not (is_old limit key)) → (a : Bool) → is_at (key_cmp (generation_key n)) key ≡ a → IsTrue (not (is_at (key_cmp (generation_key n)) key))
    other key young true at =
        absurd (let clash : true ≡ false = sym (named_is_old limit n key id low at) ∙ false_from_not (is_old limit key) young in cc clash)
    other key young false at = ap not at

pub left_same : (limit : ℕ) (before after : Option Objects) → after ≡ before → Becomes (LosesOld limit) before after
left_same limit None after same = same
left_same limit (Some o) None same = absurd (cc same)
left_same limit (Some o) (Some x) same =
    let e : x ≡ o = cc same in
    record {
      stays = λ key. true;
      others = λ key young. refl;
      left = e ∙ sym (all_pass o);
    }

pub left_from_gone : (limit : ℕ) (numbers : List ℕ) (before after : Option Objects) → All IsId numbers
    → after ≡ option_map (without_generations (up_to limit numbers)) before → Becomes (LosesOld limit) before after
left_from_gone limit numbers None after ids is = is
left_from_gone limit numbers (Some o) None ids is = absurd (cc is)
left_from_gone limit numbers (Some o) (Some x) ids is =
    let same : x ≡ without_generations (up_to limit numbers) o = cc is in
    subst (LosesOld limit o) (sym same) (loses_named limit numbers o ids)

pub left_after_refusal : (limit n : ℕ) (before mid after : Option Objects) → IsId n → nat_le n limit ≡ true
    → Becomes (LosesOld limit) before mid → Becomes (IsKeptOrGone (generation_key n)) mid after → Becomes (LosesOld limit) before after
left_after_refusal limit n None mid after id low first then = none mid first then
  where
    none : (m : Option Objects) → m ≡ None → Becomes (IsKeptOrGone (generation_key n)) m after → after ≡ None
    none None is last = last
    none (Some x) is last = absurd (cc is)
left_after_refusal limit n (Some o) None after id low first then = absurd first
left_after_refusal limit n (Some o) (Some x) None id low first then = absurd then
left_after_refusal limit n (Some o) (Some x) (Some y) id low first then = loses_more limit n o x y id low first then

-- ---- a rotation

module _ (limit : ℕ) (numbers : List ℕ) where
  pub rotated : (before mid after : Option Objects) → All IsId numbers → mid ≡ before → after ≡ option_map (without_generations (up_to limit numbers)) mid
      → IfTold before (λ o. AreOrdered o → numbers ≡ generations_in (keys_of o)) → IfTold before (λ o. AreOrdered o → after ≡ Some (without_old limit o))
  rotated None mid after ids same gone found = tt
  rotated (Some o) mid after ids same gone found =
      λ ordered. gone ∙ ap (option_map (without_generations (up_to limit numbers))) same ∙ ap Some (without_generations-all limit o numbers (found ordered) ids)

-- the generations past the prefix of their keys are all
pub generations_in-keys_past : (o : Objects) → generations_in (keys_past (codes "s3ql_metadata_") o) ≡ generations_in (keys_of o)
generations_in-keys_past o = filter_map-filter generation_of (λ k. is_lt (key_cmp (codes "s3ql_metadata_") k)) is_past_metadata (keys_of o)

pub generations_found : (numbers : List ℕ) (next : ℕ) (told : Option Objects)
    → IfTold told (λ o. AreOrdered o → (numbers ≡ generations_in (keys_past (codes "s3ql_metadata_") o)) × (next ≡ objects_end (keys_past (codes "s3ql_metadata_") o)))
    → IfTold told (λ o. AreOrdered o → numbers ≡ generations_in (keys_of o))
generations_found numbers next None found = tt
generations_found numbers next (Some o) found = λ ordered. (found ordered).0 ∙ generations_in-keys_past o

-- ---- answers

pub on_ok : {T E : Type 0} (P Q : Type 0) → (P → Q) → (r : Result T E) → OnOk r P → OnOk r Q
on_ok P Q follows (Ok x) fact = follows fact
on_ok P Q follows (Err e) fact = tt

pub if_ok : {T E : Type 0} (P Q : T → Type 0) → ((x : T) → P x → Q x) → (r : Result T E) → IfOk r P → IfOk r Q
if_ok P Q follows (Ok x) fact = follows x fact
if_ok P Q follows (Err e) fact = tt

-- ---- what a rotation leaves

module _ (limit : ℕ) (o : Objects) (key : List ℕ) where
  held_at-without_old : (b : Bool) → not (is_old limit key) ≡ b → held_at (without_old limit o) key ≡ cond b (held_at o key) None
  held_at-without_old b is =
      lookup-filter-keys (is_at (key_cmp key)) (λ k. not (is_old limit k)) b
      (λ k at. ap (λ (x : List ℕ). not (is_old limit x)) (sym (exact_bytes key k (equal_from_is_eq (key_cmp key k) at))) ∙ is) o

  pub held_at-without_old_gone : IsTrue (is_old limit key) → held_at (without_old limit o) key ≡ None
  held_at-without_old_gone old = held_at-without_old false (ap not old)

  pub held_at-without_old_kept : IsTrue (not (is_old limit key)) → held_at (without_old limit o) key ≡ held_at o key
  held_at-without_old_kept young = held_at-without_old true young

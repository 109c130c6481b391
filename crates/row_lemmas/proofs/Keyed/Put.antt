-- What a put makes of rows: which row is found, and what stays.
use Rattle.std.proofs.Common.{◌≡◌, suc, List, [], ◌∷◌, length, map, Bool, true, false, cond, None, Some, refl, sym, ap, ◌∙◌}
use Rattle.std.proofs.lemmas.List.{length-map}
use Rattle.std.specs.Prelude.{IsTrue, not, ◌&&◌, ◌||◌, is_some, find}
use Rattle.std.specs.List.{list_all, list_any}
use Rattle.std.specs.BTreeMap.{insert_entry}
use Rattle.std.specs.Cmp.{IsTotalOrder, alike_right, tied_itself}
use Rattle.std.specs.FinMap.{IsAntisymmetric}
use Rattle.std.specs.declared.cmp.Ordering.{Ordering}
use Rattle.std.specs.declared.cmp.Ordering.TheVariants.{Less, Equal, Greater}
use Rattle.std.specs.Ordering.{is_eq, is_lt, match_ordering}
use Rattle.std.proofs.lemmas.Bool.{and_parts, and_from}
use Rattle.s3_rows.specs.Keyed.{Order, is_past, has_key, rises, put, row_at}
use Rattle.s3_rows.specs.Validity.{differ}
use Rattle.row_lemmas.proofs.Tests.{equal_from_is_eq, less_from_is_lt, list_all_weaker_both, list_any_from_list_all, list_all_from_list_any}
use Rattle.row_lemmas.proofs.Keyed.Rises.{rises_head, rises_tail, compare_greater_back, rises_below, rises_behind}
use Rattle.row_lemmas.proofs.Keyed.RowAt.{row_at_none, row_at_tied, has_key_same, same_from_row_at}

module _ {K R : Type 0} (o : Order K R) where
  -- ---- put, before the first row, at it, or behind it

  pub put_less : (r x : R) (xs : List R) → o.compare (o.key r) (o.key x) ≡ Less → put o r (x ∷ xs) ≡ r ∷ x ∷ xs
  put_less r x xs is = rw (is, put) refl

  pub put_equal : (r x : R) (xs : List R) → o.compare (o.key r) (o.key x) ≡ Equal → put o r (x ∷ xs) ≡ r ∷ xs
  put_equal r x xs is = rw (is, put) refl

  pub put_greater : (r x : R) (xs : List R) → o.compare (o.key r) (o.key x) ≡ Greater
      → put o r (x ∷ xs) ≡ x ∷ put o r xs
  put_greater r x xs is = rw (is, put) refl

  -- ---- list_all

  -- what all rows and the new one pass, all pass after the put
  pub list_all-put : (p : R → Bool) (r : R) (rows : List R) → IsTrue (p r) → IsTrue (list_all p rows)
      → IsTrue (list_all p (put o r rows))
  list_all-put p r [] passes all = and_from (p r) true passes refl
  list_all-put p r (x ∷ xs) passes all = by_case (list_all-put p r xs passes parts.1) (o.compare (o.key r) (o.key x))
    where
      parts : IsTrue (p x) × IsTrue (list_all p xs)
      parts = and_parts (p x) (list_all p xs) all

      by_case : IsTrue (list_all p (put o r xs)) → (c : Ordering)
          → IsTrue (list_all p (elim c [ Less ↦ r ∷ x ∷ xs | Equal ↦ r ∷ xs | Greater ↦ x ∷ put o r xs ]))
      by_case rest Less = and_from (p r) (list_all p (x ∷ xs)) passes all
      by_case rest Equal = and_from (p r) (list_all p xs) passes parts.1
      by_case rest Greater = and_from (p x) (list_all p (put o r xs)) parts.0 rest

  -- ---- list_any

  -- the new row passes
  pub list_any-put_true : (p : R → Bool) (r : R) (rows : List R) → IsTrue (p r) → IsTrue (list_any p (put o r rows))
  list_any-put_true p r [] passes = ap (λ b. b || false) passes
  list_any-put_true p r (x ∷ xs) passes = by_case (list_any-put_true p r xs passes) (o.compare (o.key r) (o.key x))
    where
      either : IsTrue (list_any p (put o r xs)) → (b : Bool) → IsTrue (b || list_any p (put o r xs))
      either others true = refl
      either others false = others

      by_case : IsTrue (list_any p (put o r xs)) → (c : Ordering)
          → IsTrue (list_any p (elim c [ Less ↦ r ∷ x ∷ xs | Equal ↦ r ∷ xs | Greater ↦ x ∷ put o r xs ]))
      by_case others Less = ap (λ b. b || list_any p (x ∷ xs)) passes
      by_case others Equal = ap (λ b. b || list_any p xs) passes
      by_case others Greater = either others (p x)

  pub list_any-put_new : (q : R → Bool) (r : R) (rows : List R) → is_some (row_at o (o.key r) rows) ≡ false
      → list_any q (put o r rows) ≡ (q r || list_any q rows)
  list_any-put_new q r [] new = refl
  list_any-put_new q r (x ∷ xs) new = by_case (list_any-put_new q r xs) (o.compare (o.key r) (o.key x)) new
    where
      swapped : (a b c : Bool) → (a || (b || c)) ≡ (b || (a || c))
      swapped true true c = refl
      swapped true false c = refl
      swapped false true c = refl
      swapped false false c = refl

      by_case : (is_some (row_at o (o.key r) xs) ≡ false → list_any q (put o r xs) ≡ (q r || list_any q xs))
          → (c : Ordering) → is_some (cond (is_eq c) (Some x) (row_at o (o.key r) xs)) ≡ false
          → list_any q (elim c [ Less ↦ r ∷ x ∷ xs | Equal ↦ r ∷ xs | Greater ↦ x ∷ put o r xs ])
          ≡ (q r || list_any q (x ∷ xs))
      by_case others Less none = refl
      by_case others Equal none = absurd (cc none)
      by_case others Greater none = ap (λ b. q x || b) (others none) ∙ swapped (q x) (q r) (list_any q xs)

  -- ---- find

  -- what the new row is not is found as before
  pub find-put_new : (q : R → Bool) (r : R) (rows : List R) → is_some (row_at o (o.key r) rows) ≡ false → q r ≡ false
      → find q (put o r rows) ≡ find q rows
  find-put_new q r [] new fails = ap (λ b. cond b (Some r) None) fails
  find-put_new q r (x ∷ xs) new fails =
      by_case (λ none. find-put_new q r xs none fails) (o.compare (o.key r) (o.key x)) new
    where
      by_case : (is_some (row_at o (o.key r) xs) ≡ false → find q (put o r xs) ≡ find q xs) → (c : Ordering)
          → is_some (cond (is_eq c) (Some x) (row_at o (o.key r) xs)) ≡ false
          → find q (elim c [ Less ↦ r ∷ x ∷ xs | Equal ↦ r ∷ xs | Greater ↦ x ∷ put o r xs ]) ≡ find q (x ∷ xs)
      by_case others Less none = ap (λ b. cond b (Some r) (find q (x ∷ xs))) fails
      by_case others Equal none = absurd (cc none)
      by_case others Greater none = ap (λ found. cond (q x) (Some x) found) (others none)

  -- ---- length

  pub length-put_new : (r : R) (rows : List R) → is_some (row_at o (o.key r) rows) ≡ false
      → length (put o r rows) ≡ suc (length rows)
  length-put_new r [] new = refl
  length-put_new r (x ∷ xs) new = by_case (length-put_new r xs) (o.compare (o.key r) (o.key x)) new
    where
      by_case : (is_some (row_at o (o.key r) xs) ≡ false → length (put o r xs) ≡ suc (length xs)) → (c : Ordering)
          → is_some (cond (is_eq c) (Some x) (row_at o (o.key r) xs)) ≡ false
          → length {A = R} (elim c [ Less ↦ r ∷ x ∷ xs | Equal ↦ r ∷ xs | Greater ↦ x ∷ put o r xs ])
          ≡ suc (length (x ∷ xs))
      by_case others Less none = refl
      by_case others Equal none = absurd (cc none)
      by_case others Greater none = ap suc (others none)

  -- ---- differ

  -- a row that is unlike all others
  pub differ-put : (alike : R → R → Bool) (r : R) (rows : List R) → IsTrue (list_all (λ x. not (alike r x)) rows)
      → IsTrue (list_all (λ x. not (alike x r)) rows) → IsTrue (differ alike rows)
      → IsTrue (differ alike (put o r rows))
  differ-put alike r [] before after unlike = refl
  differ-put alike r (x ∷ xs) before after unlike =
      by_case (differ-put alike r xs ahead.1 back.1 parts.1) (o.compare (o.key r) (o.key x))
    where
      ahead : IsTrue (not (alike r x)) × IsTrue (list_all (λ y. not (alike r y)) xs)
      ahead = and_parts (not (alike r x)) (list_all (λ y. not (alike r y)) xs) before

      back : IsTrue (not (alike x r)) × IsTrue (list_all (λ y. not (alike y r)) xs)
      back = and_parts (not (alike x r)) (list_all (λ y. not (alike y r)) xs) after

      parts : IsTrue (not (list_any (alike x) xs)) × IsTrue (differ alike xs)
      parts = and_parts (not (list_any (alike x) xs)) (differ alike xs) unlike

      by_case : IsTrue (differ alike (put o r xs)) → (c : Ordering)
          → IsTrue (differ alike (elim c [ Less ↦ r ∷ x ∷ xs | Equal ↦ r ∷ xs | Greater ↦ x ∷ put o r xs ]))
      by_case rest Less =
          and_from (not (list_any (alike r) (x ∷ xs))) (differ alike (x ∷ xs))
          (list_any_from_list_all (alike r) (x ∷ xs) before) unlike
      by_case rest Equal =
          and_from (not (list_any (alike r) xs)) (differ alike xs)
          (list_any_from_list_all (alike r) xs ahead.1) parts.1
      by_case rest Greater =
          and_from (not (list_any (alike x) (put o r xs))) (differ alike (put o r xs))
          (list_any_from_list_all (alike x) (put o r xs)
          (list_all-put (λ y. not (alike x y)) r xs back.0 (list_all_from_list_any (alike x) xs parts.0))) rest

  -- ---- entries by key

  -- a put of a row inserts what is told of it at its key
  pub map-put_entry : {X : Type 0} → IsAntisymmetric o.compare → (f : R → X) (r : R) (rows : List R)
      → map (λ x. (o.key x, f x)) (put o r rows)
      ≡ insert_entry o.compare (map (λ x. (o.key x, f x)) rows) (o.key r) (f r)
  map-put_entry exact f r [] = refl
  map-put_entry {X} exact f r (x ∷ xs) = by_case (map-put_entry exact f r xs) (o.compare (o.key r) (o.key x)) refl
    where
      told : R → K × X
      told y = (o.key y, f y)

      by_case : map told (put o r xs) ≡ insert_entry o.compare (map told xs) (o.key r) (f r) → (c : Ordering)
          → o.compare (o.key r) (o.key x) ≡ c
          → map told (elim c [ Less ↦ r ∷ x ∷ xs | Equal ↦ r ∷ xs | Greater ↦ x ∷ put o r xs ])
          ≡ match_ordering c ((o.key r, f r) ∷ told x ∷ map told xs) ((o.key x, f r) ∷ map told xs)
          (told x ∷ insert_entry o.compare (map told xs) (o.key r) (f r))
      by_case others Less is = refl
      by_case others Equal is = ap (λ k. (k, f r) ∷ map told xs) (exact (o.key r) (o.key x) is)
      by_case others Greater is = ap (λ es. told x ∷ es) others

  module _ (total : IsTotalOrder o.compare) where
    -- ---- rises

    pub rises-put : (r : R) (rows : List R) → IsTrue (rises o rows) → IsTrue (rises o (put o r rows))
    rises-put r [] up = refl
    rises-put r (x ∷ xs) up = by_case (rises-put r xs (rises_tail o x xs up)) (o.compare (o.key r) (o.key x)) refl
      where
        by_case : IsTrue (rises o (put o r xs)) → (c : Ordering) → o.compare (o.key r) (o.key x) ≡ c
            → IsTrue (rises o (elim c [ Less ↦ r ∷ x ∷ xs | Equal ↦ r ∷ xs | Greater ↦ x ∷ put o r xs ]))
        by_case rest Less is =
            and_from (list_all (is_past o (o.key r)) (x ∷ xs)) (rises o (x ∷ xs))
            (rises_below o total (o.key r) x xs up is) up
        by_case rest Equal is =
            and_from (list_all (is_past o (o.key r)) xs) (rises o xs) (rises_behind o total (o.key r) x xs up is)
            (rises_tail o x xs up)
        by_case rest Greater is =
            and_from (list_all (is_past o (o.key x)) (put o r xs)) (rises o (put o r xs))
            (list_all-put (is_past o (o.key x)) r xs (ap is_lt (compare_greater_back o total (o.key r) (o.key x) is))
            (rises_head o x xs up)) rest

    -- ---- row_at

    pub row_at-put : (k : K) (r : R) (rows : List R)
        → row_at o k (put o r rows) ≡ cond (has_key o k r) (Some r) (row_at o k rows)
    row_at-put k r [] = refl
    row_at-put k r (x ∷ xs) = by_case (row_at-put k r xs) (o.compare (o.key r) (o.key x)) refl
      where
        same : o.compare (o.key r) (o.key x) ≡ Equal → has_key o k x ≡ has_key o k r
        same is = ap is_eq (sym (alike_right total (o.key r) (o.key x) k is))

        equal : (b c : Bool) → c ≡ b
            → cond b (Some r) (row_at o k xs) ≡ cond b (Some r) (cond c (Some x) (row_at o k xs))
        equal true c is = refl
        equal false true is = absurd (cc is)
        equal false false is = refl

        apart : o.compare (o.key r) (o.key x) ≡ Greater → (b c : Bool) → has_key o k r ≡ b → has_key o k x ≡ c
            → cond c (Some x) (cond b (Some r) (row_at o k xs)) ≡ cond b (Some r) (cond c (Some x) (row_at o k xs))
        apart is true true kr kx =
            let left : o.compare k (o.key r) ≡ Equal = equal_from_is_eq (o.compare k (o.key r)) kr in
            let right : o.compare k (o.key x) ≡ Equal = equal_from_is_eq (o.compare k (o.key x)) kx in
            let none : Greater ≡ Equal = sym is ∙ sym (total.congr k (o.key r) (o.key x) left) ∙ right in
            absurd (cc none)
        apart is true false kr kx = refl
        apart is false true kr kx = refl
        apart is false false kr kx = refl

        by_case : row_at o k (put o r xs) ≡ cond (has_key o k r) (Some r) (row_at o k xs) → (c : Ordering)
            → o.compare (o.key r) (o.key x) ≡ c
            → row_at o k (elim c [ Less ↦ r ∷ x ∷ xs | Equal ↦ r ∷ xs | Greater ↦ x ∷ put o r xs ])
            ≡ cond (has_key o k r) (Some r) (cond (has_key o k x) (Some x) (row_at o k xs))
        by_case others Less is = refl
        by_case others Equal is = equal (has_key o k r) (has_key o k x) (same is)
        by_case others Greater is =
            ap (λ found. cond (has_key o k x) (Some x) found) others
            ∙ apart is (has_key o k r) (has_key o k x) refl refl

    pub row_at-put_same : (r : R) (rows : List R) → row_at o (o.key r) (put o r rows) ≡ Some r
    row_at-put_same r rows =
        row_at-put (o.key r) r rows ∙ ap (λ b. cond b (Some r) (row_at o (o.key r) rows)) (has_key_same o total r)

    pub row_at-put_other : (k : K) (r : R) (rows : List R) → has_key o k r ≡ false
        → row_at o k (put o r rows) ≡ row_at o k rows
    row_at-put_other k r rows other = row_at-put k r rows ∙ ap (λ b. cond b (Some r) (row_at o k rows)) other

    -- ---- put

    -- of two puts of one key the second counts, in any rows
    pub put-put_same : (a b : R) (rows : List R) → o.compare (o.key a) (o.key b) ≡ Equal
        → put o a (put o b rows) ≡ put o a rows
    put-put_same a b [] same = put_equal a b [] same
    put-put_same a b (x ∷ xs) same = by_case (put-put_same a b xs same) (o.compare (o.key b) (o.key x)) refl
      where
        by_case : put o a (put o b xs) ≡ put o a xs → (c : Ordering) → o.compare (o.key b) (o.key x) ≡ c
            → put o a (elim c [ Less ↦ b ∷ x ∷ xs | Equal ↦ b ∷ xs | Greater ↦ x ∷ put o b xs ]) ≡ put o a (x ∷ xs)
        by_case others Less is =
            put_equal a b (x ∷ xs) same ∙ sym (put_less a x xs (total.congr (o.key a) (o.key b) (o.key x) same ∙ is))
        by_case others Equal is =
            put_equal a b xs same ∙ sym (put_equal a x xs (total.congr (o.key a) (o.key b) (o.key x) same ∙ is))
        by_case others Greater is =
            let past : o.compare (o.key a) (o.key x) ≡ Greater =
            total.congr (o.key a) (o.key b) (o.key x) same ∙ is in
            put_greater a x (put o b xs) past ∙ ap (λ ys. x ∷ ys) others ∙ sym (put_greater a x xs past)

    pub put-put : (r : R) (rows : List R) → put o r (put o r rows) ≡ put o r rows
    put-put r rows = put-put_same r r rows (tied_itself total (o.key r))

    -- puts of two keys, in either turn
    pub put_comm : (a b : R) (rows : List R) → IsTrue (rises o rows) → (o.compare (o.key a) (o.key b) ≡ Equal → ⊥)
        → put o a (put o b rows) ≡ put o b (put o a rows)
    put_comm a b rows up apart =
        same_from_row_at o total (put o a (put o b rows)) (put o b (put o a rows))
        (rises-put a (put o b rows) (rises-put b rows up)) (rises-put b (put o a rows) (rises-put a rows up))
        (λ k. row_at-put k a (put o b rows) ∙ ap (λ found. cond (has_key o k a) (Some a) found) (row_at-put k b rows)
        ∙ either k (has_key o k a) (has_key o k b) refl refl
        ∙ sym (row_at-put k b (put o a rows)
        ∙ ap (λ found. cond (has_key o k b) (Some b) found) (row_at-put k a rows)))
      where
        either : (k : K) (c d : Bool) → has_key o k a ≡ c → has_key o k b ≡ d
            → cond c (Some a) (cond d (Some b) (row_at o k rows)) ≡ cond d (Some b) (cond c (Some a) (row_at o k rows))
        either k true true ka kb =
            absurd (apart (sym (total.congr k (o.key a) (o.key b) (equal_from_is_eq (o.compare k (o.key a)) ka))
            ∙ equal_from_is_eq (o.compare k (o.key b)) kb))
        either k true false ka kb = refl
        either k false true ka kb = refl
        either k false false ka kb = refl

    -- a put of the row that stands there
    pub put_same : (r : R) (rows : List R) → IsTrue (rises o rows) → row_at o (o.key r) rows ≡ Some r
        → put o r rows ≡ rows
    put_same r rows up there =
        same_from_row_at o total (put o r rows) rows (rises-put r rows up) up
        (λ k. row_at-put k r rows ∙ own k (has_key o k r) refl)
      where
        own : (k : K) (b : Bool) → has_key o k r ≡ b → cond b (Some r) (row_at o k rows) ≡ row_at o k rows
        own k true is =
            sym (row_at_tied o total k (o.key r) rows (equal_from_is_eq (o.compare k (o.key r)) is) ∙ there)
        own k false is = refl

    -- ---- map

    -- what is told of each row stays where the new row tells what the one that it replaces did
    pub map-put_there : {X : Type 0} (f : R → X) (new old : R) (rows : List R) → IsTrue (rises o rows)
        → row_at o (o.key new) rows ≡ Some old → f new ≡ f old → map f (put o new rows) ≡ map f rows
    map-put_there f new old [] up found same = absurd (cc found)
    map-put_there {X = X} f new old (x ∷ xs) up found same =
        by_case (λ there. map-put_there f new old xs (rises_tail o x xs up) there same)
        (o.compare (o.key new) (o.key x)) refl found
      where
        by_case : (row_at o (o.key new) xs ≡ Some old → map f (put o new xs) ≡ map f xs) → (c : Ordering)
            → o.compare (o.key new) (o.key x) ≡ c → cond (is_eq c) (Some x) (row_at o (o.key new) xs) ≡ Some old
            → map f (elim c [ Less ↦ new ∷ x ∷ xs | Equal ↦ new ∷ xs | Greater ↦ x ∷ put o new xs ]) ≡ map f (x ∷ xs)
        by_case rest Less is there =
            let none : row_at o (o.key new) xs ≡ None =
            row_at_none o (o.key new) xs
            (and_parts (is_past o (o.key new) x) (list_all (is_past o (o.key new)) xs)
            (rises_below o total (o.key new) x xs up is)).1 in
            let clash : None ≡ Some old = sym none ∙ there in
            absurd (cc clash)
        by_case rest Equal is there =
            let itself : x ≡ old = cc there in
            ap (λ y. y ∷ map f xs) (same ∙ sym (ap f itself))
        by_case rest Greater is there = ap (λ ys. f x ∷ ys) (rest there)

    pub length-put_there : (new old : R) (rows : List R) → IsTrue (rises o rows)
        → row_at o (o.key new) rows ≡ Some old → length (put o new rows) ≡ length rows
    length-put_there new old rows up found =
        let blank : R → Bool = λ y. true in
        sym (length-map (put o new rows) blank) ∙ ap length (map-put_there blank new old rows up found refl)
        ∙ length-map rows blank

    -- ---- list_all, once more

    -- the row that is replaced need not pass
    pub list_all-put_else : (p : R → Bool) (r : R) (rows : List R) → IsTrue (rises o rows) → IsTrue (p r)
        → IsTrue (list_all (λ x. has_key o (o.key r) x || p x) rows) → IsTrue (list_all p (put o r rows))
    list_all-put_else p r [] up passes all = and_from (p r) true passes refl
    list_all-put_else p r (x ∷ xs) up passes all =
        by_case (list_all-put_else p r xs (rises_tail o x xs up) passes
        (and_parts (has_key o (o.key r) x || p x) (list_all either xs) all).1)
        (o.compare (o.key r) (o.key x)) refl all
      where
        either : R → Bool
        either y = has_key o (o.key r) y || p y

        past : (y : R) → IsTrue (is_past o (o.key r) y) → IsTrue (either y) → IsTrue (p y)
        past y later is =
            let below : o.compare (o.key r) (o.key y) ≡ Less =
            less_from_is_lt (o.compare (o.key r) (o.key y)) later in
            ap (λ c. is_eq c || p y) (sym below) ∙ is

        by_case : IsTrue (list_all p (put o r xs)) → (c : Ordering) → o.compare (o.key r) (o.key x) ≡ c
            → IsTrue ((is_eq c || p x) && list_all either xs)
            → IsTrue (list_all p (elim c [ Less ↦ r ∷ x ∷ xs | Equal ↦ r ∷ xs | Greater ↦ x ∷ put o r xs ]))
        by_case rest Less is every =
            and_from (p r) (list_all p (x ∷ xs)) passes
            (list_all_weaker_both (is_past o (o.key r)) either p past (x ∷ xs)
            (rises_below o total (o.key r) x xs up is) all)
        by_case rest Equal is every =
            and_from (p r) (list_all p xs) passes
            (list_all_weaker_both (is_past o (o.key r)) either p past xs
            (rises_behind o total (o.key r) x xs up is) every)
        by_case rest Greater is every =
            and_from (p x) (list_all p (put o r xs)) (and_parts (p x) (list_all either xs) every).0 rest

-- an insertion goes through what is made of the values
pub map-insert_entry : {K X Y : Type 0} (cmp : K → K → Ordering) (f : X → Y) (es : List (K × X)) (k : K) (v : X)
    → map (λ e. (e.0, f e.1)) (insert_entry cmp es k v) ≡ insert_entry cmp (map (λ e. (e.0, f e.1)) es) k (f v)
map-insert_entry cmp f [] k v = refl
map-insert_entry {K} {X} {Y} cmp f (e ∷ es) k v = by_case (map-insert_entry cmp f es k v) (cmp k e.0)
  where
    made : K × X → K × Y
    made x = (x.0, f x.1)

    by_case : map made (insert_entry cmp es k v) ≡ insert_entry cmp (map made es) k (f v) → (c : Ordering)
        → map made (match_ordering c ((k, v) ∷ e ∷ es) ((e.0, v) ∷ es) (e ∷ insert_entry cmp es k v))
        ≡ match_ordering c ((k, f v) ∷ made e ∷ map made es) ((e.0, f v) ∷ map made es)
        (made e ∷ insert_entry cmp (map made es) k (f v))
    by_case others Less = refl
    by_case others Equal = refl
    by_case others Greater = ap (λ xs. made e ∷ xs) others

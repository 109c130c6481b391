-- Rows of one table by pages: each page goes on where the rows so far end.
use Rattle.std.proofs.Common.{◌≡◌, ℕ, suc, ◌-◌, Bool, true, false, ◌&&◌, cond, IsTrue, List, [], ◌∷◌, ◌++◌, length, take, drop, map, Option, None, Some, refl, sym, ap, ◌∙◌, append_assoc, arith}
use Rattle.std.specs.Prelude.{filter, nat_le, slice_get}
use Rattle.std.specs.List.{list_all, filter_map, cons_option}
use Rattle.std.proofs.lemmas.Bool.{and_parts, and_from}
use Rattle.std.proofs.lemmas.List.{take-append-drop, take-map}
use Rattle.s3_rows.specs.declared.table_rows.Row.{Row}
use Rattle.s3_rows.specs.declared.table_rows.RowKey.{RowKey}
use Rattle.s3_rows.specs.declared.table_rows.RowKey.TheVariants as keys
use Rattle.s3_rows.specs.Tables.{Tables}
use Rattle.s3_rows.specs.Selections.{is_row_past, page_of, fits_key}
use Rattle.s3_rows.specs.Told.{Told, IfTold, key_of_row, rows_rise, is_row_of, is_page_of}
use Rattle.row_lemmas.proofs.Tests.{list_all_weaker, list_all_true}
use Rattle.row_lemmas.proofs.Filters.{filter_all}
use Rattle.keeper_dump.specs.Part.{is_key_past, keys_rise}
use Rattle.keeper_dump.specs.Kept.{Kept, IsKept, IsStart, IsReadPage, last_key}
use Rattle.keeper_dump.proofs.PartLaws.{key_past_trans}

-- ---- lists

list_all-append : {R : Type 0} (p : R → Bool) (xs ys : List R) → list_all p xs ≡ true → list_all p ys ≡ true → list_all p (xs ++ ys) ≡ true
list_all-append p [] ys a b = b
list_all-append p (x ∷ xs) ys a b =
    let parts = and_parts (p x) (list_all p xs) a in
    and_from _ _ parts.0 (list_all-append p xs ys parts.1 b)

module _ {R : Type 0} (key : R → RowKey) where
  -- what holds of all keys holds of the last
  last_passes : (p : RowKey → Bool) (x : R) (xs : List R) → list_all (λ y. p (key y)) (x ∷ xs) ≡ true → p (last_key key (x ∷ xs)) ≡ true
  last_passes p x [] all = (and_parts (p (key x)) true all).0
  last_passes p x (z ∷ zs) all = last_passes p z zs (and_parts (p (key x)) (list_all (λ y. p (key y)) (z ∷ zs)) all).1

  pub keys_rise-append : (xs ys : List R) → keys_rise key xs ≡ true → keys_rise key ys ≡ true
      → list_all (λ y. is_key_past (last_key key xs) (key y)) ys ≡ true → keys_rise key (xs ++ ys) ≡ true
  keys_rise-append [] ys up more past = more
  keys_rise-append (x ∷ []) ys up more past = and_from _ _ past more
  keys_rise-append (x ∷ z ∷ zs) ys up more past =
      let parts = and_parts (list_all (λ y. is_key_past (key x) (key y)) (z ∷ zs)) (keys_rise key (z ∷ zs)) up in
      let below : is_key_past (key x) (last_key key (z ∷ zs)) ≡ true = last_passes (is_key_past (key x)) z zs parts.0 in
      and_from _ _ (list_all-append (λ y. is_key_past (key x) (key y)) (z ∷ zs) ys parts.0
      (list_all_weaker (λ y. is_key_past (last_key key (z ∷ zs)) (key y)) (λ y. is_key_past (key x) (key y)) (λ y q. key_past_trans (key x) (last_key key (z ∷ zs)) (key y) below q) ys past))
      (keys_rise-append (z ∷ zs) ys parts.1 more past)

  -- the key of the last row by its index
  last_here : (x y : R) (xs : List R) → slice_get (x ∷ xs) (length xs) ≡ Some y → last_key key (x ∷ xs) ≡ key y
  last_here x y [] e = let same : x ≡ y = cc in ap key same
  last_here x y (z ∷ zs) e = last_here z y zs e

  pub last_some : (xs : List R) (y : R) → Some y ≡ slice_get xs (length xs - 1) → last_key key xs ≡ key y
  last_some [] y e = absurd (cc e)
  last_some (x ∷ xs) y e =
      let n : length (x ∷ xs) - 1 ≡ length xs = omega arith in
      last_here x y xs (sym (e ∙ ap (λ (i : ℕ). slice_get (x ∷ xs) i) n))

  last_there : (x : R) (xs : List R) → slice_get (x ∷ xs) (length xs) ≡ None → ⊥
  last_there x [] e = cc
  last_there x (z ∷ zs) e = last_there z zs e

  pub last_none : (xs : List R) → None ≡ slice_get xs (length xs - 1) → last_key key xs ≡ keys.Start
  last_none [] e = refl
  last_none (x ∷ xs) e =
      let n : length (x ∷ xs) - 1 ≡ length xs = omega arith in
      absurd (last_there x xs (sym (e ∙ ap (λ (i : ℕ). slice_get (x ∷ xs) i) n)))

module _ {R : Type 0} (key : R → RowKey) (k : Kept R) (is : IsKept key k) where
  -- rows past a key, as rows of the table
  past_unwrapped : (before : RowKey) (page : List Row) → list_all (is_row_past before) page ≡ true
      → list_all (λ x. is_key_past before (key x)) (filter_map k.unwrap page) ≡ true
  past_unwrapped before [] all = refl
  past_unwrapped before (row ∷ page) all = by_case (past_unwrapped before page parts.1) (k.unwrap row) refl
    where
      parts : (is_row_past before row ≡ true) × (list_all (is_row_past before) page ≡ true)
      parts = and_parts (is_row_past before row) (list_all (is_row_past before) page) all

      by_case : list_all (λ x. is_key_past before (key x)) (filter_map k.unwrap page) ≡ true → (o : Option R) → k.unwrap row ≡ o
          → list_all (λ x. is_key_past before (key x)) (cons_option o (filter_map k.unwrap page)) ≡ true
      by_case others None e = others
      by_case others (Some x) e =
          and_from _ _ (sym (is.past before x) ∙ ap (is_row_past before) (sym (is.back row x e)) ∙ parts.0) others

  rise_unwrapped : (page : List Row) → rows_rise page ≡ true → keys_rise key (filter_map k.unwrap page) ≡ true
  rise_unwrapped [] up = refl
  rise_unwrapped (row ∷ page) up = by_case (rise_unwrapped page parts.1) (k.unwrap row) refl
    where
      parts : (list_all (is_row_past (key_of_row row)) page ≡ true) × (rows_rise page ≡ true)
      parts = and_parts (list_all (is_row_past (key_of_row row)) page) (rows_rise page) up

      by_case : keys_rise key (filter_map k.unwrap page) ≡ true → (o : Option R) → k.unwrap row ≡ o
          → keys_rise key (cons_option o (filter_map k.unwrap page)) ≡ true
      by_case others None e = others
      by_case others (Some x) e =
          let same : key_of_row row ≡ key x = ap key_of_row (is.back row x e) ∙ is.same_key x in
          and_from _ _ (past_unwrapped (key x) page (ap (λ (b : RowKey). list_all (is_row_past b) page) (sym same) ∙ parts.0)) others

  -- what a keeper says of a page that it gives, whatever it holds
  pub page_rises : (done : List R) (max : ℕ) (page : List Row) → IsTrue (is_page_of k.table (last_key key done) max page)
      → keys_rise key done ≡ true → keys_rise key (done ++ filter_map k.unwrap page) ≡ true
  page_rises done max page is_page up =
      let few = nat_le (length page) max in
      let own = list_all (is_row_of k.table) page in
      let past = list_all (is_row_past (last_key key done)) page in
      let parts = and_parts (few && own && past) (rows_rise page) is_page in
      keys_rise-append key done (filter_map k.unwrap page) up (rise_unwrapped page parts.1)
      (past_unwrapped (last_key key done) page (and_parts (few && own) past parts.0).1)

  -- a key past that of a row is not before it
  not_back : (x : R) (l : RowKey) → is_key_past (key x) l ≡ true → is_key_past l (key x) ≡ false
  not_back x l past = by_case (is_key_past l (key x)) refl
    where
      by_case : (b : Bool) → is_key_past l (key x) ≡ b → b ≡ false
      by_case true back =
          let clash : true ≡ false = sym (key_past_trans (key x) l (key x) past back) ∙ is.apart x in
          absurd (cc clash)
      by_case false back = refl

  -- the rows past the last of the first rows are the others
  others : (done rest : List R) → keys_rise key (done ++ rest) ≡ true
      → filter (λ x. is_key_past (last_key key done) (key x)) (done ++ rest) ≡ rest
  others [] rest up = filter_all (λ x. is_key_past keys.Start (key x)) rest (list_all_true rest)
  others (x ∷ []) rest up =
      let parts = and_parts (list_all (λ y. is_key_past (key x) (key y)) rest) (keys_rise key rest) up in
      ap (λ (b : Bool). cond b (x ∷ filter (λ y. is_key_past (key x) (key y)) rest) (filter (λ y. is_key_past (key x) (key y)) rest)) (is.apart x)
      ∙ filter_all (λ y. is_key_past (key x) (key y)) rest parts.0
  others (x ∷ z ∷ zs) rest up =
      let parts = and_parts (list_all (λ y. is_key_past (key x) (key y)) ((z ∷ zs) ++ rest)) (keys_rise key ((z ∷ zs) ++ rest)) up in
      let l = last_key key (z ∷ zs) in
      let below : is_key_past (key x) l ≡ true = last_passes key (is_key_past (key x)) z zs (front_all (λ y. is_key_past (key x) (key y)) (z ∷ zs) rest parts.0) in
      ap (λ (b : Bool). cond b (x ∷ filter (λ y. is_key_past l (key y)) ((z ∷ zs) ++ rest)) (filter (λ y. is_key_past l (key y)) ((z ∷ zs) ++ rest))) (not_back x l below)
      ∙ others (z ∷ zs) rest parts.1
    where
      front_all : (p : R → Bool) (xs ys : List R) → list_all p (xs ++ ys) ≡ true → list_all p xs ≡ true
      front_all p [] ys all = refl
      front_all p (y ∷ xs) ys all =
          let both = and_parts (p y) (list_all p (xs ++ ys)) all in
          and_from _ _ both.0 (front_all p xs ys both.1)

  -- a filter of wrapped rows, and wrapped rows as rows of the table
  filter_wrapped : (before : RowKey) (xs : List R) → filter (is_row_past before) (map k.wrap xs) ≡ map k.wrap (filter (λ x. is_key_past before (key x)) xs)
  filter_wrapped before [] = refl
  filter_wrapped before (x ∷ xs) =
      ap (λ (b : Bool). cond b (k.wrap x ∷ filter (is_row_past before) (map k.wrap xs)) (filter (is_row_past before) (map k.wrap xs))) (is.past before x)
      ∙ by_case (is_key_past before (key x)) (filter_wrapped before xs)
    where
      by_case : (b : Bool) → filter (is_row_past before) (map k.wrap xs) ≡ map k.wrap (filter (λ x. is_key_past before (key x)) xs)
          → cond b (k.wrap x ∷ filter (is_row_past before) (map k.wrap xs)) (filter (is_row_past before) (map k.wrap xs))
          ≡ map k.wrap (cond b (x ∷ filter (λ x. is_key_past before (key x)) xs) (filter (λ x. is_key_past before (key x)) xs))
      by_case true e = ap (λ (ys : List Row). k.wrap x ∷ ys) e
      by_case false e = e

  unwrapped : (xs : List R) → filter_map k.unwrap (map k.wrap xs) ≡ xs
  unwrapped [] = refl
  unwrapped (x ∷ xs) = ap (λ (o : Option R). cons_option o (filter_map k.unwrap (map k.wrap xs))) (is.there x) ∙ ap (λ (ys : List R). x ∷ ys) (unwrapped xs)

  -- the page behind the first rows
  page_behind : (t : Tables) (done rest : List R) (max : ℕ) → k.listed t ≡ done ++ rest → keys_rise key (k.listed t) ≡ true
      → page_of t k.table (last_key key done) max ≡ map k.wrap (take max rest)
  page_behind t done rest max parts up =
      let all : filter (λ x. is_key_past (last_key key done) (key x)) (k.listed t) ≡ rest =
      ap (filter (λ x. is_key_past (last_key key done) (key x))) parts ∙ others done rest (ap (keys_rise key) (sym parts) ∙ up) in
      ap (λ (rs : List Row). take max (filter (is_row_past (last_key key done)) rs)) (is.all t)
      ∙ ap (take max) (filter_wrapped (last_key key done) (k.listed t) ∙ ap (map k.wrap) all) ∙ take-map k.wrap max rest

  none_taken : (max : ℕ) (rest : List R) → take (suc max) rest ≡ [] → rest ≡ []
  none_taken max [] e = refl
  none_taken max (x ∷ rest) e = absurd (cc e)

  no_rows : (xs : List R) → length (map k.wrap xs) ≡ 0 → xs ≡ []
  no_rows [] e = refl
  no_rows (x ∷ xs) e = absurd (omega (arith, e))

  -- what a page that is told makes of the first rows
  pub page_read : (t : Tables) (done : List R) (max : ℕ) (page : List Row) (last : Bool) → page ≡ page_of t k.table (last_key key done) (suc max)
      → (IsTrue last → length page ≡ 0) → keys_rise key (k.listed t) ≡ true → IsStart done (k.listed t)
      → IsReadPage last (done ++ filter_map k.unwrap page) (k.listed t)
  page_read t done max page last given empty up start =
      let rest = start.rest in
      let same : page ≡ map k.wrap (take (suc max) rest) = given ∙ page_behind t done rest (suc max) start.parts up in
      let taken : filter_map k.unwrap page ≡ take (suc max) rest = ap (filter_map k.unwrap) same ∙ unwrapped (take (suc max) rest) in
      record {
        start = record {
          rest = drop (suc max) rest;
          parts = start.parts ∙ ap (λ (ys : List R). done ++ ys) (sym (take-append-drop (suc max) rest))
              ∙ sym (append_assoc done (take (suc max) rest) (drop (suc max) rest))
              ∙ ap (λ (ys : List R). (done ++ ys) ++ drop (suc max) rest) (sym taken);
        };
        whole = λ end.
            let none : take (suc max) rest ≡ [] = no_rows (take (suc max) rest) (sym (ap (λ (rs : List Row). length rs) same) ∙ empty end) in
            let left : rest ≡ [] = none_taken max rest none in
            ap (λ (ys : List R). done ++ ys) (taken ∙ none) ∙ ap (λ (ys : List R). done ++ ys) (sym left) ∙ sym start.parts;
      }

  -- a page may begin behind any of the rows
  pub last_fits : (done : List R) → IsTrue (fits_key k.table (last_key key done))
  last_fits [] = refl
  last_fits (x ∷ []) = is.fits x
  last_fits (x ∷ z ∷ zs) = last_fits (z ∷ zs)

-- ---- what a keeper tells

pub told_always : (o : Option Told) (P : Tables → Type 0) → ((t : Tables) → P t) → IfTold o P
told_always None P each = tt
told_always (Some s) P each = each s.tables

pub told_weaker : (o : Option Told) (P Q : Tables → Type 0) → ((t : Tables) → P t → Q t) → IfTold o P → IfTold o Q
told_weaker None P Q each h = tt
told_weaker (Some s) P Q each h = each s.tables h

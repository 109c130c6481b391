-- Pages of tables.
use Rattle.std.proofs.Common.{◌≡◌, ℕ, List, [], ◌∷◌, Bool, true, false, not, ◌&&◌, cond, refl, sym, ap, ◌∙◌, subst, arith, length, take, drop, min, ◌≤◌, ◌-◌}
use Rattle.std.specs.Prelude.{IsTrue, nat_le, nat_lt, map}
use Rattle.std.specs.List.{filter, list_all}
use Rattle.std.specs.List.Sorted.{IsPartitionedBy, IsPartitionPoint}
use Rattle.std.specs.Ordering.{is_lt, nat_cmp}
use Rattle.std.proofs.Math.Nat.{min_comm}
use Rattle.std.proofs.lemmas.Bool.{and_from}
use Rattle.std.proofs.lemmas.Bool.Decides.{nat_tests}
use Rattle.std.proofs.lemmas.List.{take-map, take_all, take_min, take_rest}
use Rattle.std.proofs.lemmas.List.Folds.{list_all-map}
use Rattle.s3_rows.specs.declared.table_rows.Row.{Row}
use Rattle.s3_rows.specs.declared.table_rows.Row.TheVariants as rows
use Rattle.s3_rows.specs.declared.table_rows.RowKey.{RowKey}
use Rattle.s3_rows.specs.declared.table_rows.RowKey.TheVariants as keys
use Rattle.s3_rows.specs.declared.table_rows.TableName.{TableName}
use Rattle.s3_rows.specs.declared.table_rows.TableName.TheVariants as tables
use Rattle.s3_rows.specs.Keyed.{Order, is_past, rises, pair_cmp}
use Rattle.s3_rows.specs.Tables.{by_inode, by_name, by_entry, by_spot, by_block, by_object, by_target, by_attr, by_slot}
use Rattle.s3_rows.specs.Selections.{is_number_past, is_pair_past, is_row_past}
use Rattle.s3_rows.specs.Told.{key_of_row, rows_rise, is_row_of, is_page_of}
use Rattle.row_lemmas.proofs.Tests.{list_all_weaker, list_all_true, list_all-take, list_all-filter_same}
use Rattle.row_lemmas.proofs.Keyed.Rises.{rises_head, rises_tail, rises-take, rises-filter}
use Rattle.row_lists.proofs.ListingOrder.{short-take, parted, behind}

-- ---- keys of one part and of two

number_lt : (m n : ℕ) → nat_lt m n ≡ is_lt (nat_cmp m n)
number_lt m n = grind (arith, nat_tests)

number_step : (k m n : ℕ) → is_lt (nat_cmp m n) ≡ true → nat_lt k m ≡ true → nat_lt k n ≡ true
number_step k m n is past = grind (arith, nat_tests)

number_on : (after : RowKey) (m n : ℕ) → is_lt (nat_cmp m n) ≡ true → is_number_past after m ≡ true → is_number_past after n ≡ true
number_on keys.Start m n is past = refl
number_on (keys.One k) m n is past = number_step k m n is past
number_on (keys.Two k l) m n is past = past

pair_step : (k l a b p q : ℕ) → is_lt (pair_cmp (a, b) (p, q)) ≡ true → is_lt (pair_cmp (k, l) (a, b)) ≡ true → is_lt (pair_cmp (k, l) (p, q)) ≡ true
pair_step k l a b p q is past = grind (arith, nat_tests)

pair_on : (after : RowKey) (p q : ℕ × ℕ) → is_lt (pair_cmp p q) ≡ true → is_pair_past after p ≡ true → is_pair_past after q ≡ true
pair_on keys.Start p q is past = refl
pair_on (keys.One k) p q is past = past
pair_on (keys.Two k l) p q is past = pair_step k l p.0 p.1 q.0 q.1 is past

-- ---- the rows of a table among those of any table

pub record IsTable {K R : Type 0} (o : Order K R) (table : TableName) (of : R → Row) : Type 0 where
  pub here : (x : R) → is_row_of table (of x) ≡ true
  pub past : (x y : R) → is_row_past (key_of_row (of x)) (of y) ≡ is_past o (o.key x) y
  pub on : (after : RowKey) (x y : R) → is_past o (o.key x) y ≡ true → is_row_past after (of x) ≡ true → is_row_past after (of y) ≡ true

pub table_of_inodes : IsTable by_inode tables.Inodes rows.Inode
table_of_inodes = record { here = λ x. refl; past = λ x y. number_lt x.id y.id; on = λ after x y is past. number_on after x.id y.id is past }

pub table_of_names : IsTable by_name tables.Names rows.Name
table_of_names = record { here = λ x. refl; past = λ x y. number_lt x.id y.id; on = λ after x y is past. number_on after x.id y.id is past }

pub table_of_contents : IsTable by_entry tables.Contents rows.Content
table_of_contents = record { here = λ x. refl; past = λ x y. refl; on = λ after x y is past. pair_on after (x.parent, x.name_id) (y.parent, y.name_id) is past }

pub table_of_inode_blocks : IsTable by_spot tables.InodeBlocks rows.InodeBlock
table_of_inode_blocks = record { here = λ x. refl; past = λ x y. refl; on = λ after x y is past. pair_on after (x.inode, x.blockno) (y.inode, y.blockno) is past }

pub table_of_blocks : IsTable by_block tables.Blocks rows.Block
table_of_blocks = record { here = λ x. refl; past = λ x y. number_lt x.id y.id; on = λ after x y is past. number_on after x.id y.id is past }

pub table_of_objects : IsTable by_object tables.Objects rows.Object
table_of_objects = record { here = λ x. refl; past = λ x y. number_lt x.id y.id; on = λ after x y is past. number_on after x.id y.id is past }

pub table_of_targets : IsTable by_target tables.Targets rows.Target
table_of_targets = record { here = λ x. refl; past = λ x y. number_lt x.inode y.inode; on = λ after x y is past. number_on after x.inode y.inode is past }

pub table_of_attrs : IsTable by_attr tables.Attrs rows.Attr
table_of_attrs = record { here = λ x. refl; past = λ x y. refl; on = λ after x y is past. pair_on after (x.inode, x.name_id) (y.inode, y.name_id) is past }

pub table_of_slots : IsTable by_slot tables.Slots rows.Slot
table_of_slots = record { here = λ x. refl; past = λ x y. number_lt x.slot y.slot; on = λ after x y is past. number_on after x.slot y.slot is past }

-- ---- a page

back : (a b : Bool) → (a ≡ true → b ≡ true) → not b ≡ true → not a ≡ true
back true true on not_b = not_b
back true false on not_b = absurd (cc (on refl))
back false b on not_b = refl

pub parts : {K R : Type 0} (o : Order K R) (table : TableName) (of : R → Row) (is : IsTable o table of) (after : RowKey) (xs : List R) → rises o xs ≡ true → IsPartitionedBy (λ x. not (is_row_past after (of x))) xs
parts o table of is after xs up =
    parted o (λ x. true) (λ x. not (is_row_past after (of x))) xs up (list_all_true xs) (λ x y _ later late. back (is_row_past after (of x)) (is_row_past after (of y)) (is.on after x y later) late)

filter-map-at : {R S : Type 0} (f : R → S) (b : Bool) (x : R) (xs : List R) (ys : List S) → ys ≡ map f xs → cond b (f x ∷ ys) ys ≡ map f (cond b (x ∷ xs) xs)
filter-map-at f true x xs ys same = ap (λ l. f x ∷ l) same
filter-map-at f false x xs ys same = same

pub filter-map : {R S : Type 0} (f : R → S) (p : S → Bool) (xs : List R) → filter p (map f xs) ≡ map f (filter (λ x. p (f x)) xs)
filter-map f p [] = refl
filter-map f p (x ∷ xs) = filter-map-at f (p (f x)) x (filter (λ y. p (f y)) xs) (filter p (map f xs)) (filter-map f p xs)

rows_rise-map : {K R : Type 0} (o : Order K R) (table : TableName) (of : R → Row) (is : IsTable o table of) (xs : List R) → rises o xs ≡ true → rows_rise (map of xs) ≡ true
rows_rise-map o table of is [] up = refl
rows_rise-map o table of is (x ∷ xs) up =
    let later : IsTrue (list_all (λ y. is_row_past (key_of_row (of x)) (of y)) xs) =
    list_all_weaker (is_past o (o.key x)) (λ y. is_row_past (key_of_row (of x)) (of y)) (λ y past. is.past x y ∙ past) xs (rises_head o x xs up) in
    and_from (list_all (is_row_past (key_of_row (of x))) (map of xs)) (rows_rise (map of xs))
    (list_all-map (is_row_past (key_of_row (of x))) of xs ∙ later) (rows_rise-map o table of is xs (rises_tail o x xs up))

pub paged : {K R : Type 0} (o : Order K R) (table : TableName) (of : R → Row) (is : IsTable o table of) (after : RowKey) (max : ℕ) (xs : List R) → rises o xs ≡ true
    → is_page_of table after max (take max (filter (is_row_past after) (map of xs))) ≡ true
paged o table of is after max xs up =
    let all : List Row = filter (is_row_past after) (map of xs) in
    let some : List _ = take max (filter (λ x. is_row_past after (of x)) xs) in
    let same : map of some ≡ take max all = sym (take-map of max (filter (λ x. is_row_past after (of x)) xs)) ∙ ap (take max) (sym (filter-map of (is_row_past after) xs)) in
    let among : list_all (is_row_of table) (take max all) ≡ true =
    subst (λ (l : List Row). list_all (is_row_of table) l ≡ true) same (list_all-map (is_row_of table) of some ∙ list_all_weaker (λ x. true) (λ x. is_row_of table (of x)) (λ x _. is.here x) some (list_all_true some)) in
    let rise : rows_rise (take max all) ≡ true =
    subst (λ (l : List Row). rows_rise l ≡ true) same (rows_rise-map o table of is some (rises-take o max (filter (λ x. is_row_past after (of x)) xs) (rises-filter o (λ x. is_row_past after (of x)) xs up))) in
    and_from (nat_le (length (take max all)) max && list_all (is_row_of table) (take max all) && list_all (is_row_past after) (take max all)) (rows_rise (take max all))
    (and_from (nat_le (length (take max all)) max && list_all (is_row_of table) (take max all)) (list_all (is_row_past after) (take max all))
    (and_from (nat_le (length (take max all)) max) (list_all (is_row_of table) (take max all)) (short-take max all) among)
    (list_all-take (is_row_past after) max all (list_all-filter_same (is_row_past after) (map of xs)))) rise

-- ---- rows that are copied one after the other

twice : (b : Bool) → b ≡ not (not b)
twice true = refl
twice false = refl

front : {R : Type 0} (rest : List R) (max count i : ℕ) → count ≡ min (length rest) max → length (take count rest) ≤ i → take i (take count rest) ≡ take max rest
front rest max count i is le = take_all i (take count rest) le ∙ ap (λ k. take k rest) (is ∙ min_comm (length rest) max) ∙ take_min max rest

-- the rows from the first past the key on
pub copied : {R S : Type 0} (f : R → S) (p : S → Bool) (xs : List R) (start max count i : ℕ) → start ≤ length xs → IsPartitionPoint (λ x. not (p (f x)) ≡ true) (λ x. not (p (f x)) ≡ false) xs start
    → count ≡ min (length (take (length xs - start) (drop start xs))) max → length (take count (take (length xs - start) (drop start xs))) ≤ i
    → map f (take i (take count (take (length xs - start) (drop start xs)))) ≡ take max (filter p (map f xs))
copied f p xs start max count i fits point is le =
    ap (map f) (front (take (length xs - start) (drop start xs)) max count i is le)
    ∙ sym (take-map f max (take (length xs - start) (drop start xs)))
    ∙ ap (λ l. take max (map f l)) (take_rest xs start ∙ sym (behind (λ x. p (f x)) (λ x. not (p (f x))) (λ x. twice (p (f x))) xs start fits point))
    ∙ ap (take max) (sym (filter-map f p xs))

-- How far a count over pages has come, and that it ends.
use Rattle.std.proofs.Common.{◌≡◌, ◌<◌, ◌^◌, ◌*◌, ◌-◌, ℕ, zero, suc, ◌+◌, List, [], ◌∷◌, ◌++◌, length, take, drop, Bool, true, false, cond, refl, sym, ap, ◌∙◌, subst, arith, ltb-true, eqb-true}
use Rattle.std.specs.Prelude.{IsTrue, ◌==◌, nat_lt, filter, sum_by}
use Rattle.std.specs.List.{list_all}
use Rattle.std.proofs.lemmas.List.Sums.{sum_by-cons}
use Rattle.std.specs.declared.cmp.Ordering.TheVariants.{Less, Equal, Greater}
use Rattle.std.specs.Ordering.{nat_cmp, is_lt, ordering_then}
use Rattle.std.proofs.lemmas.Bool.{and_parts}
use Rattle.plain_tree.specs.Attributes.{at_most_u64}
use Rattle.s3_rows.specs.declared.table_rows.Row.{Row}
use Rattle.s3_rows.specs.declared.table_rows.Row.TheVariants as rows
use Rattle.s3_rows.specs.declared.table_rows.RowKey.{RowKey}
use Rattle.s3_rows.specs.declared.table_rows.RowKey.TheVariants as keys
use Rattle.s3_rows.specs.declared.table_rows.TableName.{TableName}
use Rattle.s3_rows.specs.declared.table_rows.TableName.TheVariants as tables
use Rattle.s3_rows.specs.Keyed.{pair_cmp}
use Rattle.s3_rows.specs.Tables.{Tables, IsOrdered}
use Rattle.s3_rows.specs.Selections.{is_row_past, rows_of, page_of, fits_key}
use Rattle.s3_rows.specs.Told.{key_of_row, rows_rise, is_row_of, is_page_of}
use Rattle.row_lemmas.proofs.Tests.{list_all_weaker}
use Rattle.inode_ops.specs.declared.counting.Tally.{Tally}
use Rattle.inode_ops.specs.Tallies.{weight_of_row, with_row, with_rows, IsCounted, is_short, has_short_key}
use Rattle.inode_ops.proofs.Walked.{key_past, past_is, rest_past, table_rises}

-- ---- what is counted, and what is left

-- the rows that are counted and those past the last of them are all rows, as far as a number holds it
pub record IsPartly (all : List Row) (c : Tally) : Type 0 where
  pub rows : at_most_u64 (c.rows + length (filter (is_row_past c.after) all)) ≡ at_most_u64 (length all)
  pub weight : at_most_u64 (c.weight + sum_by weight_of_row (filter (is_row_past c.after) all)) ≡ at_most_u64 (sum_by weight_of_row all)
  pub few : c.rows < 2 ^ 64
  pub fit : c.weight < 2 ^ 64

one_row : (all rest : List Row) (c : Tally) (x : Row) → IsTrue (rows_rise all) → IsPartly all c → filter (is_row_past c.after) all ≡ x ∷ rest
    → IsPartly all (with_row c x) × (filter (is_row_past (key_of_row x)) all ≡ rest)
one_row all rest c x rise partly left =
    let next : filter (is_row_past (key_of_row x)) all ≡ rest = rest_past c.after all rest x rise left in
    let count : at_most_u64 (c.rows + length (x ∷ rest)) ≡ at_most_u64 (length all) = ap (λ (xs : List Row). at_most_u64 (c.rows + length xs)) (sym left) ∙ partly.rows in
    let size : at_most_u64 (c.weight + sum_by weight_of_row (x ∷ rest)) ≡ at_most_u64 (sum_by weight_of_row all) = ap (λ (xs : List Row). at_most_u64 (c.weight + sum_by weight_of_row xs)) (sym left) ∙ partly.weight in
    let one_more : at_most_u64 (at_most_u64 (c.rows + 1) + length rest) ≡ at_most_u64 (c.rows + length (x ∷ rest)) = omega arith in
    let more : at_most_u64 (at_most_u64 (c.weight + weight_of_row x) + sum_by weight_of_row rest) ≡ at_most_u64 (c.weight + sum_by weight_of_row (x ∷ rest)) = omega (arith, sum_by-cons weight_of_row x rest) in (
      record {
        rows = ap (λ (xs : List Row). at_most_u64 (at_most_u64 (c.rows + 1) + length xs)) next ∙ one_more ∙ count;
        weight = ap (λ (xs : List Row). at_most_u64 (at_most_u64 (c.weight + weight_of_row x) + sum_by weight_of_row xs)) next ∙ more ∙ size;
        few = omega arith;
        fit = omega arith;
      },
      next,
    )

many_rows : (all page rest : List Row) (c : Tally) → IsTrue (rows_rise all) → IsPartly all c → filter (is_row_past c.after) all ≡ page ++ rest → IsPartly all (with_rows c page)
many_rows all [] rest c rise partly left = partly
many_rows all (x ∷ xs) rest c rise partly left =
    let next = one_row all (xs ++ rest) c x rise partly left in
    many_rows all xs rest (with_row c x) rise next.0 next.1

take_drop : {X : Type 0} (n : ℕ) (xs : List X) → xs ≡ take n xs ++ drop n xs
take_drop zero xs = refl
take_drop (suc n) [] = refl
take_drop (suc n) (x ∷ xs) = ap (λ ys. x ∷ ys) (take_drop n xs)

-- one page more
pub page_counted : (t : Tables) (table : TableName) (c next : Tally) (page : List Row) (max : ℕ) → IsOrdered t → IsPartly (rows_of t table) c → page ≡ page_of t table c.after max → next ≡ with_rows c page → IsPartly (rows_of t table) next
page_counted t table c next page max o partly is added =
    let left : List Row = filter (is_row_past c.after) (rows_of t table) in
    let split : left ≡ page ++ drop max left = take_drop max left ∙ ap (λ (xs : List Row). xs ++ drop max left) (sym is) in
    subst (IsPartly (rows_of t table)) (sym added) (many_rows (rows_of t table) page (drop max left) c (table_rises t table o) partly split)

none_taken : {X : Type 0} (n : ℕ) (xs : List X) → 0 < n → length (take n xs) ≡ 0 → xs ≡ []
none_taken zero xs some none = absurd (omega (arith, some))
none_taken (suc n) [] some none = refl
none_taken (suc n) (x ∷ xs) some none = absurd (omega (arith, none))

-- no page more
pub all_counted : (t : Tables) (table : TableName) (c : Tally) (page : List Row) (max : ℕ) → 0 < max → IsPartly (rows_of t table) c → page ≡ page_of t table c.after max → length page ≡ 0 → IsCounted (rows_of t table) c
all_counted t table c page max some partly is none =
    let left : List Row = filter (is_row_past c.after) (rows_of t table) in
    let no_more : left ≡ [] = none_taken max left some (ap length (sym is) ∙ none) in
    let count : at_most_u64 (c.rows + 0) ≡ at_most_u64 (length (rows_of t table)) = ap (λ (xs : List Row). at_most_u64 (c.rows + length xs)) (sym no_more) ∙ partly.rows in
    let size : at_most_u64 (c.weight + 0) ≡ at_most_u64 (sum_by weight_of_row (rows_of t table)) = ap (λ (xs : List Row). at_most_u64 (c.weight + sum_by weight_of_row xs)) (sym no_more) ∙ partly.weight in
    (omega (arith, count, partly.few), omega (arith, size, partly.fit))

all_past_start : (xs : List Row) → filter (is_row_past keys.Start) xs ≡ xs
all_past_start [] = refl
all_past_start (rows.Inode r ∷ xs) = ap (λ ys. rows.Inode r ∷ ys) (all_past_start xs)
all_past_start (rows.Name r ∷ xs) = ap (λ ys. rows.Name r ∷ ys) (all_past_start xs)
all_past_start (rows.Content r ∷ xs) = ap (λ ys. rows.Content r ∷ ys) (all_past_start xs)
all_past_start (rows.InodeBlock r ∷ xs) = ap (λ ys. rows.InodeBlock r ∷ ys) (all_past_start xs)
all_past_start (rows.Block r ∷ xs) = ap (λ ys. rows.Block r ∷ ys) (all_past_start xs)
all_past_start (rows.Object r ∷ xs) = ap (λ ys. rows.Object r ∷ ys) (all_past_start xs)
all_past_start (rows.Target r ∷ xs) = ap (λ ys. rows.Target r ∷ ys) (all_past_start xs)
all_past_start (rows.Attr r ∷ xs) = ap (λ ys. rows.Attr r ∷ ys) (all_past_start xs)
all_past_start (rows.Slot r ∷ xs) = ap (λ ys. rows.Slot r ∷ ys) (all_past_start xs)

-- nothing is counted at first
abbrev pub no_rows : Tally
no_rows = record { rows = 0; weight = 0; after = keys.Start }

pub none_yet : (all : List Row) → IsPartly all no_rows
none_yet all =
    let left : filter (is_row_past keys.Start) all ≡ all = all_past_start all in
    record {
      rows = ap (λ (xs : List Row). at_most_u64 (0 + length xs)) left ∙ omega arith;
      weight = ap (λ (xs : List Row). at_most_u64 (0 + sum_by weight_of_row xs)) left ∙ omega arith;
      few = omega arith;
      fit = omega arith;
    }

-- ---- the end

-- how many keys there may be past one
abbrev pub left_after : RowKey → ℕ
left_after keys.Start = 2 ^ 125
left_after (keys.One k) = 2 ^ 62 - k
left_after (keys.Two k l) = 2 ^ 124 - (k * 2 ^ 62 + l)

is_below : (c d : Bool) → IsTrue (is_lt (cond c Less (cond d Equal Greater))) → IsTrue c
is_below true d is = refl
is_below false true is = absurd (cc is)
is_below false false is = absurd (cc is)

pair_below : (a b c d : ℕ) → IsTrue (is_lt (pair_cmp (a, b) (c, d))) → b < 2 ^ 62 → a * 2 ^ 62 + b < c * 2 ^ 62 + d
pair_below a b c d past small = by_case (nat_lt a c) refl (a == c) refl past
  where
    by_case : (x : Bool) → nat_lt a c ≡ x → (y : Bool) → (a == c) ≡ y → IsTrue (is_lt (ordering_then (cond x Less (cond y Equal Greater)) (nat_cmp b d))) → a * 2 ^ 62 + b < c * 2 ^ 62 + d
    by_case true less y same is = omega (arith, ltb-true a c less, small)
    by_case false less true same is = omega (arith, eqb-true a c same, ltb-true b d (is_below (nat_lt b d) (b == d) is))
    by_case false less false same is = absurd (cc is)

closer : (k l : RowKey) → IsTrue (key_past k l) → IsTrue (is_short k) → IsTrue (is_short l) → left_after l < left_after k
closer k keys.Start past start short = absurd (cc past)
closer keys.Start (keys.One n) past start short = omega arith
closer keys.Start (keys.Two m n) past start short = omega arith
closer (keys.One k) (keys.One n) past start short = omega (arith, ltb-true k n past, ltb-true n (2 ^ 62) short)
closer (keys.Two k l) (keys.One n) past start short = absurd (cc past)
closer (keys.One k) (keys.Two m n) past start short = absurd (cc past)
closer (keys.Two k l) (keys.Two m n) past start short =
    let small : l < 2 ^ 62 = ltb-true l (2 ^ 62) (and_parts (nat_lt k (2 ^ 62)) (nat_lt l (2 ^ 62)) start).1 in
    let first_part : m < 2 ^ 62 = ltb-true m (2 ^ 62) (and_parts (nat_lt m (2 ^ 62)) (nat_lt n (2 ^ 62)) short).0 in
    let second_part : n < 2 ^ 62 = ltb-true n (2 ^ 62) (and_parts (nat_lt m (2 ^ 62)) (nat_lt n (2 ^ 62)) short).1 in
    omega (arith, pair_below k l m n past small, first_part, second_part)

-- what the keys of all rows pass, the key of the last passes
pub last_passes : (p : RowKey → Bool) (c : Tally) (page : List Row) → IsTrue (p c.after) → IsTrue (list_all (λ r. p (key_of_row r)) page) → IsTrue (p (with_rows c page).after)
last_passes p c [] start all = start
last_passes p c (r ∷ rs) start all =
    last_passes p (with_row c r) rs (and_parts (p (key_of_row r)) (list_all (λ x. p (key_of_row x)) rs) all).0 (and_parts (p (key_of_row r)) (list_all (λ x. p (key_of_row x)) rs) all).1

one_nearer : (c : Tally) (r : Row) → IsTrue (is_short c.after) → IsTrue (has_short_key r) → IsTrue (is_row_past c.after r) → left_after (key_of_row r) < left_after c.after
one_nearer c r start short past = closer c.after (key_of_row r) (sym (past_is c.after r) ∙ past) start short

-- a page brings the count nearer to the end
pub nearer : (c : Tally) (r : Row) (rs : List Row) → IsTrue (is_short c.after) → IsTrue (list_all has_short_key (r ∷ rs)) → IsTrue (list_all (is_row_past c.after) (r ∷ rs)) → IsTrue (rows_rise (r ∷ rs))
    → left_after (with_rows c (r ∷ rs)).after < left_after c.after
nearer c r [] start short past rise = one_nearer c r start (and_parts (has_short_key r) true short).0 (and_parts (is_row_past c.after r) true past).0
nearer c r (s ∷ ss) start short past rise =
    let own : IsTrue (has_short_key r) = (and_parts (has_short_key r) (list_all has_short_key (s ∷ ss)) short).0 in
    let next : left_after (key_of_row r) < left_after c.after = one_nearer c r start own (and_parts (is_row_past c.after r) (list_all (is_row_past c.after) (s ∷ ss)) past).0 in
    let rest : left_after (with_rows (with_row c r) (s ∷ ss)).after < left_after (key_of_row r) =
    nearer (with_row c r) s ss own (and_parts (has_short_key r) (list_all has_short_key (s ∷ ss)) short).1 (and_parts (list_all (is_row_past (key_of_row r)) (s ∷ ss)) (rows_rise (s ∷ ss)) rise).0
    (and_parts (list_all (is_row_past (key_of_row r)) (s ∷ ss)) (rows_rise (s ∷ ss)) rise).1 in
    omega (arith, next, rest)

pub page_nearer : (c next : Tally) (page : List Row) (table : TableName) (max : ℕ) → (length page ≡ 0 → ⊥) → next ≡ with_rows c page → IsTrue (is_short c.after) → IsTrue (list_all has_short_key page)
    → IsTrue (is_page_of table c.after max page) → left_after next.after < left_after c.after
page_nearer c next [] table max some added start short is = absurd (some refl)
page_nearer c next (r ∷ rs) table max some added start short is =
    subst (λ (n : Tally). left_after n.after < left_after c.after) (sym added)
    (nearer c r rs start short (and_parts _ (list_all (is_row_past c.after) (r ∷ rs)) (and_parts _ (rows_rise (r ∷ rs)) is).0).1 (and_parts _ (rows_rise (r ∷ rs)) is).1)

-- ---- keys that fit their table

row_fits : (table : TableName) (r : Row) → IsTrue (is_row_of table r) → IsTrue (fits_key table (key_of_row r))
row_fits tables.Inodes (rows.Inode r) is = refl
row_fits tables.Names (rows.Name r) is = refl
row_fits tables.Contents (rows.Content r) is = refl
row_fits tables.InodeBlocks (rows.InodeBlock r) is = refl
row_fits tables.Blocks (rows.Block r) is = refl
row_fits tables.Objects (rows.Object r) is = refl
row_fits tables.Targets (rows.Target r) is = refl
row_fits tables.Attrs (rows.Attr r) is = refl
row_fits tables.Slots (rows.Slot r) is = refl
row_fits _ _ is = absurd (cc is)

pub page_fits : (c next : Tally) (page : List Row) (table : TableName) (max : ℕ) → next ≡ with_rows c page → IsTrue (fits_key table c.after) → IsTrue (is_page_of table c.after max page) → IsTrue (fits_key table next.after)
page_fits c next page table max added start is =
    let of_table : IsTrue (list_all (is_row_of table) page) = (and_parts _ (list_all (is_row_of table) page) (and_parts _ (list_all (is_row_past c.after) page) (and_parts _ (rows_rise page) is).0).0).1 in
    subst (λ (n : Tally). IsTrue (fits_key table n.after)) (sym added) (last_passes (fits_key table) c page start (list_all_weaker (is_row_of table) (λ r. fits_key table (key_of_row r)) (row_fits table) page of_table))

pub page_short : (c next : Tally) (page : List Row) → next ≡ with_rows c page → IsTrue (is_short c.after) → IsTrue (list_all has_short_key page) → IsTrue (is_short next.after)
page_short c next page added start short = subst (λ (n : Tally). IsTrue (is_short n.after)) (sym added) (last_passes is_short c page start short)

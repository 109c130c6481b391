-- Rows of a table that are counted page by page.
use Rattle.std.proofs.Common.{◌≡◌, ℕ, List, [], ◌∷◌, map, Bool, true, false, cond, refl, sym, ap, ◌∙◌, subst, arith, ltb-true, lt-ltb}
use Rattle.std.specs.Prelude.{IsTrue, ◌==◌, nat_lt, filter}
use Rattle.std.specs.List.{list_all}
use Rattle.std.specs.Cmp.{tied_itself}
use Rattle.std.specs.declared.cmp.Ordering.TheVariants.{Less, Equal, Greater}
use Rattle.std.specs.Ordering.{nat_cmp, is_lt}
use Rattle.std.proofs.lemmas.Bool.{and_from, and_parts}
use Rattle.s3_rows.specs.declared.table_rows.Row.{Row}
use Rattle.s3_rows.specs.declared.table_rows.Row.TheVariants as rows
use Rattle.s3_rows.specs.declared.table_rows.RowKey.{RowKey}
use Rattle.s3_rows.specs.declared.table_rows.RowKey.TheVariants as keys
use Rattle.s3_rows.specs.declared.table_rows.TableName.{TableName}
use Rattle.s3_rows.specs.declared.table_rows.TableName.TheVariants as tables
use Rattle.s3_rows.specs.Keyed.{Order, pair_cmp, is_past, rises}
use Rattle.s3_rows.specs.Tables.{Tables, IsOrdered, by_inode, by_name, by_entry, by_spot, by_block, by_object, by_target, by_attr, by_slot}
use Rattle.s3_rows.specs.Selections.{is_number_past, is_pair_past, is_row_past, rows_of}
use Rattle.s3_rows.specs.Told.{key_of_row, rows_rise}
use Rattle.row_lemmas.proofs.Tests.{list_all_weaker, less_from_is_lt}
use Rattle.row_lemmas.proofs.Tables.{pair_cmp_total}

all_kept : {X : Type 0} (p : X → Bool) (xs : List X) → IsTrue (list_all p xs) → filter p xs ≡ xs
all_kept p [] all = refl
all_kept p (x ∷ xs) all =
    ap (λ b. cond b (x ∷ filter p xs) (filter p xs)) (and_parts (p x) (list_all p xs) all).0 ∙ ap (λ ys. x ∷ ys) (all_kept p xs (and_parts (p x) (list_all p xs) all).1)

-- ---- keys

-- a key after another
abbrev pub key_past : RowKey → RowKey → Bool
key_past k keys.Start = false
key_past k (keys.One n) = is_number_past k n
key_past k (keys.Two a b) = is_pair_past k (a, b)

pub past_is : (k : RowKey) (r : Row) → is_row_past k r ≡ key_past k (key_of_row r)
past_is k (rows.Inode r) = refl
past_is k (rows.Name r) = refl
past_is k (rows.Content r) = refl
past_is k (rows.InodeBlock r) = refl
past_is k (rows.Block r) = refl
past_is k (rows.Object r) = refl
past_is k (rows.Target r) = refl
past_is k (rows.Attr r) = refl
past_is k (rows.Slot r) = refl

number_after : (k l m : ℕ) → IsTrue (nat_lt k l) → IsTrue (nat_lt l m) → IsTrue (nat_lt k m)
number_after k l m p q = lt-ltb k m (omega (arith, ltb-true k l p, ltb-true l m q))

key_after : (a b c : RowKey) → IsTrue (key_past a b) → IsTrue (key_past b c) → IsTrue (key_past a c)
key_after a b keys.Start p q = absurd (cc q)
key_after keys.Start b (keys.One n) p q = refl
key_after keys.Start b (keys.Two m n) p q = refl
key_after (keys.One k) keys.Start (keys.One n) p q = absurd (cc p)
key_after (keys.One k) (keys.One l) (keys.One n) p q = number_after k l n p q
key_after (keys.One k) (keys.Two l m) (keys.One n) p q = absurd (cc p)
key_after (keys.One k) keys.Start (keys.Two m n) p q = absurd (cc p)
key_after (keys.One k) (keys.One l) (keys.Two m n) p q = absurd (cc q)
key_after (keys.One k) (keys.Two l o) (keys.Two m n) p q = absurd (cc p)
key_after (keys.Two k l) keys.Start (keys.One n) p q = absurd (cc p)
key_after (keys.Two k l) (keys.One m) (keys.One n) p q = absurd (cc p)
key_after (keys.Two k l) (keys.Two m o) (keys.One n) p q = absurd (cc q)
key_after (keys.Two k l) keys.Start (keys.Two m n) p q = absurd (cc p)
key_after (keys.Two k l) (keys.One o) (keys.Two m n) p q = absurd (cc p)
key_after (keys.Two k l) (keys.Two o u) (keys.Two m n) p q =
    ap is_lt (pair_cmp_total.trans (k, l) (o, u) (m, n) (less_from_is_lt (pair_cmp (k, l) (o, u)) p) (less_from_is_lt (pair_cmp (o, u) (m, n)) q))

not_below_itself : (n : ℕ) → nat_lt n n ≡ false
not_below_itself n = by_case (nat_lt n n) refl
  where
    by_case : (b : Bool) → nat_lt n n ≡ b → b ≡ false
    by_case true is = absurd (omega (arith, ltb-true n n is))
    by_case false is = refl

not_past_itself : (k : RowKey) → key_past k k ≡ false
not_past_itself keys.Start = refl
not_past_itself (keys.One n) = not_below_itself n
not_past_itself (keys.Two m n) = ap is_lt (tied_itself pair_cmp_total (m, n))

row_after : (k : RowKey) (r s : Row) → IsTrue (is_row_past k r) → IsTrue (is_row_past (key_of_row r) s) → IsTrue (is_row_past k s)
row_after k r s p q = past_is k s ∙ key_after k (key_of_row r) (key_of_row s) (sym (past_is k r) ∙ p) (sym (past_is (key_of_row r) s) ∙ q)

row_not_past_itself : (r : Row) → is_row_past (key_of_row r) r ≡ false
row_not_past_itself r = past_is (key_of_row r) r ∙ not_past_itself (key_of_row r)

-- ---- what is left past a row

head_passes : (p : Row → Bool) (xs rest : List Row) (x : Row) → filter p xs ≡ x ∷ rest → IsTrue (p x)
head_passes p [] rest x is = absurd (cc is)
head_passes p (y ∷ ys) rest x is = by_case (head_passes p ys rest x) (p y) refl is
  where
    by_case : (filter p ys ≡ x ∷ rest → IsTrue (p x)) → (b : Bool) → p y ≡ b → cond b (y ∷ filter p ys) (filter p ys) ≡ x ∷ rest → IsTrue (p x)
    by_case others true own there =
        let same : y ≡ x = cc there in
        subst (λ z. IsTrue (p z)) same own
    by_case others false own there = others there

pub rest_past : (k : RowKey) (xs rest : List Row) (x : Row) → IsTrue (rows_rise xs) → filter (is_row_past k) xs ≡ x ∷ rest → filter (is_row_past (key_of_row x)) xs ≡ rest
rest_past k [] rest x rise is = absurd (cc is)
rest_past k (y ∷ ys) rest x rise is = by_case (rest_past k ys rest x (and_parts (list_all (is_row_past (key_of_row y)) ys) (rows_rise ys) rise).1) (is_row_past k y) refl is
  where
    later : IsTrue (list_all (is_row_past (key_of_row y)) ys)
    later = (and_parts (list_all (is_row_past (key_of_row y)) ys) (rows_rise ys) rise).0

    by_case : (filter (is_row_past k) ys ≡ x ∷ rest → filter (is_row_past (key_of_row x)) ys ≡ rest) → (b : Bool) → is_row_past k y ≡ b → cond b (y ∷ filter (is_row_past k) ys) (filter (is_row_past k) ys) ≡ x ∷ rest
        → filter (is_row_past (key_of_row x)) (y ∷ ys) ≡ rest
    by_case others true own there =
        let same : y ≡ x = cc there in
        let left : filter (is_row_past k) ys ≡ rest = cc there in
        ap (λ (z : Row). filter (is_row_past (key_of_row z)) (y ∷ ys)) (sym same)
        ∙ ap (λ b. cond b (y ∷ filter (is_row_past (key_of_row y)) ys) (filter (is_row_past (key_of_row y)) ys)) (row_not_past_itself y)
        ∙ all_kept (is_row_past (key_of_row y)) ys later
        ∙ sym (all_kept (is_row_past k) ys (list_all_weaker (is_row_past (key_of_row y)) (is_row_past k) (λ s past. row_after k y s own past) ys later))
        ∙ left
    by_case others false own there = before (is_row_past (key_of_row x) y) refl
      where
        before : (b : Bool) → is_row_past (key_of_row x) y ≡ b → cond b (y ∷ filter (is_row_past (key_of_row x)) ys) (filter (is_row_past (key_of_row x)) ys) ≡ rest
        before true past =
            let clash : true ≡ false = sym (row_after k x y (head_passes (is_row_past k) ys rest x there) past) ∙ own in
            absurd (cc clash)
        before false past = others there

-- ---- the order of a table's rows

rise_made : {K R : Type 0} (o : Order K R) (make : R → Row) → ((r s : R) → is_past o (o.key r) s ≡ is_row_past (key_of_row (make r)) (make s)) → (xs : List R) → IsTrue (rises o xs) → IsTrue (rows_rise (map make xs))
rise_made o make same [] rise = refl
rise_made {K} {R} o make same (x ∷ xs) rise =
    and_from (list_all (is_row_past (key_of_row (make x))) (map make xs)) (rows_rise (map make xs)) (all_after xs (and_parts (list_all (is_past o (o.key x)) xs) (rises o xs) rise).0)
    (rise_made o make same xs (and_parts (list_all (is_past o (o.key x)) xs) (rises o xs) rise).1)
  where
    all_after : (ys : List R) → IsTrue (list_all (is_past o (o.key x)) ys) → IsTrue (list_all (is_row_past (key_of_row (make x))) (map make ys))
    all_after [] all = refl
    all_after (y ∷ ys) all =
        and_from (is_row_past (key_of_row (make x)) (make y)) (list_all (is_row_past (key_of_row (make x))) (map make ys)) (sym (same x y) ∙ (and_parts (is_past o (o.key x) y) (list_all (is_past o (o.key x)) ys) all).0)
        (all_after ys (and_parts (is_past o (o.key x) y) (list_all (is_past o (o.key x)) ys) all).1)

lt_test : (a b : ℕ) → is_lt (nat_cmp a b) ≡ nat_lt a b
lt_test a b = by_case (nat_lt a b) (a == b)
  where
    by_case : (c d : Bool) → is_lt (cond c Less (cond d Equal Greater)) ≡ c
    by_case true d = refl
    by_case false true = refl
    by_case false false = refl

pub table_rises : (t : Tables) (table : TableName) → IsOrdered t → IsTrue (rows_rise (rows_of t table))
table_rises t tables.Inodes o = rise_made by_inode rows.Inode (λ r s. lt_test r.id s.id) t.inodes o.inodes
table_rises t tables.Names o = rise_made by_name rows.Name (λ r s. lt_test r.id s.id) t.names o.names
table_rises t tables.Contents o = rise_made by_entry rows.Content (λ r s. refl) t.contents o.contents
table_rises t tables.InodeBlocks o = rise_made by_spot rows.InodeBlock (λ r s. refl) t.inode_blocks o.inode_blocks
table_rises t tables.Blocks o = rise_made by_block rows.Block (λ r s. lt_test r.id s.id) t.blocks o.blocks
table_rises t tables.Objects o = rise_made by_object rows.Object (λ r s. lt_test r.id s.id) t.objects o.objects
table_rises t tables.Targets o = rise_made by_target rows.Target (λ r s. lt_test r.inode s.inode) t.targets o.targets
table_rises t tables.Attrs o = rise_made by_attr rows.Attr (λ r s. refl) t.attrs o.attrs
table_rises t tables.Slots o = rise_made by_slot rows.Slot (λ r s. lt_test r.slot s.slot) t.slots o.slots

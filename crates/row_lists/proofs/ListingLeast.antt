-- The least of rows.
use Rattle.std.proofs.Common.{◌≡◌, ℕ, ◌+◌, ◌-◌, ◌<◌, ◌≤◌, List, ◌∷◌, Bool, true, false, cond, Option, None, Some, refl, sym, ap, ◌∙◌, arith, length, take, drop, get_or}
use Rattle.std.specs.Cmp.{IsTotalOrder}
use Rattle.std.specs.List.{filter}
use Rattle.std.specs.Ordering.{is_gt}
use Rattle.std.proofs.lemmas.Bool.{cond-true}
use Rattle.std.proofs.lemmas.List.{drop_more}
use Rattle.s3_rows.specs.Keyed.{Order, is_past, least, rows_past, sorted_by}
use Rattle.s3_rows.specs.Told.{is_page}
use Rattle.row_lemmas.proofs.Keyed.Sorted.{rises-sorted_by}
use Rattle.row_lists.specs.Listing.{lesser}
use Rattle.row_lists.proofs.ListingOrder.{first-filtered}

-- the least items past a key are a page
pub least-paged : {K R : Type 0} (o : Order K R) (total : IsTotalOrder o.compare) (after : K) (max : ℕ) (xs : List R)
    → is_page o after max (take max (rows_past o after (sorted_by o xs))) ≡ true
least-paged o total after max xs = first-filtered o (is_past o after) max (sorted_by o xs) (rises-sorted_by o total xs)

-- the row before those that are left
one-left : {R : Type 0} (rows : List R) (left : ℕ) (x : R) → 0 < left → left ≤ length rows
    → x ≡ get_or rows (left - 1) x → x ∷ drop left rows ≡ drop (left - 1) rows
one-left rows left x some within read =
    let back : left - 1 + 1 ≡ left = omega arith in
    sym (drop_more rows (left - 1) x (omega arith) ∙ ap (λ y. y ∷ drop (left - 1 + 1) rows) (sym read) ∙ ap (λ n. x ∷ drop n rows) back)

some-cond : {R : Type 0} (b : Bool) (x y : R) → Some (cond b y x) ≡ cond b (Some y) (Some x)
some-cond true x y = refl
some-cond false x y = refl

least-cons : {K R : Type 0} (o : Order K R) (x : R) (xs : List R) (found : Option R) → least o xs ≡ found → Some (lesser o x found) ≡ least o (x ∷ xs)
least-cons o x xs None is = rw (is, least) refl
least-cons o x xs (Some y) is = rw (is, least) (some-cond (is_gt (o.compare (o.key x) (o.key y))) x y)

-- one more row of those that pass a test, before those that are done
pub least-more : {K R : Type 0} (o : Order K R) (p : R → Bool) (rows : List R) (left : ℕ) (x : R) (found : Option R) → 0 < left → left ≤ length rows → x ≡ get_or rows (left - 1) x → p x ≡ true
    → found ≡ least o (filter p (drop left rows)) → Some (lesser o x found) ≡ least o (filter p (drop (left - 1) rows))
least-more o p rows left x found some within read passes is =
    least-cons o x (filter p (drop left rows)) found (sym is)
    ∙ ap (least o) (sym (cond-true (p x) (x ∷ filter p (drop left rows)) (filter p (drop left rows)) passes))
    ∙ ap (λ l. least o (filter p l)) (one-left rows left x some within read)

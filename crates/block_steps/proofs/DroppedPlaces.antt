-- Places that name no block any more, one after the other.
use Rattle.std.proofs.Common.{◌≡◌, ℕ, ◌-◌, List, [], ◌∷◌, Bool, true, false, cond, not, Option, None, Some, IsTrue, refl, sym, ap, ◌∙◌, subst}
use Rattle.std.specs.Prelude.{◌==◌, ◌&&◌, ◌||◌, filter, nat_le}
use Rattle.std.specs.List.{list_all, list_any}
use Rattle.std.specs.Ordering.{is_eq}
use Rattle.std.specs.Cmp.{IsTotalOrder}
use Rattle.std.proofs.lemmas.Bool.{and_from, and_parts, or_left, or_right}
use Rattle.s3_rows.specs.declared.change.Change.TheVariants as changes
use Rattle.s3_rows.specs.Rows.{Block, InodeBlock, Object, Parameters}
use Rattle.s3_rows.specs.Keyed.{Order, has_key, pair_cmp, without}
use Rattle.s3_rows.specs.Tables.{Tables, by_spot}
use Rattle.s3_rows.specs.Batches.{after_change, tables_after}
use Rattle.s3_rows.specs.Selections.{block_at, inode_block_at, object_at}
use Rattle.s3_rows.specs.Validity.{IsValid}
use Rattle.row_lemmas.proofs.Tables.{pair_cmp_total, tables_after-tables_after}
use Rattle.row_lemmas.proofs.Tests.{false_from_not, list_all-filter, list_all-filter_same, list_all_weaker, list_all_weaker_both}
use Rattle.row_lemmas.proofs.Keyed.RowAt.{has_key_same}
use Rattle.tree_rows.specs.Spots.{form_at}
use Rattle.ref_counts.specs.Links.{AreRowsOf, link_replaced, link_set, lowered_block, lowered_object, places_dropped, places_from, relinked}
use Rattle.ref_counts.proofs.Rest.{AreRowsOf-same}
use Rattle.block_steps.specs.Owed.{KeepsNames, OwesPlaces}
use Rattle.block_steps.proofs.DebtsPlaces.{OwesPlaces-dropped}
use Rattle.block_steps.proofs.DebtsTables.{IsValid-OwesPlaces, OwesPlaces-IsValid}
use Rattle.block_steps.proofs.KeptNames.{AreRowsOf-relinked, AreRowsOf-trans, KeepsNames-refl, KeepsNames-relinked, KeepsNames-trans}
use Rattle.block_steps.proofs.RelinkedForms.{form_at-relinked_other, inode_blocks-relinked, is_eq-pair_cmp_other}

-- ---- rows of which each of a list goes by its key

module _ {K R : Type 0} (o : Order K R) where
  -- what stays of them
  abbrev pub without_all : List R → List R → List R
  without_all [] rows = rows
  without_all (x ∷ xs) rows = without_all xs (without o (o.key x) rows)

  -- a row has the key of one of these
  abbrev pub is_one_of : List R → R → Bool
  is_one_of xs r = list_any (λ x. has_key o (o.key x) r) xs

  -- what each row passes that has none of the keys, all pass that stay
  pub list_all-without_all : (p : R → Bool) (xs rows : List R) → IsTrue (list_all (λ r. p r || is_one_of xs r) rows) → IsTrue (list_all p (without_all xs rows))
  list_all-without_all p [] rows all = list_all_weaker (λ r. p r || false) p (λ r. either (p r)) rows all
    where
      either : (b : Bool) → IsTrue (b || false) → IsTrue b
      either true is = refl
      either false is = is
  list_all-without_all p (x ∷ xs) rows all =
      list_all-without_all p xs (without o (o.key x) rows)
      (list_all_weaker_both stays (λ r. p r || is_one_of (x ∷ xs) r) (λ r. p r || is_one_of xs r)
      (λ r. either (p r) (has_key o (o.key x) r) (is_one_of xs r)) (without o (o.key x) rows)
      (list_all-filter_same stays rows) (list_all-filter stays (λ r. p r || is_one_of (x ∷ xs) r) rows all))
    where
      stays : R → Bool
      stays r = not (has_key o (o.key x) r)

      either : (a b c : Bool) → IsTrue (not b) → IsTrue (a || (b || c)) → IsTrue (a || c)
      either true b c other is = refl
      either false true c other is = absurd (cc other)
      either false false c other is = is

  module _ (total : IsTotalOrder o.compare) (q : R → Bool) where
    -- a row that passes has the key of one that passes
    pub is_one_of-filter : (rows : List R) → IsTrue (list_all (λ r. not (q r) || is_one_of (filter q rows) r) rows)
    is_one_of-filter [] = refl
    is_one_of-filter (x ∷ xs) = by_case (is_one_of-filter xs) (q x) refl
      where
        more : (a b c : Bool) → IsTrue (a || c) → IsTrue (a || (b || c))
        more true b c is = refl
        more false true c is = refl
        more false false c is = is

        by_case : IsTrue (list_all (λ r. not (q r) || is_one_of (filter q xs) r) xs) → (b : Bool) → q x ≡ b
            → IsTrue ((not (q x) || is_one_of (cond b (x ∷ filter q xs) (filter q xs)) x) && list_all (λ r. not (q r) || is_one_of (cond b (x ∷ filter q xs) (filter q xs)) r) xs)
        by_case rest true passes =
            and_from (not (q x) || is_one_of (x ∷ filter q xs) x) (list_all (λ r. not (q r) || is_one_of (x ∷ filter q xs) r) xs)
            (or_right (not (q x)) (is_one_of (x ∷ filter q xs) x) (or_left (has_key o (o.key x) x) (is_one_of (filter q xs) x) (has_key_same o total x)))
            (list_all_weaker (λ r. not (q r) || is_one_of (filter q xs) r) (λ r. not (q r) || is_one_of (x ∷ filter q xs) r)
            (λ r. more (not (q r)) (has_key o (o.key x) r) (is_one_of (filter q xs) r)) xs rest)
        by_case rest false fails =
            and_from (not (q x) || is_one_of (filter q xs) x) (list_all (λ r. not (q r) || is_one_of (filter q xs) r) xs)
            (or_left (not (q x)) (is_one_of (filter q xs) x) (ap not fails)) rest

    -- so none that passes stays
    pub list_all-without_all_filter : (rows : List R) → IsTrue (list_all (λ r. not (q r)) (without_all (filter q rows) rows))
    list_all-without_all_filter rows = list_all-without_all (λ r. not (q r)) (filter q rows) rows (is_one_of-filter rows)

-- ---- places that go

pub inode_blocks-places_dropped : (rows : List InodeBlock) (t : Tables) → (tables_after (places_dropped rows t) t).inode_blocks ≡ without_all by_spot rows t.inode_blocks
inode_blocks-places_dropped [] t = refl
inode_blocks-places_dropped (r ∷ rs) t =
    let first = relinked t r.inode r.blockno None in
    let now = tables_after first t in
    ap (λ (u : Tables). u.inode_blocks) (sym (tables_after-tables_after first (places_dropped rs now) t)) ∙ inode_blocks-places_dropped rs now
    ∙ ap (without_all by_spot rs) (inode_blocks-relinked t r.inode r.blockno None)

-- none of a file's places from one on has a row then
pub inode_blocks-places_from : (t : Tables) (inode from : ℕ)
    → IsTrue (list_all (λ (r : InodeBlock). not (r.inode == inode && nat_le from r.blockno)) (tables_after (places_dropped (places_from t inode from) t) t).inode_blocks)
inode_blocks-places_from t inode from =
    subst (λ (rows : List InodeBlock). IsTrue (list_all (λ (r : InodeBlock). not (r.inode == inode && nat_le from r.blockno)) rows))
    (sym (inode_blocks-places_dropped (places_from t inode from) t))
    (list_all-without_all_filter by_spot pair_cmp_total (λ (r : InodeBlock). r.inode == inode && nat_le from r.blockno) t.inode_blocks)

-- ---- names and rows

-- what each place keeps, and can be joined, all places keep
pub kept-places_dropped : (P : Tables → Tables → Type 0) → ((t : Tables) → P t t) → ((t middle after : Tables) → P t middle → P middle after → P t after)
    → ((t : Tables) (inode blockno : ℕ) (block : Option ℕ) → P t (tables_after (relinked t inode blockno block) t))
    → (rows : List InodeBlock) (t : Tables) → P t (tables_after (places_dropped rows t) t)
kept-places_dropped P same joined each [] t = same t
kept-places_dropped P same joined each (r ∷ rs) t =
    let first = relinked t r.inode r.blockno None in
    let now = tables_after first t in
    subst (P t) (tables_after-tables_after first (places_dropped rs now) t)
    (joined t now (tables_after (places_dropped rs now) now) (each t r.inode r.blockno None) (kept-places_dropped P same joined each rs now))

pub KeepsNames-places_dropped : (rows : List InodeBlock) (t : Tables) → KeepsNames t (tables_after (places_dropped rows t) t)
KeepsNames-places_dropped rows t = kept-places_dropped KeepsNames KeepsNames-refl KeepsNames-trans KeepsNames-relinked rows t

pub AreRowsOf-places_dropped : (rows : List InodeBlock) (t : Tables) → AreRowsOf t (tables_after (places_dropped rows t) t)
AreRowsOf-places_dropped rows t = kept-places_dropped AreRowsOf (λ t. AreRowsOf-same t t refl) AreRowsOf-trans AreRowsOf-relinked rows t

abbrev has_params_of : Tables → Tables → Type 0
has_params_of t after = after.params ≡ t.params

params-relinked : (t : Tables) (inode blockno : ℕ) (block : Option ℕ) → has_params_of t (tables_after (relinked t inode blockno block) t)
params-relinked t inode blockno block = by_place (inode_block_at t inode blockno) block
  where
    of_objects : (found : Option Object) (u : Tables) → (tables_after (lowered_object found) u).params ≡ u.params
    of_objects None u = refl
    of_objects (Some o) u = refl

    of_blocks : (now : Tables) (found : Option Block) (u : Tables) → (tables_after (lowered_block now found) u).params ≡ u.params
    of_blocks now None u = refl
    of_blocks now (Some b) u = by_count (b.refcount == 1)
      where
        by_count : (last : Bool) → (tables_after (cond last (changes.DeleteBlock b.id ∷ lowered_object (object_at now b.object)) (changes.PutBlock (record b { refcount = b.refcount - 1 }) ∷ [])) u).params ≡ u.params
        by_count true = of_objects (object_at now b.object) (after_change (changes.DeleteBlock b.id) u)
        by_count false = refl

    by_place : (found : Option InodeBlock) (new : Option ℕ) → has_params_of t (tables_after (link_replaced t inode blockno new found) t)
    by_place None None = refl
    by_place None (Some id) = refl
    by_place (Some old) None = of_blocks t (block_at t old.block) (after_change (link_set inode blockno None) t)
    by_place (Some old) (Some id) = of_blocks t (block_at t old.block) (after_change (link_set inode blockno (Some id)) t)

pub params-places_dropped : (rows : List InodeBlock) (t : Tables) → (tables_after (places_dropped rows t) t).params ≡ t.params
params-places_dropped rows t = kept-places_dropped has_params_of (λ t. refl) (λ t middle after first second. second ∙ first) params-relinked rows t

-- ---- counts and forms

pub OwesPlaces-places_dropped : (p : Parameters) (owed : List ℕ) (rows : List InodeBlock) (t : Tables) → OwesPlaces t p owed
    → OwesPlaces (tables_after (places_dropped rows t) t) p owed
OwesPlaces-places_dropped p owed [] t o = o
OwesPlaces-places_dropped p owed (r ∷ rs) t o =
    let first = relinked t r.inode r.blockno None in
    let now = tables_after first t in
    subst (λ (u : Tables). OwesPlaces u p owed) (tables_after-tables_after first (places_dropped rs now) t)
    (OwesPlaces-places_dropped p owed rs now (OwesPlaces-dropped t p r.inode r.blockno owed o))

pub form_at-places_dropped : (p : Parameters) (owed : List ℕ) (other number : ℕ) (rows : List InodeBlock) (t : Tables) → OwesPlaces t p owed
    → IsTrue (list_all (λ (r : InodeBlock). not (is_eq (pair_cmp (other, number) (r.inode, r.blockno)))) rows)
    → form_at (tables_after (places_dropped rows t) t) other number ≡ form_at t other number
form_at-places_dropped p owed other number [] t o apart = refl
form_at-places_dropped p owed other number (r ∷ rs) t o apart =
    let first = relinked t r.inode r.blockno None in
    let now = tables_after first t in
    let parts = and_parts (not (is_eq (pair_cmp (other, number) (r.inode, r.blockno)))) (list_all (λ (x : InodeBlock). not (is_eq (pair_cmp (other, number) (x.inode, x.blockno)))) rs) apart in
    ap (λ (u : Tables). form_at u other number) (sym (tables_after-tables_after first (places_dropped rs now) t))
    ∙ form_at-places_dropped p owed other number rs now (OwesPlaces-dropped t p r.inode r.blockno owed o) parts.1
    ∙ form_at-relinked_other t p owed o r.inode r.blockno None other number (false_from_not (is_eq (pair_cmp (other, number) (r.inode, r.blockno))) parts.0)

-- places of other files and those before keep their forms
pub form_at-places_from : (t : Tables) (p : Parameters) (inode from other number : ℕ) → OwesPlaces t p [] → (other == inode && nat_le from number) ≡ false
    → form_at (tables_after (places_dropped (places_from t inode from) t) t) other number ≡ form_at t other number
form_at-places_from t p inode from other number o outside =
    form_at-places_dropped p [] other number (places_from t inode from) t o
    (list_all_weaker goes (λ (r : InodeBlock). not (is_eq (pair_cmp (other, number) (r.inode, r.blockno))))
    (λ r is. ap not (is_eq-pair_cmp_other (other, number) (r.inode, r.blockno)
    (λ first second. let clash : true ≡ false = sym is ∙ ap (λ (n : ℕ). n == inode && nat_le from r.blockno) (sym first) ∙ ap (λ (n : ℕ). other == inode && nat_le from n) (sym second) ∙ outside in
    cc clash))) (places_from t inode from) (list_all-filter_same goes t.inode_blocks))
  where
    goes : InodeBlock → Bool
    goes r = r.inode == inode && nat_le from r.blockno

pub IsValid-places_dropped : (rows : List InodeBlock) (t : Tables) → IsValid t → IsValid (tables_after (places_dropped rows t) t)
IsValid-places_dropped rows t valid =
    IsValid-OwesPlaces (tables_after (places_dropped rows t) t) valid.params
    (OwesPlaces-places_dropped valid.params [] rows t (OwesPlaces-IsValid t valid.params valid valid.is_made))

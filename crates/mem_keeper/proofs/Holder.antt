-- The entries that name an inode, by the places where they are listed.
use Rattle.std.proofs.Common.{◌≡◌, ℕ, ◌<◌, List, [], ◌∷◌, ◌++◌, ◌==◌, Bool, true, cond, All, Option, None, Some, map, refl, sym, ap, ◌∙◌, subst, arith, eq-eqb}
use Rattle.std.specs.Prelude.{IsTrue, is_some, filter}
use Rattle.std.specs.List.{cons_option}
use Rattle.std.specs.List.Sorted.{IsStrictlySortedBy}
use Rattle.std.specs.Map.{keys_of, lookup}
use Rattle.std.specs.BTreeMap.{BTreeMap, is_at}
use Rattle.std.specs.BTreeMap.Range.{range_contains}
use Rattle.std.specs.Cmp.{nat_cmp_total}
use Rattle.std.specs.declared.cmp.Ordering.{Ordering}
use Rattle.std.specs.declared.cmp.Ordering.TheVariants.{Less, Equal, Greater}
use Rattle.std.specs.declared.ops.Bound.TheVariants.{Included}
use Rattle.std.specs.Ordering.{is_eq, nat_cmp, ordering_then}
use Rattle.std.proofs.lemmas.Bool.{eqb-true}
use Rattle.std.proofs.lemmas.Bool.Decides.{nat_tests}
use Rattle.std.proofs.lemmas.Cmp.{ranked}
use Rattle.std.proofs.lemmas.Map.Entries.{lookup-filter-keys}
use Rattle.std.proofs.lemmas.List.Elements.{recursion_from_All}
use Rattle.std.proofs.lemmas.List.Kept.{IsStrictlySortedBy-filter}
use Rattle.s3_rows.specs.Rows.{Content, IsContent}
use Rattle.s3_rows.specs.Keyed.{pair_cmp, rises, row_at}
use Rattle.s3_rows.specs.Tables.{by_entry}
use Rattle.row_lemmas.proofs.Tests.{equal_from_is_eq}
use Rattle.row_lemmas.proofs.Tables.{pair_cmp_total}
use Rattle.row_lemmas.proofs.Keyed.RowAt.{row_at_key, row_at_meets}
use Rattle.mem_keeper.specs.Table.{rows_of}
use Rattle.mem_keeper.specs.Holders.{holder_cmp, holder_key, naming, AllHold}
use Rattle.mem_keeper.proofs.Marks.{keys_of-filter, all_keys, rows_of-found_at}

-- ---- places that tie are one

then_equal : (c d : Ordering) → ordering_then c d ≡ Equal → (c ≡ Equal) × (d ≡ Equal)
then_equal Less d is = absurd (cc is)
then_equal Equal d is = (refl, is)
then_equal Greater d is = absurd (cc is)

pair_equal : (a b : ℕ × ℕ) → pair_cmp a b ≡ Equal → a ≡ b
pair_equal a b is =
    let parts = then_equal (nat_cmp a.0 b.0) (nat_cmp a.1 b.1) is in
    let first : a.0 ≡ b.0 = ranked a.0 b.0 Equal (sym parts.0) in
    let second : a.1 ≡ b.1 = ranked a.1 b.1 Equal (sym parts.1) in
    λ i. (first i, second i)

place_equal : (a b : ℕ × (ℕ × ℕ)) → holder_cmp a b ≡ Equal → a ≡ b
place_equal a b is =
    let parts = then_equal (nat_cmp a.0 b.0) (pair_cmp a.1 b.1) is in
    let first : a.0 ≡ b.0 = ranked a.0 b.0 Equal (sym parts.0) in
    let second : a.1 ≡ b.1 = pair_equal a.1 b.1 parts.1 in
    λ i. (first i, second i)

-- ---- an entry that is gone

-- a row that ties with one that is gone would be found at its key
pub not_gone : (gone r : Content) (k : ℕ × ℕ) (rows : List Content) → row_at by_entry k rows ≡ Some r
    → None ≡ naming gone.inode (row_at by_entry (gone.parent, gone.name_id) rows)
    → holder_cmp (holder_key gone) (holder_key r) ≡ Equal → ⊥
not_gone gone r k rows there none tied =
    let same : holder_key gone ≡ holder_key r = place_equal (holder_key gone) (holder_key r) tied in
    let key : k ≡ (r.parent, r.name_id) = pair_equal k (r.parent, r.name_id) (row_at_key by_entry k rows r there) in
    let at : row_at by_entry (gone.parent, gone.name_id) rows ≡ Some r =
    ap (λ p. row_at by_entry p rows) (ap (λ (p : ℕ × (ℕ × ℕ)). p.1) same ∙ sym key) ∙ there in
    let own : (r.inode == gone.inode) ≡ true = eq-eqb r.inode gone.inode (sym (ap (λ (p : ℕ × (ℕ × ℕ)). p.0) same)) in
    let clash : None ≡ Some r = none ∙ ap (naming gone.inode) at ∙ ap (λ b. cond b (Some r) None) own in
    absurd (cc clash)

-- ---- all entries of an inode

abbrev within : ℕ → ℕ × (ℕ × ℕ) → Bool
within i a = range_contains holder_cmp (Included (i, (0, 0))) (Included (i, (18446744073709551615, 18446744073709551615))) a

of_inode : (i a p n : ℕ) → within i (a, (p, n)) ≡ true → nat_cmp i a ≡ Equal
of_inode i a p n passes = grind (arith, nat_tests)

in_inode : (i p n : ℕ) → p < 18446744073709551615 → n < 18446744073709551615 → within i (i, (p, n)) ≡ true
in_inode i p n low_p low_n = grind (arith, nat_tests)

module _ {X : Type 0} where
  found_own : (r : Content) (es : List ((ℕ × (ℕ × ℕ)) × X)) → IsContent r
      → is_some (lookup (is_at (holder_cmp (holder_key r))) es) ≡ true
      → is_some (lookup (is_at (holder_cmp (holder_key r))) (filter (λ e. within r.inode e.0) es)) ≡ true
  found_own r es fits listed =
      ap is_some (lookup-filter-keys (is_at (holder_cmp (holder_key r))) (within r.inode) true agrees es) ∙ listed
    where
      agrees : (k : ℕ × (ℕ × ℕ)) → is_eq (holder_cmp (holder_key r) k) ≡ true → within r.inode k ≡ true
      agrees k tied =
          subst (λ z. within r.inode z ≡ true) (place_equal (holder_key r) k (equal_from_is_eq (holder_cmp (holder_key r) k) tied))
          (in_inode r.inode r.parent r.name_id (omega (arith, fits.parent.1)) (omega (arith, fits.name_id.1)))

pub rows_naming_all : (inode : ℕ) (holders : BTreeMap (ℕ × (ℕ × ℕ)) (Unit {0})) (rows : List Content)
    → IsTrue (rises by_entry rows) → All IsContent rows → AllHold holders rows
    → IsStrictlySortedBy holder_cmp (keys_of holders.entries)
    → rows_of (map (λ e. (e.0.1, naming inode (row_at by_entry e.0.1 rows))) (filter (λ e. within inode e.0) holders.entries))
    ≡ filter (λ r. r.inode == inode) rows
rows_naming_all inode holders rows up fits hold sorted =
    rows_of-found_at nat_cmp nat_cmp_total by_entry pair_cmp_total (λ r. r.inode == inode) inode rows
    (filter (λ e. within inode e.0) holders.entries) up
    (all_keys (λ a. nat_cmp inode a.0 ≡ Equal) (within inode) (λ k passes. of_inode inode k.0 k.1.0 k.1.1 passes) holders.entries)
    (subst (IsStrictlySortedBy holder_cmp) (sym (keys_of-filter (within inode) holders.entries))
    (IsStrictlySortedBy-filter holder_cmp (within inode) (keys_of holders.entries) sorted))
    listed
  where
    listed : (q : ℕ × ℕ) (r : Content) → row_at by_entry q rows ≡ Some r → (r.inode == inode) ≡ true
        → is_some (lookup (is_at (holder_cmp (inode, q))) (filter (λ e. within inode e.0) holders.entries)) ≡ true
    listed q r there own =
        let key : (r.parent, r.name_id) ≡ q = sym (pair_equal q (r.parent, r.name_id) (row_at_key by_entry q rows r there)) in
        let same : r.inode ≡ inode = eqb-true r.inode inode own in
        subst (λ (i : ℕ). is_some (lookup (is_at (holder_cmp (i, q))) (filter (λ e. within i e.0) holders.entries)) ≡ true) same
        (subst (λ (k : ℕ × ℕ). is_some (lookup (is_at (holder_cmp (r.inode, k))) (filter (λ e. within r.inode e.0) holders.entries)) ≡ true) key
        (found_own r holders.entries (row_at_meets by_entry IsContent q rows r (recursion_from_All IsContent rows fits) there) (hold q r there)))

-- ---- a walk over places

pub held-more : {K R : Type 0} (k : K) (v : Option R) (es : List (K × Option R))
    → cons_option v [] ++ rows_of es ≡ rows_of ((k, v) ∷ es)
held-more k None es = refl
held-more k (Some r) es = refl

-- Objects stay stored by a put and by a delete. Of keys in order, a delete takes all that are equal to one.
use Rattle.std.proofs.Common.{◌≡◌, ◌≤◌, ℕ, length, List, [], ◌∷◌, cond, refl, sym, ap, ◌∙◌}
use Rattle.std.specs.Prelude.{not, filter, All}
use Rattle.std.specs.List.{AllByRecursion}
use Rattle.std.specs.List.Sorted.{IsStrictlySortedBy}
use Rattle.std.specs.Map.{remove_entry, keys_of}
use Rattle.std.specs.BTreeMap.{is_at, insert_entry}
use Rattle.std.specs.Ordering.{is_eq, match_ordering}
use Rattle.std.specs.declared.cmp.Ordering.{Ordering}
use Rattle.std.specs.declared.cmp.Ordering.TheVariants.{Less, Equal, Greater}
use Rattle.std.specs.Cmp.{IsTotalOrder}
use Rattle.std.proofs.lemmas.Cmp.{nat_list_cmp_total}
use Rattle.std.proofs.lemmas.List.Elements.{All-nil, All-cons, All-head, All-tail, All-filter}
use Rattle.s3_devices.specs.Objects.{Objects, key_cmp, with_object, without_object}
use Rattle.s3_devices.specs.LinkAnswers.{key_limit}
use Rattle.s3_devices.proofs.ObjectLemmas.{KeepsOthers-with_object, KeepsOthers-without_object}
use Rattle.mem_link.specs.Memory.{AreStored}

module _ {K X : Type 0} (cmp : K → K → Ordering) (total : IsTotalOrder cmp) where
  -- all come after a key that is equal to k
  none_at : (k m : K) (es : List (K × X)) → cmp k m ≡ Equal → AllByRecursion (λ y. cmp m y ≡ Less) (keys_of es)
      → filter (λ e. not (is_at (cmp k) e.0)) es ≡ es
  none_at k m [] same behind = refl
  none_at k m (e ∷ es) same behind =
      let after : cmp k e.0 ≡ Less = total.congr k m e.0 same ∙ behind.0 in
      ap (λ b. cond (not b) (e ∷ filter (λ f. not (is_at (cmp k) f.0)) es) (filter (λ f. not (is_at (cmp k) f.0)) es)) (ap is_eq after)
      ∙ ap (λ fs. e ∷ fs) (none_at k m es same behind.1)

  remove_entry-filter : (k : K) (es : List (K × X)) → IsStrictlySortedBy cmp (keys_of es)
      → remove_entry (is_at (cmp k)) es ≡ filter (λ e. not (is_at (cmp k) e.0)) es
  unfolding IsStrictlySortedBy
  remove_entry-filter k [] sorted = refl
  remove_entry-filter k (e ∷ es) sorted = by_case (cmp k e.0) refl (remove_entry-filter k es sorted.1)
    where
      by_case : (o : Ordering) → cmp k e.0 ≡ o → remove_entry (is_at (cmp k)) es ≡ filter (λ f. not (is_at (cmp k) f.0)) es
          → cond (is_eq o) es (e ∷ remove_entry (is_at (cmp k)) es)
          ≡ cond (not (is_eq o)) (e ∷ filter (λ f. not (is_at (cmp k) f.0)) es) (filter (λ f. not (is_at (cmp k) f.0)) es)
      by_case Less is rest = ap (λ fs. e ∷ fs) rest
      by_case Equal is rest = sym (none_at k e.0 es is sorted.0)
      by_case Greater is rest = ap (λ fs. e ∷ fs) rest

-- what holds of each key and of a new one holds after a put
all-insert_entry : {K X : Type 0} (cmp : K → K → Ordering) (P : K → Type 0) (k : K) (v : X) (es : List (K × X)) → P k → All (λ (e : K × X). P e.0) es
    → All (λ (e : K × X). P e.0) (insert_entry cmp es k v)
all-insert_entry {K} {X} cmp P k v [] here all = All-cons (λ (e : K × X). P e.0) (k, v) [] here (All-nil (λ (e : K × X). P e.0))
all-insert_entry {K} {X} cmp P k v (e ∷ es) here all =
    by_case (cmp k e.0) (all-insert_entry cmp P k v es here (All-tail (λ (f : K × X). P f.0) e es all))
  where
    by_case : (o : Ordering) → All (λ (f : K × X). P f.0) (insert_entry cmp es k v)
        → All (λ (f : K × X). P f.0) (match_ordering o ((k, v) ∷ e ∷ es) ((e.0, v) ∷ es) (e ∷ insert_entry cmp es k v))
    by_case Less rest = All-cons (λ (f : K × X). P f.0) (k, v) (e ∷ es) here all
    by_case Equal rest = All-cons (λ (f : K × X). P f.0) (e.0, v) es (All-head (λ (f : K × X). P f.0) e es all) (All-tail (λ (f : K × X). P f.0) e es all)
    by_case Greater rest = All-cons (λ (f : K × X). P f.0) e (insert_entry cmp es k v) (All-head (λ (f : K × X). P f.0) e es all) rest

pub AreStored-with_object : (key bytes : List ℕ) (o : Objects) → length key ≤ key_limit → AreStored o → AreStored (with_object key bytes o)
AreStored-with_object key bytes o short stored = record {
  ordered = (KeepsOthers-with_object key bytes o).ordered stored.ordered;
  short = all-insert_entry key_cmp (λ k. length k ≤ key_limit) key bytes o short stored.short;
}

pub AreStored-without_object : (key : List ℕ) (o : Objects) → AreStored o → AreStored (without_object key o)
AreStored-without_object key o stored = record {
  ordered = (KeepsOthers-without_object key o).ordered stored.ordered;
  short = All-filter (λ e. not (is_at (key_cmp key) e.0)) (λ (e : List ℕ × List ℕ). length e.0 ≤ key_limit) o stored.short;
}

pub removed-without_object : (key : List ℕ) (o : Objects) → AreStored o → remove_entry (is_at (key_cmp key)) o ≡ without_object key o
removed-without_object key o stored = remove_entry-filter key_cmp nat_list_cmp_total key o stored.ordered

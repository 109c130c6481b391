-- Sums over the values of entries under changes of the entries.
use Rattle.std.proofs.Common.{◌≡◌, ◌≤◌, ℕ, ◌+◌, List, [], ◌∷◌, ◌++◌, Bool, true, false, cond, Option, None, Some, refl, sym, ap, arith, zero-add}
use Rattle.std.proofs.lemmas.List.Sums.{sum_by-cons}
use Rattle.std.specs.BTreeMap.{insert_entry}
use Rattle.std.specs.Ordering.{match_ordering}
use Rattle.std.specs.List.{cons_option, filter_map}
use Rattle.std.specs.Map.{lookup, remove_entry, set_value}
use Rattle.std.specs.Prelude.{filter, map, sum_by}
use Rattle.std.specs.declared.cmp.Ordering.{Ordering}
use Rattle.std.specs.declared.cmp.Ordering.TheVariants.{Less, Equal, Greater}

module _ {K X : Type 0} (g : X → ℕ) where
  abbrev pub total : List (K × X) → ℕ
  total es = sum_by (λ e. g e.1) es

  total-cons : (e : K × X) (es : List (K × X)) → total (e ∷ es) ≡ g e.1 + total es
  total-cons e es = sum_by-cons (λ (x : K × X). g x.1) e es

  pub total-append : (es fs : List (K × X)) → total (es ++ fs) ≡ total es + total fs
  total-append [] fs = sym (zero-add (total fs))
  total-append (e ∷ es) fs = let rest : total (es ++ fs) ≡ total es + total fs = total-append es fs in omega (arith, total-cons e (es ++ fs), total-cons e es, rest)

  pub total-insert_entry : (compare : K → K → Ordering) (k : K) (v : X) (es : List (K × X)) → total (insert_entry compare es k v) ≤ total es + g v
  total-insert_entry compare k v [] = omega (arith, total-cons (k, v) [])
  total-insert_entry compare k v (e ∷ es) = by_order (total-insert_entry compare k v es) (compare k e.0)
    where
      by_order : total (insert_entry compare es k v) ≤ total es + g v → (o : Ordering)
          → total (match_ordering o ((k, v) ∷ e ∷ es) ((e.0, v) ∷ es) (e ∷ insert_entry compare es k v)) ≤ total (e ∷ es) + g v
      by_order rest Less = omega (arith, total-cons (k, v) (e ∷ es))
      by_order rest Equal = omega (arith, total-cons (e.0, v) es, total-cons e es)
      by_order rest Greater = omega (arith, total-cons e (insert_entry compare es k v), total-cons e es, rest)

  pub total-remove_entry : (test : K → Bool) (es : List (K × X)) → total (remove_entry test es) ≤ total es
  total-remove_entry test [] = omega arith
  total-remove_entry test (e ∷ es) = by_test (total-remove_entry test es) (test e.0)
    where
      by_test : total (remove_entry test es) ≤ total es → (b : Bool) → total (cond b es (e ∷ remove_entry test es)) ≤ total (e ∷ es)
      by_test rest true = omega (arith, total-cons e es)
      by_test rest false = omega (arith, total-cons e (remove_entry test es), total-cons e es, rest)

  -- what goes is what is found
  pub total-remove_entry_found : (test : K → Bool) (v : X) (es : List (K × X)) → lookup test es ≡ Some v → total (remove_entry test es) + g v ≡ total es
  total-remove_entry_found test v [] is = absurd (cc is)
  total-remove_entry_found test v (e ∷ es) is = by_test (total-remove_entry_found test v es) (test e.0) is
    where
      by_test : (lookup test es ≡ Some v → total (remove_entry test es) + g v ≡ total es) → (b : Bool) → cond b (Some e.1) (lookup test es) ≡ Some v
          → total (cond b es (e ∷ remove_entry test es)) + g v ≡ total (e ∷ es)
      by_test rest true found = let same : g e.1 ≡ g v = ap g (cc found) in omega (arith, total-cons e es, same)
      by_test rest false found = omega (arith, total-cons e (remove_entry test es), total-cons e es, rest found)

  -- one value more in place of what is found
  pub total-set_value : (k : ℕ) (test : K → Bool) (v w : X) → g w ≤ g v + k → (es : List (K × X)) → lookup test es ≡ Some v → total (set_value test es w) ≤ total es + k
  total-set_value k test v w more [] is = absurd (cc is)
  total-set_value k test v w more (e ∷ es) is = by_test (total-set_value k test v w more es) (test e.0) is
    where
      by_test : (lookup test es ≡ Some v → total (set_value test es w) ≤ total es + k) → (b : Bool) → cond b (Some e.1) (lookup test es) ≡ Some v
          → total (cond b ((e.0, w) ∷ es) (e ∷ set_value test es w)) ≤ total (e ∷ es) + k
      by_test rest true found = let same : g e.1 ≡ g v = ap g (cc found) in omega (arith, total-cons (e.0, w) es, total-cons e es, same, more)
      by_test rest false found = omega (arith, total-cons e (set_value test es w), total-cons e es, rest found)

  pub total-filter : (p : K × X → Bool) (es : List (K × X)) → total (filter p es) ≤ total es
  total-filter p [] = omega arith
  total-filter p (e ∷ es) = by_test (total-filter p es) (p e)
    where
      by_test : total (filter p es) ≤ total es → (b : Bool) → total (cond b (e ∷ filter p es) (filter p es)) ≤ total (e ∷ es)
      by_test rest true = omega (arith, total-cons e (filter p es), total-cons e es, rest)
      by_test rest false = omega (arith, total-cons e es, rest)

  -- each entry goes, or has no more
  pub total-filter_map : (f : K × X → Option (K × X)) → ((e y : K × X) → f e ≡ Some y → g y.1 ≤ g e.1) → (es : List (K × X)) → total (filter_map f es) ≤ total es
  total-filter_map f less [] = omega arith
  total-filter_map f less (e ∷ es) = by_found (total-filter_map f less es) (f e) refl
    where
      by_found : total (filter_map f es) ≤ total es → (found : Option (K × X)) → f e ≡ found
          → total (cons_option found (filter_map f es)) ≤ total (e ∷ es)
      by_found rest (Some y) is = omega (arith, total-cons y (filter_map f es), total-cons e es, rest, less e y is)
      by_found rest None is = omega (arith, total-cons e es, rest)

  -- each entry has as much
  pub total-map : (f : K × X → K × X) → ((e : K × X) → g (f e).1 ≡ g e.1) → (es : List (K × X)) → total (map f es) ≡ total es
  total-map f same [] = refl
  total-map f same (e ∷ es) = let rest : total (map f es) ≡ total es = total-map f same es in omega (arith, total-cons (f e) (map f es), total-cons e es, rest, same e)

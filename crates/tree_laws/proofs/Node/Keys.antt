-- Numbers and names as keys: what look-ups take for one another, and what they find.
use Rattle.std.proofs.Common.{◌≡◌, ◌≢◌, ℕ, List, true, false, cond, Option, None, Some, refl, sym, ap, ◌∙◌, [], ◌∷◌, Bool, ◌⊎◌, inl, inr, ◌++◌}
use Rattle.std.proofs.lemmas.Bool.{eqb-true, eq-eqb, ne_eqb}
use Rattle.std.proofs.lemmas.Cmp.{nat_list_cmp_total, tied_itself}
use Rattle.std.specs.BTreeMap.{is_at, insert_entry}
use Rattle.std.specs.Cmp.{unsigned_tied}
use Rattle.std.specs.Cmp.Lexicographic.{slice_cmp}
use Rattle.std.specs.Map.{lookup, remove_entry}
use Rattle.std.specs.Ordering.{nat_cmp, eq_by_cmp, is_eq, ordering_then, match_ordering}
use Rattle.std.specs.declared.cmp.Ordering.{Ordering}
use Rattle.std.specs.declared.cmp.Ordering.TheVariants.{Less, Equal, Greater}

-- ---- numbers

pub same_number : (a b : ℕ) → is_at (nat_cmp a) b ≡ true → a ≡ b
same_number a b is = eqb-true a b (sym (unsigned_tied a b) ∙ is)

pub other_number : (a b : ℕ) → a ≢ b → is_at (nat_cmp a) b ≡ false
other_number a b apart = unsigned_tied a b ∙ ne_eqb a b apart

pub own_number : (a : ℕ) → is_at (nat_cmp a) a ≡ true
own_number a = unsigned_tied a a ∙ eq-eqb a a refl

pub one_number : (a x y : ℕ) → is_at (nat_cmp a) x ≡ true → is_at (nat_cmp a) y ≡ eq_by_cmp nat_cmp x y
one_number a x y is = ap (λ k. eq_by_cmp nat_cmp k y) (same_number a x is)

-- ---- names

same_if : (x y : ℕ) (xs ys : List ℕ) (order : Ordering) → nat_cmp x y ≡ order → (is_eq (slice_cmp nat_cmp xs ys) ≡ true → xs ≡ ys) → is_eq (ordering_then order (slice_cmp nat_cmp xs ys)) ≡ true
    → (x ∷ xs) ≡ (y ∷ ys)
same_if x y xs ys Less order rest is = absurd (cc is)
same_if x y xs ys Equal order rest is =
    let first : x ≡ y = same_number x y (ap is_eq order) in
    let others : xs ≡ ys = rest is in
    cc
same_if x y xs ys Greater order rest is = absurd (cc is)

pub same_name : (a b : List ℕ) → is_at (slice_cmp nat_cmp a) b ≡ true → a ≡ b
same_name [] [] is = refl
same_name [] (y ∷ ys) is = absurd (cc is)
same_name (x ∷ xs) [] is = absurd (cc is)
same_name (x ∷ xs) (y ∷ ys) is = same_if x y xs ys (nat_cmp x y) refl (same_name xs ys) is

pub own_name : (a : List ℕ) → is_at (slice_cmp nat_cmp a) a ≡ true
own_name a = ap is_eq (tied_itself nat_list_cmp_total a)

other_if : (a b : List ℕ) (test : Bool) → is_at (slice_cmp nat_cmp a) b ≡ test → a ≢ b → test ≡ false
other_if a b true is apart = absurd (apart (same_name a b is))
other_if a b false is apart = refl

pub other_name : (a b : List ℕ) → a ≢ b → is_at (slice_cmp nat_cmp a) b ≡ false
other_name a b apart = other_if a b (is_at (slice_cmp nat_cmp a) b) refl apart

name_if : (a b : List ℕ) (test : Bool) → is_at (slice_cmp nat_cmp a) b ≡ test → (a ≡ b) ⊎ (a ≢ b)
name_if a b true is = inl (same_name a b is)
name_if a b false is =
    inr (λ same.
    let itself : true ≡ false = sym (own_name a) ∙ ap (λ c. is_at (slice_cmp nat_cmp a) c) same ∙ is in
    cc itself)

pub cases_name : (a b : List ℕ) → (a ≡ b) ⊎ (a ≢ b)
cases_name a b = name_if a b (is_at (slice_cmp nat_cmp a) b) refl

-- a comparison that takes only equal keys for one
pub record Tells {K : Type 0} (compare : K → K → Ordering) : Type 0 where
  pub own : (k : K) → is_at (compare k) k ≡ true
  pub same : (a b : K) → is_at (compare a) b ≡ true → a ≡ b
  pub other : (a b : K) → a ≢ b → is_at (compare a) b ≡ false

pub numbers_tell : Tells nat_cmp
numbers_tell = record { own = own_number; same = same_number; other = other_number }

pub names_tell : Tells (slice_cmp nat_cmp)
names_tell = record { own = own_name; same = same_name; other = other_name }

-- ---- look-ups among entries of which one is inserted, or goes

-- keys that a comparison tells apart
module _ {K X : Type 0} (compare : K → K → Ordering) (tells : Tells compare) where
  here_if : (k : K) (v : X) (e : K × X) (es inserted : List (K × X)) (order : Ordering) → compare k e.0 ≡ order → lookup (is_at (compare k)) inserted ≡ Some v → lookup (is_at (compare k)) (match_ordering order ((k, v) ∷ e ∷ es) ((e.0, v) ∷ es) (e ∷ inserted)) ≡ Some v
  here_if k v e es inserted Less is rest = ap (λ b. cond b (Some v) (lookup (is_at (compare k)) (e ∷ es))) (tells.own k)
  here_if k v e es inserted Equal is rest = ap (λ b. cond b (Some v) (lookup (is_at (compare k)) es)) (ap is_eq is)
  here_if k v e es inserted Greater is rest = ap (λ b. cond b (Some e.1) (lookup (is_at (compare k)) inserted)) (ap is_eq is) ∙ rest

  -- a look-up finds what was inserted
  pub lookup-insert_entry_same : (k : K) (v : X) (es : List (K × X)) → lookup (is_at (compare k)) (insert_entry compare es k v) ≡ Some v
  lookup-insert_entry_same k v [] = ap (λ b. cond b (Some v) None) (tells.own k)
  lookup-insert_entry_same k v (e ∷ es) = here_if k v e es (insert_entry compare es k v) (compare k e.0) refl (lookup-insert_entry_same k v es)

  kept_if : (k m : K) (v : X) (e : K × X) (es inserted : List (K × X)) (order : Ordering) → m ≢ k → compare k e.0 ≡ order → lookup (is_at (compare m)) inserted ≡ lookup (is_at (compare m)) es → lookup (is_at (compare m)) (match_ordering order ((k, v) ∷ e ∷ es) ((e.0, v) ∷ es) (e ∷ inserted)) ≡ lookup (is_at (compare m)) (e ∷ es)
  kept_if k m v e es inserted Less apart is rest = ap (λ b. cond b (Some v) (lookup (is_at (compare m)) (e ∷ es))) (tells.other m k apart)
  kept_if k m v e es inserted Equal apart is rest =
      let misses : is_at (compare m) e.0 ≡ false = tells.other m e.0 (λ same. apart (same ∙ sym (tells.same k e.0 (ap is_eq is)))) in
      ap (λ b. cond b (Some v) (lookup (is_at (compare m)) es)) misses ∙ sym (ap (λ b. cond b (Some e.1) (lookup (is_at (compare m)) es)) misses)
  kept_if k m v e es inserted Greater apart is rest = ap (λ r. cond (is_at (compare m) e.0) (Some e.1) r) rest

  -- and what was there under another key
  pub lookup-insert_entry_other : (k m : K) (v : X) (es : List (K × X)) → m ≢ k → lookup (is_at (compare m)) (insert_entry compare es k v) ≡ lookup (is_at (compare m)) es
  lookup-insert_entry_other k m v [] apart = ap (λ b. cond b (Some v) None) (tells.other m k apart)
  lookup-insert_entry_other k m v (e ∷ es) apart = kept_if k m v e es (insert_entry compare es k v) (compare k e.0) apart refl (lookup-insert_entry_other k m v es apart)

  left_if : (k m : K) (e : K × X) (es rest : List (K × X)) (test : Bool) → m ≢ k → is_at (compare k) e.0 ≡ test → lookup (is_at (compare m)) rest ≡ lookup (is_at (compare m)) es → lookup (is_at (compare m)) (cond test es (e ∷ rest)) ≡ lookup (is_at (compare m)) (e ∷ es)
  left_if k m e es rest true apart is same =
      sym (ap (λ b. cond b (Some e.1) (lookup (is_at (compare m)) es)) (tells.other m e.0 (λ equal. apart (equal ∙ sym (tells.same k e.0 is)))))
  left_if k m e es rest false apart is same = ap (λ r. cond (is_at (compare m) e.0) (Some e.1) r) same

  -- a removal leaves look-ups of other keys
  pub lookup-remove_entry_other : (k m : K) (es : List (K × X)) → m ≢ k → lookup (is_at (compare m)) (remove_entry (is_at (compare k)) es) ≡ lookup (is_at (compare m)) es
  lookup-remove_entry_other k m [] apart = refl
  lookup-remove_entry_other k m (e ∷ es) apart =
      left_if k m e es (remove_entry (is_at (compare k)) es) (is_at (compare k) e.0) apart refl (lookup-remove_entry_other k m es apart)

-- ---- look-ups among entries and others behind them

there_if : {X : Type 0} (test : Bool) (value v : X) (found later : Option X) → (found ≡ Some v → later ≡ Some v) → cond test (Some value) found ≡ Some v → cond test (Some value) later ≡ Some v
there_if true value v found later rest is = is
there_if false value v found later rest is = rest is

pub lookup-append_there : {K X : Type 0} (test : K → Bool) (es others : List (K × X)) (v : X) → lookup test es ≡ Some v → lookup test (es ++ others) ≡ Some v
lookup-append_there test [] others v is = absurd (cc is)
lookup-append_there test (e ∷ es) others v is = there_if (test e.0) e.1 v (lookup test es) (lookup test (es ++ others)) (lookup-append_there test es others v) is

new_if : {X : Type 0} (test : Bool) (value : X) (found later others : Option X) → (found ≡ None → later ≡ others) → cond test (Some value) found ≡ None → cond test (Some value) later ≡ others
new_if true value found later others rest is = absurd (cc is)
new_if false value found later others rest is = rest is

pub lookup-append_new : {K X : Type 0} (test : K → Bool) (es others : List (K × X)) → lookup test es ≡ None → lookup test (es ++ others) ≡ lookup test others
lookup-append_new test [] others is = refl
lookup-append_new test (e ∷ es) others is = new_if (test e.0) e.1 (lookup test es) (lookup test (es ++ others)) (lookup test others) (lookup-append_new test es others) is

pub lookup-append_before : {K X : Type 0} (test : K → Bool) (es others : List (K × X)) → lookup test others ≡ None → lookup test (es ++ others) ≡ lookup test es
lookup-append_before test [] others none = none
lookup-append_before test (e ∷ es) others none = ap (λ rest. cond (test e.0) (Some e.1) rest) (lookup-append_before test es others none)

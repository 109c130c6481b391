-- Which inodes handles hold: beside one handle, and those of a pass alone.
use Rattle.std.proofs.Common.{◌≡◌, ℕ, List, [], ◌∷◌, ◌++◌, Bool, true, false, cond, refl, sym, ap, ◌∙◌, subst, eqb-true}
use Rattle.std.specs.Prelude.{IsTrue, ◌==◌, ◌&&◌, ◌||◌, not, filter}
use Rattle.std.specs.List.{AllByRecursion, list_any}
use Rattle.std.specs.List.Sorted.{IsStrictlySortedBy}
use Rattle.std.specs.Map.{keys_of, remove_entry, values_of}
use Rattle.std.specs.Ordering.{is_eq, nat_cmp}
use Rattle.std.specs.BTreeMap.{is_at}
use Rattle.std.specs.declared.cmp.Ordering.TheVariants.{Less}
use Rattle.std.proofs.lemmas.Bool.{and_from, and_parts}
use Rattle.plain_tree.specs.Below.{is_among}
use Rattle.plain_tree.specs.Tree.{Handle}
use Rattle.s3_rows.specs.Validity.{differ}
use Rattle.row_lemmas.proofs.Tests.{eqb_comm, false_from_not, is_eq-nat_cmp}

-- ---- beside one handle

later_beside : (f : Handle → Bool) (number : ℕ) (es : List (ℕ × Handle)) → AllByRecursion (λ k. nat_cmp number k ≡ Less) (keys_of es)
    → list_any (λ (e : ℕ × Handle). not (e.0 == number) && f e.1) es ≡ list_any (λ (e : ℕ × Handle). f e.1) es
later_beside f number [] above = refl
later_beside f number (e ∷ es) above =
    let other : (e.0 == number) ≡ false = eqb_comm e.0 number ∙ sym (is_eq-nat_cmp number e.0) ∙ ap is_eq above.0 in
    λ i. (not (other i) && f e.1) || later_beside f number es above.1 i

-- in the order of their numbers, those of another number are those that are left without it
pub list_any-remove_entry : (f : Handle → Bool) (number : ℕ) (es : List (ℕ × Handle)) → IsStrictlySortedBy nat_cmp (keys_of es)
    → list_any (λ (e : ℕ × Handle). not (e.0 == number) && f e.1) es ≡ list_any (λ (e : ℕ × Handle). f e.1) (remove_entry (is_at (nat_cmp number)) es)
unfolding IsStrictlySortedBy
list_any-remove_entry f number [] rising = refl
list_any-remove_entry f number (e ∷ es) rising = by_case (list_any-remove_entry f number es rising.1) (number == e.0) refl
  where
    by_case : list_any (λ (x : ℕ × Handle). not (x.0 == number) && f x.1) es ≡ list_any (λ (x : ℕ × Handle). f x.1) (remove_entry (is_at (nat_cmp number)) es)
        → (b : Bool) → (number == e.0) ≡ b
        → ((not (e.0 == number) && f e.1) || list_any (λ (x : ℕ × Handle). not (x.0 == number) && f x.1) es)
        ≡ list_any (λ (x : ℕ × Handle). f x.1) (cond (is_eq (nat_cmp number e.0)) es (e ∷ remove_entry (is_at (nat_cmp number)) es))
    by_case others true here =
        (λ i. (not ((eqb_comm e.0 number ∙ here) i) && f e.1) || list_any (λ (x : ℕ × Handle). not (x.0 == number) && f x.1) es)
        ∙ later_beside f number es (subst (λ k. AllByRecursion (λ y. nat_cmp k y ≡ Less) (keys_of es)) (sym (eqb-true number e.0 here)) rising.0)
        ∙ sym (ap (λ b. list_any (λ (x : ℕ × Handle). f x.1) (cond b es (e ∷ remove_entry (is_at (nat_cmp number)) es))) (is_eq-nat_cmp number e.0 ∙ here))
    by_case others false here =
        (λ i. (not ((eqb_comm e.0 number ∙ here) i) && f e.1) || others i)
        ∙ sym (ap (λ b. list_any (λ (x : ℕ × Handle). f x.1) (cond b es (e ∷ remove_entry (is_at (nat_cmp number)) es))) (is_eq-nat_cmp number e.0 ∙ here))

-- ---- of a pass

pub list_any-filter : {X : Type 0} (p q : X → Bool) (xs : List X) → list_any p (filter q xs) ≡ list_any (λ x. q x && p x) xs
list_any-filter p q [] = refl
list_any-filter p q (x ∷ xs) = by_case (list_any-filter p q xs) (q x)
  where
    by_case : list_any p (filter q xs) ≡ list_any (λ y. q y && p y) xs → (b : Bool) → list_any p (cond b (x ∷ filter q xs) (filter q xs)) ≡ ((b && p x) || list_any (λ y. q y && p y) xs)
    by_case others true = ap (λ b. p x || b) others
    by_case others false = others

-- a handle is of the pass, or of another one
either_pass : (pass x : ℕ) (es : List (ℕ × Handle)) → list_any (λ (e : ℕ × Handle). e.1.inode == x) es
    ≡ (list_any (λ (h : Handle). h.pass == pass && h.inode == x) (values_of es) || list_any (λ (e : ℕ × Handle). not (e.1.pass == pass) && e.1.inode == x) es)
either_pass pass x [] = refl
either_pass pass x (e ∷ es) =
    ap (λ b. e.1.inode == x || b) (either_pass pass x es)
    ∙ by_case (e.1.pass == pass) (e.1.inode == x) (list_any (λ (h : Handle). h.pass == pass && h.inode == x) (values_of es))
    (list_any (λ (y : ℕ × Handle). not (y.1.pass == pass) && y.1.inode == x) es)
  where
    by_case : (own here a b : Bool) → (here || (a || b)) ≡ (((own && here) || a) || ((not own && here) || b))
    by_case true true a b = refl
    by_case true false a b = refl
    by_case false true true b = refl
    by_case false true false b = refl
    by_case false false a b = refl

pub held_by_pass : (pass x : ℕ) (es : List (ℕ × Handle))
    → (list_any (λ (h : Handle). h.pass == pass && h.inode == x) (values_of es)
    && not (list_any (λ (e : ℕ × Handle). e.1.inode == x) (filter (λ (e : ℕ × Handle). not (e.1.pass == pass)) es)))
    ≡ (list_any (λ (e : ℕ × Handle). e.1.inode == x) es
    && not (list_any (λ (e : ℕ × Handle). e.1.inode == x) (filter (λ (e : ℕ × Handle). not (e.1.pass == pass)) es)))
held_by_pass pass x es =
    let own : Bool = list_any (λ (h : Handle). h.pass == pass && h.inode == x) (values_of es) in
    let others : list_any (λ (e : ℕ × Handle). e.1.inode == x) (filter (λ (e : ℕ × Handle). not (e.1.pass == pass)) es)
    ≡ list_any (λ (e : ℕ × Handle). not (e.1.pass == pass) && e.1.inode == x) es =
    list_any-filter (λ (e : ℕ × Handle). e.1.inode == x) (λ (e : ℕ × Handle). not (e.1.pass == pass)) es in
    (λ i. own && not (others i))
    ∙ by_case own (list_any (λ (e : ℕ × Handle). not (e.1.pass == pass) && e.1.inode == x) es)
    ∙ sym (λ i. either_pass pass x es i && not (others i))
  where
    by_case : (a b : Bool) → (a && not b) ≡ ((a || b) && not b)
    by_case true b = refl
    by_case false true = refl
    by_case false false = refl

-- ---- one more is listed

or_none : (b : Bool) → (b || false) ≡ b
or_none true = refl
or_none false = refl

is_among-push : (xs : List ℕ) (y x : ℕ) → is_among (xs ++ y ∷ []) x ≡ (is_among xs x || (y == x))
is_among-push [] y x = or_none (y == x)
is_among-push (z ∷ zs) y x = ap (λ b. z == x || b) (is_among-push zs y x) ∙ by_case (z == x)
  where
    by_case : (b : Bool) → (b || (is_among zs x || (y == x))) ≡ ((b || is_among zs x) || (y == x))
    by_case true = refl
    by_case false = refl

pub differ-push : (xs : List ℕ) (y : ℕ) → IsTrue (differ (λ a b. b == a) xs) → is_among xs y ≡ false → IsTrue (differ (λ a b. b == a) (xs ++ y ∷ []))
differ-push [] y apart new = refl
differ-push (x ∷ xs) y apart new =
    let parts = and_parts (not (is_among xs x)) (differ (λ a b. b == a) xs) apart in
    let none = both_fail (x == y) (is_among xs y) new in
    and_from (not (is_among (xs ++ y ∷ []) x)) (differ (λ a b. b == a) (xs ++ y ∷ []))
    (ap not (is_among-push xs y x ∙ (λ i. false_from_not (is_among xs x) parts.0 i || (eqb_comm y x ∙ none.0) i))) (differ-push xs y parts.1 none.1)
  where
    both_fail : (a b : Bool) → (a || b) ≡ false → (a ≡ false) × (b ≡ false)
    both_fail true b is = absurd (cc is)
    both_fail false b is = (refl, is)

-- the inodes that are listed, with that of a handle where it is to be
abbrev pub with_held : ℕ → (ℕ → Bool) → List ℕ → Handle → List ℕ
with_held pass others xs h = cond (h.pass == pass && not (is_among xs h.inode) && not (others h.inode)) (xs ++ h.inode ∷ []) xs

pub differ-with_held : (pass : ℕ) (others : ℕ → Bool) (xs : List ℕ) (h : Handle) → IsTrue (differ (λ a b. b == a) xs) → IsTrue (differ (λ a b. b == a) (with_held pass others xs h))
differ-with_held pass others xs h apart = by_case (h.pass == pass) (is_among xs h.inode) refl (others h.inode)
  where
    by_case : (own there : Bool) → is_among xs h.inode ≡ there → (other : Bool)
        → IsTrue (differ (λ a b. b == a) (cond (own && not there && not other) (xs ++ h.inode ∷ []) xs))
    by_case true false is false = differ-push xs h.inode apart is
    by_case true false is true = apart
    by_case true true is other = apart
    by_case false there is other = apart

pub is_among-with_held : (pass : ℕ) (others : ℕ → Bool) (xs : List ℕ) (h : Handle) (rest : Bool) (x : ℕ)
    → (is_among xs x || (((h.pass == pass && h.inode == x) || rest) && not (others x)))
    ≡ (is_among (with_held pass others xs h) x || (rest && not (others x)))
is_among-with_held pass others xs h rest x =
    by_inode (h.inode == x) refl ∙ sym (ap (λ b. b || (rest && not (others x))) (pushed (h.pass == pass && not (is_among xs h.inode) && not (others h.inode))))
  where
    pushed : (c : Bool) → is_among (cond c (xs ++ h.inode ∷ []) xs) x ≡ (is_among xs x || (c && h.inode == x))
    pushed true = is_among-push xs h.inode x
    pushed false = sym (or_none (is_among xs x))

    table : (there own other more : Bool) → (there || (((own && true) || more) && not other)) ≡ ((there || ((own && not there && not other) && true)) || (more && not other))
    table true own other more = refl
    table false true true true = refl
    table false true true false = refl
    table false true false more = refl
    table false false true more = refl
    table false false false more = refl

    other_inode : (own c : Bool) (there more : Bool) → (there || ((own && false) || more)) ≡ ((there || (c && false)) || more)
    other_inode own c true more = refl
    other_inode true true false more = refl
    other_inode true false false more = refl
    other_inode false true false more = refl
    other_inode false false false more = refl

    left : (own : Bool) (more other : Bool) → (((own && false) || more) && not other) ≡ ((own && false) || (more && not other))
    left true more other = refl
    left false more other = refl

    by_inode : (b : Bool) → (h.inode == x) ≡ b
        → (is_among xs x || (((h.pass == pass && h.inode == x) || rest) && not (others x)))
        ≡ ((is_among xs x || ((h.pass == pass && not (is_among xs h.inode) && not (others h.inode)) && h.inode == x)) || (rest && not (others x)))
    by_inode true here =
        let same : h.inode ≡ x = eqb-true h.inode x here in
        (λ i. is_among xs x || (((h.pass == pass && here i) || rest) && not (others x))) ∙ table (is_among xs x) (h.pass == pass) (others x) rest
        ∙ sym (λ i. (is_among xs x || ((h.pass == pass && not (is_among xs (same i)) && not (others (same i))) && here i)) || (rest && not (others x)))
    by_inode false here =
        (λ i. is_among xs x || (((h.pass == pass && here i) || rest) && not (others x)))
        ∙ ap (λ b. is_among xs x || b) (left (h.pass == pass) rest (others x))
        ∙ other_inode (h.pass == pass) (h.pass == pass && not (is_among xs h.inode) && not (others h.inode)) (is_among xs x) (rest && not (others x))
        ∙ sym (λ i. (is_among xs x || ((h.pass == pass && not (is_among xs h.inode) && not (others h.inode)) && here i)) || (rest && not (others x)))

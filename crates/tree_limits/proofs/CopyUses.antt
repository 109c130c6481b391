-- A copy uses a name as often as the inodes at and below its source have it, and once more for its own entry.
use Rattle.std.proofs.Common.{◌≡◌, ℕ, ◌+◌, List, [], ◌∷◌, ◌++◌, Bool, true, false, cond, Option, None, Some, refl, sym, ap, ◌∙◌, arith, eq-eqb, eqb-true}
use Rattle.std.proofs.lemmas.Bool.{or_left, or_right}
use Rattle.std.proofs.lemmas.List.Sums.{sum_by-append, sum_by-cons, sum_by_push}
use Rattle.std.specs.Ordering.{is_eq}
use Rattle.std.specs.Prelude.{IsTrue, ◌||◌, ◌==◌, count_by, is_some, sum_by}
use Rattle.plain_tree.specs.Below.{is_among}
use Rattle.plain_tree.specs.Tree.{Tree}
use Rattle.s3_rows.specs.Rows.{Inode}
use Rattle.s3_rows.specs.Selections.{bytes_cmp, inode_at}
use Rattle.s3_rows.specs.Tables.{Tables}
use Rattle.tree_rows.specs.Shapes.{Represents}
use Rattle.tree_copy.specs.CopiedRows.{AreVisitsOf, Visit, all_seen, seen_after}
use Rattle.tree_copy.specs.NameCounts.{attr_names, copied_name_count, visits_names}
use Rattle.tree_limits.proofs.CopiedUses.{attributes_at, entries_at, is_own}
use Rattle.tree_limits.proofs.RowUses.{attributes_at-row, used, visits_of_inode}
use Rattle.tree_limits.proofs.VisitUses.{is_of, row_seen, visits_by_inode}

-- sums agree where their parts do
agree_among : (f g : ℕ → ℕ) (xs : List ℕ) → ((x : ℕ) → is_among xs x ≡ true → f x ≡ g x) → sum_by f xs ≡ sum_by g xs
agree_among f g [] same = refl
agree_among f g (x ∷ xs) same =
    omega (
      arith,
      sum_by-cons f x xs,
      sum_by-cons g x xs,
      same x (or_left (x == x) (is_among xs x) (eq-eqb x x refl)),
      agree_among f g xs (λ y among. same y (or_right (x == y) (is_among xs y) among)),
    )

some_row : (found : Option Inode) → IsTrue (is_some found) → (r : Inode) × (found ≡ Some r)
some_row None is = absurd (cc is)
some_row (Some r) is = (r, refl)

module _ (b : List ℕ) (t : Tables) where
  abbrev text_of : List ℕ → ℕ
  text_of x = cond (is_eq (bytes_cmp b x)) 1 0

  abbrev attributes_of : ℕ → ℕ
  attributes_of x = used b (attr_names t x)

  abbrev entry_of : Visit → ℕ
  entry_of v = cond (is_eq (bytes_cmp b v.entry.name)) 1 0

  -- what one visit uses
  used-visit : (v : Visit) (seen : List ℕ) (again : Bool)
      → used b ((cond again [] (attr_names t v.child.id)) ++ v.entry.name ∷ []) + sum_by attributes_of seen ≡ sum_by attributes_of (cond again seen (seen ++ v.child.id ∷ [])) + entry_of v
  used-visit v seen true = omega (arith, sum_by-cons text_of v.entry.name [])
  used-visit v seen false =
      omega (arith, sum_by-append text_of (attr_names t v.child.id) (v.entry.name ∷ []), sum_by-cons text_of v.entry.name [], sum_by_push attributes_of seen v.child.id)

  -- the attributes of what was not seen before, and the entries
  used-visits : (visits : List Visit) (seen : List ℕ)
      → used b (visits_names t seen visits) + sum_by attributes_of seen ≡ sum_by attributes_of (all_seen seen visits) + count_by (λ v. is_eq (bytes_cmp b v.entry.name)) visits
  used-visits [] seen = omega arith
  used-visits (v ∷ visits) seen =
      omega (
        arith,
        sum_by-append text_of ((cond (is_among seen v.child.id) [] (attr_names t v.child.id)) ++ v.entry.name ∷ []) (visits_names t (seen_after seen v) visits),
        used-visit v seen (is_among seen v.child.id),
        used-visits visits (seen_after seen v),
        sum_by-cons entry_of v visits,
      )

  -- so many as the tree has
  pub copied_name_count-tree : (whole : Tree) → Represents t whole → (top : ℕ) (r : Inode) → inode_at t top ≡ Some r → (name : List ℕ) (order : List ℕ) (visits : List Visit)
      → AreVisitsOf t order top visits
      → copied_name_count t top name visits b ≡ is_own b name + sum_by (entries_at b whole) order + sum_by (attributes_at b whole) order
  copied_name_count-tree whole same top r there name order visits are =
      let rest : List (List ℕ) = visits_names t (top ∷ []) visits in
      let attributes = agree_among attributes_of (attributes_at b whole) (all_seen (top ∷ []) visits) (λ x among. sym (attributes_of_row x among)) in
      let entries = agree_among (λ x. count_by (is_of t x b) visits) (entries_at b whole) (all_seen (top ∷ []) visits) entries_of_row in
      let by_inode = visits_by_inode t top b visits are.each in
      let in_order : sum_by (entries_at b whole) (all_seen (top ∷ []) visits) ≡ sum_by (entries_at b whole) order = ap (sum_by (entries_at b whole)) are.order_is in
      let in_order_too : sum_by (attributes_at b whole) (all_seen (top ∷ []) visits) ≡ sum_by (attributes_at b whole) order = ap (sum_by (attributes_at b whole)) are.order_is in
      omega (
        arith,
        sum_by-append text_of (attr_names t top ++ name ∷ []) rest,
        sum_by-append text_of (attr_names t top) (name ∷ []),
        sum_by-cons text_of name [],
        sum_by-cons attributes_of top [],
        used-visits visits (top ∷ []),
        attributes,
        entries,
        by_inode,
        in_order,
        in_order_too,
      )
    where
      has_row : (x : ℕ) → is_among (all_seen (top ∷ []) visits) x ≡ true → IsTrue (is_some (inode_at t x))
      has_row x among = row_seen t x visits (top ∷ []) [] are.each first among
        where
          first : is_among (top ∷ []) x ≡ true → IsTrue (is_some (inode_at t x))
          first is = ap (λ k. is_some (inode_at t k)) (sym (eqb-true top x (sym (or_none (top == x)) ∙ is))) ∙ ap is_some there
            where
              or_none : (c : Bool) → (c || false) ≡ c
              or_none true = refl
              or_none false = refl

      attributes_of_row : (x : ℕ) → is_among (all_seen (top ∷ []) visits) x ≡ true → attributes_at b whole x ≡ used b (attr_names t x)
      attributes_of_row x among =
          let row = some_row (inode_at t x) (has_row x among) in
          attributes_at-row b t whole same x row.0 row.1

      entries_of_row : (x : ℕ) → is_among (all_seen (top ∷ []) visits) x ≡ true → count_by (is_of t x b) visits ≡ entries_at b whole x
      entries_of_row x among =
          let row = some_row (inode_at t x) (has_row x among) in
          visits_of_inode b t whole same x row.0 row.1 (top ∷ []) order visits are.each are.complete (ap (λ s. is_among s x) (sym are.order_is) ∙ among)

-- Where the chain of parents of an inode leads to the root, no more steps than there are inodes do.
use Rattle.std.proofs.Common.{◌≡◌, ◌<◌, ℕ, zero, suc, length, Bool, true, false, Option, None, Some, refl, sym, ap, ◌∙◌, subst, ◌⊎◌, inl, inr, arith, eqb-true}
use Rattle.std.specs.Prelude.{IsTrue, not, ◌||◌, ◌==◌, count_by, find, option_map}
use Rattle.std.specs.List.{list_all}
use Rattle.std.proofs.lemmas.List.Sums.{count_by-le-length}
use Rattle.std.proofs.lemmas.Bool.{and_parts}
use Rattle.s3_rows.specs.Rows.{Inode, Content}
use Rattle.s3_rows.specs.Keyed.{has_key}
use Rattle.s3_rows.specs.Tables.{Tables, by_inode}
use Rattle.s3_rows.specs.Selections.{inode_at}
use Rattle.s3_base.specs.Numbers.{root}
use Rattle.s3_rows.specs.Validity.{finds_of_entry, has_inode, any_kind, parent_of, leads_to_root}
use Rattle.row_lemmas.proofs.Tests.{find_passes, find_passes_all}
use Rattle.tree_rows.proofs.Whole.{number_of}
use Rattle.tree_rows.proofs.Validity.Each.{count_by_same_or_more}
use Rattle.tree_rows.proofs.Validity.Entries.{is_of_kind}

-- the root, or in so many steps from the parent
abbrev step_to_root : ℕ → Tables → Bool → Option ℕ → Bool
step_to_root steps t here parent = here || elim parent [ Some p ↦ leads_to_root steps t p | None ↦ false ]

module _ (t : Tables) where
  root_leads : (steps x : ℕ) → (x == root) ≡ true → IsTrue (leads_to_root steps t x)
  root_leads zero x here = here
  root_leads (suc steps) x here = ap (λ b. step_to_root steps t b (parent_of t x)) here

  one_more : (steps x : ℕ) → IsTrue (leads_to_root steps t x) → IsTrue (leads_to_root (suc steps) t x)
  one_more zero x leads = ap (λ b. step_to_root zero t b (parent_of t x)) leads
  one_more (suc steps) x leads = by_case (one_more steps) (x == root) (parent_of t x) leads
    where
      by_case : ((y : ℕ) → IsTrue (leads_to_root steps t y) → IsTrue (leads_to_root (suc steps) t y))
          → (here : Bool) (parent : Option ℕ)
          → IsTrue (step_to_root steps t here parent) → IsTrue (step_to_root (suc steps) t here parent)
      by_case further true parent up = refl
      by_case further false None up = absurd (cc up)
      by_case further false (Some p) up = further p up

  -- one step more leads no further
  abbrev IsEnough : ℕ → Type 0
  IsEnough steps = (x : ℕ) → IsTrue (leads_to_root (suc steps) t x) → IsTrue (leads_to_root steps t x)

  IsEnough-suc : (steps : ℕ) → IsEnough steps → IsEnough (suc steps)
  IsEnough-suc steps enough x leads = by_case (x == root) (parent_of t x) leads
    where
      by_case : (here : Bool) (parent : Option ℕ) → IsTrue (step_to_root (suc steps) t here parent)
          → IsTrue (step_to_root steps t here parent)
      by_case true parent up = refl
      by_case false None up = absurd (cc up)
      by_case false (Some p) up = enough p up

  -- then no number of steps leads further
  all_within : (most : ℕ) → IsEnough most → (steps x : ℕ) → IsTrue (leads_to_root steps t x)
      → IsTrue (leads_to_root most t x)
  all_within most enough zero x leads = root_leads most x leads
  all_within most enough (suc steps) x leads =
      by_case (all_within most enough steps) (x == root) refl (parent_of t x) refl leads
    where
      by_case : ((y : ℕ) → IsTrue (leads_to_root steps t y) → IsTrue (leads_to_root most t y)) → (here : Bool)
          → (x == root) ≡ here → (parent : Option ℕ) → parent_of t x ≡ parent
          → IsTrue (step_to_root steps t here parent) → IsTrue (leads_to_root most t x)
      by_case further true here parent is up = root_leads most x here
      by_case further false here None is up = absurd (cc up)
      by_case further false here (Some p) is up =
          enough x
          (ap (λ (b : Bool). step_to_root most t b (parent_of t x)) here ∙ ap (step_to_root most t false) is
          ∙ further p up)

  -- ---- as many steps as there are inodes

  -- the rows of inodes from which so many steps lead to the root
  abbrev leads_in : ℕ → Inode → Bool
  leads_in steps r = leads_to_root steps t r.id

  module _ (finds : IsTrue (list_all (finds_of_entry t) t.contents)) where
    -- an inode without row has no parent
    parent_there : (x : ℕ) → inode_at t x ≡ None → parent_of t x ≡ None
    parent_there x none = by_case (find (λ (c : Content). c.inode == x) t.contents) refl
      where
        by_case : (found : Option Content) → find (λ (c : Content). c.inode == x) t.contents ≡ found
            → option_map (λ (c : Content). c.parent) found ≡ None
        by_case None is = refl
        by_case (Some c) is =
            let number : c.inode ≡ x =
            eqb-true c.inode x (find_passes (λ (y : Content). y.inode == x) t.contents c is) in
            let there : IsTrue (has_inode any_kind t c.inode) =
            (and_parts _ (has_inode any_kind t c.inode)
            (find_passes_all (λ (y : Content). y.inode == x) (finds_of_entry t) t.contents c finds is)).1 in
            let clash : false ≡ true =
            sym (ap (is_of_kind any_kind) (ap (inode_at t) number ∙ none)) ∙ there in
            absurd (cc clash)

    IsEnough-from_rows : (steps : ℕ)
        → IsTrue (list_all (λ r. not (leads_in (suc steps) r) || leads_in steps r) t.inodes) → IsEnough steps
    IsEnough-from_rows steps all x leads = by_row (inode_at t x) refl
      where
        passed : (a b : Bool) → IsTrue (not a || b) → IsTrue a → IsTrue b
        passed true b is own = is
        passed false b is own = absurd (cc own)

        by_parent : (here : Bool) → (x == root) ≡ here → IsTrue (step_to_root steps t here None)
            → IsTrue (leads_to_root steps t x)
        by_parent true here up = root_leads steps x here
        by_parent false here up = absurd (cc up)

        by_row : (row : Option Inode) → inode_at t x ≡ row → IsTrue (leads_to_root steps t x)
        by_row None is =
            by_parent (x == root) refl (sym (ap (step_to_root steps t (x == root)) (parent_there x is)) ∙ leads)
        by_row (Some r) is =
            let number : x ≡ r.id = number_of t x r is in
            let test : IsTrue (not (leads_in (suc steps) r) || leads_in steps r) =
            find_passes_all (has_key by_inode x)
            (λ (y : Inode). not (leads_in (suc steps) y) || leads_in steps y) t.inodes r all is in
            subst (λ y. IsTrue (leads_to_root steps t y)) (sym number)
            (passed (leads_in (suc steps) r) (leads_in steps r) test
            (subst (λ y. IsTrue (leads_to_root (suc steps) t y)) number leads))

    -- so many steps are enough, or one more leads from more inodes to the root
    IsEnough-or_step : (steps : ℕ)
        → IsEnough steps ⊎ (count_by (leads_in steps) t.inodes < count_by (leads_in (suc steps)) t.inodes)
    IsEnough-or_step steps =
        by_case (count_by_same_or_more (leads_in steps) (leads_in (suc steps)) (λ r. one_more steps r.id) t.inodes)
      where
        by_case : IsTrue (list_all (λ r. not (leads_in (suc steps) r) || leads_in steps r) t.inodes)
            ⊎ (count_by (leads_in steps) t.inodes < count_by (leads_in (suc steps)) t.inodes)
            → IsEnough steps ⊎ (count_by (leads_in steps) t.inodes < count_by (leads_in (suc steps)) t.inodes)
        by_case (inl all) = inl (IsEnough-from_rows steps all)
        by_case (inr more) = inr more

    -- and so from more than there are steps
    IsEnough-or_more : (steps : ℕ) → IsEnough steps ⊎ (steps < count_by (leads_in (suc steps)) t.inodes)
    IsEnough-or_more zero = by_case (IsEnough-or_step zero)
      where
        by_case : IsEnough zero ⊎ (count_by (leads_in zero) t.inodes < count_by (leads_in (suc zero)) t.inodes)
            → IsEnough zero ⊎ (zero < count_by (leads_in (suc zero)) t.inodes)
        by_case (inl enough) = inl enough
        by_case (inr step) = inr (omega (arith, step))
    IsEnough-or_more (suc steps) = by_case (IsEnough-or_more steps) (IsEnough-or_step (suc steps))
      where
        by_case : IsEnough steps ⊎ (steps < count_by (leads_in (suc steps)) t.inodes)
            → IsEnough (suc steps)
            ⊎ (count_by (leads_in (suc steps)) t.inodes < count_by (leads_in (suc (suc steps))) t.inodes)
            → IsEnough (suc steps) ⊎ (suc steps < count_by (leads_in (suc (suc steps))) t.inodes)
        by_case (inl enough) step = inl (IsEnough-suc steps enough)
        by_case (inr more) (inl enough) = inl enough
        by_case (inr more) (inr step) = inr (omega (arith, more, step))

    pub leads_to_root_within_inodes : (steps x : ℕ) → IsTrue (leads_to_root steps t x)
        → IsTrue (leads_to_root (length t.inodes) t x)
    leads_to_root_within_inodes = all_within (length t.inodes) (by_case (IsEnough-or_more (length t.inodes)))
      where
        by_case : IsEnough (length t.inodes) ⊎ (length t.inodes < count_by (leads_in (suc (length t.inodes))) t.inodes)
            → IsEnough (length t.inodes)
        by_case (inl enough) = enough
        by_case (inr more) =
            absurd (omega (arith, more, count_by-le-length (leads_in (suc (length t.inodes))) t.inodes))

-- What occurs along runs.
use Rattle.std.proofs.Common.{ℕ, List, [], ◌∷◌, ◌++◌, subst, inl, inr}
use Rattle.std.specs.Prelude.{Contains}
use Rattle.std.specs.List.{flat_map}
use Rattle.std.proofs.lemmas.List.Elements.{Contains-append_left, Contains-append_right, Contains-append_cases}
use Rattle.plain_tree.specs.Tree.{Tree}
use Rattle.plain_tree.specs.Calls.{Answered, tree_after_reply, trees_along, tree_at_end}
use Rattle.tree_rows.specs.Contents.{Contents}
use Rattle.core_model.specs.Occurring.{blocks_in, occurring, values_of}
use Rattle.core_model.proofs.Elements.{Contains-none, Contains-first, Contains-later, Contains-cases, Contains-flat_map, Contains-flat_map_more}

-- ---- trees_along

pub trees_along-first : (t : Tree) (run : List Answered) → Contains (trees_along t run) t
trees_along-first t [] = Contains-first t []
trees_along-first t (a ∷ run) = Contains-first t (trees_along (tree_after_reply t a) run)

pub trees_along-last : (t : Tree) (run : List Answered) → Contains (trees_along t run) (tree_at_end t run)
trees_along-last t [] = Contains-first t []
trees_along-last t (a ∷ run) = Contains-later t (trees_along (tree_after_reply t a) run) (tree_at_end t (a ∷ run)) (trees_along-last (tree_after_reply t a) run)

pub trees_along-append : (t : Tree) (run more : List Answered) (x : Tree) → Contains (trees_along t run) x → Contains (trees_along t (run ++ more)) x
trees_along-append t [] more x there =
    elim (Contains-cases t [] x there) [
      | inl same ↦ (let P : Tree → Type 0 = λ y. Contains (trees_along t more) y in subst P same (trees_along-first t more))
      | inr none ↦ absurd (Contains-none x none)
    ]
trees_along-append t (a ∷ run) more x there =
    elim (Contains-cases t (trees_along (tree_after_reply t a) run) x there) [
      | inl same ↦ (let P : Tree → Type 0 = λ y. Contains (trees_along t (a ∷ (run ++ more))) y in subst P same (trees_along-first t (a ∷ (run ++ more))))
      | inr later ↦ Contains-later t (trees_along (tree_after_reply t a) (run ++ more)) x (trees_along-append (tree_after_reply t a) run more x later)
    ]

-- ---- occurring

pub occurring-append : (m : Contents) (t : Tree) (run more : List Answered) (b : List ℕ) → Contains (occurring m t run) b → Contains (occurring m t (run ++ more)) b
occurring-append m t run more b there =
    elim (Contains-append_cases (values_of m) (flat_map blocks_in (trees_along t run)) b there) [
      | inl own ↦ Contains-append_left (values_of m) (flat_map blocks_in (trees_along t (run ++ more))) b own
      | inr made ↦ Contains-append_right (values_of m) (flat_map blocks_in (trees_along t (run ++ more))) b
          (Contains-flat_map_more blocks_in (trees_along t run) (trees_along t (run ++ more)) b (trees_along-append t run more) made)
    ]

of_tree : (m : Contents) (t : Tree) (run : List Answered) (x : Tree) (b : List ℕ) → Contains (trees_along t run) x → Contains (blocks_in x) b → Contains (occurring m t run) b
of_tree m t run x b there own =
    Contains-append_right (values_of m) (flat_map blocks_in (trees_along t run)) b (Contains-flat_map blocks_in (trees_along t run) x b there own)

pub occurring-first : (m : Contents) (t : Tree) (run : List Answered) (b : List ℕ) → Contains (blocks_in t) b → Contains (occurring m t run) b
occurring-first m t run b = of_tree m t run t b (trees_along-first t run)

pub occurring-last : (m : Contents) (t : Tree) (run : List Answered) (b : List ℕ) → Contains (blocks_in (tree_at_end t run)) b → Contains (occurring m t run) b
occurring-last m t run b = of_tree m t run (tree_at_end t run) b (trees_along-last t run)

-- Whether some entry of a tree names an inode, and how many do.
use Rattle.std.proofs.Common.{◌≡◌, ℕ, ◌+◌, List, [], ◌∷◌, Bool, true, false, sym, ap, ◌∙◌, refl, arith, eqb-true, eq-eqb}
use Rattle.std.specs.Prelude.{IsTrue, not, ◌||◌, ◌==◌, sum_by}
use Rattle.std.specs.List.{list_all, list_any}
use Rattle.std.proofs.lemmas.List.Sums.{sum_by-cons}
use Rattle.std.proofs.lemmas.Bool.{and_parts}
use Rattle.plain_tree.specs.Tree as tree
use Rattle.plain_tree.specs.Tree.{Node, Tree}
use Rattle.plain_tree.specs.Attributes.{names_in}
use Rattle.plain_tree.specs.Entries.{entries_of, is_named}
use Rattle.plain_tree.specs.WellFormed.{entries_naming}
use Rattle.row_lemmas.proofs.Tests.{false_from_not, list_all_from_list_any}
use Rattle.row_lemmas.proofs.Sums.{count_by_none, list_any_from_count_by}

unnamed_in : (inode : ℕ) (content : tree.Content) → names_in inode content ≡ 0 → list_any (λ entry. entry.1 == inode) (entries_of content) ≡ false
unnamed_in inode (tree.Directory entries) none = list_any_from_count_by (λ (entry : List ℕ × ℕ). entry.1 == inode) entries none
unnamed_in inode (tree.Regular bytes) none = refl
unnamed_in inode (tree.Link target) none = refl

pub unnamed : (inode : ℕ) (nodes : List (ℕ × Node)) → sum_by (λ e. names_in inode e.1.content) nodes ≡ 0 → list_any (λ e. list_any (λ entry. entry.1 == inode) (entries_of e.1.content)) nodes ≡ false
unnamed inode [] none = refl
unnamed inode (e ∷ es) none =
    let one : ℕ × Node → ℕ = λ x. names_in inode x.1.content in
    let all : names_in inode e.1.content + sum_by one es ≡ 0 = sym (sum_by-cons one e es) ∙ none in
    ap (λ b. b || list_any (λ (x : ℕ × Node). list_any (λ (entry : List ℕ × ℕ). entry.1 == inode) (entries_of x.1.content)) es) (unnamed_in inode e.1.content (omega (arith, all)))
    ∙ unnamed inode es (omega (arith, all))

counts_none_in : (inode : ℕ) (content : tree.Content) → list_any (λ entry. entry.1 == inode) (entries_of content) ≡ false → names_in inode content ≡ 0
counts_none_in inode (tree.Directory entries) none =
    count_by_none (λ (entry : List ℕ × ℕ). entry.1 == inode) entries (list_all_from_list_any (λ (entry : List ℕ × ℕ). entry.1 == inode) entries (ap not none))
counts_none_in inode (tree.Regular bytes) none = refl
counts_none_in inode (tree.Link target) none = refl

abbrev names : ℕ → ℕ × Node → Bool
names inode e = list_any (λ entry. entry.1 == inode) (entries_of e.1.content)

counts_none : (inode : ℕ) (nodes : List (ℕ × Node)) → IsTrue (list_all (λ e. not (names inode e)) nodes) → sum_by (λ e. names_in inode e.1.content) nodes ≡ 0
counts_none inode [] none = refl
counts_none inode (e ∷ es) none =
    let one : ℕ × Node → ℕ = λ x. names_in inode x.1.content in
    let parts = and_parts (not (names inode e)) (list_all (λ x. not (names inode x)) es) none in
    omega (arith, sum_by-cons one e es, counts_none_in inode e.1.content (false_from_not (names inode e) parts.0), counts_none inode es parts.1)

pub is_named-entries_naming : (t : Tree) (inode : ℕ) → is_named t inode ≡ not (entries_naming t inode == 0)
is_named-entries_naming t inode = by_case (is_named t inode) refl (entries_naming t inode == 0) refl
  where
    by_case : (b : Bool) → is_named t inode ≡ b → (c : Bool) → (entries_naming t inode == 0) ≡ c → b ≡ not c
    by_case true is true none =
        let clash : true ≡ false = sym is ∙ unnamed inode t.nodes (eqb-true (entries_naming t inode) 0 none) in
        absurd (cc clash)
    by_case true is false some = refl
    by_case false is true none = refl
    by_case false is false some =
        let none : entries_naming t inode ≡ 0 = counts_none inode t.nodes (list_all_from_list_any (names inode) t.nodes (ap not is)) in
        let clash : false ≡ true = sym some ∙ eq-eqb (entries_naming t inode) 0 none in
        absurd (cc clash)

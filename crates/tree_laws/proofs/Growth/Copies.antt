-- How many entries name an inode after a copy.
use Rattle.std.proofs.Common.{◌≡◌, ◌≤◌, ◌<◌, ℕ, ◌+◌, List, [], ◌∷◌, ◌++◌, Bool, true, false, cond, Option, None, Some, refl, sym, ap, ◌∙◌, arith, inl, inr}
use Rattle.std.proofs.lemmas.Bool.{both_ways, eq-eqb, eqb-true, false_from_ne_true, or_cases, or_left, or_parts}
use Rattle.std.proofs.lemmas.List.Sums.{sum_by-cons}
use Rattle.std.specs.BTreeMap.{is_at}
use Rattle.std.specs.List.{list_any}
use Rattle.std.specs.Map.{keys_of, lookup}
use Rattle.std.specs.Ordering.{nat_cmp}
use Rattle.std.specs.Prelude.{◌==◌, ◌||◌, length, map, sum_by}
use Rattle.plain_tree.specs.Attributes.{names_in}
use Rattle.plain_tree.specs.Below.{is_among, at_and_below}
use Rattle.plain_tree.specs.Entries.{entries_of}
use Rattle.plain_tree.specs.Names.{Rise}
use Rattle.plain_tree.specs.Subtrees.{copied_content, copied_node, copies, copy_number}
use Rattle.plain_tree.specs.Tree.{Content, Regular, Directory, Link, Node, Tree, node_at}
use Rattle.plain_tree.specs.WellFormed.{IsWellFormed, entries_naming}
use Rattle.tree_laws.specs.Growth.{HaveFewNames}
use Rattle.tree_laws.proofs.Copy.Nodes.{place_of-one}
use Rattle.tree_laws.proofs.Copy.Numbers.{Fresh, visited_once}
use Rattle.tree_laws.proofs.Growth.Sums.{total-append}
use Rattle.tree_laws.proofs.Name.Order.{rise-found}
use Rattle.tree_laws.proofs.Node.Keys.{same_number}
use Rattle.tree_laws.proofs.Node.Kind.{entry_in, some_node}
use Rattle.tree_laws.proofs.Node.Reading.{lookup_below_next}
use Rattle.tree_laws.proofs.Shape.Below.{below_shape}
use Rattle.tree_laws.proofs.Shape.Count.{sum_none}
use Rattle.tree_laws.proofs.Shape.Named.{entry_named, named_at}

-- ---- the nodes of different inodes are no more than all nodes

module _ (g : Node → ℕ) where
  abbrev of_found : Option Node → ℕ
  of_found found = elim found [ Some node ↦ g node | None ↦ 0 ]

  -- what is found of an inode
  abbrev look : List (ℕ × Node) → ℕ → ℕ
  look es i = of_found (lookup (is_at (nat_cmp i)) es)

  -- a node that is none of the inodes changes nothing
  look_past : (e : ℕ × Node) (es : List (ℕ × Node)) (inodes : List ℕ) → is_among inodes e.0 ≡ false → sum_by (look (e ∷ es)) inodes ≡ sum_by (look es) inodes
  look_past e es [] none = refl
  look_past e es (i ∷ is) none =
      by_test (look_past e es is (or_parts (i == e.0) (is_among is e.0) none).1) (or_parts (i == e.0) (is_among is e.0) none).0 (is_at (nat_cmp i) e.0) refl
    where
      by_test : sum_by (look (e ∷ es)) is ≡ sum_by (look es) is → (i == e.0) ≡ false → (b : Bool) → is_at (nat_cmp i) e.0 ≡ b → sum_by (look (e ∷ es)) (i ∷ is) ≡ sum_by (look es) (i ∷ is)
      by_test rest apart true here =
          let same : (i == e.0) ≡ true = eq-eqb i e.0 (same_number i e.0 here) in
          absurd (both_ways (i == e.0) apart same)
      by_test rest apart false here =
          let head : look (e ∷ es) i ≡ look es i = ap (λ b. of_found (cond b (Some e.1) (lookup (is_at (nat_cmp i)) es))) here in
          omega (arith, sum_by-cons (look (e ∷ es)) i is, sum_by-cons (look es) i is, head, rest)

  fresh_apart : (seen inodes : List ℕ) (k : ℕ) → Fresh seen inodes → is_among seen k ≡ true → is_among inodes k ≡ false
  fresh_apart seen [] k fresh there = refl
  fresh_apart seen (j ∷ js) k fresh there =
      let rest : is_among js k ≡ false = fresh_apart (seen ++ j ∷ []) js k fresh.1 (among_front seen (j ∷ []) k there) in
      by_test rest (j == k) refl
    where
      among_front : (xs ys : List ℕ) (z : ℕ) → is_among xs z ≡ true → is_among (xs ++ ys) z ≡ true
      among_front [] ys z is = absurd (cc is)
      among_front (x ∷ xs) ys z is =
          elim (or_cases (x == z) (is_among xs z) is) [
            | inl here ↦ or_left (x == z) (is_among (xs ++ ys) z) here
            | inr later ↦ behind (x == z) (is_among (xs ++ ys) z) (among_front xs ys z later)
          ]
        where
          behind : (a b : Bool) → b ≡ true → (a || b) ≡ true
          behind true b is = refl
          behind false b is = is

      by_test : is_among js k ≡ false → (b : Bool) → (j == k) ≡ b → (b || is_among js k) ≡ false
      by_test rest true same = absurd (both_ways (is_among seen k) (ap (λ z. is_among seen z) (sym (eqb-true j k same)) ∙ fresh.0) there)
      by_test rest false apart = rest

  -- one node more counts once at most
  look_one : (e : ℕ × Node) (es : List (ℕ × Node)) (seen inodes : List ℕ) → Fresh seen inodes → sum_by (look (e ∷ es)) inodes ≤ g e.1 + sum_by (look es) inodes
  look_one e es seen [] fresh = omega arith
  look_one e es seen (i ∷ is) fresh = by_test (look_one e es (seen ++ i ∷ []) is fresh.1) (is_at (nat_cmp i) e.0) refl
    where
      last_there : (xs : List ℕ) (z : ℕ) → is_among (xs ++ z ∷ []) z ≡ true
      last_there [] z = ap (λ b. b || false) (eq-eqb z z refl)
      last_there (x ∷ xs) z = behind (x == z) (is_among (xs ++ z ∷ []) z) (last_there xs z)
        where
          behind : (a b : Bool) → b ≡ true → (a || b) ≡ true
          behind true b is = refl
          behind false b is = is

      by_test : sum_by (look (e ∷ es)) is ≤ g e.1 + sum_by (look es) is → (b : Bool) → is_at (nat_cmp i) e.0 ≡ b → sum_by (look (e ∷ es)) (i ∷ is) ≤ g e.1 + sum_by (look es) (i ∷ is)
      by_test rest true here =
          let none : is_among is e.0 ≡ false =
          ap (λ z. is_among is z) (sym (same_number i e.0 here)) ∙ fresh_apart (seen ++ i ∷ []) is i fresh.1 (last_there seen i) in
          let head : look (e ∷ es) i ≡ g e.1 = ap (λ b. of_found (cond b (Some e.1) (lookup (is_at (nat_cmp i)) es))) here in
          omega (arith, sum_by-cons (look (e ∷ es)) i is, sum_by-cons (look es) i is, head, look_past e es is none)
      by_test rest false here =
          let head : look (e ∷ es) i ≡ look es i = ap (λ b. of_found (cond b (Some e.1) (lookup (is_at (nat_cmp i)) es))) here in
          omega (arith, sum_by-cons (look (e ∷ es)) i is, sum_by-cons (look es) i is, head, rest)

  look_none : (inodes : List ℕ) → sum_by (look []) inodes ≡ 0
  look_none [] = refl
  look_none (i ∷ is) = omega (arith, sum_by-cons (look []) i is, look_none is)

  look_all : (es : List (ℕ × Node)) (inodes : List ℕ) → Fresh [] inodes → sum_by (look es) inodes ≤ sum_by (λ e. g e.1) es
  look_all [] inodes fresh = omega (arith, look_none inodes)
  look_all (e ∷ es) inodes fresh = omega (arith, look_one e es [] inodes fresh, look_all es inodes fresh, sum_by-cons (λ (x : ℕ × Node). g x.1) e es)

-- ---- copies of entries

abbrev with_number : ℕ → List ℕ → List ℕ × ℕ → List ℕ × ℕ
with_number next order e = (e.0, copy_number next order e.1)

abbrev names_it : ℕ → List ℕ × ℕ → ℕ
names_it y e = cond (e.1 == y) 1 0

module _ (next : ℕ) (order : List ℕ) (y : ℕ) where
  -- where only one inode has the number
  copied_fewer : (x : ℕ) → ((z : ℕ) → copy_number next order z ≡ y → z ≡ x) → (es : List (List ℕ × ℕ)) → sum_by (names_it y) (map (with_number next order) es) ≤ sum_by (names_it x) es
  copied_fewer x only [] = omega arith
  copied_fewer x only (e ∷ es) = by_tests (copied_fewer x only es) (copy_number next order e.1 == y) (e.1 == x) refl refl
    where
      by_tests : sum_by (names_it y) (map (with_number next order) es) ≤ sum_by (names_it x) es → (a b : Bool) → (copy_number next order e.1 == y) ≡ a → (e.1 == x) ≡ b
          → sum_by (names_it y) (with_number next order e ∷ map (with_number next order) es) ≤ sum_by (names_it x) (e ∷ es)
      by_tests rest a true one two =
          let whole : sum_by (names_it x) (e ∷ es) ≡ 1 + sum_by (names_it x) es = sum_by-cons (names_it x) e es ∙ ap (λ b. cond b 1 0 + sum_by (names_it x) es) two in
          omega (arith, sum_by-cons (names_it y) (with_number next order e) (map (with_number next order) es), at_most (copy_number next order e.1 == y), whole, rest)
        where
          at_most : (b : Bool) → cond b 1 0 ≤ 1
          at_most true = let one : 1 ≤ 1 = omega arith in one
          at_most false = let none : 0 ≤ 1 = omega arith in none
      by_tests rest true false one two =
          let same : (e.1 == x) ≡ true = eq-eqb e.1 x (only e.1 (eqb-true (copy_number next order e.1) y one)) in
          absurd (both_ways (e.1 == x) two same)
      by_tests rest false false one two =
          let part : sum_by (names_it y) (with_number next order e ∷ map (with_number next order) es) ≡ 0 + sum_by (names_it y) (map (with_number next order) es) =
          sum_by-cons (names_it y) (with_number next order e) (map (with_number next order) es) ∙ ap (λ b. cond b 1 0 + sum_by (names_it y) (map (with_number next order) es)) one in
          let whole : sum_by (names_it x) (e ∷ es) ≡ 0 + sum_by (names_it x) es = sum_by-cons (names_it x) e es ∙ ap (λ b. cond b 1 0 + sum_by (names_it x) es) two in
          omega (arith, part, whole, rest)

  -- where no entry has it
  copied_none : (es : List (List ℕ × ℕ)) → ((z : ℕ) → list_any (λ e. e.1 == z) es ≡ true → copy_number next order z ≡ y → ⊥) → sum_by (names_it y) (map (with_number next order) es) ≡ 0
  copied_none [] none = refl
  copied_none (e ∷ es) none =
      by_test (copied_none es (λ z there. none z (behind (e.1 == z) (list_any (λ f. f.1 == z) es) there))) (copy_number next order e.1 == y) refl
    where
      behind : (a b : Bool) → b ≡ true → (a || b) ≡ true
      behind true b is = refl
      behind false b is = is

      by_test : sum_by (names_it y) (map (with_number next order) es) ≡ 0 → (a : Bool) → (copy_number next order e.1 == y) ≡ a → sum_by (names_it y) (with_number next order e ∷ map (with_number next order) es) ≡ 0
      by_test rest true is =
          absurd (none e.1 (or_left (e.1 == e.1) (list_any (λ f. f.1 == e.1) es) (eq-eqb e.1 e.1 refl)) (eqb-true (copy_number next order e.1) y is))
      by_test rest false is =
          let one : sum_by (names_it y) (with_number next order e ∷ map (with_number next order) es) ≡ 0 + sum_by (names_it y) (map (with_number next order) es) =
          sum_by-cons (names_it y) (with_number next order e) (map (with_number next order) es) ∙ ap (λ b. cond b 1 0 + sum_by (names_it y) (map (with_number next order) es)) is in
          omega (arith, one, rest)

  content_fewer : (x : ℕ) → ((z : ℕ) → copy_number next order z ≡ y → z ≡ x) → (content : Content) → names_in y (copied_content next order content) ≤ names_in x content
  content_fewer x only (Directory entries) = copied_fewer x only entries
  content_fewer x only (Regular bytes) = omega arith
  content_fewer x only (Link target) = omega arith

  content_none : (content : Content) → ((z : ℕ) → list_any (λ e. e.1 == z) (entries_of content) ≡ true → copy_number next order z ≡ y → ⊥) → names_in y (copied_content next order content) ≡ 0
  content_none (Directory entries) none = copied_none entries none
  content_none (Regular bytes) none = refl
  content_none (Link target) none = refl

-- ---- copies of nodes

abbrev in_node : ℕ → Node → ℕ
in_node y node = names_in y node.content

module _ (t : Tree) (now y : ℕ) (order : List ℕ) where
  abbrev of_copies : List ℕ → ℕ
  of_copies inodes = sum_by (λ e. in_node y e.1) (copies t order now inodes)

  copies_fewer : (x : ℕ) → ((z : ℕ) → copy_number t.next_inode order z ≡ y → z ≡ x) → (inodes : List ℕ) → of_copies inodes ≤ sum_by (look (in_node x) t.nodes) inodes
  copies_fewer x only [] = omega arith
  copies_fewer x only (i ∷ is) = by_node (copies_fewer x only is) (node_at t i) refl
    where
      by_node : of_copies is ≤ sum_by (look (in_node x) t.nodes) is → (found : Option Node) → node_at t i ≡ found
          → sum_by (λ e. in_node y e.1) (elim found as (λ _. List (ℕ × Node)) [ Some node ↦ (copy_number t.next_inode order i, copied_node t.next_inode order now node) ∷ copies t order now is | None ↦ copies t order now is ])
          ≤ sum_by (look (in_node x) t.nodes) (i ∷ is)
      by_node rest (Some node) there =
          let head : look (in_node x) t.nodes i ≡ in_node x node = ap (of_found (in_node x)) there in
          omega (
            arith,
            sum_by-cons (λ (e : ℕ × Node). in_node y e.1) (copy_number t.next_inode order i, copied_node t.next_inode order now node) (copies t order now is),
            sum_by-cons (look (in_node x) t.nodes) i is,
            head,
            content_fewer t.next_inode order y x only node.content,
            rest,
          )
      by_node rest None there = omega (arith, sum_by-cons (look (in_node x) t.nodes) i is, rest)

  copies_none : ((i z : ℕ) (node : Node) → is_among order i ≡ true → node_at t i ≡ Some node → list_any (λ e. e.1 == z) (entries_of node.content) ≡ true → copy_number t.next_inode order z ≡ y → ⊥)
      → (inodes : List ℕ) → ((i : ℕ) → is_among inodes i ≡ true → is_among order i ≡ true) → of_copies inodes ≡ 0
  copies_none none [] within = refl
  copies_none none (i ∷ is) within =
      by_node (copies_none none is (λ j there. within j (behind (i == j) (is_among is j) there))) (node_at t i) refl
    where
      behind : (a b : Bool) → b ≡ true → (a || b) ≡ true
      behind true b is = refl
      behind false b is = is

      by_node : of_copies is ≡ 0 → (found : Option Node) → node_at t i ≡ found
          → sum_by (λ e. in_node y e.1) (elim found as (λ _. List (ℕ × Node)) [ Some node ↦ (copy_number t.next_inode order i, copied_node t.next_inode order now node) ∷ copies t order now is | None ↦ copies t order now is ]) ≡ 0
      by_node rest (Some node) there =
          let first : is_among order i ≡ true = within i (or_left (i == i) (is_among is i) (eq-eqb i i refl)) in
          let head : in_node y (copied_node t.next_inode order now node) ≡ 0 = content_none t.next_inode order y node.content (λ z any. none i z node first there any) in
          let whole = sum_by-cons (λ (e : ℕ × Node). in_node y e.1) (copy_number t.next_inode order i, copied_node t.next_inode order now node) (copies t order now is) in
          omega (arith, whole, head, rest)
      by_node rest None there = rest

-- ---- a copy of what lies at and below a directory

module _ (t : Tree) (well : IsWellFormed t) (source now most : ℕ) (few : HaveFewNames most t) (y : ℕ) where
  order : List ℕ
  order = at_and_below t source

  -- an inode that none has yet has no entry
  unnamed_yet : t.next_inode ≤ y → entries_naming t y ≡ 0
  unnamed_yet late =
      sum_none y t.nodes (false_from_ne_true (list_any (λ e. list_any (λ entry. entry.1 == y) (entries_of e.1.content)) t.nodes) nobody)
    where
      nobody : list_any (λ e. list_any (λ entry. entry.1 == y) (entries_of e.1.content)) t.nodes ≡ true → ⊥
      nobody any =
          let found = named_at y 0 t.nodes t.next_inode well.nodes well.names any in
          let node = some_node (node_at t y) (well.tree.entries found.0 y found.1 found.2) in
          let low : y < t.next_inode = lookup_below_next y 0 t.nodes t.next_inode node.0 well.nodes node.1 in
          omega (arith, low, late)

  late_number : (z : ℕ) → copy_number t.next_inode (at_and_below t source) z ≡ y → t.next_inode ≤ y
  late_number z is = omega (arith, is)

  -- the copies name it no oftener than some inode is named
  copies_few : entries_naming t y + sum_by (λ (e : ℕ × Node). in_node y e.1) (copies t (at_and_below t source) now (at_and_below t source)) ≤ most
  copies_few = by_any (list_any (λ x. copy_number t.next_inode (at_and_below t source) x == y) (at_and_below t source)) refl
    where
      member : (p : ℕ → Bool) (xs : List ℕ) → list_any p xs ≡ true → (x : ℕ) × (is_among xs x ≡ true) × (p x ≡ true)
      member p [] any = absurd (cc any)
      member p (x ∷ xs) any =
          elim (or_cases (p x) (list_any p xs) any) [
            | inl here ↦ (x, or_left (x == x) (is_among xs x) (eq-eqb x x refl), here)
            | inr later ↦ (let found = member p xs later in (found.0, behind (x == found.0) (is_among xs found.0) found.1, found.2))
          ]
        where
          behind : (a b : Bool) → b ≡ true → (a || b) ≡ true
          behind true b is = refl
          behind false b is = is

      others : (p : ℕ → Bool) (xs : List ℕ) (x : ℕ) → list_any p xs ≡ false → is_among xs x ≡ true → p x ≡ true → ⊥
      others p [] x none there passes = cc there
      others p (z ∷ zs) x none there passes =
          let parts = or_parts (p z) (list_any p zs) none in
          elim (or_cases (z == x) (is_among zs x) there) [
            | inl here ↦ both_ways (p z) parts.0 (ap p (eqb-true z x here) ∙ passes)
            | inr later ↦ others p zs x parts.1 later passes
          ]

      by_any : (b : Bool) → list_any (λ x. copy_number t.next_inode (at_and_below t source) x == y) (at_and_below t source) ≡ b
          → entries_naming t y + sum_by (λ (e : ℕ × Node). in_node y e.1) (copies t (at_and_below t source) now (at_and_below t source)) ≤ most
      by_any true any =
          let x = member (λ x. copy_number t.next_inode (at_and_below t source) x == y) (at_and_below t source) any in
          let number : copy_number t.next_inode (at_and_below t source) x.0 ≡ y = eqb-true _ y x.2 in
          let only : (z : ℕ) → copy_number t.next_inode (at_and_below t source) z ≡ y → z ≡ x.0 =
          λ z is. sym (place_of-one (at_and_below t source) x.0 z x.1 (omega (arith, number, is))) in
          omega (
            arith,
            unnamed_yet (late_number x.0 number),
            copies_fewer t now y (at_and_below t source) x.0 only (at_and_below t source),
            look_all (in_node x.0) t.nodes (at_and_below t source) (visited_once t source),
            few x.0,
          )
      by_any false none =
          let nothing : sum_by (λ (e : ℕ × Node). in_node y e.1) (copies t (at_and_below t source) now (at_and_below t source)) ≡ 0 =
          copies_none t now y (at_and_below t source)
          (λ i z node among there any is.
          others (λ x. copy_number t.next_inode (at_and_below t source) x == y) (at_and_below t source) z none (inside i z node among there any) (eq-eqb _ y is))
          (at_and_below t source) (λ i there. there) in
          omega (arith, nothing, few y)
        where
          inside : (i z : ℕ) (node : Node) → is_among (at_and_below t source) i ≡ true → node_at t i ≡ Some node → list_any (λ e. e.1 == z) (entries_of node.content) ≡ true
              → is_among (at_and_below t source) z ≡ true
          inside i z node among there any =
              let found = entry_named z node.content (rising i node there) any in
              (below_shape t well.names source).down i z found.0 among (ap (entry_in found.0) there ∙ found.1)
            where
              rising : (k : ℕ) (n : Node) → node_at t k ≡ Some n → Rise (keys_of (entries_of n.content))
              rising k n is = rise-found (is_at (nat_cmp k)) t.nodes n well.names is

  pub names-with_copies : entries_naming (record t { next_inode = t.next_inode + length (at_and_below t source); nodes = t.nodes ++ copies t (at_and_below t source) now (at_and_below t source) }) y ≤ most
  names-with_copies = omega (arith, total-append (in_node y) t.nodes (copies t (at_and_below t source) now (at_and_below t source)), copies_few)

-- A tree that loses an entry, and the node that it named where nothing keeps that: whatever is locked, it stays well formed.
use Rattle.std.proofs.Common.{◌≡◌, ◌≢◌, ◌≤◌, ◌^◌, ◌⊎◌, inl, inr, ℕ, List, [], ◌∷◌, Bool, true, false, cond, Option, None, Some, refl, sym, ap, ◌∙◌, subst}
use Rattle.std.proofs.lemmas.Bool.{cond_both, cases_eq}
use Rattle.std.specs.BTreeMap.{is_at}
use Rattle.std.specs.Cmp.Lexicographic.{slice_cmp}
use Rattle.std.specs.Map.{keys_of, set_value, values_of}
use Rattle.std.specs.Ordering.{nat_cmp}
use Rattle.std.specs.Prelude.{option_map}
use Rattle.s3_base.specs.declared.node_kind.Kind.{Kind}
use Rattle.s3_base.specs.declared.node_kind.Kind.TheVariants as kinds
use Rattle.s3_base.specs.Numbers.{root}
use Rattle.plain_tree.specs.Attributes.{kind_of}
use Rattle.plain_tree.specs.Entries.{drop_entry, entries_of, entry_at, lives, settled, unnamed}
use Rattle.plain_tree.specs.Names.{AttributesRise, NamesRise, Rise}
use Rattle.plain_tree.specs.Numbers.{Ascend, HandlesInOrder, InOrder}
use Rattle.plain_tree.specs.Tree.{Content, Regular, Directory, Link, Handle, Node, Tree, change_node, changed_by, lost_and_found, node_at, stamped, touched, without_node}
use Rattle.plain_tree.specs.WellFormed.{AreAttributes, AreWithinLimits, HaveModes, IsWellFormed, IsWithinLimits}
use Rattle.tree_laws.proofs.Name.Rise.{Rise-remove_entry}
use Rattle.tree_laws.proofs.Node.Each.{Each, each-change_node, each-settled}
use Rattle.tree_laws.proofs.Node.Keys.{lookup-remove_entry_other, numbers_tell}
use Rattle.tree_laws.proofs.Node.Kind.{kind_in, none_from, none_some, one_some}
use Rattle.tree_laws.proofs.Node.Order.{InOrder-change_node, InOrder-settled, below_in_order}
use Rattle.tree_laws.proofs.Node.Reading.{lookup-remove_entry_same, node_at-change_node_other, node_at-change_node_same, node_at-changed_by_same}
use Rattle.tree_laws.proofs.Shape.Definition.{grown_of, orphans_of, tree_of}
use Rattle.tree_laws.proofs.Shape.Loss.{Grown-unlinked, Removes, Unlinks}
use Rattle.tree_laws.proofs.Shape.Steps.{Grown-stamped_settled, Sound}
use Rattle.tree_laws.proofs.Shape.Tree.{shape-change_node, shape-drop_entry, shape-without_node, shape_of}
use Rattle.tree_laws.proofs.Shape.Words.{Grown, IsPlace, NoneGoes, Same, Shape, cases_place, not_there}

-- ---- one node changed twice

twice_set : (test : ℕ → Bool) (es : List (ℕ × Node)) (a b : Node) → set_value test (set_value test es a) b ≡ set_value test es b
twice_set test [] a b = refl
twice_set test (e ∷ es) a b = by_case (twice_set test es a b) (test e.0) refl
  where
    by_case : set_value test (set_value test es a) b ≡ set_value test es b → (c : Bool) → test e.0 ≡ c
        → set_value test (cond c ((e.0, a) ∷ es) (e ∷ set_value test es a)) b ≡ cond c ((e.0, b) ∷ es) (e ∷ set_value test es b)
    by_case others true is = ap (λ c. cond c ((e.0, b) ∷ es) ((e.0, a) ∷ set_value test es b)) is
    by_case others false is = ap (λ c. cond c ((e.0, b) ∷ set_value test es a) (e ∷ set_value test (set_value test es a) b)) is ∙ ap (λ xs. e ∷ xs) others

pub twice_changed : (f g : Node → Node) (i : ℕ) (t : Tree) → change_node i g (change_node i f t) ≡ change_node i (λ node. g (f node)) t
twice_changed f g i t = by_node (node_at t i) refl
  where
    by_node : (found : Option Node) → node_at t i ≡ found → change_node i g (changed_by f found i t) ≡ changed_by (λ node. g (f node)) found i t
    by_node None is = ap (λ (found : Option Node). changed_by g found i t) is
    by_node (Some node) is =
        ap (λ (found : Option Node). changed_by g found i (changed_by f (Some node) i t)) (node_at-changed_by_same f node i t is)
        ∙ ap (λ (es : List (ℕ × Node)). record t { nodes = es }) (twice_set (is_at (nat_cmp i)) t.nodes (f node) (g (f node)))

-- ---- handles and numbers

pub record KeepsNumbers (t after : Tree) : Type 0 where
  pub handles : after.handles ≡ t.handles
  pub next_inode : after.next_inode ≡ t.next_inode
  pub next_handle : after.next_handle ≡ t.next_handle
  pub block_size : after.block_size ≡ t.block_size

pub KeepsNumbers-refl : (t : Tree) → KeepsNumbers t t
KeepsNumbers-refl t = record { handles = refl; next_inode = refl; next_handle = refl; block_size = refl }

pub KeepsNumbers-trans : (t middle after : Tree) → KeepsNumbers t middle → KeepsNumbers middle after → KeepsNumbers t after
KeepsNumbers-trans t middle after a b = record {
  handles = b.handles ∙ a.handles;
  next_inode = b.next_inode ∙ a.next_inode;
  next_handle = b.next_handle ∙ a.next_handle;
  block_size = b.block_size ∙ a.block_size;
}

KeepsNumbers-change_node : (f : Node → Node) (i : ℕ) (t : Tree) → KeepsNumbers t (change_node i f t)
KeepsNumbers-change_node f i t = by_node (node_at t i)
  where
    by_node : (found : Option Node) → KeepsNumbers t (changed_by f found i t)
    by_node None = KeepsNumbers-refl t
    by_node (Some node) = record { handles = refl; next_inode = refl; next_handle = refl; block_size = refl }

KeepsNumbers-settled : (x : ℕ) (t : Tree) → KeepsNumbers t (settled x t)
KeepsNumbers-settled x t =
    cond_both (lives t x) t (without_node x t) (λ (after : Tree). KeepsNumbers t after) (λ is. KeepsNumbers-refl t)
    (λ is. record { handles = refl; next_inode = refl; next_handle = refl; block_size = refl })

-- ---- what holds of each node

abbrev IsGood : Node → Type 0
IsGood node = (Rise (keys_of (entries_of node.content)) × Rise (keys_of node.attributes)) × ((IsWithinLimits node.content × AreAttributes node.attributes) × (node.mode ≤ 4095))

good_nodes : (es : List (ℕ × Node)) → NamesRise (values_of es) → AttributesRise (values_of es) → AreWithinLimits es → HaveModes es → Each IsGood es
good_nodes [] names attributes limits modes = _
good_nodes (e ∷ es) names attributes limits modes =
    (((names.0, attributes.0), ((limits.0, limits.1), modes.0)), good_nodes es names.1 attributes.1 limits.2 modes.1)

names_from : (es : List (ℕ × Node)) → Each IsGood es → NamesRise (values_of es)
names_from [] each = _
names_from (e ∷ es) each = (each.0.0.0, names_from es each.1)

attributes_from : (es : List (ℕ × Node)) → Each IsGood es → AttributesRise (values_of es)
attributes_from [] each = _
attributes_from (e ∷ es) each = (each.0.0.1, attributes_from es each.1)

limits_from : (es : List (ℕ × Node)) → Each IsGood es → AreWithinLimits es
limits_from [] each = _
limits_from (e ∷ es) each = (each.0.1.0.0, each.0.1.0.1, limits_from es each.1)

modes_from : (es : List (ℕ × Node)) → Each IsGood es → HaveModes es
modes_from [] each = _
modes_from (e ∷ es) each = (each.0.1.1, modes_from es each.1)

-- ---- an entry less

-- a node without the entry of a name, at times
abbrev pub lose : ℕ → ℕ → List ℕ → Node → Node
lose m k name node = record node { mtime = m; ctime = k; content = unnamed name node.content }

abbrev pub less : ℕ → ℕ → ℕ → List ℕ → Tree → Tree
less m k p name t = change_node p (lose m k name) t

rise-unnamed : (name : List ℕ) (content : Content) → Rise (keys_of (entries_of content)) → Rise (keys_of (entries_of (unnamed name content)))
rise-unnamed name (Directory entries) rise = Rise-remove_entry (is_at (slice_cmp nat_cmp name)) entries rise
rise-unnamed name (Regular bytes) rise = rise
rise-unnamed name (Link target) rise = rise

limit-unnamed : (name : List ℕ) (content : Content) → IsWithinLimits content → IsWithinLimits (unnamed name content)
limit-unnamed name (Directory entries) within = within
limit-unnamed name (Regular bytes) within = within
limit-unnamed name (Link target) within = within

good-lose : (m k : ℕ) (name : List ℕ) (node : Node) → IsGood node → IsGood (lose m k name node)
good-lose m k name node good =
    ((rise-unnamed name node.content good.0.0, good.0.1), ((limit-unnamed name node.content good.1.0.0, good.1.0.1), good.1.1))

Unlinks-same : (v w z : Shape) (p : ℕ) (n : List ℕ) → Unlinks v w p n → Same w z → Unlinks v z p n
Unlinks-same v w z p n unlinks same = record {
  kind = λ y. same.kind y ∙ unlinks.kind y;
  opened = λ y. same.opened y ∙ unlinks.opened y;
  gone = same.entry p n ∙ unlinks.gone;
  rest = λ q by differs. same.entry q by ∙ unlinks.rest q by differs;
}

-- what is left of nodes and entries
pub record Loses (t after : Tree) (m k now p x : ℕ) (name : List ℕ) : Type 0 where
  pub numbers : KeepsNumbers t after
  pub gone : entry_at after p name ≡ None
  pub rest : (q : ℕ) (by : List ℕ) → (IsPlace p name q by → ⊥) → entry_at after q by ≡ entry_at t q by
  pub kind : (y : ℕ) (kind : Kind) → kind_in (node_at after y) ≡ Some kind → kind_in (node_at t y) ≡ Some kind
  pub others : (y : ℕ) → y ≢ p → y ≢ x → node_at after y ≡ node_at t y
  pub parent : node_at after p ≡ option_map (lose m k name) (node_at t p)
  pub child : (node_at after x ≡ None) ⊎ (node_at after x ≡ option_map (stamped now) (node_at t x))
  pub folder : kind_in (node_at t x) ≡ Some kinds.Directory → node_at after x ≡ None

module _ (t : Tree) (well : IsWellFormed t) (m k now p x : ℕ) (name : List ℕ) (names : entry_at t p name ≡ Some x) (free : IsPlace root lost_and_found p name → ⊥)
    (empty : (by : List ℕ) → entry_at t x by ≡ None) where
  abbrev one : Tree
  one = less m k p name t

  abbrev pub marked : Tree
  marked = change_node x (stamped now) one

  abbrev pub after : Tree
  after = settled x marked

  grown : Grown NoneGoes (shape_of t)
  grown = grown_of t well.nodes well.names well.tree well.orphans

  unlinks : Unlinks (shape_of t) (shape_of one) p name
  unlinks =
      let times : Node → Node = λ node. record node { mtime = m; ctime = k } in
      let dropped : Tree = drop_entry p name now t in
      subst (λ (u : Tree). Unlinks (shape_of t) (shape_of u) p name) (twice_changed (λ node. touched now (record node { content = unnamed name node.content })) times p t)
      (Unlinks-same (shape_of t) (shape_of dropped) (shape_of (change_node p times dropped)) p name (shape-drop_entry p name now t well.names)
      (shape-change_node times (λ node. refl) (λ by node. refl) p dropped))

  ordered_one : InOrder one
  ordered_one = InOrder-change_node (lose m k name) p t well.nodes

  good_one : Each IsGood one.nodes
  good_one = each-change_node IsGood (lose m k name) (good-lose m k name) p t (good_nodes t.nodes well.names well.attributes well.rules.nodes well.modes)

  good_after : Each IsGood after.nodes
  good_after = each-settled IsGood x marked (each-change_node IsGood (stamped now) (λ node good. good) x one good_one)

  ordered_marked : InOrder marked
  ordered_marked = InOrder-change_node (stamped now) x one ordered_one

  numbers : KeepsNumbers t after
  numbers =
      KeepsNumbers-trans t one after (KeepsNumbers-change_node (lose m k name) p t)
      (KeepsNumbers-trans one marked after (KeepsNumbers-change_node (stamped now) x one) (KeepsNumbers-settled x marked))

  handles_in_order : HandlesInOrder after
  handles_in_order =
      subst (λ (handles : List (ℕ × Handle)). Ascend 0 (keys_of handles) after.next_handle) (sym numbers.handles)
      (subst (λ next. Ascend 0 (keys_of t.handles) next) (sym numbers.next_handle) well.handles)

  sound : Sound after
  sound = record {
    ordered = InOrder-settled x marked ordered_marked;
    names = names_from after.nodes good_after;
    below = below_in_order after handles_in_order;
    grown = Grown-stamped_settled x now one ordered_one (names_from one.nodes good_one) (Grown-unlinked (shape_of t) (shape_of one) p x name unlinks grown names free empty);
  }

  marks : Same (shape_of one) (shape_of marked)
  marks = shape-change_node (stamped now) (λ node. refl) (λ by node. refl) x one

  removes : Removes (shape_of marked) (shape_of (without_node x marked)) x
  removes = shape-without_node x marked ordered_marked

  -- x has no entry, before and after
  still_empty : (by : List ℕ) → entry_at marked x by ≡ None
  still_empty by =
      elim (cases_place p name x by) [
        | inl place ↦
            let clash : None ≡ Some x = sym (empty by) ∙ (λ i. entry_at t (place.0 i) (place.1 i)) ∙ names in
            absurd (cc clash)
        | inr differs ↦ marks.entry x by ∙ unlinks.rest x by differs ∙ empty by
      ]

  entry_settled : (q : ℕ) (by : List ℕ) → entry_at after q by ≡ entry_at marked q by
  entry_settled q by =
      cond_both (lives marked x) marked (without_node x marked) (λ (u : Tree). entry_at u q by ≡ entry_at marked q by) (λ is. refl)
      (λ is. elim (cases_eq q x) [
        | inl same ↦ ap (λ y. entry_at (without_node x marked) y by) same ∙ removes.none by ∙ sym (still_empty by) ∙ ap (λ y. entry_at marked y by) (sym same)
        | inr apart ↦ removes.entry q by apart
      ])

  entry_gone : entry_at after p name ≡ None
  entry_gone = entry_settled p name ∙ marks.entry p name ∙ unlinks.gone

  entry_rest : (q : ℕ) (by : List ℕ) → (IsPlace p name q by → ⊥) → entry_at after q by ≡ entry_at t q by
  entry_rest q by differs = entry_settled q by ∙ marks.entry q by ∙ unlinks.rest q by differs

  fewer : (q y : ℕ) (by : List ℕ) → entry_at after q by ≡ Some y → entry_at t q by ≡ Some y
  fewer q y by is =
      elim (cases_place p name q by) [
        | inl place ↦ absurd (not_there (entry_at after) p name q by y place entry_gone is)
        | inr differs ↦ sym (entry_rest q by differs) ∙ is
      ]

  -- the tree without the entry is well formed
  pub IsWellFormed-after : IsWellFormed after
  IsWellFormed-after =
      record {
        nodes = sound.ordered;
        handles = handles_in_order;
        names = sound.names;
        attributes = attributes_from after.nodes good_after;
        tree = tree_of after sound (λ q y by is. well.tree.names q y by (fewer q y by is));
        orphans = orphans_of after sound;
        rules = record {
          nodes = limits_from after.nodes good_after;
          next_inode = subst (λ n. n ≤ 2 ^ 62) (sym numbers.next_inode) well.rules.next_inode;
          next_handle = subst (λ n. n ≤ 2 ^ 62) (sym numbers.next_handle) well.rules.next_handle;
        };
        modes = modes_from after.nodes good_after;
      }

  kind_settled : (y : ℕ) (kind : Kind) → kind_in (node_at after y) ≡ Some kind → kind_in (node_at marked y) ≡ Some kind
  kind_settled y kind =
      cond_both (lives marked x) marked (without_node x marked) (λ (u : Tree). kind_in (node_at u y) ≡ Some kind → kind_in (node_at marked y) ≡ Some kind) (λ is found. found)
      (λ is found. elim (cases_eq y x) [
        | inl same ↦ absurd (none_some (kind_in (node_at (without_node x marked) x)) kind removes.gone (ap (λ z. kind_in (node_at (without_node x marked) z)) (sym same) ∙ found))
        | inr apart ↦ sym (removes.kind y apart) ∙ found
      ])

  kind_before : (y : ℕ) (kind : Kind) → kind_in (node_at after y) ≡ Some kind → kind_in (node_at t y) ≡ Some kind
  kind_before y kind is = sym (marks.kind y ∙ unlinks.kind y) ∙ kind_settled y kind is

  apart_parent : p ≢ x
  apart_parent same = none_some (entry_at t x name) x (empty name) (ap (λ q. entry_at t q name) (sym same) ∙ names)

  node_settled : (y : ℕ) → y ≢ x → node_at after y ≡ node_at one y
  node_settled y apart =
      cond_both (lives marked x) marked (without_node x marked) (λ (u : Tree). node_at u y ≡ node_at marked y) (λ is. refl)
      (λ is. lookup-remove_entry_other nat_cmp numbers_tell x y marked.nodes apart)
      ∙ node_at-change_node_other (stamped now) x y one apart

  child_left : (node_at after x ≡ None) ⊎ (node_at after x ≡ option_map (stamped now) (node_at t x))
  child_left =
      cond_both (lives marked x) marked (without_node x marked) (λ (u : Tree). (node_at u x ≡ None) ⊎ (node_at u x ≡ option_map (stamped now) (node_at t x)))
      (λ is. inr (node_at-change_node_same (stamped now) x one ∙ ap (option_map (stamped now)) (node_at-change_node_other (lose m k name) p x t (λ same. apart_parent (sym same)))))
      (λ is. inl (lookup-remove_entry_same x 0 marked.nodes marked.next_inode ordered_marked))

  -- a directory that no entry names any more is gone
  folder_gone : kind_in (node_at t x) ≡ Some kinds.Directory → node_at after x ≡ None
  folder_gone folder =
      none_from (node_at after x) (λ node is.
      let own : kind_in (node_at after x) ≡ Some (kind_of node.content) = ap kind_in is in
      let same : kind_of node.content ≡ kinds.Directory = one_some (kind_in (node_at t x)) (kind_of node.content) kinds.Directory (kind_before x (kind_of node.content) own) folder in
      let orphan = sound.grown.orphans x (kind_of node.content) (λ no. no) own (λ same. grown.top p name (names ∙ ap Some same))
      (λ q by also.
      let place = grown.once p q x name by folder names (fewer q x by also) in
      not_there (entry_at after) p name q by x place entry_gone also) in
      let clash : kinds.Directory ≡ kinds.Regular = sym same ∙ orphan.0 in
      absurd (cc clash))

  pub loses : Loses t after m k now p x name
  loses = record {
    numbers = numbers;
    gone = entry_gone;
    rest = entry_rest;
    kind = kind_before;
    others = λ y not_parent not_child. node_settled y not_child ∙ node_at-change_node_other (lose m k name) p y t not_parent;
    parent = node_settled p apart_parent ∙ node_at-change_node_same (lose m k name) p t;
    child = child_left;
    folder = folder_gone;
  }

  pub folder_dead : kind_in (node_at t x) ≡ Some kinds.Directory → lives marked x ≡ false
  folder_dead folder = by_case (lives marked x) refl
    where
      by_case : (b : Bool) → lives marked x ≡ b → b ≡ false
      by_case true alive =
          let gone : node_at marked x ≡ None = sym (ap (λ b. node_at (cond b marked (without_node x marked)) x) alive) ∙ folder_gone folder in
          absurd (none_some (kind_in (node_at marked x)) kinds.Directory (ap kind_in gone) (marks.kind x ∙ unlinks.kind x ∙ folder))
      by_case false dead = refl

-- The nodes and entries of a tree in which an entry has moved.
use Rattle.std.proofs.Common.{◌≡◌, ◌≢◌, ℕ, List, Bool, true, false, cond, Option, None, Some, IsSome, refl, sym, ap, ◌∙◌, ◌⊎◌, inl, inr, subst}
use Rattle.std.proofs.lemmas.Bool.{false_from_ne_true, or_from, cases_eq, ne_eqb}
use Rattle.std.specs.Option.{option_map}
use Rattle.std.specs.Ordering.{nat_cmp}
use Rattle.std.specs.Prelude.{◌==◌, ◌||◌}
use Rattle.s3_base.specs.declared.node_kind.Kind.TheVariants as kinds
use Rattle.plain_tree.specs.Entries.{entry_at, is_named, is_open, lives, settled, add_entry, drop_entry, unnamed}
use Rattle.plain_tree.specs.Names.{NamesInOrder}
use Rattle.plain_tree.specs.Numbers.{InOrder}
use Rattle.s3_base.specs.Numbers.{root}
use Rattle.plain_tree.specs.Tree.{Content, Directory, Node, Tree, node_at, change_node, changed_by, without_node, named, touched, stamped}
use Rattle.tree_laws.specs.Renames.{IsStamped, IsTouched}
use Rattle.tree_laws.proofs.Name.Order.{NamesInOrder-settled, NamesInOrder-add_entry, NamesInOrder-drop_entry, NamesInOrder-stamped}
use Rattle.tree_laws.proofs.Node.Keys.{numbers_tell, lookup-remove_entry_other}
use Rattle.tree_laws.proofs.Node.Kind.{kind_in, entry_in, none_some, kind_some, folder_entries}
use Rattle.tree_laws.proofs.Node.Order.{InOrder-change_node, InOrder-without_node}
use Rattle.tree_laws.proofs.Node.Reading.{lookup-remove_entry_same, node_at-change_node_same, node_at-change_node_other}
use Rattle.tree_laws.proofs.Shape.Gain.{Moves}
use Rattle.tree_laws.proofs.Shape.Loss.{Unlinks, Removes}
use Rattle.tree_laws.proofs.Shape.Named.{dead_is, not_named}
use Rattle.tree_laws.proofs.Shape.Tree.{shape_of, shape-change_node, shape-drop_entry, Links, shape-add_entry, shape-without_node}
use Rattle.tree_laws.proofs.Shape.Words.{IsUnnamed, IsPlace, Same}

-- ---- what a change of one node leaves

-- handles and numbers are as before
pub record SameFrame (t after : Tree) : Type 0 where
  pub handles : after.handles ≡ t.handles
  pub next_inode : after.next_inode ≡ t.next_inode
  pub next_handle : after.next_handle ≡ t.next_handle
  pub block_size : after.block_size ≡ t.block_size

frame_trans : (a b c : Tree) → SameFrame a b → SameFrame b c → SameFrame a c
frame_trans a b c first second = record {
  handles = second.handles ∙ first.handles;
  next_inode = second.next_inode ∙ first.next_inode;
  next_handle = second.next_handle ∙ first.next_handle;
  block_size = second.block_size ∙ first.block_size;
}

frame_by : (f : Node → Node) (found : Option Node) (i : ℕ) (t : Tree) → SameFrame t (changed_by f found i t)
frame_by f None i t = record { handles = refl; next_inode = refl; next_handle = refl; block_size = refl }
frame_by f (Some node) i t = record { handles = refl; next_inode = refl; next_handle = refl; block_size = refl }

frame_change : (f : Node → Node) (i : ℕ) (t : Tree) → SameFrame t (change_node i f t)
frame_change f i t = frame_by f (node_at t i) i t

-- ---- directories whose entries change

abbrev edited : ℕ → (Content → Content) → Node → Node
edited now g node = touched now (record node { content = g node.content })

-- a change of contents that leaves a directory one
abbrev KeepsFolders : (Content → Content) → Type 0
KeepsFolders g = (old : List (List ℕ × ℕ)) → (new : List (List ℕ × ℕ)) × (g (Directory old) ≡ Directory new)

-- a directory that is edited is touched
touched_first : (now : ℕ) (g : Content → Content) → KeepsFolders g → (i : ℕ) (t : Tree) (before : Option Node) → node_at t i ≡ before → kind_in before ≡ Some kinds.Directory
    → IsTouched now before (node_at (change_node i (edited now g) t) i)
touched_first now g keeps i t before same folder =
    let found = kind_some before kinds.Directory folder in
    let entries = folder_entries found.0.content found.2 in
    let new = keeps entries.0 in
    record {
      node = found.0;
      old = entries.0;
      new = new.0;
      was = found.1;
      was_directory = entries.1;
      is = node_at-change_node_same (edited now g) i t ∙ ap (option_map (edited now g)) (same ∙ found.1)
          ∙ ap (λ c. Some (touched now (record found.0 { content = c }))) (ap g entries.1 ∙ new.1);
    }

-- and one that was touched, and is edited again
touched_again : (now : ℕ) (g : Content → Content) → KeepsFolders g → (i : ℕ) (t : Tree) (before : Option Node) → IsTouched now before (node_at t i)
    → IsTouched now before (node_at (change_node i (edited now g) t) i)
touched_again now g keeps i t before touches =
    let new = keeps touches.new in
    record {
      node = touches.node;
      old = touches.old;
      new = new.0;
      was = touches.was;
      was_directory = touches.was_directory;
      is = node_at-change_node_same (edited now g) i t ∙ ap (option_map (edited now g)) touches.is
          ∙ ap (λ c. Some (touched now (record touches.node { content = c }))) new.1;
    }

pub touched_on : (now : ℕ) (before found after : Option Node) → IsTouched now before found → after ≡ found → IsTouched now before after
touched_on now before found after touches same = subst (IsTouched now before) (sym same) touches

-- a directory that was touched stays so where any directory is edited
touched_through : (now : ℕ) (g : Content → Content) → KeepsFolders g → (i y : ℕ) (t : Tree) (before : Option Node) → IsTouched now before (node_at t y)
    → IsTouched now before (node_at (change_node i (edited now g) t) y)
touched_through now g keeps i y t before touches =
    elim (cases_eq y i) [
      | inl same ↦
          subst (λ k. IsTouched now before (node_at (change_node i (edited now g) t) k)) (sym same)
          (touched_again now g keeps i t before (subst (λ k. IsTouched now before (node_at t k)) same touches))
      | inr apart ↦ touched_on now before (node_at t y) (node_at (change_node i (edited now g) t) y) touches (node_at-change_node_other (edited now g) i y t apart)
    ]

keeps_unnamed : (name : List ℕ) → KeepsFolders (unnamed name)
keeps_unnamed name old = (_, refl)

keeps_named : (name : List ℕ) (inode : ℕ) → KeepsFolders (named name inode)
keeps_named name inode old = (_, refl)

-- ---- an entry that moves

-- the entry has moved, and the node that it names is stamped
abbrev pub moved_to : ℕ → List ℕ → ℕ → List ℕ → ℕ → ℕ → Tree → Tree
moved_to p n np nn x now t = change_node x (stamped now) (add_entry np nn x now (drop_entry np nn now (drop_entry p n now t)))

-- the trees on the way
module _ (t : Tree) (p np x now : ℕ) (n nn : List ℕ) where
  abbrev one : Tree
  one = drop_entry p n now t

  abbrev two : Tree
  two = drop_entry np nn now one

  abbrev three : Tree
  three = add_entry np nn x now two

  abbrev after : Tree
  after = moved_to p n np nn x now t

  pub shape-moved_to : NamesInOrder t → kind_in (node_at t np) ≡ Some kinds.Directory → (IsPlace np nn p n → ⊥) → Moves (shape_of t) (shape_of after) p n np nn x
  shape-moved_to names folder differs =
      let first : Unlinks (shape_of t) (shape_of one) p n = shape-drop_entry p n now t names in
      let second : Unlinks (shape_of one) (shape_of two) np nn = shape-drop_entry np nn now one (NamesInOrder-drop_entry p n now t names) in
      let links : Links (shape_of two) (shape_of three) np nn x = shape-add_entry np nn x now two (second.kind np ∙ first.kind np ∙ folder) in
      let same : Same (shape_of three) (shape_of after) = shape-change_node (stamped now) (λ node. refl) (λ name node. refl) x three in
      record {
        kind = λ y. same.kind y ∙ links.kind y ∙ second.kind y ∙ first.kind y;
        opened = λ y. same.opened y ∙ links.opened y ∙ second.opened y ∙ first.opened y;
        here = same.entry np nn ∙ links.here;
        gone = same.entry p n ∙ links.rest p n differs ∙ second.rest p n differs ∙ first.gone;
        rest = λ q m old new. same.entry q m ∙ links.rest q m new ∙ second.rest q m new ∙ first.rest q m old;
      }

  pub InOrder-moved_to : InOrder t → InOrder after
  InOrder-moved_to ordered = InOrder-change_node (stamped now) x three (InOrder-change_node _ np two (InOrder-change_node _ np one (InOrder-change_node _ p t ordered)))

  pub NamesInOrder-moved_to : NamesInOrder t → NamesInOrder after
  NamesInOrder-moved_to names = NamesInOrder-stamped now x three (NamesInOrder-add_entry np nn x now two (NamesInOrder-drop_entry np nn now one (NamesInOrder-drop_entry p n now t names)))

  pub SameFrame-moved_to : SameFrame t after
  SameFrame-moved_to =
      frame_trans t one after (frame_change _ p t) (frame_trans one two after (frame_change _ np one) (frame_trans two three after (frame_change _ np two) (frame_change (stamped now) x three)))

  -- the node of another than the directories, before it is stamped
  before_stamp : (y : ℕ) → y ≢ p → y ≢ np → node_at three y ≡ node_at t y
  before_stamp y old new = node_at-change_node_other _ np y two new ∙ node_at-change_node_other _ np y one new ∙ node_at-change_node_other _ p y t old

  pub node_at-moved_to_other : (y : ℕ) → y ≢ x → y ≢ p → y ≢ np → node_at after y ≡ node_at t y
  node_at-moved_to_other y apart old new = node_at-change_node_other (stamped now) x y three apart ∙ before_stamp y old new

  pub node_at-moved_to_same : x ≢ p → x ≢ np → node_at after x ≡ option_map (stamped now) (node_at t x)
  node_at-moved_to_same old new = node_at-change_node_same (stamped now) x three ∙ ap (option_map (stamped now)) (before_stamp x old new)

  old_parent : kind_in (node_at t p) ≡ Some kinds.Directory → p ≢ x → IsTouched now (node_at t p) (node_at after p)
  old_parent folder apart =
      let first : IsTouched now (node_at t p) (node_at one p) = touched_first now (unnamed n) (keeps_unnamed n) p t (node_at t p) refl folder in
      let second : IsTouched now (node_at t p) (node_at two p) = touched_through now (unnamed nn) (keeps_unnamed nn) np p one (node_at t p) first in
      let third : IsTouched now (node_at t p) (node_at three p) = touched_through now (named nn x) (keeps_named nn x) np p two (node_at t p) second in
      touched_on now (node_at t p) (node_at three p) (node_at after p) third (node_at-change_node_other (stamped now) x p three apart)

  new_parent : kind_in (node_at t np) ≡ Some kinds.Directory → np ≢ x → np ≢ p → IsTouched now (node_at t np) (node_at after np)
  new_parent folder apart differs =
      let second : IsTouched now (node_at t np) (node_at two np) = touched_first now (unnamed nn) (keeps_unnamed nn) np one (node_at t np) (node_at-change_node_other _ p np t differs) folder in
      let third : IsTouched now (node_at t np) (node_at three np) = touched_again now (named nn x) (keeps_named nn x) np two (node_at t np) second in
      touched_on now (node_at t np) (node_at three np) (node_at after np) third (node_at-change_node_other (stamped now) x np three apart)

  -- both directories are touched
  pub moved_to-touches : kind_in (node_at t p) ≡ Some kinds.Directory → kind_in (node_at t np) ≡ Some kinds.Directory → x ≢ p → x ≢ np → (y : ℕ) → (y ≡ p) ⊎ (y ≡ np)
      → IsTouched now (node_at t y) (node_at after y)
  moved_to-touches folder new_folder old new y (inl same) = subst (λ k. IsTouched now (node_at t k) (node_at after k)) (sym same) (old_parent folder (λ is. old (sym is)))
  moved_to-touches folder new_folder old new y (inr same) =
      elim (cases_eq y p) [
        | inl also ↦ subst (λ k. IsTouched now (node_at t k) (node_at after k)) (sym also) (old_parent folder (λ is. old (sym is)))
        | inr apart ↦ subst (λ k. IsTouched now (node_at t k) (node_at after k)) (sym same) (new_parent new_folder (λ is. new (sym is)) (λ is. apart (same ∙ is)))
      ]

-- ---- a node that is stamped, and goes where nothing keeps it

-- a node is stamped, or gone where nothing keeps it
pub record Settles (r now : ℕ) (t after : Tree) : Type 0 where
  pub others : (y : ℕ) → y ≢ r → node_at after y ≡ node_at t y
  pub itself : ((lives after r ≡ true) × (node_at after r ≡ option_map (stamped now) (node_at t r))) ⊎ ((lives after r ≡ false) × (node_at after r ≡ None))
  pub frame : SameFrame t after

-- what nothing kept is kept by nothing when it is gone
still_dead : (r : ℕ) (t : Tree) → InOrder t → NamesInOrder t → lives t r ≡ false → NamesInOrder (without_node r t) → lives (without_node r t) r ≡ false
still_dead r t ordered names dead left =
    let after : Tree = without_node r t in
    let parts = dead_is t r dead in
    let removes : Removes (shape_of t) (shape_of after) r = shape-without_node r t ordered in
    let unnamed : IsUnnamed (shape_of after) r = λ q m is.
    elim (cases_eq q r) [
      | inl same ↦ none_some (entry_at after r m) r (removes.none m) (ap (λ k. entry_at after k m) (sym same) ∙ is)
      | inr apart ↦ parts.0 q m (sym (removes.entry q m apart) ∙ is)
    ] in
    or_from (r == root || is_named after r) (is_open after r) (or_from (r == root) (is_named after r) (ne_eqb r root parts.2) (not_named after (InOrder-without_node r t ordered) left r unnamed))
    (false_from_ne_true (is_open after r) parts.1)

settles_if : (r now : ℕ) (t : Tree) → InOrder t → NamesInOrder t → (test : Bool) → lives (change_node r (stamped now) t) r ≡ test
    → Settles r now t (cond test (change_node r (stamped now) t) (without_node r (change_node r (stamped now) t)))
settles_if r now t ordered names true is = record {
  others = λ y apart. node_at-change_node_other (stamped now) r y t apart;
  itself = inl (is, node_at-change_node_same (stamped now) r t);
  frame = frame_change (stamped now) r t;
}
settles_if r now t ordered names false is =
    let six : Tree = change_node r (stamped now) t in
    let six_ordered : InOrder six = InOrder-change_node (stamped now) r t ordered in
    let six_names : NamesInOrder six = NamesInOrder-stamped now r t names in
    let left : NamesInOrder (without_node r six) = subst (λ b. NamesInOrder (cond b six (without_node r six))) is (NamesInOrder-settled r six six_names) in
    let same : SameFrame t six = frame_change (stamped now) r t in
    record {
      others = λ y apart. lookup-remove_entry_other nat_cmp numbers_tell r y six.nodes apart ∙ node_at-change_node_other (stamped now) r y t apart;
      itself = inr (still_dead r six six_ordered six_names is left, lookup-remove_entry_same r 0 six.nodes six.next_inode six_ordered);
      frame = record { handles = same.handles; next_inode = same.next_inode; next_handle = same.next_handle; block_size = same.block_size };
    }

pub Settles-settled : (r now : ℕ) (t : Tree) → InOrder t → NamesInOrder t → Settles r now t (settled r (change_node r (stamped now) t))
Settles-settled r now t ordered names = settles_if r now t ordered names (lives (change_node r (stamped now) t) r) refl

-- a node that is stamped has the entries that it had
stamped_entry : (now : ℕ) (m : List ℕ) (found : Option Node) → entry_in m (option_map (stamped now) found) ≡ entry_in m found
stamped_entry now m None = refl
stamped_entry now m (Some node) = refl

settled_itself : (r now : ℕ) (t after : Tree) → Settles r now t after → (m : List ℕ) → entry_at t r m ≡ None → entry_at after r m ≡ None
settled_itself r now t after settles m none =
    elim settles.itself [
      | inl stays ↦ ap (entry_in m) stays.1 ∙ stamped_entry now m (node_at t r) ∙ none
      | inr goes ↦ ap (entry_in m) goes.1
    ]

-- where the node has no entries, every entry is as before
pub settled_entry : (r now : ℕ) (t after : Tree) → Settles r now t after → ((m : List ℕ) → entry_at t r m ≡ None) → (q : ℕ) (m : List ℕ) → entry_at after q m ≡ entry_at t q m
settled_entry r now t after settles empty q m =
    elim (cases_eq q r) [
      | inl same ↦
          ap (λ k. entry_at after k m) same ∙ settled_itself r now t after settles m (empty m) ∙ sym (empty m) ∙ ap (λ k. entry_at t k m) (sym same)
      | inr apart ↦ ap (entry_in m) (settles.others q apart)
    ]

stamped_found : (now : ℕ) (found after : Option Node) (node : Node) → found ≡ Some node → after ≡ option_map (stamped now) found → IsStamped now found after
stamped_found now found after node was is = record { node = node; was = was; is = is ∙ ap (option_map (stamped now)) was }

-- a node that was there is stamped
pub is_stamped : (now : ℕ) (found after : Option Node) → IsSome found → after ≡ option_map (stamped now) found → IsStamped now found after
is_stamped now None after there is = absurd (cc there)
is_stamped now (Some node) after there is = stamped_found now (Some node) after node refl is

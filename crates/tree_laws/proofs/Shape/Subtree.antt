-- The shape of a tree in which a subtree is locked or removed, a handle is closed, or a pass leaves.
use Rattle.std.proofs.Common.{◌≡◌, ◌≢◌, ℕ, List, Bool, true, false, cond, Option, None, Some, refl, sym, ap, ◌∙◌, inl, inr}
use Rattle.std.proofs.lemmas.Bool.{cond_both, or_left, or_right, false_from_ne_true, both_ways}
use Rattle.std.proofs.lemmas.Map.Entries.{lookup-filter-keys}
use Rattle.std.specs.BTreeMap.{is_at}
use Rattle.std.specs.List.{filter}
use Rattle.std.specs.Map.{lookup}
use Rattle.std.specs.Option.{option_map}
use Rattle.std.specs.Ordering.{nat_cmp}
use Rattle.std.specs.Prelude.{◌==◌, ◌||◌, ◌&&◌, not}
use Rattle.s3_base.specs.declared.node_kind.Kind.TheVariants as kinds
use Rattle.plain_tree.specs.Attributes.{kind_of}
use Rattle.plain_tree.specs.Below.{is_among, at_and_below}
use Rattle.plain_tree.specs.Entries.{is_directory, entry_at, is_named, is_open, lives, drop_entry}
use Rattle.plain_tree.specs.Names.{NamesInOrder}
use Rattle.plain_tree.specs.Numbers.{InOrder}
use Rattle.plain_tree.specs.Subtrees.{with_lock, left_over, without_directories, without_tree, without_pass}
use Rattle.s3_base.specs.Numbers.{root}
use Rattle.plain_tree.specs.Tree.{Node, Handle, Tree, node_at, entry_of, without_handle, stamped}
use Rattle.tree_laws.proofs.Name.Order.{NamesRise-filter, NamesInOrder-drop_entry}
use Rattle.tree_laws.proofs.Node.Ascend.{Ascend-filter}
use Rattle.tree_laws.proofs.Node.Handles.{filtered_was, closed_stays, closed_was}
use Rattle.tree_laws.proofs.Node.Keys.{same_number}
use Rattle.tree_laws.proofs.Node.Kind.{none_from, kind_in, entry_in, none_some, kind_some, entry_some, directory_kind, kind_directory, holds_directory}
use Rattle.tree_laws.proofs.Node.Order.{InOrder-change_node}
use Rattle.tree_laws.proofs.Node.Reading.{read_cond, read_mapped}
use Rattle.tree_laws.proofs.Node.Subtree.{held_part, outer_entry, outer_stays, outer_found, sifted_node, outside_left, left_over_found, left_of, locked_found, lock_within}
use Rattle.tree_laws.proofs.Shape.Branch.{Uproots}
use Rattle.tree_laws.proofs.Shape.Loss.{Unlinks, Closes, Sweeps}
use Rattle.tree_laws.proofs.Shape.Named.{is_named_by, dead_is, alive_is}
use Rattle.tree_laws.proofs.Shape.Tree.{shape_of, shape-drop_entry}
use Rattle.tree_laws.proofs.Shape.Words.{Same}

-- ---- a lock

-- a reading that a lock leaves
read_locked : {Y : Type 0} (h : Option Node → Y) → ((node : Node) → h (Some (record node { locked = true })) ≡ h (Some node)) → (x y : ℕ) (t : Tree) → h (node_at (with_lock x t) y) ≡ h (node_at t y)
read_locked h keeps x y t =
    ap h (locked_found (at_and_below t x) y t.nodes)
    ∙ read_mapped h (lock_within (is_among (at_and_below t x) y))
    (λ node. cond_both (is_among (at_and_below t x) y) (record node { locked = true }) node (λ new. h (Some new) ≡ h (Some node)) (λ is. keeps node) (λ is. refl)) (node_at t y)

pub shape-with_lock : (x : ℕ) (t : Tree) → Same (shape_of t) (shape_of (with_lock x t))
shape-with_lock x t = record {
  kind = λ y. read_locked kind_in (λ node. refl) x y t;
  entry = λ p n. read_locked (entry_in n) (λ node. refl) x p t;
  opened = λ y. refl;
}

-- ---- a handle that is closed

pub shape-without_handle : (number : ℕ) (handle : Handle) (t : Tree) → lookup (is_at (nat_cmp number)) t.handles ≡ Some handle → Closes (shape_of t) (shape_of (without_handle number t)) handle.inode
shape-without_handle number handle t is = record {
  kind = λ y. refl;
  entry = λ q m. refl;
  was = λ y any. closed_was y (is_at (nat_cmp number)) t.handles any;
  others = λ y apart any. closed_stays y (is_at (nat_cmp number)) t.handles handle is apart any;
}

-- ---- a pass that leaves

lives_found : (closed : Tree) (y : ℕ) (es : List (ℕ × Node)) → lookup (is_at (nat_cmp y)) (filter (λ e. lives closed e.0) es) ≡ cond (lives closed y) (lookup (is_at (nat_cmp y)) es) None
lives_found closed y es = lookup-filter-keys (is_at (nat_cmp y)) (lives closed) (lives closed y) (λ k is. ap (lives closed) (sym (same_number y k is))) es

pub shape-without_pass : (pass : ℕ) (t : Tree) → InOrder t → NamesInOrder t → Sweeps (shape_of t) (shape_of (without_pass pass t)) (lives (record t { handles = filter (λ h. not (h.1.pass == pass)) t.handles }))
shape-without_pass pass t ordered names =
    let closed : Tree = record t { handles = filter (λ h. not (h.1.pass == pass)) t.handles } in
    record {
      kind = λ y. ap kind_in (lives_found closed y t.nodes) ∙ read_cond kind_in refl (lives closed y) (node_at t y);
      entry = λ q m. ap (entry_in m) (lives_found closed q t.nodes) ∙ read_cond (entry_in m) refl (lives closed q) (node_at t q);
      was = λ y any. filtered_was y (λ h. not (h.1.pass == pass)) t.handles any;
      dead = λ y is. dead_is closed y is;
      alive = λ y is unnamed inner. alive_is closed ordered names y is unnamed inner;
    }

-- ---- a subtree that is removed

left_parts : (among alive folder : Bool) (now x : ℕ) (old node : Node) → among ≡ true
    → option_map (λ (p : ℕ × Node). p.1) (cond among (cond (alive && not folder) (Some (x, stamped now old)) None) (Some (x, old))) ≡ Some node
    → (alive ≡ true) × (folder ≡ false) × (node ≡ stamped now old)
left_parts false alive folder now x old node among is = absurd (cc among)
left_parts true true true now x old node among is = absurd (cc is)
left_parts true true false now x old node among is =
    let same : stamped now old ≡ node = cc is in
    (refl, refl, sym same)
left_parts true false folder now x old node among is = absurd (cc is)

gone_if : {X : Type 0} (below : List ℕ) (q : ℕ) (test : Bool) → is_among below q ≡ test → (is_among below q ≡ true → X) → (is_among below q ≡ false → X) → X
gone_if below q true test within out = within test
gone_if below q false test within out = out test

-- what is left of a node inside
left_inside : (below : List ℕ) (without : Tree) (now x : ℕ) (found : Option Node) → is_among below x ≡ true → (node : Node) → left_of (left_over without below now) x found ≡ Some node
    → (old : Node) × (found ≡ Some old) × (lives without x ≡ true) × (is_directory old.content ≡ false) × (node ≡ stamped now old)
left_inside below without now x None among node is = absurd (cc is)
left_inside below without now x (Some old) among node is =
    let parts = left_parts (is_among below x) (lives without x) (is_directory old.content) now x old node among is in
    (old, refl, parts.0, parts.1, parts.2)

lives_named : (t : Tree) (y : ℕ) → is_named t y ≡ true → lives t y ≡ true
lives_named t y is = or_left (y == root || is_named t y) (is_open t y) (or_right (y == root) (is_named t y) is)

lives_open : (t : Tree) (y : ℕ) → is_open t y ≡ true → lives t y ≡ true
lives_open t y is = or_right (y == root || is_named t y) (is_open t y) is

pub shape-without_tree : (p : ℕ) (n : List ℕ) (now x : ℕ) (t : Tree) → InOrder t → NamesInOrder t → kind_in (node_at t root) ≡ Some kinds.Directory
    → Uproots (shape_of t) (shape_of (without_tree p n now (Some x) t)) p n (is_among (at_and_below t x))
shape-without_tree p n now x t ordered names rooted =
    let below : List ℕ = at_and_below t x in
    let unlinked : Tree = drop_entry p n now t in
    let without : Tree = without_directories below unlinked in
    let after : Tree = without_tree p n now (Some x) t in
    let unlinks : Unlinks (shape_of t) (shape_of unlinked) p n = shape-drop_entry p n now t names in
    let in_order : InOrder unlinked = InOrder-change_node _ p t ordered in
    let rising : NamesInOrder unlinked = NamesInOrder-drop_entry p n now t names in
    let found : (y : ℕ) → node_at after y ≡ left_of (left_over without below now) y (node_at unlinked y) =
    λ y. left_over_found below without now y 0 unlinked.nodes unlinked.next_inode in_order in
    let outside : (y : ℕ) → is_among below y ≡ false → node_at after y ≡ node_at unlinked y = λ y out. found y ∙ outside_left below without now y (node_at unlinked y) out in
    let inside : (y : ℕ) (node : Node) → is_among below y ≡ true → node_at after y ≡ Some node
    → (old : Node) × (node_at unlinked y ≡ Some old) × (lives without y ≡ true) × (is_directory old.content ≡ false) × (node ≡ stamped now old) =
    λ y node among is. left_inside below without now y (node_at unlinked y) among node (sym (found y) ∙ is) in
    let sifts : (q : ℕ) → node_at without q ≡ sifted_node (λ e. not (is_among below e.0 && is_directory e.1.content)) q (node_at unlinked q) =
    λ q. outer_found below q 0 unlinked.nodes unlinked.next_inode in_order in
    let kept : (q : ℕ) → is_among below q ≡ false → node_at without q ≡ node_at unlinked q = λ q out. sifts q ∙ outer_stays below q (node_at unlinked q) out in
    let none : (q : ℕ) (m : List ℕ) → is_among below q ≡ true → entry_at after q m ≡ None =
    λ q m among.
    none_from (entry_at after q m)
    (λ y is.
    let new = entry_some m y (node_at after q) is in
    let old = inside q new.0 among new.1 in
    both_ways (is_directory old.0.content) old.3 (holds_directory old.0.content m y (sym (ap (λ (o : Node). entry_of o.content m) old.4) ∙ new.2))) in
    record {
      outside_kind = λ y out. ap kind_in (outside y out) ∙ unlinks.kind y;
      inside_kind = λ y k among is.
          let new = kind_some (node_at after y) k is in
          let old = inside y new.0 among new.1 in
          let same : kind_of old.0.content ≡ k = sym (ap (λ (o : Node). kind_of o.content) old.4) ∙ new.2 in
          (sym (unlinks.kind y) ∙ ap kind_in old.1 ∙ ap Some same, λ folder. both_ways (is_directory old.0.content) old.3 (kind_directory old.0.content (same ∙ folder)));
      stays = λ y k among is differs held.
          let old = kind_some (node_at unlinked y) k (unlinks.kind y ∙ is) in
          let alive : lives without y ≡ true = elim held [
            | inl from ↦
                let new = entry_some from.1 y (node_at after from.0) from.2 in
                let out : is_among below from.0 ≡ false = false_from_ne_true (is_among below from.0) (λ within. none_some (entry_at after from.0 from.1) y (none from.0 from.1 within) from.2) in
                lives_named without y
                (is_named_by without y from.0 from.1 (ap (entry_in from.1) (kept from.0 out ∙ sym (outside from.0 out)) ∙ from.2))
            | inr opened ↦ lives_open without y opened
          ] in
          ap kind_in (found y) ∙ ap (λ o. kind_in (left_of (left_over without below now) y o)) old.1
          ∙ ap kind_in (held_part (is_among below y) (lives without y) (is_directory old.0.content) now y old.0 among alive (false_from_ne_true (is_directory old.0.content) (λ folder. differs (sym old.2 ∙ directory_kind old.0.content folder)))) ∙ ap Some old.2;
      lives = λ y k among is unnamed.
          let new = kind_some (node_at after y) k is in
          let old = inside y new.0 among new.1 in
          let inner : y ≢ root = λ same.
          let two : Some kinds.Directory ≡ Some (kind_of old.0.content) = sym rooted ∙ sym (ap (λ z. kind_in (node_at t z)) same) ∙ sym (unlinks.kind y) ∙ ap kind_in old.1 in
          let folder : kinds.Directory ≡ kind_of old.0.content = cc two in
          both_ways (is_directory old.0.content) old.3 (kind_directory old.0.content (sym folder)) in
          alive_is without
          (Ascend-filter 0 (λ (e : ℕ × Node). not (is_among below e.0 && is_directory e.1.content)) unlinked.nodes unlinked.next_inode in_order)
          (NamesRise-filter (λ (e : ℕ × Node). not (is_among below e.0 && is_directory e.1.content)) unlinked.nodes rising)
          y old.2
          (λ q m names_y.
          let was = outer_entry below q m y (node_at unlinked q) (ap (entry_in m) (sym (sifts q)) ∙ names_y) in
          unnamed q m (ap (entry_in m) (outside q was.0) ∙ was.1)) inner;
      none = none;
      gone = gone_if below p (is_among below p) refl (λ among. none p n among) (λ out. ap (entry_in n) (outside p out) ∙ unlinks.gone);
      rest = λ q m out differs. ap (entry_in m) (outside q out) ∙ unlinks.rest q m differs;
      opened = λ y. unlinks.opened y;
    }

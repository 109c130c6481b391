-- A locked node through every operation.
use Rattle.std.proofs.Common.{◌≡◌, ◌≤◌, ◌<◌, ℕ, ◌+◌, List, Bool, true, false, cond, Option, None, Some, refl, sym, ap, ◌∙◌, inl, inr, subst, arith}
use Rattle.std.proofs.lemmas.Bool.{cases_eq}
use Rattle.std.proofs.lemmas.Map.Entries.{lookup-filter-keys}
use Rattle.std.specs.BTreeMap.{is_at}
use Rattle.std.specs.List.{filter}
use Rattle.std.specs.Map.{lookup}
use Rattle.std.specs.Option.{option_map}
use Rattle.std.specs.Ordering.{nat_cmp}
use Rattle.std.specs.Prelude.{◌==◌, not, ◌&&◌, length}
use Rattle.op_frames.specs.Replay.{Request}
use Rattle.op_frames.specs.declared.operation.Op.{Op}
use Rattle.plain_tree.specs.Below.{is_among, at_and_below}
use Rattle.plain_tree.specs.Calls.{tree_after_all}
use Rattle.plain_tree.specs.Checks.{lock_check}
use Rattle.plain_tree.specs.Entries.{is_directory, lives}
use Rattle.plain_tree.specs.Numbers.{InOrder}
use Rattle.plain_tree.specs.Operations.{tree_after}
use Rattle.plain_tree.specs.Subtrees.{copies, left_over, without_directories}
use Rattle.plain_tree.specs.Tree.{Node, Tree, node_at, change_node, changed_by, stamped, without_node}
use Rattle.tree_laws.specs.Locks.{IsKept}
use Rattle.tree_laws.proofs.Copy.Numbers.{copies_ascend}
use Rattle.tree_laws.proofs.Lock.Refusal.{locked_fails}
use Rattle.tree_laws.proofs.Node.Keys.{same_number, lookup-remove_entry_other, numbers_tell, lookup-append_before}
use Rattle.tree_laws.proofs.Node.Kind.{one_some}
use Rattle.tree_laws.proofs.Node.Order.{order_walk}
use Rattle.tree_laws.proofs.Node.Reading.{lookup_none_below, lookup_below_next, lookup-insert_entry_next, node_at-changed_by_same, node_at-change_node_other, lookup-remove_entry_same}
use Rattle.tree_laws.proofs.Node.Subtree.{lock_within, locked_found, left_of, left_over_found}
use Rattle.tree_laws.proofs.Walk.Calls.{walk-tree_after, kept-tree_after_all}
use Rattle.tree_laws.proofs.Walk.Edits.{Edit, Stamp, edited, IsAllowed, built}
use Rattle.tree_laws.proofs.Walk.Operations.{Walk}

-- ---- a node that stays or goes

-- what is found afterwards: nothing where nothing was, and a node that is kept where one was
abbrev pub Still : Option Node → Option Node → Type 0
Still None after = after ≡ None
Still (Some node) after = IsKept after node

still_same : (found : Option Node) → Still found found
still_same None = refl
still_same (Some node) = inr (node.ctime, refl)

still_equal : (found after : Option Node) → after ≡ found → Still found after
still_equal found after is = subst (λ a. Still found a) (sym is) (still_same found)

still_gone : (found : Option Node) → Still found None
still_gone None = refl
still_gone (Some node) = inl refl

kept_on : (node : Node) (later : Option Node) (time : ℕ) → Still (Some (stamped time node)) later → Still (Some node) later
kept_on node later time (inl gone) = inl gone
kept_on node later time (inr again) = inr again

still_later : (found after later : Option Node) → Still found after → Still after later → Still found later
still_later None after later first second = subst (λ a. Still a later) first second
still_later (Some node) after later (inl gone) second =
    let none : later ≡ None = subst (λ a. Still a later) gone second in
    inl none
still_later (Some node) after later (inr is) second = kept_on node later is.0 (subst (λ a. Still a later) is.1 second)

-- the node of an inode number, if there is one
abbrev IfThere : Tree → ℕ → (Node → Type 0) → Type 0
IfThere t x P = (node : Node) → node_at t x ≡ Some node → P node

-- the inode number was given, its node is locked where it is there, and it was there where it is
record Stays (before : Tree) (x : ℕ) (t : Tree) : Type 0 where
  pub ordered : InOrder t
  pub fits : x < t.next_inode
  pub still : Still (node_at before x) (node_at t x)

-- ---- one change

stays_same : (before : Tree) (x : ℕ) (t after : Tree) → Stays before x t → InOrder after → t.next_inode ≤ after.next_inode → node_at after x ≡ node_at t x → Stays before x after
stays_same before x t after stays ordered more same =
    record { ordered = ordered; fits = omega (arith, stays.fits, more); still = still_later (node_at before x) (node_at t x) (node_at after x) stays.still (still_equal (node_at t x) (node_at after x) same) }

stays_still : (before : Tree) (x : ℕ) (t after : Tree) → Stays before x t → InOrder after → t.next_inode ≤ after.next_inode → Still (node_at t x) (node_at after x) → Stays before x after
stays_still before x t after stays ordered more still =
    record { ordered = ordered; fits = omega (arith, stays.fits, more); still = still_later (node_at before x) (node_at t x) (node_at after x) stays.still still }

next_by : (f : Node → Node) (found : Option Node) (y : ℕ) (t : Tree) → t.next_inode ≤ (changed_by f found y t).next_inode
next_by f None y t = omega arith
next_by f (Some node) y t = omega arith

-- an edit of a node that is not there changes nothing
not_there : (f : Node → Node) (x : ℕ) (t : Tree) → node_at t x ≡ None → node_at (change_node x f t) x ≡ node_at t x
not_there f x t none = ap (λ found. node_at (changed_by f found x t) x) none

stamped_found : (now x : ℕ) (t : Tree) (found : Option Node) → node_at t x ≡ found → Still found (node_at (changed_by (stamped now) found x t) x)
stamped_found now x t None is = is
stamped_found now x t (Some node) is = inr (now, node_at-changed_by_same (stamped now) node x t is)

-- what passed the lock check before is not there
unlocked : (before : Tree) (x : ℕ) (t : Tree) → IfThere before x (λ node. node.locked ≡ true) → lock_check (node_at before x) ≡ None → (found : Option Node) → node_at before x ≡ found
    → Still found (node_at t x) → node_at t x ≡ None
unlocked before x t locked passes None is still = still
unlocked before x t locked passes (Some node) is still = absurd (locked_fails (node_at before x) node is (locked node is) passes)

edit_here : (before : Tree) (now x : ℕ) (t : Tree) → IfThere before x (λ node. node.locked ≡ true) → (e : Edit) → IsAllowed before x e → Still (node_at before x) (node_at t x)
    → Still (node_at t x) (node_at (change_node x (edited now e) t) x)
edit_here before now x t locked Stamp allowed still = stamped_found now x t (node_at t x) refl
edit_here before now x t locked e allowed still =
    still_equal (node_at t x) (node_at (change_node x (edited now e) t) x) (not_there (edited now e) x t (unlocked before x t locked allowed (node_at before x) refl still))

edit_stays : (before : Tree) (now x : ℕ) → IfThere before x (λ node. node.locked ≡ true) → (e : Edit) (y : ℕ) (t : Tree) → IsAllowed before y e → Stays before x t
    → Still (node_at t x) (node_at (change_node y (edited now e) t) x)
edit_stays before now x locked e y t allowed stays =
    elim (cases_eq y x) [
      | inl same ↦
          subst (λ k. Still (node_at t x) (node_at (change_node k (edited now e) t) x)) (sym same) (edit_here before now x t locked e (subst (λ k. IsAllowed before k e) same allowed) stays.still)
      | inr differs ↦ still_equal (node_at t x) (node_at (change_node y (edited now e) t) x) (node_at-change_node_other (edited now e) y x t (λ same. differs (sym same)))
    ]

-- ---- locks, and what goes

still_locked : (among : Bool) (found : Option Node) → ((node : Node) → found ≡ Some node → node.locked ≡ true) → Still found (option_map (lock_within among) found)
still_locked among None locked = refl
still_locked true (Some node) locked = still_equal (Some node) (Some (record node { locked = true })) (ap (λ b. Some (record node { locked = b })) (sym (locked node refl)))
still_locked false (Some node) locked = still_same (Some node)

left_still : (among stays : Bool) (now x : ℕ) (node : Node) → Still (Some node) (option_map (λ (p : ℕ × Node). p.1) (cond among (cond stays (Some (x, stamped now node)) None) (Some (x, node))))
left_still true true now x node = inr (now, refl)
left_still true false now x node = inl refl
left_still false stays now x node = still_same (Some node)

still_left : (below : List ℕ) (without : Tree) (now x : ℕ) (found : Option Node) → Still found (left_of (left_over without below now) x found)
still_left below without now x None = refl
still_left below without now x (Some node) = left_still (is_among below x) (lives without x && not (is_directory node.content)) now x node

still_removed : (x y : ℕ) (t : Tree) → InOrder t → Still (node_at t x) (node_at (without_node y t) x)
still_removed x y t ordered =
    elim (cases_eq y x) [
      | inl same ↦
          subst (λ k. Still (node_at t x) (node_at (without_node k t) x)) (sym same) (subst (Still (node_at t x)) (sym (lookup-remove_entry_same x 0 t.nodes t.next_inode ordered)) (still_gone (node_at t x)))
      | inr apart ↦ still_equal (node_at t x) (node_at (without_node y t) x) (lookup-remove_entry_other nat_cmp numbers_tell y x t.nodes (λ same. apart (sym same)))
    ]

still_if : (test : Bool) (found : Option Node) → Still found (cond test found None)
still_if true found = still_same found
still_if false found = still_gone found

left_pass : (closed : Tree) (inode : ℕ) (es : List (ℕ × Node)) → Still (lookup (is_at (nat_cmp inode)) es) (lookup (is_at (nat_cmp inode)) (filter (λ e. lives closed e.0) es))
left_pass closed inode es =
    subst (Still (lookup (is_at (nat_cmp inode)) es))
    (sym (lookup-filter-keys (is_at (nat_cmp inode)) (lives closed) (lives closed inode) (λ k is. ap (lives closed) (sym (same_number inode k is))) es))
    (still_if (lives closed inode) (lookup (is_at (nat_cmp inode)) es))

locked_on : (found after : Option Node) → Still found after → ((node : Node) → found ≡ Some node → node.locked ≡ true) → (node : Node) → after ≡ Some node → node.locked ≡ true
locked_on None after still locked node is =
    let none : None ≡ Some node = sym still ∙ is in
    absurd (cc none)
locked_on (Some old) after (inl gone) locked node is =
    let none : None ≡ Some node = sym gone ∙ is in
    absurd (cc none)
locked_on (Some old) after (inr kept) locked node is =
    let both_ways : Some (stamped kept.0 old) ≡ Some node = sym kept.1 ∙ is in
    let same : stamped kept.0 old ≡ node = cc both_ways in
    ap (λ (n : Node). n.locked) (sym same) ∙ locked old refl

-- ---- the operations

stays_walk : (before : Tree) (now x : ℕ) → IfThere before x (λ node. node.locked ≡ true) → (op : Op) → Walk before now op (λ a b. Stays before x a → Stays before x b)
stays_walk before now x locked op =
    let order : Walk before now op (λ a b. InOrder a → InOrder b) = order_walk before now op in
    record {
      same = λ t stays. stays;
      joined = λ a b c first second stays. second (first stays);
      edits = λ e y t fits allowed of_op stays.
          stays_still before x t (change_node y (edited now e) t) stays (order.edits e y t fits allowed of_op stays.ordered) (next_by (edited now e) (node_at t y) y t)
          (edit_stays before now x locked e y t allowed stays);
      removes = λ y t stays. stays_still before x t _ stays (order.removes y t stays.ordered) (omega arith) (still_removed x y t stays.ordered);
      makes = λ new t begins fits stays.
          stays_same before x t _ stays (order.makes new t begins fits stays.ordered) (omega arith) (lookup-insert_entry_next x 0 t.nodes t.next_inode (built now new) stays.ordered stays.fits);
      opens = λ handle t fits stays. stays_same before x t _ stays stays.ordered (omega arith) refl;
      closes = λ number t stays. stays_same before x t _ stays stays.ordered (omega arith) refl;
      copies = λ source t of_trees fits stays.
          let order_of : List ℕ = at_and_below t source in
          stays_same before x t _ stays (order.copies source t of_trees fits stays.ordered) (omega arith)
          (lookup-append_before (is_at (nat_cmp x)) t.nodes (copies t order_of now order_of) (lookup_none_below x t.next_inode (copies t order_of now order_of) (t.next_inode + length order_of) (copies_ascend t source now) stays.fits));
      locks = λ y t stays.
          stays_still before x t _ stays (order.locks y t stays.ordered) (omega arith)
          (subst (Still (node_at t x)) (sym (locked_found (at_and_below t y) x t.nodes))
          (still_locked (is_among (at_and_below t y) x) (node_at t x) (locked_on (node_at before x) (node_at t x) stays.still locked)));
      uproots = λ below t stays.
          let without : Tree = without_directories below t in
          stays_still before x t _ stays (order.uproots below t stays.ordered) (omega arith)
          (subst (Still (node_at t x)) (sym (left_over_found below without now x 0 t.nodes t.next_inode stays.ordered)) (still_left below without now x (node_at t x)));
      leaves = λ pass t stays.
          stays_still before x t _ stays (order.leaves pass t stays.ordered) (omega arith) (left_pass (record t { handles = filter (λ h. not (h.1.pass == pass)) t.handles }) x t.nodes);
    }

-- ---- lists of calls

-- a node that was locked at first is so still, or gone
record Guarded (first : Tree) (x : ℕ) (t : Tree) : Type 0 where
  pub stays : Stays first x t
  pub locked : IfThere t x (λ node. node.locked ≡ true)

guarded_after : (first : Tree) (x : ℕ) (t : Tree) (pass now : ℕ) (op : Op) → Guarded first x t → Guarded first x (tree_after t pass op now)
guarded_after first x t pass now op guarded =
    let after : Tree = tree_after t pass op now in
    let one : Stays t x after = walk-tree_after t pass now (λ a b. Stays t x a → Stays t x b) (stays_walk t now x guarded.locked) op
    (record { ordered = guarded.stays.ordered; fits = guarded.stays.fits; still = still_same (node_at t x) }) in
    record {
      stays = record { ordered = one.ordered; fits = one.fits; still = still_later (node_at first x) (node_at t x) (node_at after x) guarded.stays.still one.still };
      locked = locked_on (node_at t x) (node_at after x) one.still guarded.locked;
    }

same_lock : (t : Tree) (inode : ℕ) (node : Node) → node_at t inode ≡ Some node → node.locked ≡ true → (found : Node) → node_at t inode ≡ Some found → found.locked ≡ true
same_lock t inode node is locked found also =
    ap (λ (n : Node). n.locked) (one_some _ found node also is) ∙ locked

-- after any calls a locked node is as it was but for ctime, or gone
pub kept_after : (t : Tree) (calls : List Request) (x : ℕ) (node : Node) → InOrder t → node_at t x ≡ Some node → node.locked ≡ true → IsKept (node_at (tree_after_all t calls) x) node
kept_after t calls x node ordered is locked =
    let first : Stays t x t = record { ordered = ordered; fits = lookup_below_next x 0 t.nodes t.next_inode node ordered is; still = still_same (node_at t x) } in
    let guarded : Guarded t x (tree_after_all t calls) = kept-tree_after_all (Guarded t x) (guarded_after t x) t calls (record { stays = first; locked = same_lock t x node is locked }) in
    subst (λ found. Still found (node_at (tree_after_all t calls) x)) is guarded.stays.still

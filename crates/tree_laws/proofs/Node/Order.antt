-- What each operation does to the order of the numbers of nodes and handles.
use Rattle.std.proofs.Common.{◌≡◌, ℕ, ◌+◌, ◌<◌, List, [], ◌∷◌, ◌++◌, Bool, true, false, cond, Option, None, Some, refl, sym, ap, ◌∙◌, subst, arith}
use Rattle.std.proofs.lemmas.List.{map-append}
use Rattle.std.proofs.lemmas.List.Elements.{All-nil, All-cons}
use Rattle.std.proofs.lemmas.Map.{keys-set_value}
use Rattle.std.specs.BTreeMap.{is_at}
use Rattle.std.specs.List.{filter}
use Rattle.std.specs.Map.{keys_of}
use Rattle.std.specs.Ordering.{nat_cmp}
use Rattle.std.specs.Prelude.{◌==◌, not, length, map, All}
use Rattle.op_frames.specs.declared.operation.Op.{Op}
use Rattle.op_frames.specs.declared.operation.Op.TheVariants as ops
use Rattle.plain_tree.specs.Below.{is_among, at_and_below}
use Rattle.plain_tree.specs.Entries.{settled, lives}
use Rattle.plain_tree.specs.Numbers.{Ascend, InOrder, HandlesInOrder}
use Rattle.plain_tree.specs.Operations.{tree_after, HandlesBelow}
use Rattle.plain_tree.specs.Subtrees.{copies, with_lock, left_over, without_directories}
use Rattle.plain_tree.specs.Tree.{Node, Handle, Tree, node_at, change_node, changed_by, without_node, with_node}
use Rattle.tree_laws.proofs.Copy.Numbers.{copies_ascend}
use Rattle.tree_laws.proofs.Node.Ascend.{Ascend-append, Ascend-least, Ascend-filter_map, Ascend-remove_entry, Ascend-filter, Ascend-insert_entry}
use Rattle.tree_laws.proofs.Node.Subtree.{left_over_key}
use Rattle.tree_laws.proofs.Walk.Calls.{walk-tree_after}
use Rattle.tree_laws.proofs.Walk.Edits.{edited, built}
use Rattle.tree_laws.proofs.Walk.Operations.{Walk, walk-settled}

-- ---- one change

pub InOrder-changed_by : (f : Node → Node) (found : Option Node) (inode : ℕ) (t : Tree) → InOrder t → InOrder (changed_by f found inode t)
InOrder-changed_by f None inode t ordered = ordered
InOrder-changed_by f (Some node) inode t ordered = subst (λ keys. Ascend 0 keys t.next_inode) (sym (keys-set_value (is_at (nat_cmp inode)) t.nodes (f node))) ordered

pub InOrder-change_node : (f : Node → Node) (inode : ℕ) (t : Tree) → InOrder t → InOrder (change_node inode f t)
InOrder-change_node f inode t ordered = InOrder-changed_by f (node_at t inode) inode t ordered

pub InOrder-without_node : (inode : ℕ) (t : Tree) → InOrder t → InOrder (without_node inode t)
InOrder-without_node inode t ordered = Ascend-remove_entry 0 (is_at (nat_cmp inode)) t.nodes t.next_inode ordered

pub InOrder-with_node : (node : Node) (t : Tree) → InOrder t → InOrder (with_node node t)
InOrder-with_node node t ordered = Ascend-insert_entry 0 t.nodes t.next_inode node ordered

-- ---- subtrees

copied : (source now : ℕ) (t : Tree) → InOrder t
    → InOrder (record t { next_inode = t.next_inode + length (at_and_below t source); nodes = t.nodes ++ copies t (at_and_below t source) now (at_and_below t source) })
copied source now t ordered =
    let order : List ℕ = at_and_below t source in
    subst (λ keys. Ascend 0 keys (t.next_inode + length order)) (sym (map-append (λ (e : ℕ × Node). e.0) t.nodes (copies t order now order)))
    (Ascend-append 0 (keys_of t.nodes) (keys_of (copies t order now order)) t.next_inode (t.next_inode + length order) ordered (copies_ascend t source now))

locked_key : (test : Bool) (e other : ℕ × Node) → other.0 ≡ e.0 → (cond test other e).0 ≡ e.0
locked_key true e other same = same
locked_key false e other same = refl

locked_keys : (below : List ℕ) (es : List (ℕ × Node)) → keys_of (map (λ e. cond (is_among below e.0) (e.0, record e.1 { locked = true }) e) es) ≡ keys_of es
locked_keys below [] = refl
locked_keys below (e ∷ es) =
    ap (λ keys. (cond (is_among below e.0) (e.0, record e.1 { locked = true }) e).0 ∷ keys) (locked_keys below es)
    ∙ ap (λ key. key ∷ keys_of es) (locked_key (is_among below e.0) e (e.0, record e.1 { locked = true }) refl)

locked : (inode : ℕ) (t : Tree) → InOrder t → InOrder (with_lock inode t)
locked inode t ordered = subst (λ keys. Ascend 0 keys t.next_inode) (sym (locked_keys (at_and_below t inode) t.nodes)) ordered

-- ---- the operations

pub order_walk : (before : Tree) (now : ℕ) (op : Op) → Walk before now op (λ a b. InOrder a → InOrder b)
order_walk before now op = record {
  same = λ t ordered. ordered;
  joined = λ a b c first second ordered. second (first ordered);
  edits = λ e x t fits allowed of_op. InOrder-change_node (edited now e) x t;
  removes = InOrder-without_node;
  makes = λ new t begins fits. InOrder-with_node (built now new) t;
  opens = λ handle t fits ordered. ordered;
  closes = λ number t ordered. ordered;
  copies = λ source t of_trees fits. copied source now t;
  locks = locked;
  uproots = λ below t ordered. Ascend-filter_map (left_over (without_directories below t) below now) (left_over_key below (without_directories below t) now) 0 t.nodes t.next_inode ordered;
  leaves = λ pass t ordered. Ascend-filter 0 (λ (e : ℕ × Node). lives (record t { handles = filter (λ h. not (h.1.pass == pass)) t.handles }) e.0) t.nodes t.next_inode ordered;
}

pub InOrder-settled : (x : ℕ) (t : Tree) → InOrder t → InOrder (settled x t)
InOrder-settled x t ordered = walk-settled t 0 ops.Leave (λ a b. InOrder a → InOrder b) (order_walk t 0 ops.Leave) x t ordered

pub InOrder-tree_after : (t : Tree) (pass now : ℕ) (op : Op) → InOrder t → InOrder (tree_after t pass op now)
InOrder-tree_after t pass now op ordered = walk-tree_after t pass now (λ a b. InOrder a → InOrder b) (order_walk t now) op ordered

-- ---- handles

handles_changed : (f : Node → Node) (found : Option Node) (x : ℕ) (t : Tree) → HandlesInOrder t → HandlesInOrder (changed_by f found x t)
handles_changed f None x t ordered = ordered
handles_changed f (Some node) x t ordered = ordered

handles_walk : (before : Tree) (now : ℕ) (op : Op) → Walk before now op (λ a b. HandlesInOrder a → HandlesInOrder b)
handles_walk before now op = record {
  same = λ t ordered. ordered;
  joined = λ a b c first second ordered. second (first ordered);
  edits = λ e x t fits allowed of_op. handles_changed (edited now e) (node_at t x) x t;
  removes = λ x t ordered. ordered;
  makes = λ new t begins fits ordered. ordered;
  opens = λ handle t fits ordered. Ascend-insert_entry 0 t.handles t.next_handle handle ordered;
  closes = λ number t ordered. Ascend-remove_entry 0 (is_at (nat_cmp number)) t.handles t.next_handle ordered;
  copies = λ source t of_trees fits ordered. ordered;
  locks = λ x t ordered. ordered;
  uproots = λ below t ordered. ordered;
  leaves = λ pass t ordered. Ascend-filter 0 (λ (h : ℕ × Handle). not (h.1.pass == pass)) t.handles t.next_handle ordered;
}

pub HandlesInOrder-tree_after : (t : Tree) (pass now : ℕ) (op : Op) → HandlesInOrder t → HandlesInOrder (tree_after t pass op now)
HandlesInOrder-tree_after t pass now op ordered = walk-tree_after t pass now (λ a b. HandlesInOrder a → HandlesInOrder b) (handles_walk t now) op ordered

all_below : (low : ℕ) (numbers : List ℕ) (next : ℕ) → Ascend low numbers next → All (λ k. k < next) numbers
all_below low [] next ascend = All-nil (λ k. k < next)
all_below low (number ∷ numbers) next ascend =
    All-cons (λ k. k < next) number numbers (omega (arith, Ascend-least (number + 1) numbers next ascend.1)) (all_below (number + 1) numbers next ascend.1)

pub below_in_order : (t : Tree) → HandlesInOrder t → HandlesBelow t
below_in_order t ordered = all_below 0 (keys_of t.handles) t.next_handle ordered

-- The greatest number of entries that name one inode grows by one.
use Rattle.std.proofs.Common.{◌≡◌, ◌≤◌, ℕ, ◌+◌, ◌++◌, List, Option, None, Some, refl, arith, Bool, true, false}
use Rattle.std.specs.Prelude.{◌==◌, length, unwrap_or}
use Rattle.op_frames.specs.declared.operation.Op.{Op}
use Rattle.plain_tree.specs.Below.{at_and_below}
use Rattle.plain_tree.specs.Entries.{add_entry, drop_entry, entry_at, settled}
use Rattle.plain_tree.specs.Operations.{new_file, tree_after, with_new_file, with_new_node}
use Rattle.plain_tree.specs.Subtrees.{copies, dropped, moved_entry, with_lock, without_directories, without_pass, without_tree}
use Rattle.plain_tree.specs.Tree.{Tree, change_node, made_tree, handle_of, stamped, with_handle, with_node, without_handle, without_node}
use Rattle.plain_tree.specs.Files.{inode_of}
use Rattle.plain_tree.specs.WellFormed.{IsWellFormed, entries_naming}
use Rattle.tree_laws.specs.Growth.{HaveFewNames}
use Rattle.tree_laws.proofs.Growth.Changes.{Grows, grows-drop, grows-dropped, grows-edit, grows-left_over, grows-settled, grows-spared, grows-with_lock, grows-with_node, grows-without_node, grows-without_pass, grows_not}
use Rattle.tree_laws.proofs.Growth.Copies.{names-with_copies}
use Rattle.tree_laws.proofs.Walk.Calls.{effects-tree_after}
use Rattle.tree_laws.proofs.Walk.Edits.{Entry, File, Stamp, built, edited}
use Rattle.tree_laws.proofs.Walk.Operations.{Effects}

-- what grows by none or by one has few names after
few : (most : ℕ) (t after : Tree) → HaveFewNames most t → Grows 1 t after → HaveFewNames (most + 1) after
few most t after names grows y = omega (arith, names y, grows y)

same_or_less : (t after : Tree) → Grows 0 t after → Grows 1 t after
same_or_less t after grows y = omega (arith, grows y)

grows-moved_entry : (p : ℕ) (n : List ℕ) (np : ℕ) (nn : List ℕ) (now : ℕ) (found : Option ℕ) (t : Tree) → Grows 1 t (moved_entry p n np nn now found t)
grows-moved_entry p n np nn now None t = same_or_less t t (grows_not t)
grows-moved_entry p n np nn now (Some x) t =
    let one : Tree = drop_entry p n now t in
    let two : Tree = drop_entry np nn now one in
    let three : Tree = add_entry np nn x now two in
    let four : Tree = change_node x (stamped now) three in
    let after : Tree = dropped now (entry_at t np nn) four in
    λ y. omega (
      arith,
      grows-drop now p n t y,
      grows-drop now np nn one y,
      grows-edit now np (Entry nn x) two y,
      grows-spared now x Stamp three _ y,
      grows-dropped now (entry_at t np nn) four y,
    )

grows-without_tree : (p : ℕ) (n : List ℕ) (now : ℕ) (found : Option ℕ) (t : Tree) → Grows 1 t (without_tree p n now found t)
grows-without_tree p n now None t = same_or_less t t (grows_not t)
grows-without_tree p n now (Some x) t =
    let unlinked : Tree = drop_entry p n now t in
    λ y. omega (arith, grows-drop now p n t y, grows-left_over (without_directories (at_and_below t x) unlinked) (at_and_below t x) now unlinked y)

grows_by_effects : (t : Tree) (pass now most : ℕ) (op : Op) → IsWellFormed t → HaveFewNames most t → Effects t pass now op (HaveFewNames (most + 1))
grows_by_effects t pass now most op well names = record {
  same = few most t t names (same_or_less t t (grows_not t));
  edits = λ e x fits allowed spares of_op. few most t (change_node x (edited now e) t) names (same_or_less t (change_node x (edited now e) t) (grows-spared now x e t spares));
  makes = λ p n new begins can.
      let more : Tree = with_node (built now new) t in
      few most t (with_new_node p n (built now new) now t) names (λ y. omega (arith, grows-with_node now new t y, grows-edit now p (Entry n t.next_inode) more y));
  creates = λ p n mode uid gid fits can handles.
      let opened : Tree = with_handle (record { inode = t.next_inode; pass = pass }) t in
      let more : Tree = with_node (new_file mode uid gid now) opened in
      few most t (with_new_file t pass p n (new_file mode uid gid now) now) names (λ y. omega (arith, grows-with_node now (File mode uid gid) opened y, grows-edit now p (Entry n t.next_inode) more y));
  links = λ x p n can.
      let one : Tree = add_entry p n x now t in
      few most t (change_node x (stamped now) one) names (λ y. omega (arith, grows-edit now p (Entry n x) t y, grows-spared now x Stamp one _ y));
  unlinks = λ p n can.
      let one : Tree = drop_entry p n now t in
      few most t (dropped now (entry_at t p n) one) names (λ y. omega (arith, grows-drop now p n t y, grows-dropped now (entry_at t p n) one y));
  unmakes = λ p n can.
      let one : Tree = drop_entry p n now t in
      few most t (without_node (unwrap_or (entry_at t p n) 0) one) names (λ y. omega (arith, grows-drop now p n t y, grows-without_node (unwrap_or (entry_at t p n) 0) one y));
  moves = λ p n np nn can. few most t (moved_entry p n np nn now (entry_at t p n) t) names (grows-moved_entry p n np nn now (entry_at t p n) t);
  opens = λ x there file handles. few most t t names (same_or_less t t (grows_not t));
  closes = λ number opened.
      let closed : Tree = without_handle number t in
      few most t (settled (inode_of (handle_of t pass number)) closed) names (λ y. omega (arith, grows-settled (inode_of (handle_of t pass number)) closed y));
  copies = λ source p n of_trees can y.
      let order : List ℕ = at_and_below t source in
      let more : Tree = record t { next_inode = t.next_inode + length order; nodes = t.nodes ++ copies t order now order } in
      omega (arith, names-with_copies t well source now most names y, grows-edit now p (Entry n t.next_inode) more y);
  locks = λ x. few most t (with_lock x t) names (same_or_less t (with_lock x t) (grows-with_lock x t));
  uproots = λ p n is can. few most t (without_tree p n now (entry_at t p n) t) names (grows-without_tree p n now (entry_at t p n) t);
  leaves = few most t (without_pass pass t) names (same_or_less t (without_pass pass t) (grows-without_pass pass t));
}

pub grows-tree_after : (t : Tree) (pass now most : ℕ) (op : Op) → IsWellFormed t → HaveFewNames most t → HaveFewNames (most + 1) (tree_after t pass op now)
grows-tree_after t pass now most op well names = effects-tree_after t pass now op (HaveFewNames (most + 1)) (grows_by_effects t pass now most op well names)

pub few-made_tree : (block_size time : ℕ) → HaveFewNames 1 (made_tree block_size time)
few-made_tree block_size time y = by_test (2 == y) refl
  where
    by_test : (b : Bool) → (2 == y) ≡ b → entries_naming (made_tree block_size time) y ≤ 1
    by_test true is = rw is (omega arith)
    by_test false is = rw is (omega arith)

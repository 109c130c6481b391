-- Every operation, by what it does to the tree: the larger changes, and the primitive changes that these consist of.
use Rattle.std.proofs.Common.{◌≡◌, ◌≤◌, ℕ, ◌+◌, ◌^◌, List, ◌++◌, true, Option, None, Some, refl, length}
use Rattle.std.proofs.lemmas.Bool.{cond_both}
use Rattle.std.specs.List.{filter_map}
use Rattle.std.specs.Prelude.{◌==◌, unwrap_or}
use Rattle.op_frames.specs.declared.operation.Op.{Op}
use Rattle.op_frames.specs.declared.operation.Op.TheVariants as ops
use Rattle.plain_tree.specs.Below.{at_and_below}
use Rattle.plain_tree.specs.Checks.{first_failure, node_check, file_check, open_check}
use Rattle.plain_tree.specs.Entries.{entry_at, lives, settled, add_entry, drop_entry}
use Rattle.plain_tree.specs.Files.{open_file, inode_of}
use Rattle.plain_tree.specs.Operations.{checks, effect, new_file, with_new_file, with_new_node}
use Rattle.plain_tree.specs.Subtrees.{is_same, dropped, moved_entry, copies, with_copy, with_lock, left_over, without_directories, without_tree, without_pass}
use Rattle.plain_tree.specs.Tree.{Handle, Tree, node_at, handle_of, change_node, without_node, with_node, with_handle, without_handle, stamped}
use Rattle.tree_laws.specs.Files.{copies_files}
use Rattle.tree_laws.proofs.Walk.Edits.{Edit, Stamp, Mode, Owner, Mtime, Resize, Write, Attribute, NoAttribute, Entry, NoEntry, edited, Fits, IsAllowed, IsOf, SparesEntries, NewNode, File, Folder, Symlink, built, Begins}
use Rattle.tree_laws.proofs.Walk.Passed.{CanMake, CanUnlink, CanUnmake, CanUproot, CanLink, CanMove, CanCopy, all_pass, mode_fits, time_fits, size_fits, end_fits, hand_fits, can_mkdir, can_create, can_symlink, can_unlink, can_unmake, can_uproot, can_link, can_move, can_copy}

-- ---- by the larger changes

-- the tree after an operation of a pass at a time, whose checks all pass in the tree, is such: one field for each way to change
-- it; a removal of a subtree tells which operation it is
pub record Effects (t : Tree) (pass now : ℕ) (op : Op) (P : Tree → Type 0) : Type 0 where
  pub same : P t
  pub edits : (e : Edit) (x : ℕ) → Fits e → IsAllowed t x e → SparesEntries e → IsOf op e → P (change_node x (edited now e) t)
  pub makes : (p : ℕ) (n : List ℕ) (new : NewNode) → Begins new → CanMake t p n → P (with_new_node p n (built now new) now t)
  pub creates : (p : ℕ) (n : List ℕ) (mode uid gid : ℕ) → mode ≤ 4095 → CanMake t p n → t.next_handle + 1 ≤ 2 ^ 62 → P (with_new_file t pass p n (new_file mode uid gid now) now)
  pub links : (x p : ℕ) (n : List ℕ) → CanLink t x p n → P (change_node x (stamped now) (add_entry p n x now t))
  pub unlinks : (p : ℕ) (n : List ℕ) → CanUnlink t p n → P (dropped now (entry_at t p n) (drop_entry p n now t))
  pub unmakes : (p : ℕ) (n : List ℕ) → CanUnmake t p n → P (without_node (unwrap_or (entry_at t p n) 0) (drop_entry p n now t))
  pub moves : (p : ℕ) (n : List ℕ) (np : ℕ) (nn : List ℕ) → CanMove t p n np nn → P (moved_entry p n np nn now (entry_at t p n) t)
  pub opens : (x : ℕ) → node_check (node_at t x) ≡ None → file_check (node_at t x) ≡ None → t.next_handle + 1 ≤ 2 ^ 62 → P (with_handle (record { inode = x; pass = pass }) t)
  pub closes : (number : ℕ) → open_check (open_file t pass number) ≡ None → P (settled (inode_of (handle_of t pass number)) (without_handle number t))
  pub copies : (source p : ℕ) (n : List ℕ) → copies_files op ≡ true → CanCopy t source p n → P (with_copy source p n now t)
  pub locks : (x : ℕ) → P (with_lock x t)
  pub uproots : (p : ℕ) (n : List ℕ) → op ≡ ops.RemoveTree p n → CanUproot t p n → P (without_tree p n now (entry_at t p n) t)
  pub leaves : P (without_pass pass t)

-- what holds after each way to change a tree holds after the operation
pub effects-effect : (t : Tree) (pass now : ℕ) (op : Op) (P : Tree → Type 0) → Effects t pass now op P → first_failure (checks t pass op) ≡ None → P (effect t pass op now)
effects-effect t pass now (ops.Chmod x mode) P effects passes =
    let all = all_pass (checks t pass (ops.Chmod x mode)) passes in
    effects.edits (Mode mode) x (mode_fits mode all.0) all.1.1.0 _ _
effects-effect t pass now (ops.Chown x uid gid) P effects passes =
    let all = all_pass (checks t pass (ops.Chown x uid gid)) passes in
    effects.edits (Owner uid gid) x _ all.1.0 _ _
effects-effect t pass now (ops.Utimes x mtime) P effects passes =
    let all = all_pass (checks t pass (ops.Utimes x mtime)) passes in
    effects.edits (Mtime mtime) x (time_fits mtime all.0) all.1.1.0 _ _
effects-effect t pass now (ops.Truncate x size) P effects passes =
    let all = all_pass (checks t pass (ops.Truncate x size)) passes in
    effects.edits (Resize size) x (size_fits size all.1.1.1.0) all.1.1.0 _ refl
effects-effect t pass now (ops.Mkdir p n mode uid gid) P effects passes =
    let can = can_mkdir t pass p n mode uid gid passes in
    effects.makes p n (Folder mode uid gid) can.0 can.1
effects-effect t pass now (ops.Create p n mode uid gid) P effects passes =
    let can = can_create t pass p n mode uid gid passes in
    effects.creates p n mode uid gid can.0 can.1 can.2
effects-effect t pass now (ops.Unlink p n) P effects passes = effects.unlinks p n (can_unlink t pass p n passes)
effects-effect t pass now (ops.Rmdir p n) P effects passes = effects.unmakes p n (can_unmake t pass p n passes)
effects-effect t pass now (ops.Rename p n np nn) P effects passes =
    cond_both (is_same (entry_at t np nn) (entry_at t p n)) t (moved_entry p n np nn now (entry_at t p n) t) P (λ same. effects.same)
    (λ differs. effects.moves p n np nn (can_move t pass p n np nn passes differs))
effects-effect t pass now (ops.Link x p n) P effects passes = effects.links x p n (can_link t pass x p n passes)
effects-effect t pass now (ops.Symlink p n target uid gid) P effects passes =
    let can = can_symlink t pass p n target uid gid passes in
    effects.makes p n (Symlink target uid gid) can.0 can.1
effects-effect t pass now (ops.Open x) P effects passes =
    let all = all_pass (checks t pass (ops.Open x)) passes in
    effects.opens x all.0 all.1.0 (hand_fits t all.1.1.0)
effects-effect t pass now (ops.Release number) P effects passes =
    let all = all_pass (checks t pass (ops.Release number)) passes in
    effects.closes number all.0
effects-effect t pass now (ops.Write number offset bytes) P effects passes =
    let all = all_pass (checks t pass (ops.Write number offset bytes)) passes in
    cond_both (length bytes == 0) t _ P (λ none. effects.same)
    (λ some. effects.edits (Write offset bytes) (inode_of (handle_of t pass number)) (end_fits offset bytes some all.1.1.0) all.1.0 _ refl)
effects-effect t pass now (ops.Setxattr x name flag value) P effects passes =
    let all = all_pass (checks t pass (ops.Setxattr x name flag value)) passes in
    effects.edits (Attribute name value) x (all.0, all.1.0) all.1.1.1.0 _ _
effects-effect t pass now (ops.Removexattr x name) P effects passes =
    let all = all_pass (checks t pass (ops.Removexattr x name)) passes in
    effects.edits (NoAttribute name) x _ all.1.1.0 _ _
effects-effect t pass now (ops.CopyTree source p n) P effects passes = effects.copies source p n refl (can_copy t pass source p n passes)
effects-effect t pass now (ops.LockTree x) P effects passes = effects.locks x
effects-effect t pass now (ops.RemoveTree p n) P effects passes = effects.uproots p n refl (can_uproot t pass p n passes)
effects-effect t pass now ops.Leave P effects passes = effects.leaves
effects-effect t pass now op P effects passes = effects.same

-- ---- by primitive changes

-- a relation between the trees before and after each primitive change that an operation at a time consists of, where all checks pass in the tree before them all
pub record Walk (before : Tree) (now : ℕ) (op : Op) (R : Tree → Tree → Type 0) : Type 0 where
  pub same : (t : Tree) → R t t
  pub joined : (a b c : Tree) → R a b → R b c → R a c
  pub edits : (e : Edit) (x : ℕ) (t : Tree) → Fits e → IsAllowed before x e → IsOf op e → R t (change_node x (edited now e) t)
  pub removes : (x : ℕ) (t : Tree) → R t (without_node x t)
  pub makes : (new : NewNode) (t : Tree) → Begins new → t.next_inode + 1 ≤ 2 ^ 62 → R t (with_node (built now new) t)
  pub opens : (handle : Handle) (t : Tree) → t.next_handle + 1 ≤ 2 ^ 62 → R t (with_handle handle t)
  pub closes : (number : ℕ) (t : Tree) → R t (without_handle number t)
  pub copies : (source : ℕ) (t : Tree) → copies_files op ≡ true → t.next_inode + length (at_and_below t source) ≤ 2 ^ 62
      → R t (record t { next_inode = t.next_inode + length (at_and_below t source); nodes = t.nodes ++ copies t (at_and_below t source) now (at_and_below t source) })
  pub locks : (x : ℕ) (t : Tree) → R t (with_lock x t)
  pub uproots : (below : List ℕ) (t : Tree) → R t (record t { nodes = filter_map (left_over (without_directories below t) below now) t.nodes })
  pub leaves : (pass : ℕ) (t : Tree) → R t (without_pass pass t)

pub walk-settled : (before : Tree) (now : ℕ) (op : Op) (R : Tree → Tree → Type 0) → Walk before now op R → (x : ℕ) (t : Tree) → R t (settled x t)
walk-settled before now op R walk x t = cond_both (lives t x) t (without_node x t) (R t) (λ lives. walk.same t) (λ dead. walk.removes x t)

walk-dropped : (before : Tree) (now : ℕ) (op : Op) (R : Tree → Tree → Type 0) → Walk before now op R → (x : Option ℕ) (t : Tree) → R t (dropped now x t)
walk-dropped before now op R walk None t = walk.same t
walk-dropped before now op R walk (Some x) t =
    let marked : Tree = change_node x (stamped now) t in
    walk.joined t marked (settled x marked) (walk.edits Stamp x t _ _ _) (walk-settled before now op R walk x marked)

walk-moved_entry : (t : Tree) (now : ℕ) (op : Op) (R : Tree → Tree → Type 0) → Walk t now op R → (p : ℕ) (n : List ℕ) (np : ℕ) (nn : List ℕ) → CanMove t p n np nn → (x : Option ℕ)
    → R t (moved_entry p n np nn now x t)
walk-moved_entry t now op R walk p n np nn can None = walk.same t
walk-moved_entry t now op R walk p n np nn can (Some x) =
    let one : Tree = drop_entry p n now t in
    let two : Tree = drop_entry np nn now one in
    let three : Tree = add_entry np nn x now two in
    let four : Tree = change_node x (stamped now) three in
    let after : Tree = dropped now (entry_at t np nn) four in
    walk.joined t one after (walk.edits (NoEntry n) p t _ can.rename.unlocked _)
    (walk.joined one two after (walk.edits (NoEntry nn) np one _ can.rename.new_unlocked _)
    (walk.joined two three after (walk.edits (Entry nn x) np two can.rename.new_legal can.rename.new_unlocked _)
    (walk.joined three four after (walk.edits Stamp x three _ _ _) (walk-dropped t now op R walk (entry_at t np nn) four))))

walk-without_tree : (t : Tree) (now : ℕ) (op : Op) (R : Tree → Tree → Type 0) → Walk t now op R → (p : ℕ) (n : List ℕ) → CanUproot t p n → (x : Option ℕ) → R t (without_tree p n now x t)
walk-without_tree t now op R walk p n can None = walk.same t
walk-without_tree t now op R walk p n can (Some x) =
    let unlinked : Tree = drop_entry p n now t in
    walk.joined t unlinked (without_tree p n now (Some x) t) (walk.edits (NoEntry n) p t _ can.drop.unlocked _) (walk.uproots (at_and_below t x) unlinked)

-- what relates the trees of each primitive change relates those of each operation
pub effects_by_walk : (t : Tree) (pass now : ℕ) (op : Op) (R : Tree → Tree → Type 0) → Walk t now op R → Effects t pass now op (R t)
effects_by_walk t pass now op R walk = record {
  same = walk.same t;
  edits = λ e x fits allowed spares of_op. walk.edits e x t fits allowed of_op;
  makes = λ p n new begins can.
      let more : Tree = with_node (built now new) t in
      walk.joined t more (with_new_node p n (built now new) now t) (walk.makes new t begins can.ids) (walk.edits (Entry n t.next_inode) p more can.legal can.unlocked _);
  creates = λ p n mode uid gid fits can handles.
      let opened : Tree = with_handle (record { inode = t.next_inode; pass = pass }) t in
      let more : Tree = with_node (new_file mode uid gid now) opened in
      let after : Tree = with_new_file t pass p n (new_file mode uid gid now) now in
      walk.joined t opened after (walk.opens (record { inode = t.next_inode; pass = pass }) t handles)
      (walk.joined opened more after (walk.makes (File mode uid gid) opened fits can.ids) (walk.edits (Entry n t.next_inode) p more can.legal can.unlocked _));
  links = λ x p n can.
      let one : Tree = add_entry p n x now t in
      walk.joined t one (change_node x (stamped now) one) (walk.edits (Entry n x) p t can.legal can.parent_unlocked _) (walk.edits Stamp x one _ _ _);
  unlinks = λ p n can.
      let one : Tree = drop_entry p n now t in
      walk.joined t one (dropped now (entry_at t p n) one) (walk.edits (NoEntry n) p t _ can.drop.unlocked _) (walk-dropped t now op R walk (entry_at t p n) one);
  unmakes = λ p n can.
      let one : Tree = drop_entry p n now t in
      let x : ℕ = unwrap_or (entry_at t p n) 0 in
      walk.joined t one (without_node x one) (walk.edits (NoEntry n) p t _ can.drop.unlocked _) (walk.removes x one);
  moves = λ p n np nn can. walk-moved_entry t now op R walk p n np nn can (entry_at t p n);
  opens = λ x there file handles. walk.opens (record { inode = x; pass = pass }) t handles;
  closes = λ number opened.
      let closed : Tree = without_handle number t in
      let x : ℕ = inode_of (handle_of t pass number) in
      walk.joined t closed (settled x closed) (walk.closes number t) (walk-settled t now op R walk x closed);
  copies = λ source p n of_trees can.
      let order : List ℕ = at_and_below t source in
      let more : Tree = record t { next_inode = t.next_inode + length order; nodes = t.nodes ++ copies t order now order } in
      walk.joined t more (with_copy source p n now t) (walk.copies source t of_trees can.ids) (walk.edits (Entry n t.next_inode) p more can.legal can.unlocked _);
  locks = λ x. walk.locks x t;
  uproots = λ p n is can. walk-without_tree t now op R walk p n can (entry_at t p n);
  leaves = walk.leaves pass t;
}

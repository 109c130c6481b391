-- What an operation does to the handles.
use Rattle.std.proofs.Common.{◌≡◌, ℕ, ◌+◌, List, [], Bool, true, false, cond, Option, None, Some, refl, sym, subst, ◌∙◌, ◌++◌}
use Rattle.std.specs.Prelude.{◌==◌, not, length, option_and_then}
use Rattle.std.specs.BTreeMap.{insert_entry, is_at}
use Rattle.std.specs.List.{filter}
use Rattle.std.specs.Map.{remove_entry}
use Rattle.std.specs.Ordering.{nat_cmp}
use Rattle.op_frames.specs.declared.operation.Op.{Op}
use Rattle.op_frames.specs.declared.operation.Op.TheVariants as ops
use Rattle.plain_tree.specs.Checks.{first_failure, open_check}
use Rattle.plain_tree.specs.Entries.{entry_at, lives, settled, add_entry, drop_entry}
use Rattle.plain_tree.specs.Files.{file_at, inode_of}
use Rattle.plain_tree.specs.Operations.{checks, effect, tree_after, new_file, new_directory, new_link, with_new_file, with_new_node}
use Rattle.plain_tree.proofs.Replies.{first_check_passes, tree_at}
use Rattle.plain_tree.specs.Below.{at_and_below}
use Rattle.plain_tree.specs.Subtrees.{dropped, moved_entry, with_copy, with_lock, without_tree, is_same, copies}
use Rattle.plain_tree.specs.Tree.{Tree, Node, Handle, node_at, handle_of, change_node, changed_by, without_node, with_node, with_handle, without_handle, stamped}

-- the same handles, and the same next one
pub record KeepsHandles (after t : Tree) : Type 0 where
  pub handles : after.handles ≡ t.handles
  pub next : after.next_handle ≡ t.next_handle

-- the four ways in which an operation of a pass may change the handles
pub data Change (t : Tree) (pass : ℕ) (after : Tree) : Type 0 where
  Kept : KeepsHandles after t → Change t pass after
  Opened : (handle : Handle) → handle.pass ≡ pass → after.handles ≡ insert_entry nat_cmp t.handles t.next_handle handle → after.next_handle ≡ t.next_handle + 1 → Change t pass after
  Closed : (number : ℕ) (handle : Handle) → handle_of t pass number ≡ Some handle → after.handles ≡ remove_entry (is_at (nat_cmp number)) t.handles
      → after.next_handle ≡ t.next_handle → Change t pass after
  Left : after.handles ≡ filter (λ h. not (h.1.pass == pass)) t.handles → after.next_handle ≡ t.next_handle → Change t pass after

same : (t : Tree) → KeepsHandles t t
same t = record { handles = refl; next = refl }

both : (a b c : Tree) → KeepsHandles a b → KeepsHandles b c → KeepsHandles a c
both a b c first second = record { handles = first.handles ∙ second.handles; next = first.next ∙ second.next }

keeps-changed_by : (f : Node → Node) (found : Option Node) (inode : ℕ) (t : Tree) → KeepsHandles (changed_by f found inode t) t
keeps-changed_by f None inode t = same t
keeps-changed_by f (Some node) inode t = record { handles = refl; next = refl }

keeps-change_node : (inode : ℕ) (f : Node → Node) (t : Tree) → KeepsHandles (change_node inode f t) t
keeps-change_node inode f t = keeps-changed_by f (node_at t inode) inode t

keeps-add_entry : (parent : ℕ) (name : List ℕ) (inode now : ℕ) (t : Tree) → KeepsHandles (add_entry parent name inode now t) t
keeps-add_entry parent name inode now t = keeps-changed_by _ (node_at t parent) parent t

keeps-drop_entry : (parent : ℕ) (name : List ℕ) (now : ℕ) (t : Tree) → KeepsHandles (drop_entry parent name now t) t
keeps-drop_entry parent name now t = keeps-changed_by _ (node_at t parent) parent t

keeps-cond : (test : Bool) (a b t : Tree) → KeepsHandles a t → KeepsHandles b t → KeepsHandles (cond test a b) t
keeps-cond true a b t first second = first
keeps-cond false a b t first second = second

keeps-without_node : (inode : ℕ) (t : Tree) → KeepsHandles (without_node inode t) t
keeps-without_node inode t = record { handles = refl; next = refl }

keeps-settled : (inode : ℕ) (t : Tree) → KeepsHandles (settled inode t) t
keeps-settled inode t = keeps-cond (lives t inode) t (without_node inode t) t (same t) (keeps-without_node inode t)

keeps-dropped : (now : ℕ) (inode : Option ℕ) (t : Tree) → KeepsHandles (dropped now inode t) t
keeps-dropped now None t = same t
keeps-dropped now (Some inode) t = both _ _ _ (keeps-settled inode (change_node inode _ t)) (keeps-change_node inode _ t)

keeps-moved_entry : (parent : ℕ) (name : List ℕ) (new_parent : ℕ) (new_name : List ℕ) (now : ℕ) (inode : Option ℕ) (t : Tree)
    → KeepsHandles (moved_entry parent name new_parent new_name now inode t) t
keeps-moved_entry parent name new_parent new_name now None t = same t
keeps-moved_entry parent name new_parent new_name now (Some inode) t =
    let one : Tree = drop_entry parent name now t in
    let two : Tree = drop_entry new_parent new_name now one in
    let three : Tree = add_entry new_parent new_name inode now two in
    let four : Tree = change_node inode (stamped now) three in
    both _ four t
    (keeps-dropped now (entry_at t new_parent new_name) four)
    (both four three t
    (keeps-change_node inode (stamped now) three)
    (both three two t
    (keeps-add_entry new_parent new_name inode now two)
    (both two one t (keeps-drop_entry new_parent new_name now one) (keeps-drop_entry parent name now t))))

keeps-with_copy : (source parent : ℕ) (name : List ℕ) (now : ℕ) (t : Tree) → KeepsHandles (with_copy source parent name now t) t
keeps-with_copy source parent name now t =
    let order : List ℕ = at_and_below t source in
    let more : Tree = record t { next_inode = t.next_inode + length order; nodes = t.nodes ++ copies t order now order } in
    let added : KeepsHandles (add_entry parent name t.next_inode now more) more = keeps-add_entry parent name t.next_inode now more in
    record { handles = added.handles; next = added.next }

keeps-with_lock : (inode : ℕ) (t : Tree) → KeepsHandles (with_lock inode t) t
keeps-with_lock inode t = record { handles = refl; next = refl }

keeps-without_tree : (parent : ℕ) (name : List ℕ) (now : ℕ) (inode : Option ℕ) (t : Tree) → KeepsHandles (without_tree parent name now inode t) t
keeps-without_tree parent name now None t = same t
keeps-without_tree parent name now (Some inode) t =
    let dropped_one : KeepsHandles (drop_entry parent name now t) t = keeps-drop_entry parent name now t in
    record { handles = dropped_one.handles; next = dropped_one.next }

keeps-with_new_node : (parent : ℕ) (name : List ℕ) (node : Node) (now : ℕ) (t : Tree) → KeepsHandles (with_new_node parent name node now t) t
keeps-with_new_node parent name node now t =
    let added : KeepsHandles (add_entry parent name t.next_inode now (with_node node t)) (with_node node t) = keeps-add_entry parent name t.next_inode now (with_node node t) in
    record { handles = added.handles; next = added.next }

-- ---- a handle that the checks have found open

found_open : (t : Tree) (found : Option Handle) → open_check (option_and_then (λ (h : Handle). file_at t h.inode) found) ≡ None → (handle : Handle) × (found ≡ Some handle)
found_open t None passes = absurd (cc passes)
found_open t (Some handle) passes = (handle, refl)

-- ---- the effects

made_new_file : (t : Tree) (pass parent : ℕ) (name : List ℕ) (file : Node) (now : ℕ) → Change t pass (with_new_file t pass parent name file now)
made_new_file t pass parent name file now =
    let more : Tree = with_node file (with_handle (record { inode = t.next_inode; pass = pass }) t) in
    let kept : KeepsHandles (with_new_file t pass parent name file now) more = keeps-changed_by _ (node_at more parent) parent more in
    Opened (record { inode = t.next_inode; pass = pass }) refl kept.handles kept.next

made_release : (t : Tree) (pass number now : ℕ) (handle : Handle) → handle_of t pass number ≡ Some handle → Change t pass (effect t pass (ops.Release number) now)
made_release t pass number now handle is =
    let kept = keeps-settled (inode_of (handle_of t pass number)) (without_handle number t) in
    Closed number handle is kept.handles kept.next

pub effect-change : (t : Tree) (pass now : ℕ) (op : Op) → first_failure (checks t pass op) ≡ None → Change t pass (effect t pass op now)
effect-change t pass now (ops.Lookup parent name) passes = Kept (same t)
effect-change t pass now (ops.Getattr inode) passes = Kept (same t)
effect-change t pass now (ops.Chmod inode mode) passes = Kept (keeps-change_node inode _ t)
effect-change t pass now (ops.Chown inode uid gid) passes = Kept (keeps-change_node inode _ t)
effect-change t pass now (ops.Utimes inode mtime) passes = Kept (keeps-change_node inode _ t)
effect-change t pass now (ops.Truncate inode size) passes = Kept (keeps-change_node inode _ t)
effect-change t pass now (ops.Mkdir parent name mode uid gid) passes = Kept (keeps-with_new_node parent name (new_directory mode uid gid now) now t)
effect-change t pass now (ops.Create parent name mode uid gid) passes = made_new_file t pass parent name (new_file mode uid gid now) now
effect-change t pass now (ops.Unlink parent name) passes =
    Kept (both _ (drop_entry parent name now t) t (keeps-dropped now (entry_at t parent name) (drop_entry parent name now t)) (keeps-drop_entry parent name now t))
effect-change t pass now (ops.Rmdir parent name) passes =
    Kept (both _ (drop_entry parent name now t) t (keeps-without_node _ (drop_entry parent name now t)) (keeps-drop_entry parent name now t))
effect-change t pass now (ops.Rename parent name new_parent new_name) passes =
    Kept (keeps-cond (is_same (entry_at t new_parent new_name) (entry_at t parent name)) t (moved_entry parent name new_parent new_name now (entry_at t parent name) t) t
    (same t) (keeps-moved_entry parent name new_parent new_name now (entry_at t parent name) t))
effect-change t pass now (ops.Link inode parent name) passes =
    Kept (both _ (add_entry parent name inode now t) t (keeps-change_node inode (stamped now) (add_entry parent name inode now t)) (keeps-add_entry parent name inode now t))
effect-change t pass now (ops.Symlink parent name target uid gid) passes = Kept (keeps-with_new_node parent name (new_link target uid gid now) now t)
effect-change t pass now (ops.Readlink inode) passes = Kept (same t)
effect-change t pass now (ops.Open inode) passes = Opened (record { inode = inode; pass = pass }) refl refl refl
effect-change t pass now (ops.Release number) passes =
    let found = found_open t (handle_of t pass number) (first_check_passes _ [] passes) in
    made_release t pass number now found.0 found.1
effect-change t pass now (ops.Read number offset count) passes = Kept (same t)
effect-change t pass now (ops.Write number offset bytes) passes =
    Kept (keeps-cond (length bytes == 0) t _ t (same t) (keeps-change_node (inode_of (handle_of t pass number)) _ t))
effect-change t pass now (ops.Fsync number) passes = Kept (same t)
effect-change t pass now (ops.Readdir inode after most) passes = Kept (same t)
effect-change t pass now ops.Statfs passes = Kept (same t)
effect-change t pass now (ops.Setxattr inode name flag value) passes = Kept (keeps-change_node inode _ t)
effect-change t pass now (ops.Getxattr inode name) passes = Kept (same t)
effect-change t pass now (ops.Listxattr inode after most) passes = Kept (same t)
effect-change t pass now (ops.Removexattr inode name) passes = Kept (keeps-change_node inode _ t)
effect-change t pass now (ops.CopyTree source parent name) passes = Kept (keeps-with_copy source parent name now t)
effect-change t pass now (ops.LockTree inode) passes = Kept (keeps-with_lock inode t)
effect-change t pass now (ops.RemoveTree parent name) passes = Kept (keeps-without_tree parent name now (entry_at t parent name) t)
effect-change t pass now ops.FlushCache passes = Kept (same t)
effect-change t pass now ops.UploadMeta passes = Kept (same t)
effect-change t pass now (ops.CacheSize entries) passes = Kept (same t)
effect-change t pass now ops.Leave passes = Left refl refl
effect-change t pass now ops.Unmount passes = Kept (same t)

-- the tree after an operation, whose checks may fail
change_if : (t : Tree) (pass now : ℕ) (op : Op) (failure : Option ℕ) → first_failure (checks t pass op) ≡ failure → Change t pass (tree_after t pass op now)
change_if t pass now op (Some errno) is = subst (λ (after : Tree). Change t pass after) (sym (tree_at t pass now op (Some errno) is)) (Kept (same t))
change_if t pass now op None is = subst (λ (after : Tree). Change t pass after) (sym (tree_at t pass now op None is)) (effect-change t pass now op is)

pub change_after : (t : Tree) (pass now : ℕ) (op : Op) → Change t pass (tree_after t pass op now)
change_after t pass now op = change_if t pass now op _ refl

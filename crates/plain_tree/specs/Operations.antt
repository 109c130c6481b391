-- The operations on the plain tree: their checks in order, the tree after, and the reply.
use Rattle.std.specs.Prelude.{ℕ, ◌==◌, ◌<◌, List, [], ◌∷◌, ◌++◌, length, All, Bool, true, false, not, ◌&&◌, Option, None, Some, is_some, unwrap_or, option_and_then, nat_eq, if◌then◌else◌}
use Rattle.std.specs.List.{IsDistinct}
use Rattle.std.specs.Map.{keys_of}
use Rattle.s3_base.specs.Errors.{eperm, enoent, enotdir, eisdir, einval}
use Rattle.op_frames.specs.declared.operation.Op.{Op}
use Rattle.op_frames.specs.declared.operation.Op.TheVariants as ops
use Rattle.op_frames.specs.declared.operation.Op.TheVariants.{Getattr, Create, Read, Write}
use Rattle.op_frames.specs.declared.reply.Reply.{Reply}
use Rattle.op_frames.specs.declared.reply.Reply.TheVariants as replies
use Rattle.plain_tree.specs.Tree.{Regular, Directory, Link, Node, Tree, node_at, handle_of, with_node, with_handle, change_node, named, touched, stamped, without_node, without_handle}
use Rattle.plain_tree.specs.Attributes.{attr_of, at_most_u64, entry_count, byte_count}
use Rattle.plain_tree.specs.Entries.{is_folder, entry_at, child_at, add_entry, drop_entry, is_named, settled}
use Rattle.plain_tree.specs.Below.{at_and_below, is_at_or_below}
use Rattle.plain_tree.specs.Checks.{fails_with, first_failure, name_check, attribute_name_check, target_check, mode_check, page_check, time_check, node_check, directory_check, file_check, link_check, no_directory_check, empty_check, lock_check, keep_check, root_check, entry_check, free_check, ids_check, hand_check, open_check, read_length_check, write_end_check, size_check, value_check, flag_check, attribute_check, cache_check}
use Rattle.plain_tree.specs.Files.{written_at, read_at, resized, open_file, inode_of, with_bytes, target_of}
use Rattle.plain_tree.specs.Pages.{directory_page, attribute_page, attribute_at, with_attribute, without_attribute}
use Rattle.plain_tree.specs.Subtrees.{is_same, dropped, moved_entry, with_copy, with_lock, without_tree, without_pass}

-- ---- checks

-- of a directory in which something changes
abbrev pub parent_checks : Tree → ℕ → List (Option ℕ)
parent_checks t parent = node_check (node_at t parent) ∷ directory_check (node_at t parent) ∷ lock_check (node_at t parent) ∷ []

-- of a new node in a directory
abbrev pub make_checks : Tree → ℕ → List ℕ → ℕ → List (Option ℕ)
make_checks t parent name mode =
    name_check name ∷ mode_check mode ∷ node_check (node_at t parent) ∷ directory_check (node_at t parent)
    ∷ lock_check (node_at t parent) ∷ free_check (node_at t parent) name ∷ ids_check t 1 ∷ []

-- of an entry that goes
abbrev pub drop_checks : Tree → ℕ → List ℕ → List (Option ℕ)
drop_checks t parent name = name_check name ∷ [] ++ parent_checks t parent ++ keep_check parent name ∷ entry_check (entry_at t parent name) ∷ []

-- of a rename, where the names name two nodes: old is what moves, and new is what it replaces, if there is one
abbrev pub move_checks : Tree → Option ℕ → Option Node → Option Node → ℕ → List (Option ℕ)
move_checks t inode old new new_parent =
    fails_with einval (is_at_or_below t (unwrap_or inode 0) new_parent && is_folder old) ∷ lock_check new
    ∷ fails_with eisdir (is_some new && is_folder new && not (is_folder old)) ∷ fails_with enotdir (is_some new && not (is_folder new) && is_folder old) ∷ empty_check new ∷ []

abbrev pub rename_checks : Tree → ℕ → List ℕ → ℕ → List ℕ → List (Option ℕ)
rename_checks t parent name new_parent new_name =
    name_check name ∷ name_check new_name ∷ node_check (node_at t parent) ∷ directory_check (node_at t parent) ∷ node_check (node_at t new_parent) ∷ directory_check (node_at t new_parent)
    ∷ lock_check (node_at t parent) ∷ lock_check (node_at t new_parent) ∷ keep_check parent name ∷ keep_check new_parent new_name ∷ entry_check (entry_at t parent name) ∷ lock_check (child_at t parent name)
    ∷ (if is_same (entry_at t new_parent new_name) (entry_at t parent name) then [] else move_checks t (entry_at t parent name) (child_at t parent name) (child_at t new_parent new_name) new_parent)

-- the checks of an operation of a pass, in their order
abbrev pub checks : Tree → ℕ → Op → List (Option ℕ)
checks t pass (ops.Lookup parent name) = name_check name ∷ node_check (node_at t parent) ∷ directory_check (node_at t parent) ∷ entry_check (entry_at t parent name) ∷ []
checks t pass (Getattr inode) = node_check (node_at t inode) ∷ []
checks t pass (ops.Chmod inode mode) = mode_check mode ∷ node_check (node_at t inode) ∷ lock_check (node_at t inode) ∷ []
checks t pass (ops.Chown inode uid gid) = node_check (node_at t inode) ∷ lock_check (node_at t inode) ∷ []
checks t pass (ops.Utimes inode mtime) = time_check mtime ∷ node_check (node_at t inode) ∷ lock_check (node_at t inode) ∷ []
checks t pass (ops.Truncate inode size) = node_check (node_at t inode) ∷ file_check (node_at t inode) ∷ lock_check (node_at t inode) ∷ size_check size ∷ []
checks t pass (ops.Mkdir parent name mode uid gid) = make_checks t parent name mode
checks t pass (Create parent name mode uid gid) = make_checks t parent name mode ++ hand_check t ∷ []
checks t pass (ops.Unlink parent name) = drop_checks t parent name ++ no_directory_check eisdir (child_at t parent name) ∷ lock_check (child_at t parent name) ∷ []
checks t pass (ops.Rmdir parent name) = drop_checks t parent name ++ directory_check (child_at t parent name) ∷ lock_check (child_at t parent name) ∷ empty_check (child_at t parent name) ∷ []
checks t pass (ops.Rename parent name new_parent new_name) = rename_checks t parent name new_parent new_name
checks t pass (ops.Link inode parent name) =
    name_check name ∷ node_check (node_at t inode) ∷ node_check (node_at t parent) ∷ directory_check (node_at t parent) ∷ no_directory_check eperm (node_at t inode)
    ∷ lock_check (node_at t inode) ∷ lock_check (node_at t parent) ∷ fails_with enoent (not (is_named t inode)) ∷ free_check (node_at t parent) name ∷ []
checks t pass (ops.Symlink parent name target uid gid) = name_check name ∷ target_check target ∷ [] ++ parent_checks t parent ++ free_check (node_at t parent) name ∷ ids_check t 1 ∷ []
checks t pass (ops.Readlink inode) = node_check (node_at t inode) ∷ link_check (node_at t inode) ∷ []
checks t pass (ops.Open inode) = node_check (node_at t inode) ∷ file_check (node_at t inode) ∷ hand_check t ∷ []
checks t pass (ops.Release handle) = open_check (open_file t pass handle) ∷ []
checks t pass (Read handle offset count) = read_length_check count ∷ open_check (open_file t pass handle) ∷ []
checks t pass (Write handle offset bytes) =
    open_check (open_file t pass handle) ∷ lock_check (node_at t (inode_of (handle_of t pass handle))) ∷ write_end_check offset bytes ∷ []
checks t pass (ops.Fsync handle) = open_check (open_file t pass handle) ∷ []
checks t pass (ops.Readdir inode after most) = page_check most ∷ node_check (node_at t inode) ∷ directory_check (node_at t inode) ∷ []
checks t pass ops.Statfs = []
checks t pass (ops.Setxattr inode name flag value) =
    attribute_name_check name ∷ value_check value ∷ node_check (node_at t inode) ∷ lock_check (node_at t inode) ∷ flag_check flag (is_some (attribute_at t inode name)) ∷ []
checks t pass (ops.Getxattr inode name) = attribute_name_check name ∷ node_check (node_at t inode) ∷ attribute_check (attribute_at t inode name) ∷ []
checks t pass (ops.Listxattr inode after most) = page_check most ∷ node_check (node_at t inode) ∷ []
checks t pass (ops.Removexattr inode name) = attribute_name_check name ∷ node_check (node_at t inode) ∷ lock_check (node_at t inode) ∷ attribute_check (attribute_at t inode name) ∷ []
checks t pass (ops.CopyTree source parent name) =
    name_check name ∷ node_check (node_at t source) ∷ directory_check (node_at t source) ∷ node_check (node_at t parent) ∷ directory_check (node_at t parent) ∷ fails_with einval (is_at_or_below t source parent)
    ∷ lock_check (node_at t parent) ∷ free_check (node_at t parent) name ∷ ids_check t (length (at_and_below t source)) ∷ []
checks t pass (ops.LockTree inode) = node_check (node_at t inode) ∷ directory_check (node_at t inode) ∷ root_check inode ∷ []
checks t pass (ops.RemoveTree parent name) = drop_checks t parent name ++ directory_check (child_at t parent name) ∷ []
checks t pass ops.FlushCache = []
checks t pass ops.UploadMeta = []
checks t pass (ops.CacheSize entries) = cache_check t entries ∷ []
checks t pass ops.Leave = []
checks t pass ops.Unmount = []

-- ---- effects

-- a file that was just made
abbrev pub new_file : ℕ → ℕ → ℕ → ℕ → Node
new_file mode uid gid now = record { mode = mode; uid = uid; gid = gid; mtime = now; ctime = now; locked = false; attributes = []; content = Regular [] }

abbrev pub new_directory : ℕ → ℕ → ℕ → ℕ → Node
new_directory mode uid gid now = record (new_file mode uid gid now) { content = Directory [] }

abbrev pub new_link : List ℕ → ℕ → ℕ → ℕ → Node
new_link target uid gid now = record (new_file 511 uid gid now) { content = Link target }

-- with a new file in the directory, opened for the pass
abbrev pub with_new_file : Tree → ℕ → ℕ → List ℕ → Node → ℕ → Tree
with_new_file t pass parent name file now =
    change_node parent (λ node. touched now (record node { content = named name t.next_inode node.content }))
    (with_node file (with_handle (record { inode = t.next_inode; pass = pass }) t))

-- with another new node in the directory
abbrev pub with_new_node : ℕ → List ℕ → Node → ℕ → Tree → Tree
with_new_node parent name node now t = add_entry parent name t.next_inode now (with_node node t)

-- the tree after an operation whose checks all pass
abbrev pub effect : Tree → ℕ → Op → ℕ → Tree
effect t pass (ops.Lookup parent name) now = t
effect t pass (Getattr inode) now = t
effect t pass (ops.Chmod inode mode) now = change_node inode (λ node. stamped now (record node { mode = mode })) t
effect t pass (ops.Chown inode uid gid) now = change_node inode (λ node. stamped now (record node { uid = uid; gid = gid })) t
effect t pass (ops.Utimes inode mtime) now = change_node inode (λ node. stamped now (record node { mtime = mtime })) t
effect t pass (ops.Truncate inode size) now = change_node inode (λ node. touched now (record node { content = with_bytes (resized size) node.content })) t
effect t pass (ops.Mkdir parent name mode uid gid) now = with_new_node parent name (new_directory mode uid gid now) now t
effect t pass (Create parent name mode uid gid) now = with_new_file t pass parent name (new_file mode uid gid now) now
effect t pass (ops.Unlink parent name) now = dropped now (entry_at t parent name) (drop_entry parent name now t)
effect t pass (ops.Rmdir parent name) now = without_node (unwrap_or (entry_at t parent name) 0) (drop_entry parent name now t)
effect t pass (ops.Rename parent name new_parent new_name) now =
    if is_same (entry_at t new_parent new_name) (entry_at t parent name) then t else moved_entry parent name new_parent new_name now (entry_at t parent name) t
effect t pass (ops.Link inode parent name) now = change_node inode (stamped now) (add_entry parent name inode now t)
effect t pass (ops.Symlink parent name target uid gid) now = with_new_node parent name (new_link target uid gid now) now t
effect t pass (ops.Readlink inode) now = t
effect t pass (ops.Open inode) now = with_handle (record { inode = inode; pass = pass }) t
effect t pass (ops.Release handle) now = settled (inode_of (handle_of t pass handle)) (without_handle handle t)
effect t pass (Read handle offset count) now = t
effect t pass (Write handle offset bytes) now =
    if length bytes == 0 then t
    else change_node (inode_of (handle_of t pass handle)) (λ node. touched now (record node { content = with_bytes (written_at offset bytes) node.content })) t
effect t pass (ops.Fsync handle) now = t
effect t pass (ops.Readdir inode after most) now = t
effect t pass ops.Statfs now = t
effect t pass (ops.Setxattr inode name flag value) now = change_node inode (λ node. stamped now (with_attribute name value node)) t
effect t pass (ops.Getxattr inode name) now = t
effect t pass (ops.Listxattr inode after most) now = t
effect t pass (ops.Removexattr inode name) now = change_node inode (λ node. stamped now (without_attribute name node)) t
effect t pass (ops.CopyTree source parent name) now = with_copy source parent name now t
effect t pass (ops.LockTree inode) now = with_lock inode t
effect t pass (ops.RemoveTree parent name) now = without_tree parent name now (entry_at t parent name) t
effect t pass ops.FlushCache now = t
effect t pass ops.UploadMeta now = t
effect t pass (ops.CacheSize entries) now = t
effect t pass ops.Leave now = without_pass pass t
effect t pass ops.Unmount now = t

-- ---- replies

-- the attributes of a node, which the checks have found
abbrev pub attr_reply : Tree → ℕ → Reply
attr_reply t inode = elim (node_at t inode) [ Some node ↦ replies.Attr (attr_of t inode node) | None ↦ replies.Done ]

-- the reply to an operation whose checks all pass, with the tree before and the tree after
abbrev pub success : Tree → ℕ → Op → ℕ → Reply
success t pass (ops.Lookup parent name) now = attr_reply t (unwrap_or (entry_at t parent name) 0)
success t pass (Getattr inode) now = attr_reply t inode
success t pass (ops.Chmod inode mode) now = attr_reply (effect t pass (ops.Chmod inode mode) now) inode
success t pass (ops.Chown inode uid gid) now = attr_reply (effect t pass (ops.Chown inode uid gid) now) inode
success t pass (ops.Utimes inode mtime) now = attr_reply (effect t pass (ops.Utimes inode mtime) now) inode
success t pass (ops.Truncate inode size) now = attr_reply (effect t pass (ops.Truncate inode size) now) inode
success t pass (ops.Mkdir parent name mode uid gid) now = attr_reply (effect t pass (ops.Mkdir parent name mode uid gid) now) t.next_inode
success t pass (Create parent name mode uid gid) now =
    replies.Opened t.next_handle (attr_of (effect t pass (Create parent name mode uid gid) now) t.next_inode (new_file mode uid gid now))
success t pass (ops.Unlink parent name) now = replies.Done
success t pass (ops.Rmdir parent name) now = replies.Done
success t pass (ops.Rename parent name new_parent new_name) now = replies.Done
success t pass (ops.Link inode parent name) now = attr_reply (effect t pass (ops.Link inode parent name) now) inode
success t pass (ops.Symlink parent name target uid gid) now = attr_reply (effect t pass (ops.Symlink parent name target uid gid) now) t.next_inode
success t pass (ops.Readlink inode) now = replies.Bytes (unwrap_or (option_and_then (λ node. target_of node.content) (node_at t inode)) [])
success t pass (ops.Open inode) now = elim (node_at t inode) [ Some node ↦ replies.Opened t.next_handle (attr_of t inode node) | None ↦ replies.Done ]
success t pass (ops.Release handle) now = replies.Done
success t pass (Read handle offset count) now = replies.Bytes (read_at offset count (unwrap_or (open_file t pass handle) []))
success t pass (Write handle offset bytes) now = replies.Count (length bytes)
success t pass (ops.Fsync handle) now = replies.Done
success t pass (ops.Readdir inode after most) now = elim (node_at t inode) [ Some node ↦ replies.Entries (directory_page t node after most) | None ↦ replies.Entries [] ]
success t pass ops.Statfs now = replies.Stat t.block_size (at_most_u64 (length t.nodes)) (at_most_u64 (entry_count t)) (at_most_u64 (byte_count t))
success t pass (ops.Setxattr inode name flag value) now = replies.Done
success t pass (ops.Getxattr inode name) now = replies.Bytes (unwrap_or (attribute_at t inode name) [])
success t pass (ops.Listxattr inode after most) now = elim (node_at t inode) [ Some node ↦ replies.Names (attribute_page node after most) | None ↦ replies.Names [] ]
success t pass (ops.Removexattr inode name) now = replies.Done
success t pass (ops.CopyTree source parent name) now = attr_reply (effect t pass (ops.CopyTree source parent name) now) t.next_inode
success t pass (ops.LockTree inode) now = replies.Done
success t pass (ops.RemoveTree parent name) now = replies.Done
success t pass ops.FlushCache now = replies.Done
success t pass ops.UploadMeta now = replies.Done
success t pass (ops.CacheSize entries) now = replies.Done
success t pass ops.Leave now = replies.Done
success t pass ops.Unmount now = replies.Done

-- ---- operations

-- the reply to an operation of a pass at a time
unfoldable pub reply_to : Tree → ℕ → Op → ℕ → Reply
reply_to t pass op now = elim (first_failure (checks t pass op)) [ Some errno ↦ replies.Errno (record { 0 = errno }) | None ↦ success t pass op now ]

-- the tree after it
unfoldable pub tree_after : Tree → ℕ → Op → ℕ → Tree
tree_after t pass op now = elim (first_failure (checks t pass op)) [ Some errno ↦ t | None ↦ effect t pass op now ]

-- ---- what the laws speak of

-- operations that only read, and the controls that the plain tree leaves alone
abbrev pub only_reads : Op → Bool
only_reads (ops.Lookup parent name) = true
only_reads (ops.Getattr inode) = true
only_reads (ops.Readlink inode) = true
only_reads (ops.Read handle offset count) = true
only_reads (ops.Fsync handle) = true
only_reads (ops.Readdir inode after most) = true
only_reads ops.Statfs = true
only_reads (ops.Getxattr inode name) = true
only_reads (ops.Listxattr inode after most) = true
only_reads ops.FlushCache = true
only_reads ops.UploadMeta = true
only_reads (ops.CacheSize entries) = true
only_reads ops.Unmount = true
only_reads _ = false

-- the handle that an operation goes through
abbrev pub handle_used : Op → Option ℕ
handle_used (ops.Release handle) = Some handle
handle_used (ops.Read handle offset count) = Some handle
handle_used (ops.Write handle offset bytes) = Some handle
handle_used (ops.Fsync handle) = Some handle
handle_used _ = None

-- each handle number in use is below the next one
abbrev pub HandlesBelow : Tree → Type 0
HandlesBelow t = All (λ h. h < t.next_handle) (keys_of t.handles)

-- no two handles in use have one number
abbrev pub HandlesApart : Tree → Type 0
HandlesApart t = IsDistinct nat_eq (keys_of t.handles)

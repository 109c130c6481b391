-- Replies by which operations succeed: no error, no fault, and nothing lost.
use Rattle.std.proofs.Common.{◌≡◌, ℕ, [], false, Option, None, Some, refl}
use Rattle.std.specs.Prelude.{unwrap_or}
use Rattle.op_frames.specs.declared.operation.Op.{Op}
use Rattle.op_frames.specs.declared.operation.Op.TheVariants as ops
use Rattle.op_frames.specs.declared.reply.Reply.{Reply}
use Rattle.op_frames.specs.declared.reply.Reply.TheVariants as replies
use Rattle.plain_tree.specs.Attributes.{attr_of}
use Rattle.plain_tree.specs.Calls.{leaves_tree}
use Rattle.plain_tree.specs.Entries.{entry_at}
use Rattle.plain_tree.specs.Operations.{attr_reply, effect, success}
use Rattle.plain_tree.specs.Pages.{attribute_page, directory_page}
use Rattle.plain_tree.specs.Tree.{Node, Tree, node_at}

-- a reply by a node that is found, or another
found_goes_on : (found : Option Node) (page : Node → Reply) (empty : Reply) → ((node : Node) → leaves_tree (page node) ≡ false) → leaves_tree empty ≡ false
    → leaves_tree (elim found as (λ _. Reply) [ Some node ↦ page node | None ↦ empty ]) ≡ false
found_goes_on None page empty some none = none
found_goes_on (Some node) page empty some none = some node

attr_goes_on : (t : Tree) (inode : ℕ) → leaves_tree (attr_reply t inode) ≡ false
attr_goes_on t inode = found_goes_on (node_at t inode) (λ node. replies.Attr (attr_of t inode node)) replies.Done (λ node. refl) refl

pub success_goes_on : (t : Tree) (pass : ℕ) (op : Op) (now : ℕ) → leaves_tree (success t pass op now) ≡ false
success_goes_on t pass (ops.Lookup parent name) now = attr_goes_on t (unwrap_or (entry_at t parent name) 0)
success_goes_on t pass (ops.Getattr inode) now = attr_goes_on t inode
success_goes_on t pass (ops.Chmod inode mode) now = attr_goes_on (effect t pass (ops.Chmod inode mode) now) inode
success_goes_on t pass (ops.Chown inode uid gid) now = attr_goes_on (effect t pass (ops.Chown inode uid gid) now) inode
success_goes_on t pass (ops.Utimes inode mtime) now = attr_goes_on (effect t pass (ops.Utimes inode mtime) now) inode
success_goes_on t pass (ops.Truncate inode size) now = attr_goes_on (effect t pass (ops.Truncate inode size) now) inode
success_goes_on t pass (ops.Mkdir parent name mode uid gid) now = attr_goes_on (effect t pass (ops.Mkdir parent name mode uid gid) now) t.next_inode
success_goes_on t pass (ops.Link inode parent name) now = attr_goes_on (effect t pass (ops.Link inode parent name) now) inode
success_goes_on t pass (ops.Symlink parent name target uid gid) now = attr_goes_on (effect t pass (ops.Symlink parent name target uid gid) now) t.next_inode
success_goes_on t pass (ops.CopyTree source parent name) now = attr_goes_on (effect t pass (ops.CopyTree source parent name) now) t.next_inode
success_goes_on t pass (ops.Open inode) now = found_goes_on (node_at t inode) (λ node. replies.Opened t.next_handle (attr_of t inode node)) replies.Done (λ node. refl) refl
success_goes_on t pass (ops.Readdir inode after most) now =
    found_goes_on (node_at t inode) (λ node. replies.Entries (directory_page t node after most)) (replies.Entries []) (λ node. refl) refl
success_goes_on t pass (ops.Listxattr inode after most) now =
    found_goes_on (node_at t inode) (λ node. replies.Names (attribute_page node after most)) (replies.Names []) (λ node. refl) refl
success_goes_on t pass _ now = refl

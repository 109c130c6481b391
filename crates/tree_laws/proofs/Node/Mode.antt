-- Replies have the modes of nodes.
use Rattle.std.proofs.Common.{◌≡◌, ◌≤◌, ℕ, List, [], Option, None, Some, refl, sym, subst}
use Rattle.op_frames.specs.declared.operation.Op.{Op}
use Rattle.op_frames.specs.declared.operation.Op.TheVariants as ops
use Rattle.op_frames.specs.declared.reply.Reply.{Reply}
use Rattle.op_frames.specs.declared.reply.Reply.TheVariants as replies
use Rattle.plain_tree.specs.Attributes.{attr_of}
use Rattle.plain_tree.specs.Checks.{first_failure}
use Rattle.plain_tree.specs.Entries.{entry_at}
use Rattle.plain_tree.specs.Operations.{checks, effect, attr_reply, success, reply_to}
use Rattle.plain_tree.specs.Pages.{directory_page, attribute_page}
use Rattle.plain_tree.specs.Tree.{Node, Tree, node_at}
use Rattle.plain_tree.specs.WellFormed.{HaveModes}
use Rattle.plain_tree.proofs.Replies.{reply_at, tree_at}
use Rattle.std.specs.Prelude.{unwrap_or}
use Rattle.tree_laws.proofs.Node.Limits.{HaveModes-tree_after, mode-node_at}
use Rattle.tree_laws.proofs.Walk.Passed.{can_create}

-- the attributes in it, if it has any, have a mode of the twelve bits of permissions
abbrev pub HasModes : Reply → Type 0
HasModes (replies.Attr attr) = attr.mode ≤ 4095
HasModes (replies.Opened handle attr) = attr.mode ≤ 4095
HasModes reply = Unit {0}

HasModes-attr_reply : (t : Tree) (x : ℕ) → HaveModes t.nodes → HasModes (attr_reply t x)
HasModes-attr_reply t x have = by_node (node_at t x) refl
  where
    by_node : (found : Option Node) → node_at t x ≡ found
        → HasModes (elim found as (λ _. Reply) [ Some node ↦ replies.Attr (attr_of t x node) | None ↦ replies.Done ])
    by_node None is = tt
    by_node (Some node) is = mode-node_at t x node have is

opened_has : (t : Tree) (x : ℕ) → HaveModes t.nodes
    → HasModes (elim (node_at t x) as (λ _. Reply) [ Some node ↦ replies.Opened t.next_handle (attr_of t x node) | None ↦ replies.Done ])
opened_has t x have = by_node (node_at t x) refl
  where
    by_node : (found : Option Node) → node_at t x ≡ found
        → HasModes (elim found as (λ _. Reply) [ Some node ↦ replies.Opened t.next_handle (attr_of t x node) | None ↦ replies.Done ])
    by_node None is = tt
    by_node (Some node) is = mode-node_at t x node have is

entries_have : (t : Tree) (after : List ℕ) (most : ℕ) (found : Option Node)
    → HasModes (elim found as (λ _. Reply) [ Some node ↦ replies.Entries (directory_page t node after most) | None ↦ replies.Entries [] ])
entries_have t after most None = tt
entries_have t after most (Some node) = tt

names_have : (after : List ℕ) (most : ℕ) (found : Option Node)
    → HasModes (elim found as (λ _. Reply) [ Some node ↦ replies.Names (attribute_page node after most) | None ↦ replies.Names [] ])
names_have after most None = tt
names_have after most (Some node) = tt

HasModes-success : (t : Tree) (pass now : ℕ) (op : Op) → first_failure (checks t pass op) ≡ None → HaveModes t.nodes
    → HaveModes (effect t pass op now).nodes → HasModes (success t pass op now)
HasModes-success t pass now (ops.Lookup parent name) passes before after = HasModes-attr_reply t (unwrap_or (entry_at t parent name) 0) before
HasModes-success t pass now (ops.Getattr inode) passes before after = HasModes-attr_reply t inode before
HasModes-success t pass now (ops.Chmod inode mode) passes before after = HasModes-attr_reply (effect t pass (ops.Chmod inode mode) now) inode after
HasModes-success t pass now (ops.Chown inode uid gid) passes before after = HasModes-attr_reply (effect t pass (ops.Chown inode uid gid) now) inode after
HasModes-success t pass now (ops.Utimes inode mtime) passes before after = HasModes-attr_reply (effect t pass (ops.Utimes inode mtime) now) inode after
HasModes-success t pass now (ops.Truncate inode size) passes before after = HasModes-attr_reply (effect t pass (ops.Truncate inode size) now) inode after
HasModes-success t pass now (ops.Mkdir parent name mode uid gid) passes before after = HasModes-attr_reply (effect t pass (ops.Mkdir parent name mode uid gid) now) t.next_inode after
HasModes-success t pass now (ops.Create parent name mode uid gid) passes before after = (can_create t pass parent name mode uid gid passes).0
HasModes-success t pass now (ops.Link inode parent name) passes before after = HasModes-attr_reply (effect t pass (ops.Link inode parent name) now) inode after
HasModes-success t pass now (ops.Symlink parent name target uid gid) passes before after = HasModes-attr_reply (effect t pass (ops.Symlink parent name target uid gid) now) t.next_inode after
HasModes-success t pass now (ops.Open inode) passes before after = opened_has t inode before
HasModes-success t pass now (ops.Readdir inode start most) passes before after = entries_have t start most (node_at t inode)
HasModes-success t pass now (ops.Listxattr inode start most) passes before after = names_have start most (node_at t inode)
HasModes-success t pass now (ops.CopyTree source parent name) passes before after = HasModes-attr_reply (effect t pass (ops.CopyTree source parent name) now) t.next_inode after
HasModes-success t pass now op passes before after = tt

pub HasModes-reply_to : (t : Tree) (pass now : ℕ) (op : Op) → HaveModes t.nodes → HasModes (reply_to t pass op now)
HasModes-reply_to t pass now op have = by_failure (first_failure (checks t pass op)) refl
  where
    by_failure : (failure : Option ℕ) → first_failure (checks t pass op) ≡ failure → HasModes (reply_to t pass op now)
    by_failure (Some errno) is = subst HasModes (sym (reply_at t pass now op (Some errno) is)) tt
    by_failure None is =
        subst HasModes (sym (reply_at t pass now op None is))
        (HasModes-success t pass now op is have
        (subst (λ (after : Tree). HaveModes after.nodes) (tree_at t pass now op None is) (HaveModes-tree_after t pass now op have)))

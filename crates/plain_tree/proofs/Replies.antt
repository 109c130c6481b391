-- What the first failing check makes of reply and tree.
use Rattle.std.proofs.Common.{◌≡◌, ℕ, List, [], ◌∷◌, Option, None, Some, refl, sym, ap, ◌∙◌}
use Rattle.op_frames.specs.declared.operation.Op.{Op}
use Rattle.op_frames.specs.declared.operation.Op.TheVariants as ops
use Rattle.op_frames.specs.declared.reply.Reply.{Reply}
use Rattle.op_frames.specs.declared.reply.Reply.TheVariants as replies
use Rattle.s3_base.specs.declared.errors.Errno.{Errno}
use Rattle.plain_tree.specs.Attributes.{attr_of}
use Rattle.plain_tree.specs.Checks.{first_failure}
use Rattle.plain_tree.specs.Operations.{checks, effect, success, reply_to, tree_after}
use Rattle.plain_tree.specs.Pages.{directory_page, attribute_page}
use Rattle.plain_tree.specs.Tree.{Tree, Node}

-- ---- checks of which none fails

pub first_check_passes : (check : Option ℕ) (others : List (Option ℕ)) → first_failure (check ∷ others) ≡ None → check ≡ None
first_check_passes None others passes = refl
first_check_passes (Some errno) others passes = absurd (cc passes)

pub other_checks_pass : (check : Option ℕ) (others : List (Option ℕ)) → first_failure (check ∷ others) ≡ None → first_failure others ≡ None
other_checks_pass None others passes = passes
other_checks_pass (Some errno) others passes = absurd (cc passes)

-- ---- the first failure

pub reply_at : (t : Tree) (pass now : ℕ) (op : Op) (failure : Option ℕ) → first_failure (checks t pass op) ≡ failure
    → reply_to t pass op now ≡ elim failure [ Some errno ↦ replies.Errno (record { 0 = errno }) | None ↦ success t pass op now ]
unfolding reply_to
reply_at t pass now op failure is =
    ap (λ f. elim f as (λ _. Reply) [ Some errno ↦ replies.Errno (record { 0 = errno }) | None ↦ success t pass op now ]) is

pub tree_at : (t : Tree) (pass now : ℕ) (op : Op) (failure : Option ℕ) → first_failure (checks t pass op) ≡ failure
    → tree_after t pass op now ≡ elim failure [ Some errno ↦ t | None ↦ effect t pass op now ]
unfolding tree_after
tree_at t pass now op failure is = ap (λ f. elim f as (λ _. Tree) [ Some errno ↦ t | None ↦ effect t pass op now ]) is

-- where the tree without a failing check is as before, the tree after is as before
pub same_after : (t : Tree) (pass now : ℕ) (op : Op) (failure : Option ℕ) → first_failure (checks t pass op) ≡ failure → effect t pass op now ≡ t
    → tree_after t pass op now ≡ t
same_after t pass now op (Some errno) is same = tree_at t pass now op (Some errno) is
same_after t pass now op None is same = tree_at t pass now op None is ∙ same

-- ---- a success is no refusal

no_attr : (t : Tree) (inode : ℕ) (errno : Errno) (node : Option Node)
    → elim node as (λ _. Reply) [ Some node ↦ replies.Attr (attr_of t inode node) | None ↦ replies.Done ] ≡ replies.Errno errno → ⊥
no_attr t inode errno (Some node) is = cc
no_attr t inode errno None is = cc

no_opened : (t : Tree) (inode : ℕ) (errno : Errno) (node : Option Node)
    → elim node as (λ _. Reply) [ Some node ↦ replies.Opened t.next_handle (attr_of t inode node) | None ↦ replies.Done ] ≡ replies.Errno errno → ⊥
no_opened t inode errno (Some node) is = cc
no_opened t inode errno None is = cc

no_entries : (t : Tree) (after : List ℕ) (most : ℕ) (errno : Errno) (node : Option Node)
    → elim node as (λ _. Reply) [ Some node ↦ replies.Entries (directory_page t node after most) | None ↦ replies.Entries [] ] ≡ replies.Errno errno → ⊥
no_entries t after most errno (Some node) is = cc
no_entries t after most errno None is = cc

no_names : (after : List ℕ) (most : ℕ) (errno : Errno) (node : Option Node)
    → elim node as (λ _. Reply) [ Some node ↦ replies.Names (attribute_page node after most) | None ↦ replies.Names [] ] ≡ replies.Errno errno → ⊥
no_names after most errno (Some node) is = cc
no_names after most errno None is = cc

no_refusal : (t : Tree) (pass now : ℕ) (op : Op) (errno : Errno) → success t pass op now ≡ replies.Errno errno → ⊥
no_refusal t pass now (ops.Lookup parent name) errno is = no_attr t _ errno _ is
no_refusal t pass now (ops.Getattr inode) errno is = no_attr t inode errno _ is
no_refusal t pass now (ops.Chmod inode mode) errno is = no_attr (effect t pass (ops.Chmod inode mode) now) inode errno _ is
no_refusal t pass now (ops.Chown inode uid gid) errno is = no_attr (effect t pass (ops.Chown inode uid gid) now) inode errno _ is
no_refusal t pass now (ops.Utimes inode mtime) errno is = no_attr (effect t pass (ops.Utimes inode mtime) now) inode errno _ is
no_refusal t pass now (ops.Truncate inode size) errno is = no_attr (effect t pass (ops.Truncate inode size) now) inode errno _ is
no_refusal t pass now (ops.Mkdir parent name mode uid gid) errno is = no_attr (effect t pass (ops.Mkdir parent name mode uid gid) now) t.next_inode errno _ is
no_refusal t pass now (ops.Create parent name mode uid gid) errno is = cc
no_refusal t pass now (ops.Unlink parent name) errno is = cc
no_refusal t pass now (ops.Rmdir parent name) errno is = cc
no_refusal t pass now (ops.Rename parent name new_parent new_name) errno is = cc
no_refusal t pass now (ops.Link inode parent name) errno is = no_attr (effect t pass (ops.Link inode parent name) now) inode errno _ is
no_refusal t pass now (ops.Symlink parent name target uid gid) errno is = no_attr (effect t pass (ops.Symlink parent name target uid gid) now) t.next_inode errno _ is
no_refusal t pass now (ops.Readlink inode) errno is = cc
no_refusal t pass now (ops.Open inode) errno is = no_opened t inode errno _ is
no_refusal t pass now (ops.Release handle) errno is = cc
no_refusal t pass now (ops.Read handle offset count) errno is = cc
no_refusal t pass now (ops.Write handle offset bytes) errno is = cc
no_refusal t pass now (ops.Fsync handle) errno is = cc
no_refusal t pass now (ops.Readdir inode after most) errno is = no_entries t after most errno _ is
no_refusal t pass now ops.Statfs errno is = cc
no_refusal t pass now (ops.Setxattr inode name flag value) errno is = cc
no_refusal t pass now (ops.Getxattr inode name) errno is = cc
no_refusal t pass now (ops.Listxattr inode after most) errno is = no_names after most errno _ is
no_refusal t pass now (ops.Removexattr inode name) errno is = cc
no_refusal t pass now (ops.CopyTree source parent name) errno is = no_attr (effect t pass (ops.CopyTree source parent name) now) t.next_inode errno _ is
no_refusal t pass now (ops.LockTree inode) errno is = cc
no_refusal t pass now (ops.RemoveTree parent name) errno is = cc
no_refusal t pass now ops.FlushCache errno is = cc
no_refusal t pass now ops.UploadMeta errno is = cc
no_refusal t pass now (ops.CacheSize entries) errno is = cc
no_refusal t pass now ops.Leave errno is = cc
no_refusal t pass now ops.Unmount errno is = cc

-- a refusal changes nothing
pub same_if_refused : (t : Tree) (pass now : ℕ) (op : Op) (errno : Errno) (failure : Option ℕ) → first_failure (checks t pass op) ≡ failure
    → reply_to t pass op now ≡ replies.Errno errno → tree_after t pass op now ≡ t
same_if_refused t pass now op errno (Some n) is refused = tree_at t pass now op (Some n) is
same_if_refused t pass now op errno None is refused = absurd (no_refusal t pass now op errno (sym (reply_at t pass now op None is) ∙ refused))

-- Which operations the core has, and what it answers. When an operation is built, its code goes into `is_built_code`.
use Rattle.std.specs.Prelude.{ℕ, ◌==◌, [], ◌∷◌, Bool, if◌then◌else◌}
use Rattle.std.specs.List.{list_any}
use Rattle.op_frames.specs.declared.operation.Op.{Op}
use Rattle.op_frames.specs.declared.reply.Reply.{Reply}
use Rattle.op_frames.specs.declared.reply.Reply.TheVariants as replies
use Rattle.op_frames.specs.Operations.{op_code}
use Rattle.op_frames.specs.Replay.{Request}
use Rattle.plain_tree.specs.Tree.{Tree}
use Rattle.plain_tree.specs.Operations.{reply_to}

-- the codes of the operations that are built: Lookup, Getattr, Chmod, Chown, Utimes, Truncate, Mkdir, Create, Unlink, Rmdir, Rename,
-- Link, Symlink, Readlink, Open, Release, Read, Write, Fsync, Readdir, Statfs, the four on extended attributes, CopyTree, LockTree,
-- RemoveTree, and Leave
abbrev pub is_built_code : ℕ → Bool
is_built_code code =
    list_any (λ built. built == code)
    (1 ∷ 2 ∷ 3 ∷ 4 ∷ 5 ∷ 6 ∷ 7 ∷ 8 ∷ 9 ∷ 10 ∷ 11 ∷ 12 ∷ 13 ∷ 14 ∷ 15 ∷ 16 ∷ 17 ∷ 18 ∷ 19 ∷ 20 ∷ 21 ∷ 22 ∷ 23 ∷ 24 ∷ 25 ∷ 26 ∷ 27 ∷ 28 ∷ 32 ∷ [])

abbrev pub is_built : Op → Bool
is_built op = is_built_code (op_code op)

-- the reply to an operation that is not built: ENOSYS
abbrev pub not_built : Reply
not_built = replies.Errno (record { 0 = 38 })

-- The reply to a call: that of the plain tree's rules, or ENOSYS before every check where the operation is not built.
abbrev pub core_reply : Tree → Request → Reply
core_reply t call = if is_built call.op then reply_to t call.pass call.op call.now else not_built

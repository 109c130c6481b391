-- Words for worked calls and their replies.
use Rattle.std.specs.Prelude.{ℕ, List, false}
use Rattle.op_frames.specs.declared.operation.Op.{Op}
use Rattle.op_frames.specs.declared.reply.Attr.{Attr}
use Rattle.op_frames.specs.declared.reply.Reply.{Reply}
use Rattle.op_frames.specs.declared.reply.Reply.TheVariants as replies
use Rattle.s3_base.specs.declared.node_kind.Kind.TheVariants as kinds
use Rattle.op_frames.specs.Replay.{Request}
use Rattle.plain_tree.specs.Tree.{Tree, made_tree}
use Rattle.plain_tree.specs.Calls.{replies_to}

-- the tree of the worked calls: blocks of 4,096 bytes, made at time 0
abbrev pub made : Tree
made = made_tree 4096 0

-- a call at a time, and one at time 5
abbrev pub at : ℕ → ℕ → Op → Request
at pass now op = record { pass = pass; now = now; op = op }

abbrev pub by : ℕ → Op → Request
by pass op = at pass 5 op

-- the attributes of a file, a directory and a symbolic link of the user and group 0 that are not locked: the inode, the
-- count of links, the size, and both times
abbrev pub file : ℕ → ℕ → ℕ → ℕ → ℕ → Attr
file inode links size mtime ctime = record { inode = inode; kind = kinds.Regular; mode = 420; uid = 0; gid = 0; links = links; size = size; mtime = mtime; ctime = ctime; locked = false }

abbrev pub directory : ℕ → ℕ → ℕ → Attr
directory inode mtime ctime = record { inode = inode; kind = kinds.Directory; mode = 493; uid = 0; gid = 0; links = 1; size = 0; mtime = mtime; ctime = ctime; locked = false }

abbrev pub link : ℕ → ℕ → ℕ → Attr
link inode size time = record { inode = inode; kind = kinds.Link; mode = 511; uid = 0; gid = 0; links = 1; size = size; mtime = time; ctime = time; locked = false }

-- a refusal
abbrev pub errno : ℕ → Reply
errno number = replies.Errno (record { 0 = number })

-- the replies to calls from the made tree on
abbrev pub answers : List Request → List Reply
answers calls = replies_to made calls

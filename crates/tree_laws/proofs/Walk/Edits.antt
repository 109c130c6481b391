-- What operations write into a node, and the nodes that they make, as values.
use Rattle.std.proofs.Common.{◌≡◌, ◌≤◌, ◌<◌, ℕ, ◌+◌, ◌^◌, List, None, length}
use Rattle.op_frames.specs.declared.operation.Op.{Op}
use Rattle.plain_tree.specs.Classes.{Bytes, class_of}
use Rattle.plain_tree.specs.Checks.{name_check, attribute_name_check, value_check, target_check, lock_check}
use Rattle.plain_tree.specs.Entries.{unnamed}
use Rattle.plain_tree.specs.Files.{with_bytes, written_at, resized}
use Rattle.plain_tree.specs.Operations.{new_file, new_directory, new_link}
use Rattle.plain_tree.specs.Pages.{with_attribute, without_attribute}
use Rattle.plain_tree.specs.Tree.{Node, Tree, node_at, named, touched, stamped}

-- what an operation writes into a node that is there
pub data Edit : Type 0 where
  Stamp : Edit
  Mode : (mode : ℕ) → Edit
  Owner : (uid gid : ℕ) → Edit
  Mtime : (mtime : ℕ) → Edit
  Resize : (size : ℕ) → Edit
  Write : (offset : ℕ) (bytes : List ℕ) → Edit
  Attribute : (name value : List ℕ) → Edit
  NoAttribute : (name : List ℕ) → Edit
  Entry : (name : List ℕ) (inode : ℕ) → Edit
  NoEntry : (name : List ℕ) → Edit

-- what an edit makes of a node at a time
abbrev pub edited : ℕ → Edit → Node → Node
edited now Stamp node = stamped now node
edited now (Mode mode) node = stamped now (record node { mode = mode })
edited now (Owner uid gid) node = stamped now (record node { uid = uid; gid = gid })
edited now (Mtime mtime) node = stamped now (record node { mtime = mtime })
edited now (Resize size) node = touched now (record node { content = with_bytes (resized size) node.content })
edited now (Write offset bytes) node = touched now (record node { content = with_bytes (written_at offset bytes) node.content })
edited now (Attribute name value) node = stamped now (with_attribute name value node)
edited now (NoAttribute name) node = stamped now (without_attribute name node)
edited now (Entry name inode) node = touched now (record node { content = named name inode node.content })
edited now (NoEntry name) node = touched now (record node { content = unnamed name node.content })

-- the checks let it pass by its values
abbrev pub Fits : Edit → Type 0
Fits (Mode mode) = mode ≤ 4095
Fits (Mtime mtime) = mtime < 2 ^ 62
Fits (Resize size) = size ≤ 2 ^ 50
Fits (Write offset bytes) = offset + length bytes ≤ 2 ^ 50
Fits (Attribute name value) = (attribute_name_check name ≡ None) × (value_check value ≡ None)
Fits (Entry name inode) = name_check name ≡ None
Fits e = Unit {0}

-- a locked node is stamped at most
abbrev pub IsAllowed : Tree → ℕ → Edit → Type 0
IsAllowed t inode Stamp = Unit {0}
IsAllowed t inode e = lock_check (node_at t inode) ≡ None

-- an operation writes it: bytes into files, if it works on the bytes of one file
abbrev pub IsOf : Op → Edit → Type 0
IsOf op (Resize size) = class_of op ≡ Bytes
IsOf op (Write offset bytes) = class_of op ≡ Bytes
IsOf op e = Unit {0}

-- it leaves the entries alone
abbrev pub SparesEntries : Edit → Type 0
SparesEntries (Entry name inode) = ⊥
SparesEntries (NoEntry name) = ⊥
SparesEntries e = Unit {0}

-- a node that an operation makes
pub data NewNode : Type 0 where
  File : (mode uid gid : ℕ) → NewNode
  Folder : (mode uid gid : ℕ) → NewNode
  Symlink : (target : List ℕ) (uid gid : ℕ) → NewNode

-- the node that is made at a time
abbrev pub built : ℕ → NewNode → Node
built now (File mode uid gid) = new_file mode uid gid now
built now (Folder mode uid gid) = new_directory mode uid gid now
built now (Symlink target uid gid) = new_link target uid gid now

-- the checks let it pass by its values
abbrev pub Begins : NewNode → Type 0
Begins (File mode uid gid) = mode ≤ 4095
Begins (Folder mode uid gid) = mode ≤ 4095
Begins (Symlink target uid gid) = target_check target ≡ None

-- The operations, their codes and their fields in order.
use Rattle.std.specs.Prelude.{ℕ, ◌==◌, List, ◌∷◌, Bool, true, [], ◌||◌, nat_le, if◌then◌else◌, Result, Ok}
use Rattle.frame_fields.specs.declared.fault.FrameFault.{FrameFault}
use Rattle.op_frames.specs.declared.operation.Op.{Op}
use Rattle.op_frames.specs.declared.operation.Op.TheVariants.{Lookup, Getattr, Chmod, Chown, Utimes, Truncate, Mkdir, Create, Unlink, Rmdir, Rename, Link, Symlink, Readlink, Open, Release, Read, Write, Fsync, Readdir, Statfs, Setxattr, Getxattr, Listxattr, Removexattr, CopyTree, LockTree, RemoveTree, FlushCache, UploadMeta, CacheSize, Leave, Unmount}
use Rattle.op_frames.specs.declared.operation.SetFlag.{SetFlag}
use Rattle.op_frames.specs.declared.operation.SetFlag.TheVariants as flags
use Rattle.op_frames.specs.declared.operation.Step.{Step}
use Rattle.op_frames.specs.declared.operation.Step.TheVariants.{Call, End}
use Rattle.frame_fields.specs.Format.{Rest, Format, ◌>>=◌, byte, ◌▸◌, made, coded, between}
use Rattle.frame_fields.specs.Fields.{u16_field, u32_field, u64_field, name_field, data_field, pass_field, time_field}

-- which attributes may be set: any, only a new one, or only an old one
abbrev pub set_flag_code : SetFlag → ℕ
set_flag_code flags.Any = 0
set_flag_code flags.New = 1
set_flag_code flags.Old = 2

abbrev pub set_flag_of : ℕ → SetFlag
set_flag_of code = if code == 0 then flags.Any else (if code == 1 then flags.New else flags.Old)

unfoldable pub set_flag_field : Format SetFlag
set_flag_field = coded (between 0 2) set_flag_of set_flag_code

-- ---- operations

-- of lookup, unlink, rmdir, getxattr, removexattr and remove_tree
abbrev pub lookup_fields : Format (ℕ × List ℕ)
lookup_fields = u64_field ▸ name_field

-- of getattr, readlink, open, release, fsync and lock_tree
abbrev pub getattr_fields : Format ℕ
getattr_fields = u64_field

abbrev pub chmod_fields : Format (ℕ × ℕ)
chmod_fields = u64_field ▸ u16_field

abbrev pub chown_fields : Format (ℕ × (ℕ × ℕ))
chown_fields = u64_field ▸ u32_field ▸ u32_field

-- of utimes and truncate
abbrev pub utimes_fields : Format (ℕ × ℕ)
utimes_fields = u64_field ▸ u64_field

-- of mkdir and create
abbrev pub create_fields : Format (ℕ × (List ℕ × (ℕ × (ℕ × ℕ))))
create_fields = u64_field ▸ name_field ▸ u16_field ▸ u32_field ▸ u32_field

abbrev pub rename_fields : Format (ℕ × (List ℕ × (ℕ × List ℕ)))
rename_fields = u64_field ▸ name_field ▸ u64_field ▸ name_field

-- of link and copy_tree
abbrev pub link_fields : Format (ℕ × (ℕ × List ℕ))
link_fields = u64_field ▸ u64_field ▸ name_field

abbrev pub symlink_fields : Format (ℕ × (List ℕ × (List ℕ × (ℕ × ℕ))))
symlink_fields = u64_field ▸ name_field ▸ name_field ▸ u32_field ▸ u32_field

abbrev pub read_fields : Format (ℕ × (ℕ × ℕ))
read_fields = u64_field ▸ u64_field ▸ u32_field

abbrev pub write_fields : Format (ℕ × (ℕ × List ℕ))
write_fields = u64_field ▸ u64_field ▸ data_field

-- of readdir and listxattr
abbrev pub readdir_fields : Format (ℕ × (List ℕ × ℕ))
readdir_fields = u64_field ▸ name_field ▸ u16_field

abbrev pub setxattr_fields : Format (ℕ × (List ℕ × (SetFlag × List ℕ)))
setxattr_fields = u64_field ▸ name_field ▸ set_flag_field ▸ data_field

abbrev pub cache_size_fields : Format ℕ
cache_size_fields = u32_field

-- the code of an operation
abbrev pub op_code : Op → ℕ
op_code (Lookup _ _) = 1
op_code (Getattr _) = 2
op_code (Chmod _ _) = 3
op_code (Chown _ _ _) = 4
op_code (Utimes _ _) = 5
op_code (Truncate _ _) = 6
op_code (Mkdir _ _ _ _ _) = 7
op_code (Create _ _ _ _ _) = 8
op_code (Unlink _ _) = 9
op_code (Rmdir _ _) = 10
op_code (Rename _ _ _ _) = 11
op_code (Link _ _ _) = 12
op_code (Symlink _ _ _ _ _) = 13
op_code (Readlink _) = 14
op_code (Open _) = 15
op_code (Release _) = 16
op_code (Read _ _ _) = 17
op_code (Write _ _ _) = 18
op_code (Fsync _) = 19
op_code (Readdir _ _ _) = 20
op_code Statfs = 21
op_code (Setxattr _ _ _ _) = 22
op_code (Getxattr _ _) = 23
op_code (Listxattr _ _ _) = 24
op_code (Removexattr _ _) = 25
op_code (CopyTree _ _ _) = 26
op_code (LockTree _) = 27
op_code (RemoveTree _ _) = 28
op_code FlushCache = 29
op_code UploadMeta = 30
op_code (CacheSize _) = 31
op_code Leave = 32
op_code Unmount = 33

-- the codes of the operations
abbrev pub is_operation : ℕ → Bool
is_operation code = between 1 33 code

unfoldable pub operation_field : Format ℕ
operation_field = byte is_operation

-- the code of an operation, and its fields
abbrev pub op_spelling : Op → List ℕ
op_spelling (Lookup parent name) = 1 ∷ lookup_fields.spell (parent, name)
op_spelling (Getattr inode) = 2 ∷ getattr_fields.spell inode
op_spelling (Chmod inode mode) = 3 ∷ chmod_fields.spell (inode, mode)
op_spelling (Chown inode uid gid) = 4 ∷ chown_fields.spell (inode, (uid, gid))
op_spelling (Utimes inode mtime) = 5 ∷ utimes_fields.spell (inode, mtime)
op_spelling (Truncate inode size) = 6 ∷ utimes_fields.spell (inode, size)
op_spelling (Mkdir parent name mode uid gid) = 7 ∷ create_fields.spell (parent, (name, (mode, (uid, gid))))
op_spelling (Create parent name mode uid gid) = 8 ∷ create_fields.spell (parent, (name, (mode, (uid, gid))))
op_spelling (Unlink parent name) = 9 ∷ lookup_fields.spell (parent, name)
op_spelling (Rmdir parent name) = 10 ∷ lookup_fields.spell (parent, name)
op_spelling (Rename parent name new_parent new_name) = 11 ∷ rename_fields.spell (parent, (name, (new_parent, new_name)))
op_spelling (Link inode parent name) = 12 ∷ link_fields.spell (inode, (parent, name))
op_spelling (Symlink parent name target uid gid) = 13 ∷ symlink_fields.spell (parent, (name, (target, (uid, gid))))
op_spelling (Readlink inode) = 14 ∷ getattr_fields.spell inode
op_spelling (Open inode) = 15 ∷ getattr_fields.spell inode
op_spelling (Release handle) = 16 ∷ getattr_fields.spell handle
op_spelling (Read handle offset length) = 17 ∷ read_fields.spell (handle, (offset, length))
op_spelling (Write handle offset bytes) = 18 ∷ write_fields.spell (handle, (offset, bytes))
op_spelling (Fsync handle) = 19 ∷ getattr_fields.spell handle
op_spelling (Readdir inode after max) = 20 ∷ readdir_fields.spell (inode, (after, max))
op_spelling Statfs = 21 ∷ []
op_spelling (Setxattr inode name flag value) = 22 ∷ setxattr_fields.spell (inode, (name, (flag, value)))
op_spelling (Getxattr inode name) = 23 ∷ lookup_fields.spell (inode, name)
op_spelling (Listxattr inode after max) = 24 ∷ readdir_fields.spell (inode, (after, max))
op_spelling (Removexattr inode name) = 25 ∷ lookup_fields.spell (inode, name)
op_spelling (CopyTree source parent name) = 26 ∷ link_fields.spell (source, (parent, name))
op_spelling (LockTree inode) = 27 ∷ getattr_fields.spell inode
op_spelling (RemoveTree parent name) = 28 ∷ lookup_fields.spell (parent, name)
op_spelling FlushCache = 29 ∷ []
op_spelling UploadMeta = 30 ∷ []
op_spelling (CacheSize entries) = 31 ∷ cache_size_fields.spell entries
op_spelling Leave = 32 ∷ []
op_spelling Unmount = 33 ∷ []

-- its fields are within their rules
abbrev pub is_op : Op → Bool
is_op (Lookup parent name) = lookup_fields.allows (parent, name)
is_op (Getattr inode) = getattr_fields.allows inode
is_op (Chmod inode mode) = chmod_fields.allows (inode, mode)
is_op (Chown inode uid gid) = chown_fields.allows (inode, (uid, gid))
is_op (Utimes inode mtime) = utimes_fields.allows (inode, mtime)
is_op (Truncate inode size) = utimes_fields.allows (inode, size)
is_op (Mkdir parent name mode uid gid) = create_fields.allows (parent, (name, (mode, (uid, gid))))
is_op (Create parent name mode uid gid) = create_fields.allows (parent, (name, (mode, (uid, gid))))
is_op (Unlink parent name) = lookup_fields.allows (parent, name)
is_op (Rmdir parent name) = lookup_fields.allows (parent, name)
is_op (Rename parent name new_parent new_name) = rename_fields.allows (parent, (name, (new_parent, new_name)))
is_op (Link inode parent name) = link_fields.allows (inode, (parent, name))
is_op (Symlink parent name target uid gid) = symlink_fields.allows (parent, (name, (target, (uid, gid))))
is_op (Readlink inode) = getattr_fields.allows inode
is_op (Open inode) = getattr_fields.allows inode
is_op (Release handle) = getattr_fields.allows handle
is_op (Read handle offset length) = read_fields.allows (handle, (offset, length))
is_op (Write handle offset bytes) = write_fields.allows (handle, (offset, bytes))
is_op (Fsync handle) = getattr_fields.allows handle
is_op (Readdir inode after max) = readdir_fields.allows (inode, (after, max))
is_op Statfs = true
is_op (Setxattr inode name flag value) = setxattr_fields.allows (inode, (name, (flag, value)))
is_op (Getxattr inode name) = lookup_fields.allows (inode, name)
is_op (Listxattr inode after max) = readdir_fields.allows (inode, (after, max))
is_op (Removexattr inode name) = lookup_fields.allows (inode, name)
is_op (CopyTree source parent name) = link_fields.allows (source, (parent, name))
is_op (LockTree inode) = getattr_fields.allows inode
is_op (RemoveTree parent name) = lookup_fields.allows (parent, name)
is_op FlushCache = true
is_op UploadMeta = true
is_op (CacheSize entries) = cache_size_fields.allows entries
is_op Leave = true
is_op Unmount = true

-- the fields behind a code from 1 to 8
unfoldable pub op_to_8 : ℕ → Rest → Result (Op × Rest) FrameFault
op_to_8 code r =
    if code == 1 then made (λ x. Lookup x.0 x.1) (lookup_fields.read r)
    else (if code == 2 then made Getattr (getattr_fields.read r)
    else (if code == 3 then made (λ x. Chmod x.0 x.1) (chmod_fields.read r)
    else (if code == 4 then made (λ x. Chown x.0 x.1.0 x.1.1) (chown_fields.read r)
    else (if code == 5 then made (λ x. Utimes x.0 x.1) (utimes_fields.read r)
    else (if code == 6 then made (λ x. Truncate x.0 x.1) (utimes_fields.read r)
    else (if code == 7 then made (λ x. Mkdir x.0 x.1.0 x.1.1.0 x.1.1.1.0 x.1.1.1.1) (create_fields.read r)
    else made (λ x. Create x.0 x.1.0 x.1.1.0 x.1.1.1.0 x.1.1.1.1) (create_fields.read r)))))))

-- from 9 to 16
unfoldable pub op_to_16 : ℕ → Rest → Result (Op × Rest) FrameFault
op_to_16 code r =
    if code == 9 then made (λ x. Unlink x.0 x.1) (lookup_fields.read r)
    else (if code == 10 then made (λ x. Rmdir x.0 x.1) (lookup_fields.read r)
    else (if code == 11 then made (λ x. Rename x.0 x.1.0 x.1.1.0 x.1.1.1) (rename_fields.read r)
    else (if code == 12 then made (λ x. Link x.0 x.1.0 x.1.1) (link_fields.read r)
    else (if code == 13 then made (λ x. Symlink x.0 x.1.0 x.1.1.0 x.1.1.1.0 x.1.1.1.1) (symlink_fields.read r)
    else (if code == 14 then made Readlink (getattr_fields.read r)
    else (if code == 15 then made Open (getattr_fields.read r)
    else made Release (getattr_fields.read r)))))))

-- from 17 to 24
unfoldable pub op_to_24 : ℕ → Rest → Result (Op × Rest) FrameFault
op_to_24 code r =
    if code == 17 then made (λ x. Read x.0 x.1.0 x.1.1) (read_fields.read r)
    else (if code == 18 then made (λ x. Write x.0 x.1.0 x.1.1) (write_fields.read r)
    else (if code == 19 then made Fsync (getattr_fields.read r)
    else (if code == 20 then made (λ x. Readdir x.0 x.1.0 x.1.1) (readdir_fields.read r)
    else (if code == 21 then Ok (Statfs, r)
    else (if code == 22 then made (λ x. Setxattr x.0 x.1.0 x.1.1.0 x.1.1.1) (setxattr_fields.read r)
    else (if code == 23 then made (λ x. Getxattr x.0 x.1) (lookup_fields.read r)
    else made (λ x. Listxattr x.0 x.1.0 x.1.1) (readdir_fields.read r)))))))

-- from 25 to 33
unfoldable pub op_to_33 : ℕ → Rest → Result (Op × Rest) FrameFault
op_to_33 code r =
    if code == 25 then made (λ x. Removexattr x.0 x.1) (lookup_fields.read r)
    else (if code == 26 then made (λ x. CopyTree x.0 x.1.0 x.1.1) (link_fields.read r)
    else (if code == 27 then made LockTree (getattr_fields.read r)
    else (if code == 28 then made (λ x. RemoveTree x.0 x.1) (lookup_fields.read r)
    else (if code == 29 then Ok (FlushCache, r)
    else (if code == 30 then Ok (UploadMeta, r)
    else (if code == 31 then made CacheSize (cache_size_fields.read r)
    else (if code == 32 then Ok (Leave, r)
    else Ok (Unmount, r))))))))

-- the fields behind the code of an operation
unfoldable pub op_behind : ℕ → Rest → Result (Op × Rest) FrameFault
op_behind code r =
    if nat_le code 8 then op_to_8 code r
    else (if nat_le code 16 then op_to_16 code r
    else (if nat_le code 24 then op_to_24 code r
    else op_to_33 code r))

unfoldable pub op_field : Format Op
op_field = record {
  spell = op_spelling;
  allows = is_op;
  read = λ r. operation_field.read r >>= λ code. op_behind code.0 code.1;
}

-- ---- steps of a replay

-- the kinds of the steps: a call and the end
abbrev pub is_step_kind : ℕ → Bool
is_step_kind kind = kind == 1 || kind == 18

unfoldable pub kind_field : Format ℕ
kind_field = byte is_step_kind

abbrev pub call_fields : Format (ℕ × (ℕ × Op))
call_fields = pass_field ▸ time_field ▸ op_field

abbrev pub step_spelling : Step → List ℕ
step_spelling (Call pass now op) = 1 ∷ call_fields.spell (pass, (now, op))
step_spelling End = 18 ∷ []

abbrev pub is_step : Step → Bool
is_step (Call pass now op) = call_fields.allows (pass, (now, op))
is_step End = true

-- the fields behind a kind
unfoldable pub step_behind : ℕ → Rest → Result (Step × Rest) FrameFault
step_behind kind r =
    if kind == 18 then Ok (End, r)
    else made (λ x. Call x.0 x.1.0 x.1.1) (call_fields.read r)

unfoldable pub step_field : Format Step
step_field = record {
  spell = step_spelling;
  allows = is_step;
  read = λ r. kind_field.read r >>= λ kind. step_behind kind.0 kind.1;
}

-- The laws of the operations and of the steps of a replay. Each shape of fields has a law, and each operation its line three
-- times: its code and fields, its place in the row of codes, and its spelling.
use Rattle.std.proofs.Common.{◌≡◌, ℕ, ◌≤◌, true, ◌||◌, eqb, length, refl, ◌∙◌, arith}
use Rattle.std.proofs.Math.Bool.{or_comm}
use Rattle.op_frames.specs.declared.operation.Op.{Op}
use Rattle.op_frames.specs.declared.operation.Op.TheVariants.{Lookup, Getattr, Chmod, Chown, Utimes, Truncate, Mkdir, Create, Unlink, Rmdir, Rename, Link, Symlink, Readlink, Open, Release, Read, Write, Fsync, Readdir, Statfs, Setxattr, Getxattr, Listxattr, Removexattr, CopyTree, LockTree, RemoveTree, FlushCache, UploadMeta, CacheSize, Leave, Unmount}
use Rattle.op_frames.specs.declared.operation.SetFlag.{SetFlag}
use Rattle.op_frames.specs.declared.operation.SetFlag.TheVariants as flags
use Rattle.op_frames.specs.declared.operation.Step.{Step}
use Rattle.op_frames.specs.declared.operation.Step.TheVariants.{Call, End}
use Rattle.frame_fields.specs.Format.{Format, between}
use Rattle.op_frames.specs.Operations.{set_flag_code, set_flag_of, set_flag_field, lookup_fields, getattr_fields, chmod_fields, chown_fields, utimes_fields, create_fields, rename_fields, link_fields, symlink_fields, read_fields, write_fields, readdir_fields, setxattr_fields, cache_size_fields, is_operation, operation_field, op_spelling, is_op, op_to_8, op_to_16, op_to_24, op_to_33, op_behind, op_field, is_step_kind, kind_field, call_fields, step_spelling, is_step, step_behind, step_field}
use Rattle.frame_fields.proofs.Formats.{IsFormat, ComesBack, numbered_is, nothing, nothing_is, ◌then◌}
use Rattle.frame_fields.proofs.FieldLemmas.{u16_is, u32_is, u64_is, pass_is, time_is, name_is, data_is}
use Rattle.frame_fields.proofs.Tagged.{IsCase, Reads, only_case, or_case, fewer_codes, first_of_row, last_of_row, rows, Written, write_case, tagged_is}

-- ---- which attributes may be set

flag_back : (flag : SetFlag) → ComesBack 0 2 set_flag_of set_flag_code flag
flag_back flags.Any = (refl, refl)
flag_back flags.New = (refl, refl)
flag_back flags.Old = (refl, refl)

flag_is : IsFormat set_flag_field 1
unfolding set_flag_field
flag_is = numbered_is 0 2 set_flag_of set_flag_code flag_back refl

-- ---- shapes of fields

lookup_is : IsFormat lookup_fields 65545
lookup_is = u64_is then name_is

getattr_is : IsFormat getattr_fields 8
getattr_is = u64_is

chmod_is : IsFormat chmod_fields 10
chmod_is = u64_is then u16_is

chown_is : IsFormat chown_fields 16
chown_is = u64_is then u32_is then u32_is

utimes_is : IsFormat utimes_fields 16
utimes_is = u64_is then u64_is

create_is : IsFormat create_fields 65555
create_is = u64_is then name_is then u16_is then u32_is then u32_is

rename_is : IsFormat rename_fields 131090
rename_is = u64_is then name_is then u64_is then name_is

link_is : IsFormat link_fields 65553
link_is = u64_is then u64_is then name_is

symlink_is : IsFormat symlink_fields 131090
symlink_is = u64_is then name_is then name_is then u32_is then u32_is

read_is : IsFormat read_fields 20
read_is = u64_is then u64_is then u32_is

write_is : IsFormat write_fields 131092
write_is = u64_is then u64_is then data_is

readdir_is : IsFormat readdir_fields 65547
readdir_is = u64_is then name_is then u16_is

setxattr_is : IsFormat setxattr_fields 196622
setxattr_is = u64_is then name_is then flag_is then data_is

cache_size_is : IsFormat cache_size_fields 4
cache_size_is = u32_is

-- ---- operations

abbrev IsOp : {A : Type 0} → ℕ → Format A → (A → Op) → Type 0
IsOp code fields make = IsCase 250000 op_spelling is_op code fields make

lookup : IsOp 1 lookup_fields (λ x. Lookup x.0 x.1)
lookup = record { spelled = λ v. refl; allowed = λ v. refl; most = 65545; short = omega arith; format = lookup_is }

getattr : IsOp 2 getattr_fields Getattr
getattr = record { spelled = λ v. refl; allowed = λ v. refl; most = 8; short = omega arith; format = getattr_is }

chmod : IsOp 3 chmod_fields (λ x. Chmod x.0 x.1)
chmod = record { spelled = λ v. refl; allowed = λ v. refl; most = 10; short = omega arith; format = chmod_is }

chown : IsOp 4 chown_fields (λ x. Chown x.0 x.1.0 x.1.1)
chown = record { spelled = λ v. refl; allowed = λ v. refl; most = 16; short = omega arith; format = chown_is }

utimes : IsOp 5 utimes_fields (λ x. Utimes x.0 x.1)
utimes = record { spelled = λ v. refl; allowed = λ v. refl; most = 16; short = omega arith; format = utimes_is }

truncate : IsOp 6 utimes_fields (λ x. Truncate x.0 x.1)
truncate = record { spelled = λ v. refl; allowed = λ v. refl; most = 16; short = omega arith; format = utimes_is }

mkdir : IsOp 7 create_fields (λ x. Mkdir x.0 x.1.0 x.1.1.0 x.1.1.1.0 x.1.1.1.1)
mkdir = record { spelled = λ v. refl; allowed = λ v. refl; most = 65555; short = omega arith; format = create_is }

create : IsOp 8 create_fields (λ x. Create x.0 x.1.0 x.1.1.0 x.1.1.1.0 x.1.1.1.1)
create = record { spelled = λ v. refl; allowed = λ v. refl; most = 65555; short = omega arith; format = create_is }

unlink : IsOp 9 lookup_fields (λ x. Unlink x.0 x.1)
unlink = record { spelled = λ v. refl; allowed = λ v. refl; most = 65545; short = omega arith; format = lookup_is }

rmdir : IsOp 10 lookup_fields (λ x. Rmdir x.0 x.1)
rmdir = record { spelled = λ v. refl; allowed = λ v. refl; most = 65545; short = omega arith; format = lookup_is }

rename : IsOp 11 rename_fields (λ x. Rename x.0 x.1.0 x.1.1.0 x.1.1.1)
rename = record { spelled = λ v. refl; allowed = λ v. refl; most = 131090; short = omega arith; format = rename_is }

link : IsOp 12 link_fields (λ x. Link x.0 x.1.0 x.1.1)
link = record { spelled = λ v. refl; allowed = λ v. refl; most = 65553; short = omega arith; format = link_is }

symlink : IsOp 13 symlink_fields (λ x. Symlink x.0 x.1.0 x.1.1.0 x.1.1.1.0 x.1.1.1.1)
symlink = record { spelled = λ v. refl; allowed = λ v. refl; most = 131090; short = omega arith; format = symlink_is }

readlink : IsOp 14 getattr_fields Readlink
readlink = record { spelled = λ v. refl; allowed = λ v. refl; most = 8; short = omega arith; format = getattr_is }

open_file : IsOp 15 getattr_fields Open
open_file = record { spelled = λ v. refl; allowed = λ v. refl; most = 8; short = omega arith; format = getattr_is }

release : IsOp 16 getattr_fields Release
release = record { spelled = λ v. refl; allowed = λ v. refl; most = 8; short = omega arith; format = getattr_is }

read : IsOp 17 read_fields (λ x. Read x.0 x.1.0 x.1.1)
read = record { spelled = λ v. refl; allowed = λ v. refl; most = 20; short = omega arith; format = read_is }

write : IsOp 18 write_fields (λ x. Write x.0 x.1.0 x.1.1)
write = record { spelled = λ v. refl; allowed = λ v. refl; most = 131092; short = omega arith; format = write_is }

fsync : IsOp 19 getattr_fields Fsync
fsync = record { spelled = λ v. refl; allowed = λ v. refl; most = 8; short = omega arith; format = getattr_is }

readdir : IsOp 20 readdir_fields (λ x. Readdir x.0 x.1.0 x.1.1)
readdir = record { spelled = λ v. refl; allowed = λ v. refl; most = 65547; short = omega arith; format = readdir_is }

statfs : IsOp 21 nothing (λ x. Statfs)
statfs = record { spelled = λ v. refl; allowed = λ v. refl; most = 0; short = omega arith; format = nothing_is }

setxattr : IsOp 22 setxattr_fields (λ x. Setxattr x.0 x.1.0 x.1.1.0 x.1.1.1)
setxattr = record { spelled = λ v. refl; allowed = λ v. refl; most = 196622; short = omega arith; format = setxattr_is }

getxattr : IsOp 23 lookup_fields (λ x. Getxattr x.0 x.1)
getxattr = record { spelled = λ v. refl; allowed = λ v. refl; most = 65545; short = omega arith; format = lookup_is }

listxattr : IsOp 24 readdir_fields (λ x. Listxattr x.0 x.1.0 x.1.1)
listxattr = record { spelled = λ v. refl; allowed = λ v. refl; most = 65547; short = omega arith; format = readdir_is }

removexattr : IsOp 25 lookup_fields (λ x. Removexattr x.0 x.1)
removexattr = record { spelled = λ v. refl; allowed = λ v. refl; most = 65545; short = omega arith; format = lookup_is }

copy_tree : IsOp 26 link_fields (λ x. CopyTree x.0 x.1.0 x.1.1)
copy_tree = record { spelled = λ v. refl; allowed = λ v. refl; most = 65553; short = omega arith; format = link_is }

lock_tree : IsOp 27 getattr_fields LockTree
lock_tree = record { spelled = λ v. refl; allowed = λ v. refl; most = 8; short = omega arith; format = getattr_is }

remove_tree : IsOp 28 lookup_fields (λ x. RemoveTree x.0 x.1)
remove_tree = record { spelled = λ v. refl; allowed = λ v. refl; most = 65545; short = omega arith; format = lookup_is }

flush_cache : IsOp 29 nothing (λ x. FlushCache)
flush_cache = record { spelled = λ v. refl; allowed = λ v. refl; most = 0; short = omega arith; format = nothing_is }

upload_meta : IsOp 30 nothing (λ x. UploadMeta)
upload_meta = record { spelled = λ v. refl; allowed = λ v. refl; most = 0; short = omega arith; format = nothing_is }

cache_size : IsOp 31 cache_size_fields CacheSize
cache_size = record { spelled = λ v. refl; allowed = λ v. refl; most = 4; short = omega arith; format = cache_size_is }

leave : IsOp 32 nothing (λ x. Leave)
leave = record { spelled = λ v. refl; allowed = λ v. refl; most = 0; short = omega arith; format = nothing_is }

unmount : IsOp 33 nothing (λ x. Unmount)
unmount = record { spelled = λ v. refl; allowed = λ v. refl; most = 0; short = omega arith; format = nothing_is }

to_8 : Reads op_spelling is_op (between 1 8) op_to_8
unfolding op_to_8
to_8 = first_of_row 8 lookup (first_of_row 8 getattr (first_of_row 8 chmod (first_of_row 8 chown (first_of_row 8 utimes (first_of_row 8 truncate (first_of_row 8 mkdir (last_of_row create)))))))

to_16 : Reads op_spelling is_op (between 9 16) op_to_16
unfolding op_to_16
to_16 = first_of_row 16 unlink (first_of_row 16 rmdir (first_of_row 16 rename (first_of_row 16 link (first_of_row 16 symlink (first_of_row 16 readlink (first_of_row 16 open_file (last_of_row release)))))))

to_24 : Reads op_spelling is_op (between 17 24) op_to_24
unfolding op_to_24
to_24 = first_of_row 24 read (first_of_row 24 write (first_of_row 24 fsync (first_of_row 24 readdir (first_of_row 24 statfs (first_of_row 24 setxattr (first_of_row 24 getxattr (last_of_row listxattr)))))))

to_33 : Reads op_spelling is_op (between 25 33) op_to_33
unfolding op_to_33
to_33 = first_of_row 33 removexattr (first_of_row 33 copy_tree (first_of_row 33 lock_tree (first_of_row 33 remove_tree (first_of_row 33 flush_cache (first_of_row 33 upload_meta (first_of_row 33 cache_size (first_of_row 33 leave (last_of_row unmount))))))))

op_reads : Reads op_spelling is_op is_operation op_behind
unfolding op_behind
op_reads = rows 1 8 33 to_8 (rows 9 16 33 to_16 (rows 17 24 33 to_24 to_33))

op_written : (op : Op) → Written 250000 op_spelling is_op is_operation op_behind op
unfolding op_behind op_to_8 op_to_16 op_to_24 op_to_33
op_written (Lookup parent name) = write_case is_operation op_behind lookup (parent, name) refl (λ r. refl)
op_written (Getattr inode) = write_case is_operation op_behind getattr inode refl (λ r. refl)
op_written (Chmod inode mode) = write_case is_operation op_behind chmod (inode, mode) refl (λ r. refl)
op_written (Chown inode uid gid) = write_case is_operation op_behind chown (inode, (uid, gid)) refl (λ r. refl)
op_written (Utimes inode mtime) = write_case is_operation op_behind utimes (inode, mtime) refl (λ r. refl)
op_written (Truncate inode size) = write_case is_operation op_behind truncate (inode, size) refl (λ r. refl)
op_written (Mkdir parent name mode uid gid) = write_case is_operation op_behind mkdir (parent, (name, (mode, (uid, gid)))) refl (λ r. refl)
op_written (Create parent name mode uid gid) = write_case is_operation op_behind create (parent, (name, (mode, (uid, gid)))) refl (λ r. refl)
op_written (Unlink parent name) = write_case is_operation op_behind unlink (parent, name) refl (λ r. refl)
op_written (Rmdir parent name) = write_case is_operation op_behind rmdir (parent, name) refl (λ r. refl)
op_written (Rename parent name new_parent new_name) = write_case is_operation op_behind rename (parent, (name, (new_parent, new_name))) refl (λ r. refl)
op_written (Link inode parent name) = write_case is_operation op_behind link (inode, (parent, name)) refl (λ r. refl)
op_written (Symlink parent name target uid gid) = write_case is_operation op_behind symlink (parent, (name, (target, (uid, gid)))) refl (λ r. refl)
op_written (Readlink inode) = write_case is_operation op_behind readlink inode refl (λ r. refl)
op_written (Open inode) = write_case is_operation op_behind open_file inode refl (λ r. refl)
op_written (Release handle) = write_case is_operation op_behind release handle refl (λ r. refl)
op_written (Read handle offset length) = write_case is_operation op_behind read (handle, (offset, length)) refl (λ r. refl)
op_written (Write handle offset bytes) = write_case is_operation op_behind write (handle, (offset, bytes)) refl (λ r. refl)
op_written (Fsync handle) = write_case is_operation op_behind fsync handle refl (λ r. refl)
op_written (Readdir inode after max) = write_case is_operation op_behind readdir (inode, (after, max)) refl (λ r. refl)
op_written Statfs = write_case is_operation op_behind statfs tt refl (λ r. refl)
op_written (Setxattr inode name flag value) = write_case is_operation op_behind setxattr (inode, (name, (flag, value))) refl (λ r. refl)
op_written (Getxattr inode name) = write_case is_operation op_behind getxattr (inode, name) refl (λ r. refl)
op_written (Listxattr inode after max) = write_case is_operation op_behind listxattr (inode, (after, max)) refl (λ r. refl)
op_written (Removexattr inode name) = write_case is_operation op_behind removexattr (inode, name) refl (λ r. refl)
op_written (CopyTree source parent name) = write_case is_operation op_behind copy_tree (source, (parent, name)) refl (λ r. refl)
op_written (LockTree inode) = write_case is_operation op_behind lock_tree inode refl (λ r. refl)
op_written (RemoveTree parent name) = write_case is_operation op_behind remove_tree (parent, name) refl (λ r. refl)
op_written FlushCache = write_case is_operation op_behind flush_cache tt refl (λ r. refl)
op_written UploadMeta = write_case is_operation op_behind upload_meta tt refl (λ r. refl)
op_written (CacheSize entries) = write_case is_operation op_behind cache_size entries refl (λ r. refl)
op_written Leave = write_case is_operation op_behind leave tt refl (λ r. refl)
op_written Unmount = write_case is_operation op_behind unmount tt refl (λ r. refl)

pub op_is : IsFormat op_field 250001
unfolding op_field operation_field
op_is = tagged_is 250000 op_spelling is_op is_operation op_behind op_reads op_written

pub op_some : (op : Op) → 1 ≤ length (op_spelling op)
op_some op = (op_written op).some

-- ---- steps

abbrev IsStep : {A : Type 0} → ℕ → Format A → (A → Step) → Type 0
IsStep kind fields make = IsCase 262000 step_spelling is_step kind fields make

call : IsStep 1 call_fields (λ x. Call x.0 x.1.0 x.1.1)
call = record { spelled = λ v. refl; allowed = λ v. refl; most = 250017; short = omega arith; format = pass_is then time_is then op_is }

end : IsStep 18 nothing (λ x. End)
end = record { spelled = λ v. refl; allowed = λ v. refl; most = 0; short = omega arith; format = nothing_is }

either_order : (k : ℕ) → is_step_kind k ≡ true → (eqb k 18 || eqb k 1) ≡ true
either_order k h = or_comm (eqb k 18) (eqb k 1) ∙ h

step_reads : Reads step_spelling is_step is_step_kind step_behind
unfolding step_behind
step_reads = fewer_codes either_order (or_case end (only_case call))

step_written : (step : Step) → Written 262000 step_spelling is_step is_step_kind step_behind step
unfolding step_behind
step_written (Call pass now op) = write_case is_step_kind step_behind call (pass, (now, op)) refl (λ r. refl)
step_written End = write_case is_step_kind step_behind end tt refl (λ r. refl)

pub step_is : IsFormat step_field 262001
unfolding step_field kind_field
step_is = tagged_is 262000 step_spelling is_step is_step_kind step_behind step_reads step_written

pub step_some : (step : Step) → 1 ≤ length (step_spelling step)
step_some step = (step_written step).some

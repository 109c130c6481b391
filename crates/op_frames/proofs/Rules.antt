-- Fields whose numbers fit their types are within the field rules.
use Rattle.std.proofs.Common.{ℕ, ◌^◌, ◌<◌, ◌≤◌, IsTrue, Bool, true, ◌&&◌, leb, ltb, List, [], ◌∷◌, length, take, Option, None, Some, refl, subst, arith}
use Rattle.std.specs.List.{list_all}
use Rattle.std.proofs.lemmas.List.{take_all}
use Rattle.std.proofs.lemmas.Bool.{and_parts, and_from, leb-true, le-leb, lt-ltb}
use Rattle.s3_base.specs.declared.node_kind.Kind.{Kind}
use Rattle.frame_fields.specs.Format.{between}
use Rattle.frame_fields.specs.Fields.{u16_field, u32_field, u64_field, data_length_field, data_field, mode_field, item_count_field, short_name_field, digest_field, digest_or_none_field, node_kind_field, flag_field}
use Rattle.op_frames.specs.declared.reply.Attr.{Attr}
use Rattle.op_frames.specs.declared.reply.DirEntry.{DirEntry}
use Rattle.op_frames.specs.declared.reply.Cause.{Cause}
use Rattle.op_frames.specs.Replies.{attr_field, entry_field, entries_field, names_field, stat_fields, cause_field, lost_fields}
use Rattle.op_frames.specs.Answers.{is_short_name, is_digest, is_digest_or_none}
use Rattle.op_frames.specs.Rules.{has_mode}

-- ---- plain fields

pub u16_allows : (n : ℕ) → n < 2 ^ 16 → IsTrue (u16_field.allows n)
unfolding u16_field
u16_allows n fits = and_from (ltb n (2 ^ 16)) true (lt-ltb n (2 ^ 16) fits) refl

pub u32_allows : (n : ℕ) → n < 2 ^ 32 → IsTrue (u32_field.allows n)
unfolding u32_field
u32_allows n fits = and_from (ltb n (2 ^ 32)) true (lt-ltb n (2 ^ 32) fits) refl

pub u64_allows : (n : ℕ) → n < 2 ^ 64 → IsTrue (u64_field.allows n)
unfolding u64_field
u64_allows n fits = and_from (ltb n (2 ^ 64)) true (lt-ltb n (2 ^ 64) fits) refl

-- a number of a type with so many values, at most some limit below them
at_most_allows : (n limit high : ℕ) → high < limit → n ≤ high → IsTrue (ltb n limit && between 0 high n)
at_most_allows n limit high below fits =
    and_from (ltb n limit) (between 0 high n) (lt-ltb n limit (omega (arith, below, fits)))
    (and_from (leb 0 n) (leb n high) (le-leb 0 n (omega arith)) (le-leb n high fits))

mode_allows : (n : ℕ) → n ≤ 4095 → IsTrue (mode_field.allows n)
unfolding mode_field
mode_allows n fits = at_most_allows n (2 ^ 16) 4095 (omega arith) fits

item_count_allows : (n : ℕ) → n ≤ 256 → IsTrue (item_count_field.allows n)
unfolding item_count_field
item_count_allows n fits = at_most_allows n (2 ^ 16) 256 (omega arith) fits

short_name_allows : (name : List ℕ) → IsTrue (is_short_name name) → IsTrue (short_name_field.allows name)
unfolding short_name_field
short_name_allows name short = at_most_allows (length name) (2 ^ 16) 255 (omega arith) (leb-true (length name) 255 short)

pub data_allows : (bytes : List ℕ) → IsTrue (leb (length bytes) 131072) → IsTrue (data_field.allows bytes)
unfolding data_field data_length_field
data_allows bytes short = at_most_allows (length bytes) (2 ^ 32) 131072 (omega arith) (leb-true (length bytes) 131072 short)

node_kind_allows : (kind : Kind) → IsTrue (node_kind_field.allows kind)
unfolding node_kind_field
node_kind_allows kind = refl

flag_allows : (flag : Bool) → IsTrue (flag_field.allows flag)
unfolding flag_field
flag_allows flag = refl

digest_allows : (digest : List ℕ) → IsTrue (is_digest digest) → IsTrue (digest_field.allows digest)
unfolding digest_field
digest_allows digest long = long

digest_or_none_allows : (digest : Option (List ℕ)) → IsTrue (is_digest_or_none digest) → IsTrue (digest_or_none_field.allows digest)
unfolding digest_or_none_field
digest_or_none_allows None long = refl
digest_or_none_allows (Some digest) long = digest_allows digest long

-- ---- fields of replies

pub attr_allows : (a : Attr) → IsTrue (has_mode a) → a.inode < 2 ^ 64 → a.uid < 2 ^ 32 → a.gid < 2 ^ 32 → a.links < 2 ^ 64
    → a.size < 2 ^ 64 → a.mtime < 2 ^ 64 → a.ctime < 2 ^ 64 → IsTrue (attr_field.allows a)
attr_allows a mode inode uid gid links size mtime ctime =
    and_from _ _ (u64_allows a.inode inode) (and_from _ _ (node_kind_allows a.kind)
    (and_from _ _ (mode_allows a.mode (leb-true a.mode 4095 mode)) (and_from _ _ (u32_allows a.uid uid)
    (and_from _ _ (u32_allows a.gid gid) (and_from _ _ (u64_allows a.links links) (and_from _ _ (u64_allows a.size size)
    (and_from _ _ (u64_allows a.mtime mtime) (and_from _ _ (u64_allows a.ctime ctime) (flag_allows a.locked)))))))))

pub entry_allows : (e : DirEntry) → e.inode < 2 ^ 64 → IsTrue (is_short_name e.name) → IsTrue (entry_field.allows e)
entry_allows e inode short =
    and_from _ _ (u64_allows e.inode inode) (and_from _ _ (node_kind_allows e.kind) (short_name_allows e.name short))

-- so many entries are within their rules, and there are no more
pub entries_allow : (entries : List DirEntry) (n : ℕ) → length entries ≤ 256 → length entries ≤ n → IsTrue (list_all entry_field.allows (take n entries))
    → IsTrue (entries_field.allows entries)
entries_allow entries n few all each =
    and_from _ _ (item_count_allows (length entries) few)
    (subst (λ (es : List DirEntry). IsTrue (list_all entry_field.allows es)) (take_all n entries all) each)

names_allow_each : (names : List (List ℕ)) → IsTrue (list_all is_short_name names) → IsTrue (list_all short_name_field.allows names)
names_allow_each [] short = refl
names_allow_each (name ∷ names) short =
    let parts = and_parts (is_short_name name) (list_all is_short_name names) short in
    and_from _ _ (short_name_allows name parts.0) (names_allow_each names parts.1)

pub names_allow : (names : List (List ℕ)) → IsTrue (leb (length names) 256 && list_all is_short_name names) → IsTrue (names_field.allows names)
names_allow names short =
    let parts = and_parts (leb (length names) 256) (list_all is_short_name names) short in
    and_from _ _ (item_count_allows (length names) (leb-true (length names) 256 parts.0)) (names_allow_each names parts.1)

pub stat_allows : (block_size inodes entries bytes : ℕ) → block_size < 2 ^ 32 → inodes < 2 ^ 64 → entries < 2 ^ 64 → bytes < 2 ^ 64
    → IsTrue (stat_fields.allows (block_size, (inodes, (entries, bytes))))
stat_allows block_size inodes entries bytes one two three four =
    and_from _ _ (u32_allows block_size one) (and_from _ _ (u64_allows inodes two) (and_from _ _ (u64_allows entries three) (u64_allows bytes four)))

pub cause_allows : (cause : Cause) → IsTrue (cause_field.allows cause)
unfolding cause_field
cause_allows cause = refl

pub lost_allows : (object : ℕ) (kept : List ℕ) (got : Option (List ℕ)) → object < 2 ^ 64 → IsTrue (is_digest kept && is_digest_or_none got)
    → IsTrue (lost_fields.allows (object, (kept, got)))
lost_allows object kept got fits long =
    let parts = and_parts (is_digest kept) (is_digest_or_none got) long in
    and_from _ _ (u64_allows object fits) (and_from _ _ (digest_allows kept parts.0) (digest_or_none_allows got parts.1))

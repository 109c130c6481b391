-- The replies, their tags and their fields in order.
use Rattle.std.specs.Prelude.{ℕ, List, [], ◌∷◌, ◌==◌, Bool, true, nat_le, if◌then◌else◌, Option, Result, Ok}
use Rattle.s3_base.specs.declared.errors.Errno.{Errno}
use Rattle.s3_base.specs.declared.node_kind.Kind.{Kind}
use Rattle.frame_fields.specs.declared.fault.FrameFault.{FrameFault}
use Rattle.frame_fields.specs.Format.{Rest, Format, ◌>>=◌, byte, ◌▸◌, made, shaped, coded, listed, between}
use Rattle.frame_fields.specs.Fields.{u16_field, u32_field, u64_field, data_field, mode_field, item_count_field, short_name_field, digest_field, digest_or_none_field, node_kind_field, flag_field}
use Rattle.op_frames.specs.declared.reply.Attr.{Attr}
use Rattle.op_frames.specs.declared.reply.DirEntry.{DirEntry}
use Rattle.op_frames.specs.declared.reply.Cause.{Cause}
use Rattle.op_frames.specs.declared.reply.Cause.TheVariants as causes
use Rattle.op_frames.specs.declared.reply.Reply.{Reply}
use Rattle.op_frames.specs.declared.reply.Reply.TheVariants as replies

-- ---- attributes

-- inode, kind, mode, uid, gid, links, size, mtime, ctime, locked: 52 bytes
abbrev pub AttrParts : Type 0
AttrParts = ℕ × (Kind × (ℕ × (ℕ × (ℕ × (ℕ × (ℕ × (ℕ × (ℕ × Bool))))))))

abbrev pub attr_fields : Format AttrParts
attr_fields = u64_field ▸ node_kind_field ▸ mode_field ▸ u32_field ▸ u32_field ▸ u64_field ▸ u64_field ▸ u64_field ▸ u64_field ▸ flag_field

abbrev pub attr_parts : Attr → AttrParts
attr_parts a = (a.inode, (a.kind, (a.mode, (a.uid, (a.gid, (a.links, (a.size, (a.mtime, (a.ctime, a.locked)))))))))

abbrev pub attr_of_parts : AttrParts → Attr
attr_of_parts x = record {
  inode = x.0;
  kind = x.1.0;
  mode = x.1.1.0;
  uid = x.1.1.1.0;
  gid = x.1.1.1.1.0;
  links = x.1.1.1.1.1.0;
  size = x.1.1.1.1.1.1.0;
  mtime = x.1.1.1.1.1.1.1.0;
  ctime = x.1.1.1.1.1.1.1.1.0;
  locked = x.1.1.1.1.1.1.1.1.1;
}

abbrev pub attr_field : Format Attr
attr_field = shaped attr_of_parts attr_parts attr_fields

-- ---- lists

abbrev pub entry_fields : Format (ℕ × (Kind × List ℕ))
entry_fields = u64_field ▸ node_kind_field ▸ short_name_field

abbrev pub entry_field : Format DirEntry
entry_field = shaped (λ x. record { inode = x.0; kind = x.1.0; name = x.1.1 }) (λ e. (e.inode, (e.kind, e.name))) entry_fields

-- at most 256 items, so that every list fits into a frame
abbrev pub entries_field : Format (List DirEntry)
entries_field = listed item_count_field entry_field

abbrev pub names_field : Format (List (List ℕ))
names_field = listed item_count_field short_name_field

-- ---- causes

abbrev pub cause_code : Cause → ℕ
cause_code causes.Link = 1
cause_code causes.Keeper = 2
cause_code causes.Disk = 3
cause_code causes.Memory = 4

abbrev pub cause_of_code : ℕ → Cause
cause_of_code code = if code == 1 then causes.Link else (if code == 2 then causes.Keeper else (if code == 3 then causes.Disk else causes.Memory))

unfoldable pub cause_field : Format Cause
cause_field = coded (between 1 4) cause_of_code cause_code

-- ---- replies

abbrev pub opened_fields : Format (ℕ × Attr)
opened_fields = u64_field ▸ attr_field

abbrev pub stat_fields : Format (ℕ × (ℕ × (ℕ × ℕ)))
stat_fields = u32_field ▸ u64_field ▸ u64_field ▸ u64_field

abbrev pub errno_field : Format Errno
errno_field = shaped (λ n. record { 0 = n }) (λ e. e.0) u16_field

abbrev pub lost_fields : Format (ℕ × (List ℕ × Option (List ℕ)))
lost_fields = u64_field ▸ digest_field ▸ digest_or_none_field

-- the tag of a reply, and its fields
abbrev pub reply_spelling : Reply → List ℕ
reply_spelling replies.Done = 1 ∷ []
reply_spelling (replies.Attr attr) = 2 ∷ attr_field.spell attr
reply_spelling (replies.Opened handle attr) = 3 ∷ opened_fields.spell (handle, attr)
reply_spelling (replies.Bytes bytes) = 4 ∷ data_field.spell bytes
reply_spelling (replies.Count count) = 5 ∷ u32_field.spell count
reply_spelling (replies.Entries entries) = 6 ∷ entries_field.spell entries
reply_spelling (replies.Names names) = 7 ∷ names_field.spell names
reply_spelling (replies.Stat block_size inodes entries bytes) = 8 ∷ stat_fields.spell (block_size, (inodes, (entries, bytes)))
reply_spelling (replies.Errno errno) = 9 ∷ errno_field.spell errno
reply_spelling (replies.Fault cause) = 10 ∷ cause_field.spell cause
reply_spelling (replies.Lost object kept got) = 11 ∷ lost_fields.spell (object, (kept, got))

-- its fields are within their rules
abbrev pub is_reply : Reply → Bool
is_reply replies.Done = true
is_reply (replies.Attr attr) = attr_field.allows attr
is_reply (replies.Opened handle attr) = opened_fields.allows (handle, attr)
is_reply (replies.Bytes bytes) = data_field.allows bytes
is_reply (replies.Count count) = u32_field.allows count
is_reply (replies.Entries entries) = entries_field.allows entries
is_reply (replies.Names names) = names_field.allows names
is_reply (replies.Stat block_size inodes entries bytes) = stat_fields.allows (block_size, (inodes, (entries, bytes)))
is_reply (replies.Errno errno) = errno_field.allows errno
is_reply (replies.Fault cause) = cause_field.allows cause
is_reply (replies.Lost object kept got) = lost_fields.allows (object, (kept, got))

-- the fields behind a tag from 1 to 5
unfoldable pub reply_to_5 : ℕ → Rest → Result (Reply × Rest) FrameFault
reply_to_5 tag r =
    if tag == 1 then Ok (replies.Done, r)
    else (if tag == 2 then made replies.Attr (attr_field.read r)
    else (if tag == 3 then made (λ x. replies.Opened x.0 x.1) (opened_fields.read r)
    else (if tag == 4 then made replies.Bytes (data_field.read r)
    else made replies.Count (u32_field.read r))))

-- from 6 to 11
unfoldable pub reply_to_11 : ℕ → Rest → Result (Reply × Rest) FrameFault
reply_to_11 tag r =
    if tag == 6 then made replies.Entries (entries_field.read r)
    else (if tag == 7 then made replies.Names (names_field.read r)
    else (if tag == 8 then made (λ x. replies.Stat x.0 x.1.0 x.1.1.0 x.1.1.1) (stat_fields.read r)
    else (if tag == 9 then made replies.Errno (errno_field.read r)
    else (if tag == 10 then made replies.Fault (cause_field.read r)
    else made (λ x. replies.Lost x.0 x.1.0 x.1.1) (lost_fields.read r)))))

-- the fields behind the tag of a reply
unfoldable pub reply_behind : ℕ → Rest → Result (Reply × Rest) FrameFault
reply_behind tag r = if nat_le tag 5 then reply_to_5 tag r else reply_to_11 tag r

-- the tags of the replies
abbrev pub is_reply_tag : ℕ → Bool
is_reply_tag tag = between 1 11 tag

unfoldable pub reply_tag_field : Format ℕ
reply_tag_field = byte is_reply_tag

unfoldable pub reply_field : Format Reply
reply_field = record {
  spell = reply_spelling;
  allows = is_reply;
  read = λ r. reply_tag_field.read r >>= λ tag. reply_behind tag.0 tag.1;
}

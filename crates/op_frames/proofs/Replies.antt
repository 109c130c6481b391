-- The laws of the replies. Each shape of fields has a law, and each reply its line three times: its tag and fields, its place
-- in the row of tags, and its spelling.
use Rattle.std.proofs.Common.{◌≡◌, ℕ, ◌+◌, ◌*◌, ◌≤◌, IsTrue, true, ◌&&◌, List, [], ◌∷◌, length, Option, None, Some, refl, arith}
use Rattle.std.specs.List.{list_all}
use Rattle.std.proofs.lemmas.Bool.{and_parts, and_from, le-leb}
use Rattle.frame_fields.specs.Format.{Format, between}
use Rattle.frame_fields.specs.Fields.{u32_field, u64_field, data_field, item_count_field, short_name_field, digest_field, digest_or_none_field, node_kind_field}
use Rattle.frame_fields.proofs.Formats.{IsFormat, ComesBack, numbered_is, shaped_is, nothing, nothing_is, ◌then◌}
use Rattle.frame_fields.proofs.FieldLemmas.{u16_is, u32_is, u64_is, data_is, data_fits, mode_is, item_count_is, few_items, short_name_is, short_name_length, digest_is, digest_or_none_is, node_kind_is, flag_is}
use Rattle.frame_fields.proofs.Lists.{listed_is}
use Rattle.frame_fields.proofs.Tagged.{IsCase, Reads, first_of_row, last_of_row, rows, Written, write_case, tagged_is}
use Rattle.op_frames.specs.declared.reply.DirEntry.{DirEntry}
use Rattle.op_frames.specs.declared.reply.Cause.{Cause}
use Rattle.op_frames.specs.declared.reply.Cause.TheVariants as causes
use Rattle.op_frames.specs.declared.reply.Reply.{Reply}
use Rattle.op_frames.specs.declared.reply.Reply.TheVariants as replies
use Rattle.op_frames.specs.Replies.{attr_fields, attr_parts, attr_of_parts, attr_field, entry_fields, entry_field, entries_field, names_field, cause_code, cause_of_code, cause_field, opened_fields, stat_fields, errno_field, lost_fields, reply_spelling, is_reply, reply_to_5, reply_to_11, reply_behind, is_reply_tag, reply_tag_field, reply_field}
use Rattle.op_frames.specs.Answers.{is_short_name, has_short_name, is_digest, is_digest_or_none, has_short_data}

-- ---- causes

cause_back : (cause : Cause) → ComesBack 1 4 cause_of_code cause_code cause
cause_back causes.Link = (refl, refl)
cause_back causes.Keeper = (refl, refl)
cause_back causes.Disk = (refl, refl)
cause_back causes.Memory = (refl, refl)

cause_is : IsFormat cause_field 1
unfolding cause_field
cause_is = numbered_is 1 4 cause_of_code cause_code cause_back refl

-- ---- shapes of fields

attr_is : IsFormat attr_field 52
attr_is = shaped_is attr_of_parts attr_parts attr_fields 52 (u64_is then node_kind_is then mode_is then u32_is then u32_is then u64_is then u64_is then u64_is then u64_is then flag_is) (λ a. refl) (λ x. refl)

entry_is : IsFormat entry_field 266
entry_is = shaped_is _ _ entry_fields 266 (u64_is then node_kind_is then short_name_is) (λ e. refl) (λ x. refl)

entries_is : IsFormat entries_field (2 + 256 * 266)
entries_is = listed_is item_count_field entry_field 2 256 266 item_count_is few_items entry_is

names_is : IsFormat names_field (2 + 256 * 257)
names_is = listed_is item_count_field short_name_field 2 256 257 item_count_is few_items short_name_is

opened_is : IsFormat opened_fields 60
opened_is = u64_is then attr_is

stat_is : IsFormat stat_fields 28
stat_is = u32_is then u64_is then u64_is then u64_is

errno_is : IsFormat errno_field 2
errno_is = shaped_is _ _ _ 2 u16_is (λ e. refl) (λ n. refl)

lost_is : IsFormat lost_fields 73
lost_is = u64_is then digest_is then digest_or_none_is

-- ---- replies

abbrev IsReply : {A : Type 0} → ℕ → Format A → (A → Reply) → Type 0
IsReply tag fields make = IsCase 250000 reply_spelling is_reply tag fields make

done : IsReply 1 nothing (λ x. replies.Done)
done = record { spelled = λ v. refl; allowed = λ v. refl; most = 0; short = omega arith; format = nothing_is }

attr : IsReply 2 attr_field replies.Attr
attr = record { spelled = λ v. refl; allowed = λ v. refl; most = 52; short = omega arith; format = attr_is }

opened : IsReply 3 opened_fields (λ x. replies.Opened x.0 x.1)
opened = record { spelled = λ v. refl; allowed = λ v. refl; most = 60; short = omega arith; format = opened_is }

some_bytes : IsReply 4 data_field replies.Bytes
some_bytes = record { spelled = λ v. refl; allowed = λ v. refl; most = 131076; short = omega arith; format = data_is }

count : IsReply 5 u32_field replies.Count
count = record { spelled = λ v. refl; allowed = λ v. refl; most = 4; short = omega arith; format = u32_is }

entries : IsReply 6 entries_field replies.Entries
entries = record { spelled = λ v. refl; allowed = λ v. refl; most = 2 + 256 * 266; short = omega arith; format = entries_is }

names : IsReply 7 names_field replies.Names
names = record { spelled = λ v. refl; allowed = λ v. refl; most = 2 + 256 * 257; short = omega arith; format = names_is }

stat : IsReply 8 stat_fields (λ x. replies.Stat x.0 x.1.0 x.1.1.0 x.1.1.1)
stat = record { spelled = λ v. refl; allowed = λ v. refl; most = 28; short = omega arith; format = stat_is }

errno : IsReply 9 errno_field replies.Errno
errno = record { spelled = λ v. refl; allowed = λ v. refl; most = 2; short = omega arith; format = errno_is }

fault : IsReply 10 cause_field replies.Fault
fault = record { spelled = λ v. refl; allowed = λ v. refl; most = 1; short = omega arith; format = cause_is }

lost : IsReply 11 lost_fields (λ x. replies.Lost x.0 x.1.0 x.1.1)
lost = record { spelled = λ v. refl; allowed = λ v. refl; most = 73; short = omega arith; format = lost_is }

to_5 : Reads reply_spelling is_reply (between 1 5) reply_to_5
unfolding reply_to_5
to_5 = first_of_row 5 done (first_of_row 5 attr (first_of_row 5 opened (first_of_row 5 some_bytes (last_of_row count))))

to_11 : Reads reply_spelling is_reply (between 6 11) reply_to_11
unfolding reply_to_11
to_11 = first_of_row 11 entries (first_of_row 11 names (first_of_row 11 stat (first_of_row 11 errno (first_of_row 11 fault (last_of_row lost)))))

reply_reads : Reads reply_spelling is_reply is_reply_tag reply_behind
unfolding reply_behind
reply_reads = rows 1 5 11 to_5 to_11

reply_written : (reply : Reply) → Written 250000 reply_spelling is_reply is_reply_tag reply_behind reply
unfolding reply_behind reply_to_5 reply_to_11
reply_written replies.Done = write_case is_reply_tag reply_behind done tt refl (λ r. refl)
reply_written (replies.Attr a) = write_case is_reply_tag reply_behind attr a refl (λ r. refl)
reply_written (replies.Opened handle a) = write_case is_reply_tag reply_behind opened (handle, a) refl (λ r. refl)
reply_written (replies.Bytes bytes) = write_case is_reply_tag reply_behind some_bytes bytes refl (λ r. refl)
reply_written (replies.Count number) = write_case is_reply_tag reply_behind count number refl (λ r. refl)
reply_written (replies.Entries list) = write_case is_reply_tag reply_behind entries list refl (λ r. refl)
reply_written (replies.Names list) = write_case is_reply_tag reply_behind names list refl (λ r. refl)
reply_written (replies.Stat block_size inodes number bytes) = write_case is_reply_tag reply_behind stat (block_size, (inodes, (number, bytes))) refl (λ r. refl)
reply_written (replies.Errno number) = write_case is_reply_tag reply_behind errno number refl (λ r. refl)
reply_written (replies.Fault cause) = write_case is_reply_tag reply_behind fault cause refl (λ r. refl)
reply_written (replies.Lost object kept got) = write_case is_reply_tag reply_behind lost (object, (kept, got)) refl (λ r. refl)

pub reply_is : IsFormat reply_field 250001
unfolding reply_field reply_tag_field
reply_is = tagged_is 250000 reply_spelling is_reply is_reply_tag reply_behind reply_reads reply_written

pub reply_some : (reply : Reply) → 1 ≤ length (reply_spelling reply)
reply_some reply = (reply_written reply).some

-- ---- what is within the rules fits into a frame

short_names : (names : List (List ℕ)) → list_all short_name_field.allows names ≡ true → list_all is_short_name names ≡ true
short_names [] h = refl
short_names (name ∷ names) h =
    let parts = and_parts (short_name_field.allows name) (list_all short_name_field.allows names) h in
    and_from _ _ (le-leb (length name) 255 (short_name_length name parts.0)) (short_names names parts.1)

short_entries : (entries : List DirEntry) → list_all entry_field.allows entries ≡ true → list_all has_short_name entries ≡ true
short_entries [] h = refl
short_entries (e ∷ entries) h =
    let parts = and_parts (entry_field.allows e) (list_all entry_field.allows entries) h in
    let name = and_parts (node_kind_field.allows e.kind) (short_name_field.allows e.name) (and_parts (u64_field.allows e.inode) (node_kind_field.allows e.kind && short_name_field.allows e.name) parts.0).1 in
    and_from _ _ (le-leb (length e.name) 255 (short_name_length e.name name.1)) (short_entries entries parts.1)

digest_sized : (digest : List ℕ) → digest_field.allows digest ≡ true → is_digest digest ≡ true
unfolding digest_field
digest_sized digest h = h

got_sized : (got : Option (List ℕ)) → digest_or_none_field.allows got ≡ true → is_digest_or_none got ≡ true
unfolding digest_or_none_field
got_sized None h = refl
got_sized (Some digest) h = digest_sized digest h

pub short_by_rules : (reply : Reply) → IsTrue (is_reply reply) → IsTrue (has_short_data reply)
short_by_rules replies.Done h = refl
short_by_rules (replies.Attr a) h = refl
short_by_rules (replies.Opened handle a) h = refl
short_by_rules (replies.Bytes bytes) h = le-leb (length bytes) 131072 (data_fits bytes h)
short_by_rules (replies.Count number) h = refl
short_by_rules (replies.Entries list) h =
    let parts = and_parts (item_count_field.allows (length list)) (list_all entry_field.allows list) h in
    and_from _ _ (le-leb (length list) 256 (few_items (length list) parts.0)) (short_entries list parts.1)
short_by_rules (replies.Names list) h =
    let parts = and_parts (item_count_field.allows (length list)) (list_all short_name_field.allows list) h in
    and_from _ _ (le-leb (length list) 256 (few_items (length list) parts.0)) (short_names list parts.1)
short_by_rules (replies.Stat block_size inodes number bytes) h = refl
short_by_rules (replies.Errno number) h = refl
short_by_rules (replies.Fault cause) h = refl
short_by_rules (replies.Lost object kept got) h =
    let parts = and_parts (digest_field.allows kept) (digest_or_none_field.allows got) (and_parts (u64_field.allows object) (digest_field.allows kept && digest_or_none_field.allows got) h).1 in
    and_from _ _ (digest_sized kept parts.0) (got_sized got parts.1)

-- How long replies are: short enough for a frame.
use Rattle.std.proofs.Common.{◌≡◌, ℕ, ◌+◌, ◌*◌, ◌<◌, ◌≤◌, ◌^◌, IsTrue, true, leb, List, ◌++◌, length, Option, None, Some, refl, ap, ◌∙◌, arith}
use Rattle.std.specs.List.{list_all}
use Rattle.std.proofs.lemmas.Bool.{leb-true, eqb-true, and_parts}
use Rattle.std.proofs.lemmas.List.{length-append}
use Rattle.frame_fields.specs.Fields.{u16_field, u32_field, u64_field, data_length_field, data_field, mode_field, item_count_field, short_name_field, digest_field, digest_or_none_field, node_kind_field, flag_field}
use Rattle.frame_fields.proofs.Lists.{pieces_length}
use Rattle.op_frames.specs.declared.reply.Attr.{Attr}
use Rattle.op_frames.specs.declared.reply.DirEntry.{DirEntry}
use Rattle.op_frames.specs.declared.reply.Reply.{Reply}
use Rattle.op_frames.specs.declared.reply.Reply.TheVariants as replies
use Rattle.op_frames.specs.Replies.{attr_field, entry_field, entries_field, names_field, cause_field, reply_spelling}
use Rattle.op_frames.specs.Answers.{is_short_name, has_short_name, is_digest, is_digest_or_none, has_short_data}

attr_length : (a : Attr) → length (attr_field.spell a) ≡ 52
unfolding u32_field u64_field mode_field node_kind_field flag_field
attr_length a = refl

name_length : (name : List ℕ) → length (short_name_field.spell name) ≡ 2 + length name
unfolding short_name_field
name_length name = omega arith

entry_length : (e : DirEntry) → length (entry_field.spell e) ≡ 11 + length e.name
unfolding u64_field node_kind_field
entry_length e = omega (arith, name_length e.name)

-- a name of an allowed length
pub name_short : (name : List ℕ) → is_short_name name ≡ true → length name ≤ 255
name_short name h = leb-true (length name) 255 h

names_length : (names : List (List ℕ)) → length names ≤ 256 → list_all is_short_name names ≡ true → length (names_field.spell names) ≤ 2 + 256 * 257
unfolding item_count_field
names_length names few h =
    let sum = pieces_length 257 short_name_field.spell is_short_name (λ name short. let s = name_short name short in omega (arith, s, name_length name)) names h in
    omega (arith, few, sum)

entries_length : (entries : List DirEntry) → length entries ≤ 256 → list_all has_short_name entries ≡ true → length (entries_field.spell entries) ≤ 2 + 256 * 266
unfolding item_count_field
entries_length entries few h =
    let sum = pieces_length 266 entry_field.spell has_short_name (λ e short. let s = name_short e.name short in omega (arith, s, entry_length e)) entries h in
    omega (arith, few, sum)

-- a byte, and a digest if there is one
got_length : (got : Option (List ℕ)) → is_digest_or_none got ≡ true → length (digest_or_none_field.spell got) ≤ 33
unfolding digest_or_none_field digest_field
got_length None h = omega arith
got_length (Some digest) h = let size = eqb-true (length digest) 32 h in omega (arith, size)

-- the tag of an answer, and a reply with its data
pub reply_short : (reply : Reply) → IsTrue (has_short_data reply) → length (reply_spelling reply) ≤ 131077
unfolding u16_field u32_field u64_field data_field data_length_field digest_field cause_field
reply_short replies.Done h = omega arith
reply_short (replies.Attr attr) h = omega (arith, attr_length attr)
reply_short (replies.Opened handle attr) h = omega (arith, attr_length attr)
reply_short (replies.Bytes bytes) h = let le = leb-true (length bytes) 131072 h in omega (arith, le)
reply_short (replies.Count count) h = omega arith
reply_short (replies.Entries entries) h =
    let parts = and_parts (leb (length entries) 256) (list_all has_short_name entries) h in
    let most = entries_length entries (leb-true (length entries) 256 parts.0) parts.1 in
    omega (arith, most)
reply_short (replies.Names names) h =
    let parts = and_parts (leb (length names) 256) (list_all is_short_name names) h in
    let most = names_length names (leb-true (length names) 256 parts.0) parts.1 in
    omega (arith, most)
reply_short (replies.Stat block_size inodes entries bytes) h = omega arith
reply_short (replies.Errno errno) h = omega arith
reply_short (replies.Fault cause) h = omega arith
reply_short (replies.Lost object kept got) h =
    let parts = and_parts (is_digest kept) (is_digest_or_none got) h in
    let size = eqb-true (length kept) 32 parts.0 in
    let most = got_length got parts.1 in
    omega (arith, size, most, length-append kept (digest_or_none_field.spell got))

-- a body that begins with a tag or with nothing
pub reply_fits : (body start : List ℕ) (reply : Reply) → IsTrue (has_short_data reply) → length start ≤ 1 → body ≡ start ++ reply_spelling reply → length body < 2 ^ 32
reply_fits body start reply h few e =
    let short = reply_short reply h in
    let len : length body ≡ length start + length (reply_spelling reply) = ap (λ (b : List ℕ). length b) e ∙ length-append start (reply_spelling reply) in
    omega (arith, short, few, len)

pub place_fits : (body start : List ℕ) (place : ℕ) → length start ≤ 1 → body ≡ start ++ u64_field.spell place → length body < 2 ^ 32
unfolding u64_field
place_fits body start place few e =
    let len : length body ≡ length start + 8 = ap (λ (b : List ℕ). length b) e ∙ length-append start (u64_field.spell place) in
    omega (arith, few, len)

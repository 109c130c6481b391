-- What fits into a frame, and the answers of a replay with their frames.
use Rattle.std.specs.Prelude.{ℕ, List, [], ◌∷◌, ◌++◌, length, ◌==◌, Bool, true, ◌&&◌, nat_le, Option, None, Some}
use Rattle.std.specs.List.{list_all}
use Rattle.frame_fields.specs.Fields.{u64_field}
use Rattle.frame_fields.specs.Frames.{framed, frame_of}
use Rattle.op_frames.specs.declared.reply.DirEntry.{DirEntry}
use Rattle.op_frames.specs.declared.reply.Reply.{Reply}
use Rattle.op_frames.specs.declared.reply.Reply.TheVariants as replies
use Rattle.op_frames.specs.Replies.{reply_spelling, reply_field}

abbrev pub is_short_name : List ℕ → Bool
is_short_name name = nat_le (length name) 255

abbrev pub has_short_name : DirEntry → Bool
has_short_name e = is_short_name e.name

-- a SHA-256 has 32 bytes
abbrev pub is_digest : List ℕ → Bool
is_digest digest = length digest == 32

abbrev pub is_digest_or_none : Option (List ℕ) → Bool
is_digest_or_none None = true
is_digest_or_none (Some digest) = is_digest digest

-- its data, if it has any, fit into one frame: so many bytes, or at most 256 items with names of at most 255 bytes, or digests
abbrev pub has_short_data : Reply → Bool
has_short_data (replies.Bytes bytes) = nat_le (length bytes) 131072
has_short_data (replies.Entries entries) = nat_le (length entries) 256 && list_all has_short_name entries
has_short_data (replies.Names names) = nat_le (length names) 256 && list_all is_short_name names
has_short_data (replies.Lost object kept got) = is_digest kept && is_digest_or_none got
has_short_data _ = true

-- the bare frame of a reply
abbrev pub reply_frame : Reply → List ℕ
reply_frame reply = frame_of reply_field reply

-- the answer of a replay to a call
abbrev pub answer_frame : Reply → List ℕ
answer_frame reply = framed ((1 ∷ []) ++ reply_spelling reply)

-- the last answer of a replay whose input is refused at a place
abbrev pub bad_input_frame : ℕ → List ℕ
bad_input_frame place = framed ((27 ∷ []) ++ u64_field.spell place)

-- What a core over rows answers.
use Rattle.std.specs.Prelude.{◌≡◌, ℕ, ◌⊎◌, ◌&&◌, List, not, is_some, option_map, Bool, true, false, IsTrue, Option, None}
use Rattle.op_frames.specs.declared.operation.Op.{Op}
use Rattle.op_frames.specs.declared.reply.Reply.{Reply}
use Rattle.op_frames.specs.declared.reply.Reply.TheVariants as replies
use Rattle.op_frames.specs.declared.reply.Cause.TheVariants as causes
use Rattle.op_frames.specs.Replay.{Request}
use Rattle.plain_tree.specs.Tree.{Tree}
use Rattle.plain_tree.specs.Calls.{Answered, no_memory, tree_after_reply}
use Rattle.plain_tree.specs.Checks.{first_failure}
use Rattle.plain_tree.specs.Classes.{keeps_rows, names_drawn}
use Rattle.plain_tree.specs.Operations.{checks}
use Rattle.tree_laws.specs.Files.{copies_files}
use Rattle.s3_rows.specs.Told.{Told, IfTold}
use Rattle.s3_devices.specs.Objects.{Objects}
use Rattle.core_rules.specs.Built.{is_built, core_reply}
use Rattle.volume_core.specs.declared.refusal.Refusal.{Refusal}
use Rattle.volume_core.specs.declared.refusal.Refusal.TheVariants.{Refused, Worn, Keeper, Link, Lost, Memory}
use Rattle.volume_core.specs.declared.row_core.RowCore.{RowCore}
use Rattle.volume_core.specs.Backed.{GoesOnBacked, StaysStored}
use Rattle.volume_core.specs.Causes.{AreWornRows, HasRoom, IsLossFor, LacksBlocks, writes_blocks}
use Rattle.volume_core.specs.Refusals.{IsLike}
use Rattle.volume_core.specs.Standing.{StandsFor, IsToldAfter, IsToldAlike}

-- the reply of a keeper that failed
abbrev pub keeper_failed : Reply
keeper_failed = replies.Fault causes.Keeper

-- that of a link that failed
abbrev pub link_failed : Reply
link_failed = replies.Fault causes.Link

-- a reply by which the keeper has failed
abbrev pub is_keeper_fault : Reply → Bool
is_keeper_fault (replies.Fault cause) = elim cause [ causes.Keeper ↦ true | causes.Link ↦ false | causes.Disk ↦ false | causes.Memory ↦ false ]
is_keeper_fault _ = false

-- one by which the link has failed
abbrev pub is_link_fault : Reply → Bool
is_link_fault (replies.Fault cause) = elim cause [ causes.Keeper ↦ false | causes.Link ↦ true | causes.Disk ↦ false | causes.Memory ↦ false ]
is_link_fault _ = false

-- the reply where a count or an id is worn: ENOSPC
abbrev pub no_space : Reply
no_space = replies.Errno (record { 0 = 28 })

-- the call changes rows: it is built, no check fails, and it does not only read or open and close handles
abbrev pub changes_rows : Tree → Request → Bool
changes_rows whole call = is_built call.op && not (is_some (first_failure (checks whole call.pass call.op))) && not (keeps_rows whole call.pass call.op)

-- no check fails, and a count or an id of a name or an inode that is needed is worn, or one that a copy needs
abbrev pub LacksName : Option Told → Tree → Request → Type 0
LacksName before whole call = (first_failure (checks whole call.pass call.op) ≡ None) × IfTold before (λ t. AreWornRows t whole call.op call.now)

-- no check fails, and the store lost bytes that are needed
abbrev pub IsLostReply : (List ℕ → List ℕ) → Option Told → Option Objects → Tree → Request → Reply → Type 0
IsLostReply digest_of before objects whole call (replies.Lost object kept got) =
    (first_failure (checks whole call.pass call.op) ≡ None)
    × IsLossFor digest_of before objects whole call.pass call.op object (record { 0 = kept }) (option_map (λ d. record { 0 = d }) got)
IsLostReply digest_of before objects whole call _ = ⊥

-- A reply outside the tree's rules: want of memory, a keeper or a link whose count of faults rose, a count or an id that is worn, or
-- bytes that the store lost.
abbrev pub IsForced : Type 0 → Type 0 → (List ℕ → List ℕ) → Option Told → Option Objects → Tree → Request → Reply → Type 0
IsForced risen failed digest_of before objects whole call reply =
    (reply ≡ no_memory) ⊎ ((reply ≡ keeper_failed) × risen) ⊎ ((reply ≡ link_failed) × failed)
    ⊎ ((reply ≡ no_space) × (first_failure (checks whole call.pass call.op) ≡ None) × LacksBlocks digest_of before objects whole call.pass call.op call.now)
    ⊎ IsLostReply digest_of before objects whole call reply

-- The reply is like that of the core's rules, one batch more is told where rows are changed, but for objects that were drawn before it,
-- and no count or id that is needed is worn, of a name, an inode or a block; or the reply is outside the rules, and nothing more is told but
-- objects that were drawn.
abbrev pub IsRowAnswer : Type 0 → Type 0 → (List ℕ → List ℕ) → Option Told → Option Told → Option Objects → Tree → Request → Reply → Type 0
IsRowAnswer risen failed digest_of before after objects whole call reply =
    (IsLike call.op (core_reply whole call) reply × IsToldAfter (changes_rows whole call) (writes_blocks call.op) (copies_files call.op) (names_drawn whole call.op) before after
    × (IsTrue (is_built call.op) → LacksName before whole call → ⊥)
    × (IsTrue (is_built call.op) → first_failure (checks whole call.pass call.op) ≡ None → HasRoom digest_of before objects whole call.pass call.op call.now))
    ⊎ (IsTrue (is_built call.op) × IsForced risen failed digest_of before objects whole call reply × IsToldAlike (writes_blocks call.op) before after)

-- the call with its reply
abbrev pub answered : ℕ → Op → ℕ → Reply → Answered
answered pass op now reply = record { call = record { pass = pass; now = now; op = op }; reply = reply }

-- a reply that is like that of the core's rules is the very same
abbrev pub IsExactReply : Tree → Answered → Type 0
IsExactReply whole a = IsLike a.call.op (core_reply whole a.call) a.reply → a.reply ≡ core_reply whole a.call

-- the reply by a refusal
abbrev pub refusal_reply : Refusal → Reply
refusal_reply (Refused errno) = replies.Errno errno
refusal_reply Worn = no_space
refusal_reply Keeper = keeper_failed
refusal_reply Link = link_failed
refusal_reply (Lost object kept got) = replies.Lost object kept.0 (option_map (λ d. d.0) got)
refusal_reply Memory = no_memory

-- What a call comes to: the core stands for the tree after the reply, what rows name stays stored, and the bytes are those of the tree.
pub record IsAnswered {K : Type 0} (told : K → Option Told) (before after : RowCore K) (risen failed : Type 0) (digest_of : List ℕ → List ℕ) (objects later : Option Objects) (whole : Tree)
    (call : Request) (reply : Reply) : Type 0 where
  pub stands : StandsFor told after (tree_after_reply whole (record { call = call; reply = reply }))
  pub answer : IsRowAnswer risen failed digest_of (told before.keeper) (told after.keeper) objects whole call reply
  pub stored : StaysStored digest_of (told before.keeper) (told after.keeper) objects later
  pub backed : GoesOnBacked digest_of (IsExactReply whole (record { call = call; reply = reply })) (told before.keeper) (told after.keeper) objects later whole
      (tree_after_reply whole (record { call = call; reply = reply }))

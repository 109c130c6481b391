-- The core of a replay, from call to call.
use Rattle.std.proofs.Common.{◌≡◌, ◌<◌, ◌≤◌, ◌+◌, ◌^◌, ◌⊎◌, ℕ, List, Bool, true, false, cond, Option, None, Some, refl, sym, ap, ◌∙◌, subst, inl, inr, ⊎_elim, arith}
use Rattle.std.specs.Prelude.{IsTrue}
use Rattle.sha2.specs.Sha256.{sha256}
use Rattle.s3_base.specs.Faults.{HasRisen}
use Rattle.op_frames.specs.Operations.{is_op}
use Rattle.op_frames.specs.declared.operation.Op.{Op}
use Rattle.op_frames.specs.declared.operation.Op.TheVariants as ops
use Rattle.op_frames.specs.declared.reply.Reply.{Reply}
use Rattle.op_frames.specs.Replay.{Request, input_limit}
use Rattle.plain_tree.specs.Calls.{Answered, leaves_tree, tree_after_reply}
use Rattle.plain_tree.specs.Checks.{first_failure}
use Rattle.plain_tree.specs.Classes.{names_drawn}
use Rattle.plain_tree.specs.Operations.{checks, effect, tree_after}
use Rattle.plain_tree.specs.Tree.{Tree}
use Rattle.tree_laws.specs.Files.{copies_files}
use Rattle.tree_laws.specs.Growth.{HaveFewNames}
use Rattle.s3_rows.specs.Rows.{Inode}
use Rattle.s3_rows.specs.Tables.{Tables}
use Rattle.s3_rows.specs.Told.{Told}
use Rattle.s3_rows.specs.Validity.{HasUniqueNames, IsValid}
use Rattle.tree_rows.specs.Contents.{Contents, bytes_of}
use Rattle.tree_rows.specs.Shapes.{Represents}
use Rattle.core_model.specs.Occurring.{IsCollisionFree, KnowsAll, blocks_in}
use Rattle.core_rules.specs.Built.{is_built}
use Rattle.ref_counts.specs.Plans.{IsWorn, next_name_of}
use Rattle.tree_limits.specs.Full.{IsNameFull}
use Rattle.volume_core.specs.Answers.{IsExactReply, IsForced, IsRowAnswer, changes_rows, no_space}
use Rattle.volume_core.specs.Backed.{GoesOnBacked, StaysStored}
use Rattle.volume_core.specs.Causes.{AreWornBlocks, IsWornCopy, LacksBlocks, writes_blocks}
use Rattle.volume_core.specs.Standing.{StandsFor}
use Rattle.offline_tool.specs.declared.served.Served.{Served}
use Rattle.offline_tool.specs.Runs.{HasFullCount, IsFull, IsLikeReply, IsSameReply, IsShort}
use Rattle.offline_tool.specs.Serving.{HasBytesOf, IsServed, Serves, told_by}
use Rattle.offline_tool.proofs.Blocks.{worn_blocks_full}
use Rattle.offline_tool.proofs.Bounds.{AreMore, at_most_one, more_after, more_alike}
use Rattle.offline_tool.proofs.LimitLaws.{LimitLaws}
use Rattle.offline_tool.proofs.Stored.{never_lost}

-- an operation leaves the size of a block
abbrev pub KeepsSize : Type 0
KeepsSize = (whole : Tree) (pass now : ℕ) (op : Op) → first_failure (checks whole pass op) ≡ None → (effect whole pass op now).block_size ≡ whole.block_size

size_tree_after : KeepsSize → (whole : Tree) (pass now : ℕ) (op : Op) (failure : Option ℕ) → first_failure (checks whole pass op) ≡ failure → (tree_after whole pass op now).block_size ≡ whole.block_size
unfolding tree_after
size_tree_after law whole pass now op None passes =
    ap (λ f. (elim f as (λ _. Tree) [ Some errno ↦ whole | None ↦ effect whole pass op now ]).block_size) passes ∙ law whole pass now op passes
size_tree_after law whole pass now op (Some errno) fails = ap (λ f. (elim f as (λ _. Tree) [ Some e ↦ whole | None ↦ effect whole pass op now ]).block_size) fails

-- and so does a call, whatever its reply
size_after : KeepsSize → (whole : Tree) (a : Answered) → (tree_after_reply whole a).block_size ≡ whole.block_size
size_after law whole a = by_reply (leaves_tree a.reply)
  where
    by_reply : (b : Bool) → (cond b whole (tree_after whole a.call.pass a.call.op a.call.now)).block_size ≡ whole.block_size
    by_reply true = refl
    by_reply false = size_tree_after law whole a.call.pass a.call.now a.call.op (first_failure (checks whole a.call.pass a.call.op)) refl

-- an error leaves the tree
left_by_errno : (whole : Tree) (a : Answered) → a.reply ≡ no_space → tree_after_reply whole a ≡ whole
left_by_errno whole a is = ap (λ (r : Reply). cond (leaves_tree r) whole (tree_after whole a.call.pass a.call.op a.call.now)) is

-- contents that know blocks tell them apart
known_apart : (digest_of : List ℕ → List ℕ) (m : Contents) (blocks : List (List ℕ)) → KnowsAll digest_of m blocks → IsCollisionFree digest_of blocks
known_apart digest_of m blocks knows x y has_x has_y same =
    let one : Some x ≡ Some y = sym (knows x has_x) ∙ ap (bytes_of m) same ∙ knows y has_y in
    cc one

-- the name of an operation that is no copy and writes no bytes
full_name : (t : Tree) (pass : ℕ) (op : Op) (now : ℕ) → IsNameFull t op → HasFullCount t pass op now
full_name t pass (ops.CopyTree source parent name) now full = absurd full
full_name t pass (ops.Write handle offset bytes) now full = absurd full
full_name t pass (ops.Truncate inode size) now full = absurd full
full_name t pass _ now full = full

module _ (before after : Served) (place behind : ℕ) (whole : Tree) (call : Request) (reply : Reply) (s : Serves before place whole) (allowed : IsTrue (is_op call.op)) (further : place < behind) (within : place ≤ input_limit) where
  abbrev a : Answered
  a = record { call = call; reply = reply }

  abbrev next : Tree
  next = tree_after_reply whole a

  abbrev old : Tables
  old = before.core.keeper.tables

  -- what the keeper holds is what it tells
  is_told : before.core.keeper ≡ s.stands.now
  is_told =
      let tells : Some before.core.keeper ≡ Some s.stands.now = s.stands.tells in
      let own : before.core.keeper ≡ s.stands.now = cc tells in
      own

  valid : IsValid old
  valid = subst (λ (x : Told). IsValid x.tables) (sym is_told) s.stands.served.valid

  unique : HasUniqueNames old
  unique = subst (λ (x : Told). HasUniqueNames x.tables) (sym is_told) s.stands.served.unique

  represents : Represents old whole
  represents = subst (λ (x : Told). Represents x.tables whole) (sym is_told) s.stands.represents

  abbrev Lacks : Type 0
  Lacks = LacksBlocks sha256 (told_by before.core.keeper) (Some before.link) whole call.pass call.op call.now

  -- a reply outside the rules is want of memory, or a number or a count is missing
  short_or_full : IsTrue (is_built call.op) → IsForced (HasRisen 0 0) (HasRisen 0 0) sha256 (told_by before.core.keeper) (Some before.link) whole call reply → IsShort a ⊎ (IsFull whole a × Lacks)
  short_or_full built forced =
      ⊎_elim (λ memory. inl (built, memory))
      (⊎_elim (λ failed. absurd (omega (arith, failed.1)))
      (⊎_elim (λ failed. absurd (omega (arith, failed.1)))
      (⊎_elim (λ worn. inr (record { built = built; reply = worn.0; passes = worn.1 }, worn.2))
      (λ lost. absurd (never_lost sha256 before.core.keeper before.link whole call reply s.held lost)))))
      forced

  like : IsRowAnswer (HasRisen 0 0) (HasRisen 0 0) sha256 (told_by before.core.keeper) (told_by after.core.keeper) (Some before.link) whole call reply → IsLikeReply whole a
  like answer =
      ⊎_elim (λ rules. inl rules.0)
      (λ forced. ⊎_elim (λ short. inr (inl short)) (λ full. inr (inr full.0)) (short_or_full forced.0 forced.1))
      answer

  more : IsRowAnswer (HasRisen 0 0) (HasRisen 0 0) sha256 (told_by before.core.keeper) (told_by after.core.keeper) (Some before.link) whole call reply → AreMore old after.core.keeper.tables
  more answer =
      ⊎_elim
      (λ rules. more_after before.core.keeper after.core.keeper (changes_rows whole call) (writes_blocks call.op) (copies_files call.op) (names_drawn whole call.op) (at_most_one whole call.op) rules.1)
      (λ forced. more_alike before.core.keeper after.core.keeper (writes_blocks call.op) forced.2)
      answer

  module _ (limits : LimitLaws) where
    -- where the bytes are there, a count of the tree is at its end
    full_count : (m : Contents) → HasBytesOf m before whole → KnowsAll sha256 m (blocks_in whole) → first_failure (checks whole call.pass call.op) ≡ None → Lacks → HasFullCount whole call.pass call.op call.now
    full_count m has knows passes lacks = ⊎_elim (λ rows. ⊎_elim names (copies call.op passes) rows) (λ worn. blocks worn.0 worn.2) lacks
      where
        free : IsCollisionFree sha256 (blocks_in whole)
        free = known_apart sha256 m (blocks_in whole) knows

        few : next_name_of old < 2 ^ 62
        few = omega (arith, s.names, within)

        names : IsWorn old whole call.op → HasFullCount whole call.pass call.op call.now
        names worn =
            full_name whole call.pass call.op call.now
            (limits.names old whole call.op (place + 1) valid unique represents s.stands.well s.links (omega (arith, within)) few worn)

        copies : (op : Op) → first_failure (checks whole call.pass op) ≡ None → IsWornCopy old whole op call.now → HasFullCount whole call.pass op call.now
        copies (ops.CopyTree source parent name) none worn =
            limits.copies sha256 old whole call.pass source parent call.now name valid unique represents s.stands.well has.exact free few none worn
        copies _ none worn = absurd worn

        blocks : (r : Inode) → AreWornBlocks sha256 old (Some before.link) whole r call.now call.op → HasFullCount whole call.pass call.op call.now
        blocks r worn =
            worn_blocks_full limits.blocks sha256 old (Some before.link) whole valid represents has.exact free s.size (omega (arith, s.blocks, within)) (omega (arith, s.objects, within))
            r call.pass call.now call.op allowed worn

    same : (m : Contents) → HasBytesOf m before whole → KnowsAll sha256 m (blocks_in next) → IsExactReply whole a
        → IsRowAnswer (HasRisen 0 0) (HasRisen 0 0) sha256 (told_by before.core.keeper) (told_by after.core.keeper) (Some before.link) whole call reply → IsSameReply whole a
    same m has knows exact answer =
        ⊎_elim (λ rules. inl (exact rules.0))
        (λ forced.
        ⊎_elim (λ short. inr (inl short))
        (λ full.
        let still : next ≡ whole = left_by_errno whole a full.0.reply in
        inr (inr (full.0, full_count m has (subst (λ (x : Tree). KnowsAll sha256 m (blocks_in x)) still knows) full.0.passes full.1)))
        (short_or_full forced.0 forced.1))
        answer

    -- how often an inode is named
    links : (b : Bool) → HaveFewNames (behind + 1) (cond b whole (tree_after whole call.pass call.op call.now))
    links true = λ inode. omega (arith, s.links inode, further)
    links false = λ inode. omega (arith, limits.growth whole call.pass call.now (place + 1) call.op s.stands.well s.links inode, further)

    pub served : KeepsSize → StandsFor told_by after.core next
        → IsRowAnswer (HasRisen 0 0) (HasRisen 0 0) sha256 (told_by before.core.keeper) (told_by after.core.keeper) (Some before.link) whole call reply
        → StaysStored sha256 (told_by before.core.keeper) (told_by after.core.keeper) (Some before.link) (Some after.link)
        → GoesOnBacked sha256 (IsExactReply whole a) (told_by before.core.keeper) (told_by after.core.keeper) (Some before.link) (Some after.link) whole next
        → IsServed before after behind whole a
    served law stands answer stored bytes =
        let grown : AreMore old after.core.keeper.tables = more answer in
        record {
          serves = record {
            stands = stands;
            size = subst (λ (n : ℕ). 4096 ≤ n) (sym (size_after law whole a)) s.size;
            held = stored s.held;
            names = omega (arith, grown.names, s.names, further);
            links = links (leaves_tree reply);
            blocks = omega (arith, grown.blocks, s.blocks, further);
            objects = omega (arith, grown.objects, s.objects, further);
          };
          like = like answer;
          backed = λ m has knows.
              let both = bytes m has.backed knows in
              (same m has knows both.0 answer, record { backed = both.1.backed; exact = both.1.exact has.exact });
        }

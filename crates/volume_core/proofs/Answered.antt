-- Outcomes as answers of the core.
use Rattle.std.proofs.Common.{◌≡◌, ℕ, List, Bool, true, false, cond, not, Option, None, Some, Result, Ok, Err, refl, sym, ap, ◌∙◌, subst, inl, inr}
use Rattle.std.specs.Prelude.{IsTrue, ◌&&◌, is_some, option_map}
use Rattle.s3_base.specs.declared.errors.Errno.{Errno}
use Rattle.op_frames.specs.declared.operation.Op.{Op}
use Rattle.op_frames.specs.declared.operation.Op.TheVariants as ops
use Rattle.op_frames.specs.declared.reply.Reply.{Reply}
use Rattle.op_frames.specs.declared.reply.Reply.TheVariants as replies
use Rattle.op_frames.specs.Replay.{Request}
use Rattle.plain_tree.specs.Tree.{Tree}
use Rattle.plain_tree.specs.Calls.{leaves_tree, no_memory, tree_after_reply}
use Rattle.plain_tree.specs.Checks.{first_failure}
use Rattle.plain_tree.specs.Classes.{keeps_rows, names_drawn}
use Rattle.plain_tree.specs.Operations.{checks, effect, success, reply_to, tree_after}
use Rattle.tree_laws.specs.Files.{copies_files}
use Rattle.s3_rows.specs.declared.digest.Digest.{Digest}
use Rattle.s3_rows.specs.Tables.{Tables}
use Rattle.s3_rows.specs.Told.{Told, IfTold}
use Rattle.s3_devices.specs.Objects.{Objects}
use Rattle.s3_devices.specs.Told.{Becomes}
use Rattle.tree_rows.specs.Contents.{Contents}
use Rattle.core_model.specs.Occurring.{KnowsAll, blocks_in}
use Rattle.core_rules.specs.Built.{is_built, core_reply, not_built}
use Rattle.ref_counts.specs.Plans.{is_fit}
use Rattle.ref_counts.proofs.Told.{IfTold-weaker}
use Rattle.volume_core.specs.declared.refusal.Refusal.{Refusal}
use Rattle.volume_core.specs.declared.refusal.Refusal.TheVariants.{Refused, Worn, Keeper, Link, Lost, Memory}
use Rattle.volume_core.specs.declared.row_core.RowCore.{RowCore}
use Rattle.volume_core.specs.Answers.{IsAnswered, IsExactReply, IsForced, IsRowAnswer, changes_rows, is_keeper_fault, is_link_fault, keeper_failed, link_failed, no_space, refusal_reply}
use Rattle.volume_core.specs.Backed.{AreBackedAfter, GoesOnBacked, IsBacked}
use Rattle.volume_core.specs.Causes.{IsLossFor, writes_blocks}
use Rattle.volume_core.specs.Refusals.{HasLength, IsAlike, IsDone, IsLike, IsOutcome, IsStill, Stands}
use Rattle.volume_core.specs.Standing.{StandsFor, IsToldAfter}
use Rattle.volume_core.proofs.Standing.{backed_still, stored_still}
use Rattle.volume_core.proofs.Successes.{success_goes_on}

-- what the first failing check makes of reply and tree
reply_at : (t : Tree) (pass now : ℕ) (op : Op) (failure : Option ℕ) → first_failure (checks t pass op) ≡ failure
    → reply_to t pass op now ≡ elim failure [ Some errno ↦ replies.Errno (record { 0 = errno }) | None ↦ success t pass op now ]
unfolding reply_to
reply_at t pass now op failure is =
    ap (λ f. elim f as (λ _. Reply) [ Some errno ↦ replies.Errno (record { 0 = errno }) | None ↦ success t pass op now ]) is

tree_at : (t : Tree) (pass now : ℕ) (op : Op) (failure : Option ℕ) → first_failure (checks t pass op) ≡ failure
    → tree_after t pass op now ≡ elim failure [ Some errno ↦ t | None ↦ effect t pass op now ]
unfolding tree_after
tree_at t pass now op failure is = ap (λ f. elim f as (λ _. Tree) [ Some errno ↦ t | None ↦ effect t pass op now ]) is

-- ---- replies that are alike

length_same : (reply given : Reply) → given ≡ reply → HasLength reply given
length_same (replies.Bytes bytes) given same = (bytes, same, refl)
length_same _ given same = same

pub like_same : (op : Op) (reply given : Reply) → given ≡ reply → IsLike op reply given
like_same (ops.Read handle offset count) reply given same = length_same reply given same
like_same _ reply given same = same

abbrev is_bytes : Reply → Bool
is_bytes (replies.Bytes bytes) = true
is_bytes _ = false

same_length : (reply given : Reply) → is_bytes given ≡ false → HasLength reply given → given ≡ reply
same_length (replies.Bytes bytes) given other like =
    let clash : true ≡ false = sym (ap is_bytes like.1) ∙ other in
    absurd (cc clash)
same_length _ given other like = like

same_like : (op : Op) (reply given : Reply) → is_bytes given ≡ false → IsLike op reply given → given ≡ reply
same_like (ops.Read handle offset count) reply given other like = same_length reply given other like
same_like _ reply given other like = like

-- what is like a reply that goes on goes on
length_on : (reply given : Reply) → leaves_tree reply ≡ false → HasLength reply given → leaves_tree given ≡ false
length_on (replies.Bytes bytes) given on like = ap leaves_tree like.1
length_on reply given on like = on_same reply given on like
  where
    on_same : (reply given : Reply) → leaves_tree reply ≡ false → given ≡ reply → leaves_tree given ≡ false
    on_same reply given on same = ap leaves_tree same ∙ on

like_on : (op : Op) (reply given : Reply) → leaves_tree reply ≡ false → IsLike op reply given → leaves_tree given ≡ false
like_on (ops.Read handle offset count) reply given on like = length_on reply given on like
like_on _ reply given on like = ap leaves_tree like ∙ on

-- ---- bytes, with another fact

pub backed_weaker : (digest_of : List ℕ → List ℕ) (P Q : Type 0) (before after : Option Told) (objects later : Option Objects) (whole next : Tree) → (P → Q)
    → GoesOnBacked digest_of P before after objects later whole next → GoesOnBacked digest_of Q before after objects later whole next
backed_weaker digest_of P Q before after objects later whole next follows fact =
    IfTold-weaker before (λ t. Becomes (Relation P t) objects later) (λ t. Becomes (Relation Q t) objects later) (λ t is. by_objects t objects is) fact
  where
    Relation : Type 0 → Tables → Objects → Objects → Type 0
    Relation F t o now = (m : Contents) → IsBacked m t o whole → KnowsAll digest_of m (blocks_in next) → F × IfTold after (λ u. AreBackedAfter digest_of m t u now whole next)

    by_later : (t : Tables) (o : Objects) (y : Option Objects) → Becomes (Relation P t) (Some o) y → Becomes (Relation Q t) (Some o) y
    by_later t o None is = is
    by_later t o (Some now) is = λ m backed knows. let both = is m backed knows in (follows both.0, both.1)

    by_objects : (t : Tables) (x : Option Objects) → Becomes (Relation P t) x later → Becomes (Relation Q t) x later
    by_objects t None is = is
    by_objects t (Some o) is = by_later t o later is

module _ {K : Type 0} (told : K → Option Told) (before after : RowCore K) (digest_of : List ℕ → List ℕ) (objects later : Option Objects) (whole : Tree) (s : StandsFor told before whole)
    (pass : ℕ) (op : Op) (now : ℕ) (risen failed : Type 0) where
  abbrev call : Request
  call = record { pass = pass; now = now; op = op }

  -- the core stands for the tree after the reply, which is one of its answers
  abbrev pub Answers : Reply → Type 0
  Answers reply = IsAnswered told before after risen failed digest_of objects later whole call reply

  abbrev rows_change : Option ℕ → Bool
  rows_change failure = not (is_some failure) && not (keeps_rows whole pass op)

  by_rules : (b : Bool) → is_built op ≡ b → IsTrue b → (failure : Option ℕ) → first_failure (checks whole pass op) ≡ failure → changes_rows whole call ≡ rows_change failure
  by_rules true is built failure fails = ap (λ c. c && not (is_some (first_failure (checks whole pass op))) && not (keeps_rows whole pass op)) is ∙ ap rows_change fails
  by_rules false is built failure fails = absurd (cc built)

  of_built : (A : Type 0) (x y : A) (b : Bool) → is_built op ≡ b → IsTrue b → cond (is_built op) x y ≡ x
  of_built A x y true is built = ap (λ c. cond c x y) is
  of_built A x y false is built = absurd (cc built)

  -- the tree after a reply that leaves it, and after one that does not
  stays : (reply : Reply) → leaves_tree reply ≡ true → tree_after_reply whole (record { call = call; reply = reply }) ≡ whole
  stays reply is = ap (λ b. cond b whole (tree_after whole pass op now)) is

  goes_on : (reply : Reply) → leaves_tree reply ≡ false → first_failure (checks whole pass op) ≡ None → tree_after_reply whole (record { call = call; reply = reply }) ≡ effect whole pass op now
  goes_on reply is passes = ap (λ b. cond b whole (tree_after whole pass op now)) is ∙ tree_at whole pass now op None passes

  -- an operation that is built
  module _ (built : IsTrue (is_built op)) where
    reply_is : (failure : Option ℕ) → first_failure (checks whole pass op) ≡ failure
        → core_reply whole call ≡ elim failure [ Some errno ↦ replies.Errno (record { 0 = errno }) | None ↦ success whole pass op now ]
    reply_is failure fails = of_built Reply (reply_to whole pass op now) not_built (is_built op) refl built ∙ reply_at whole pass now op failure fails

    pub ok : (reply : Reply) → IsDone told before after digest_of objects later whole pass op now reply → Answers reply
    ok reply o =
        let next : tree_after_reply whole (record { call = call; reply = reply }) ≡ effect whole pass op now =
        goes_on reply (like_on op (success whole pass op now) reply (success_goes_on whole pass op now) o.like) o.passes in
        let own : core_reply whole call ≡ success whole pass op now = reply_is None o.passes in record {
          stands = subst (StandsFor told after) (sym next) o.stays.stands;
          answer = inl (
            subst (λ r. IsLike op r reply) (sym own) o.like,
            subst (λ b. IsToldAfter b (writes_blocks op) (copies_files op) (names_drawn whole op) (told before.keeper) (told after.keeper)) (sym (by_rules (is_built op) refl built None o.passes)) o.tells,
            λ _ lacks. o.unworn lacks.1,
            λ _ _. o.room,
          );
          stored = o.stays.stored;
          backed = subst (λ n. GoesOnBacked digest_of (IsExactReply whole (record { call = call; reply = reply })) (told before.keeper) (told after.keeper) objects later whole n) (sym next)
              (backed_weaker digest_of (reply ≡ success whole pass op now) (IsExactReply whole (record { call = call; reply = reply })) (told before.keeper) (told after.keeper) objects later whole (effect whole pass op now)
              (λ same _. same ∙ sym own) o.stays.backed);
        }

    -- a reply that leaves all
    left : (reply : Reply) → leaves_tree reply ≡ true → is_bytes reply ≡ false → Stands told before after digest_of objects later whole (Unit {0}) whole
        → IsRowAnswer risen failed digest_of (told before.keeper) (told after.keeper) objects whole call reply → Answers reply
    left reply leaves other stand answer =
        let next : tree_after_reply whole (record { call = call; reply = reply }) ≡ whole = stays reply leaves in record {
          stands = subst (StandsFor told after) (sym next) stand.stands;
          answer = answer;
          stored = stand.stored;
          backed = subst (λ n. GoesOnBacked digest_of (IsExactReply whole (record { call = call; reply = reply })) (told before.keeper) (told after.keeper) objects later whole n) (sym next)
              (backed_weaker digest_of (Unit {0}) (IsExactReply whole (record { call = call; reply = reply })) (told before.keeper) (told after.keeper) objects later whole whole
              (λ _ like. same_like op (core_reply whole call) reply other like) stand.backed);
        }

    refused : (errno : Errno) → (first_failure (checks whole pass op) ≡ Some errno.0) × IsStill told before after digest_of objects later whole → Answers (replies.Errno errno)
    refused errno o =
        left (replies.Errno errno) refl refl o.1.stays (inl (
          like_same op (core_reply whole call) (replies.Errno errno) (sym (reply_is (Some errno.0) o.0)),
          subst (λ b. IsToldAfter b (writes_blocks op) (copies_files op) (names_drawn whole op) (told before.keeper) (told after.keeper)) (sym (by_rules (is_built op) refl built (Some errno.0) o.0)) o.1.same,
          λ _ lacks.
              let clash : Some errno.0 ≡ None = sym o.0 ∙ lacks.0 in
              cc clash,
          λ _ passes.
              let clash : Some errno.0 ≡ None = sym o.0 ∙ passes in
              absurd (cc clash),
        ))

    forced : (reply : Reply) → leaves_tree reply ≡ true → is_bytes reply ≡ false → IsForced risen failed digest_of (told before.keeper) objects whole call reply
        → IsAlike told before after digest_of objects later whole op → Answers reply
    forced reply leaves other why alike = left reply leaves other alike.stays (inr (built, why, alike.alike))

    digest_back : (d : Option Digest) → option_map (λ (x : List ℕ). let own : Digest = record { 0 = x } in own) (option_map (λ (x : Digest). x.0) d) ≡ d
    digest_back None = refl
    digest_back (Some d) = refl

    pub refusal : (why : Refusal) → (why ≡ Keeper → risen) → (why ≡ Link → failed) → IsOutcome told before after digest_of objects later whole pass op now (Err why) → Answers (refusal_reply why)
    refusal (Refused errno) rose fell o = refused errno o
    refusal Worn rose fell o = forced no_space refl refl (inr (inr (inr (inl (refl, o.0, o.1))))) o.2
    refusal Keeper rose fell o = forced keeper_failed refl refl (inr (inl (refl, rose refl))) o
    refusal Link rose fell o = forced link_failed refl refl (inr (inr (inl (refl, fell refl)))) o
    refusal (Lost object kept got) rose fell o =
        forced (replies.Lost object kept.0 (option_map (λ (x : Digest). x.0) got)) refl refl
        (inr (inr (inr (inr (o.0, subst (λ (d : Option Digest). IsLossFor digest_of (told before.keeper) objects whole pass op object kept d) (sym (digest_back got)) o.1))))) o.2
    refusal Memory rose fell o = forced no_memory refl refl (inl refl) o

    pub outcome : (result : Result Reply Refusal) (reply : Reply) → (result ≡ Ok reply) → IsOutcome told before after digest_of objects later whole pass op now result → Answers reply
    outcome result reply is o = ok reply (subst (IsOutcome told before after digest_of objects later whole pass op now) is o)

  -- an operation that is not built
  module _ (unbuilt : is_built op ≡ false) (same : after ≡ before) (link : later ≡ objects) where
    still_told : told after.keeper ≡ told before.keeper
    still_told = ap (λ (c : RowCore K). told c.keeper) same

    pub not_there : Answers (replies.Errno (record { 0 = 38 }))
    not_there =
        subst (λ o. IsAnswered told before after risen failed digest_of objects o whole call (replies.Errno (record { 0 = 38 }))) (sym link) (record {
          stands = subst (λ (c : RowCore K). StandsFor told c whole) (sym same) s;
          answer = inl (
            like_same op (core_reply whole call) (replies.Errno (record { 0 = 38 })) (sym (ap (λ b. cond b (reply_to whole pass op now) not_built) unbuilt)),
            subst (λ b. IsToldAfter b (writes_blocks op) (copies_files op) (names_drawn whole op) (told before.keeper) (told after.keeper)) (sym (ap (λ b. b && not (is_some (first_failure (checks whole pass op))) && not (keeps_rows whole pass op)) unbuilt)) still_told,
            λ built _.
                let clash : IsTrue false = subst IsTrue unbuilt built in
                cc clash,
            λ built _.
                let clash : IsTrue false = subst IsTrue unbuilt built in
                absurd (cc clash),
          );
          stored = stored_still told before after digest_of objects whole s still_told;
          backed = backed_still told before after digest_of objects whole s still_told (IsExactReply whole (record { call = call; reply = replies.Errno (record { 0 = 38 }) }))
              (λ o m backed is like. same_like op (core_reply whole call) (replies.Errno (record { 0 = 38 })) refl like);
        })

  -- by whether it is built
  pub either : (reply : Reply) → (IsTrue (is_built op) → Answers reply) → (is_built op ≡ false → Answers reply) → Answers reply
  either reply one other = by_case (is_built op) refl
    where
      by_case : (b : Bool) → is_built op ≡ b → Answers reply
      by_case true is = one is
      by_case false is = other is

-- a reply by the tree's rules is no fault
pub no_fault : (reply : Reply) → IsTrue (is_fit reply) → is_keeper_fault reply ≡ false
no_fault (replies.Fault cause) fit = absurd (cc fit)
no_fault _ fit = refl

pub no_link_fault : (reply : Reply) → IsTrue (is_fit reply) → is_link_fault reply ≡ false
no_link_fault (replies.Fault cause) fit = absurd (cc fit)
no_link_fault _ fit = refl

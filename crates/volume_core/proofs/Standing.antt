-- A core that stands for a tree, from call to call.
use Rattle.std.proofs.Common.{◌≡◌, ℕ, zero, suc, List, [], ◌∷◌, length, Bool, true, false, not, Option, None, Some, refl, sym, ap, ◌∙◌, subst, inl, arith, eqb-true}
use Rattle.std.specs.Prelude.{IsTrue, ◌==◌, option_map, Result, Ok, Err, IsErrAnd}
use Rattle.s3_rows.specs.declared.change.Change.{Change}
use Rattle.s3_rows.specs.declared.params.State.{State}
use Rattle.s3_rows.specs.Rows.{Parameters}
use Rattle.s3_rows.specs.Stores.{AreHeld}
use Rattle.s3_rows.specs.Keyed.{rises}
use Rattle.s3_rows.specs.Tables.{Tables, by_spot}
use Rattle.s3_rows.specs.Batches.{tables_after}
use Rattle.s3_rows.specs.Told.{Told, IfTold, with_batch}
use Rattle.s3_rows.specs.Validity.{IsValid, HasUniqueNames}
use Rattle.s3_devices.specs.Keys.{objects_in}
use Rattle.s3_devices.specs.Objects.{Objects}
use Rattle.s3_devices.specs.Told.{Becomes}
use Rattle.plain_tree.specs.Tree.{Tree}
use Rattle.plain_tree.specs.WellFormed.{IsWellFormed}
use Rattle.tree_rows.specs.Contents.{Contents}
use Rattle.tree_rows.specs.Shapes.{Represents}
use Rattle.core_model.specs.Bytes.{no_overlay}
use Rattle.core_model.specs.Occurring.{KnowsAll, blocks_in}
use Rattle.core_model.specs.Safe.{HaveHeld, with_new_object, with_new_objects}
use Rattle.byte_steps.specs.Kept.{KeepsBytes}
use Rattle.byte_steps.specs.Shared.{SharesBlocks}
use Rattle.file_ops.specs.Placed.{ArePrepared}
use Rattle.ref_counts.specs.Handles.{HasHandles}
use Rattle.ref_counts.specs.Plans.{IsStep, LeavesRest, IsSmall, settings}
use Rattle.volume_core.specs.declared.row_core.RowCore.{RowCore}
use Rattle.volume_core.specs.Backed.{AreBackedAfter, GoesOnBacked, IsBacked, StaysStored}
use Rattle.file_ops.specs.FileChanges.{AreFew, KeepsObjectsOf}
use Rattle.volume_core.specs.Causes.{writes_blocks}
use Rattle.volume_core.specs.Standing.{AreFewTold, AreServed, IsMounted, StandsFor, IsCommitted, IsToldAfter, IsToldAlike}
use Rattle.volume_core.specs.Refusals.{IsAlike, IsOutcome, IsStill, Stands}
use Rattle.volume_core.proofs.FewerRows.{few_of_rest}
use Rattle.volume_core.proofs.LawsUsed.{DrawnLaws, HeldLaws, NameLaws, ShareLaws}
use Rattle.op_frames.specs.declared.operation.Op.{Op}
use Rattle.op_frames.specs.declared.reply.Reply.{Reply}
use Rattle.s3_rows.specs.declared.keeper.KeeperFault.{KeeperFault}
use Rattle.s3_rows.specs.declared.keeper.KeeperFault.TheVariants as faults
use Rattle.volume_core.specs.declared.refusal.Refusal.{Refusal}
use Rattle.volume_core.specs.declared.refusal.Refusal.TheVariants.{Keeper, Memory}

-- what is told
pub told_fact : (x : Option Told) (s : Told) (P : Tables → Type 0) → x ≡ Some s → IfTold x P → P s.tables
told_fact x s P is fact = subst (λ y. IfTold y P) is fact

-- and back
pub fact_told : (x : Option Told) (s : Told) (P : Tables → Type 0) → x ≡ Some s → P s.tables → IfTold x P
fact_told x s P is fact = subst (λ y. IfTold y P) (sym is) fact

-- a device that tells the same
pub becomes_itself : (R : Objects → Objects → Type 0) → ((o : Objects) → R o o) → (x : Option Objects) → Becomes R x x
becomes_itself R is None = refl
becomes_itself R is (Some o) = is o

pub becomes_weaker : (R S : Objects → Objects → Type 0) → ((o now : Objects) → R o now → S o now) → (x y : Option Objects) → Becomes R x y → Becomes S x y
becomes_weaker R S follows None y is = is
becomes_weaker R S follows (Some o) None is = absurd is
becomes_weaker R S follows (Some o) (Some now) is = follows o now is

-- what a device that tells its content becomes
pub becomes_told : (R : Told → Told → Type 0) (before after : Option Told) (s : Told) → Becomes R before after → before ≡ Some s → (t : Told) × (after ≡ Some t) × R s t
becomes_told R before after s is tells = by_after after (subst (λ b. Becomes R b after) tells is)
  where
    by_after : (y : Option Told) → Becomes R (Some s) y → (t : Told) × (y ≡ Some t) × R s t
    by_after None now = absurd now
    by_after (Some t) now = (t, refl, now)

module _ {K : Type 0} (told : K → Option Told) (before after : RowCore K) (digest_of : List ℕ → List ℕ) (objects : Option Objects) (whole : Tree) (s : StandsFor told before whole) where
  -- the same tables and the same store
  module _ (same : told after.keeper ≡ told before.keeper) where
    tells : told after.keeper ≡ Some s.now
    tells = same ∙ s.tells

    pub stored_still : StaysStored digest_of (told before.keeper) (told after.keeper) objects objects
    stored_still =
        fact_told (told before.keeper) s.now (λ t. Becomes (λ o now. AreHeld digest_of (objects_in o) t.blocks → IfTold (told after.keeper) (λ u. AreHeld digest_of (objects_in now) u.blocks)) objects objects) s.tells
        (becomes_itself (λ o now. AreHeld digest_of (objects_in o) s.now.tables.blocks → IfTold (told after.keeper) (λ u. AreHeld digest_of (objects_in now) u.blocks))
        (λ o held. fact_told (told after.keeper) s.now (λ u. AreHeld digest_of (objects_in o) u.blocks) tells held) objects)

    pub backed_still : (fact : Type 0) → ((o : Objects) (m : Contents) → IsBacked m s.now.tables o whole → objects ≡ Some o → fact) → GoesOnBacked digest_of fact (told before.keeper) (told after.keeper) objects objects whole whole
    backed_still fact holds =
        fact_told (told before.keeper) s.now (λ t. Becomes (Relation t) objects objects) s.tells (by_objects objects holds)
      where
        Relation : Tables → Objects → Objects → Type 0
        Relation t o now = (m : Contents) → IsBacked m t o whole → KnowsAll digest_of m (blocks_in whole) → fact × IfTold (told after.keeper) (λ u. AreBackedAfter digest_of m t u now whole whole)

        by_objects : (x : Option Objects) → ((o : Objects) (m : Contents) → IsBacked m s.now.tables o whole → x ≡ Some o → fact) → Becomes (Relation s.now.tables) x x
        by_objects None gives = refl
        by_objects (Some o) gives =
            λ m backed knows. (
              gives o m backed refl,
              fact_told (told after.keeper) s.now (λ u. AreBackedAfter digest_of m s.now.tables u o whole whole) tells (record { backed = backed; exact = λ e. e }),
            )

    module _ (handles : after.handles ≡ before.handles) where
      pub still : StandsFor told after whole
      still = record {
        now = s.now;
        tells = tells;
        served = s.served;
        mounted = s.mounted;
        represents = s.represents;
        well = s.well;
        handles = (s.handles.0 ∙ ap (λ h. h.next) (sym handles), s.handles.1 ∙ ap (λ h. h.handles) (sym handles));
      }

      pub stands_still : Stands told before after digest_of objects objects whole (Unit {0}) whole
      stands_still = record { stands = still; stored = stored_still; backed = backed_still (Unit {0}) (λ o m backed is. tt) }

      pub is_still : IsStill told before after digest_of objects objects whole
      is_still = record { stays = stands_still; same = same }

few_itself : (x : Option Told) → AreFewTold x x
few_itself None = tt
few_itself (Some s) = record { blocks = omega arith; objects = omega arith; places = omega arith }

itself_prepared : (s : Told) → ArePrepared s s
itself_prepared s = ((0, refl), inl refl)

prepared_itself : (x : Option Told) → Becomes ArePrepared x x
prepared_itself None = refl
prepared_itself (Some s) = itself_prepared s

told_alike : (b : Bool) (x y : Option Told) → y ≡ x → IsToldAlike b x y
told_alike false x y same = same
told_alike true x y same = subst (λ z. Becomes ArePrepared x z × AreFewTold x z) (sym same) (prepared_itself x, few_itself x)

-- nothing more is told, and so no objects were drawn
pub still_alike : {K : Type 0} (told : K → Option Told) (before after : RowCore K) (digest_of : List ℕ → List ℕ) (objects later : Option Objects) (whole : Tree) (op : Op)
    → IsStill told before after digest_of objects later whole → IsAlike told before after digest_of objects later whole op
still_alike told before after digest_of objects later whole op still =
    record { stays = still.stays; alike = told_alike (writes_blocks op) (told before.keeper) (told after.keeper) still.same }

-- ---- objects that were drawn

slots-drawn : (t : Tables) (p : Option Parameters) → (with_new_object p t).slots ≡ t.slots
slots-drawn t None = refl
slots-drawn t (Some p) = refl

pub slots-with_new_objects : (count : ℕ) (t : Tables) → (with_new_objects count t).slots ≡ t.slots
slots-with_new_objects zero t = refl
slots-with_new_objects (suc count) t = slots-with_new_objects count (with_new_object t.params t) ∙ slots-drawn t t.params

state-drawn : (t : Tables) (p : Option Parameters) → t.params ≡ p → option_map (λ (q : Parameters). q.state) (with_new_object p t).params ≡ option_map (λ (q : Parameters). q.state) t.params
state-drawn t None is = refl
state-drawn t (Some p) is = sym (ap (option_map (λ (q : Parameters). q.state)) is)

pub state-with_new_objects : (count : ℕ) (t : Tables) → option_map (λ (q : Parameters). q.state) (with_new_objects count t).params ≡ option_map (λ (q : Parameters). q.state) t.params
state-with_new_objects zero t = refl
state-with_new_objects (suc count) t = state-with_new_objects count (with_new_object t.params t) ∙ state-drawn t t.params refl

module _ {K : Type 0} (told : K → Option Told) (before after : RowCore K) (whole : Tree) (s : StandsFor told before whole) (laws : DrawnLaws) (prepared : Becomes ArePrepared (told before.keeper) (told after.keeper)) where
  pub later : (t : Told) × (told after.keeper ≡ Some t) × ArePrepared s.now t
  later = becomes_told ArePrepared (told before.keeper) (told after.keeper) s.now prepared s.tells

  abbrev pub count : ℕ
  count = later.2.0.0

  pub is_drawn : later.0.tables ≡ with_new_objects count s.now.tables
  is_drawn = later.2.0.1

  pub drawn_stands : after.handles ≡ before.handles → StandsFor told after whole
  drawn_stands handles = record {
    now = later.0;
    tells = later.1;
    served = subst AreServed (sym is_drawn) (record {
      valid = laws.valid s.now.tables count s.served.valid;
      unique = laws.unique s.now.tables count s.served.unique;
      slots = slots-with_new_objects count s.now.tables ∙ s.served.slots;
    });
    mounted = subst IsMounted (sym is_drawn) (state-with_new_objects count s.now.tables ∙ s.mounted);
    represents = subst (λ t. Represents t whole) (sym is_drawn) (laws.tree s.now.tables count whole s.represents);
    well = s.well;
    handles = (s.handles.0 ∙ ap (λ h. h.next) (sym handles), s.handles.1 ∙ ap (λ h. h.handles) (sym handles));
  }

  -- what is stored, and the bytes of files, where the objects of all blocks are as before
  module _ (held_laws : HeldLaws) (digest_of : List ℕ → List ℕ) (objects after_objects : Option Objects) (others : Becomes (KeepsObjectsOf s.now.tables) objects after_objects) where
    drawn_blocks : later.0.tables.blocks ≡ s.now.tables.blocks
    drawn_blocks = ap (λ (x : Tables). x.blocks) is_drawn ∙ laws.blocks s.now.tables count

    pub drawn_stored : StaysStored digest_of (told before.keeper) (told after.keeper) objects after_objects
    drawn_stored =
        fact_told (told before.keeper) s.now (λ t. Becomes (λ o now. AreHeld digest_of (objects_in o) t.blocks → IfTold (told after.keeper) (λ u. AreHeld digest_of (objects_in now) u.blocks)) objects after_objects) s.tells
        (becomes_weaker (KeepsObjectsOf s.now.tables) (λ o now. AreHeld digest_of (objects_in o) s.now.tables.blocks → IfTold (told after.keeper) (λ u. AreHeld digest_of (objects_in now) u.blocks))
        (λ o now same held.
        fact_told (told after.keeper) later.0 (λ u. AreHeld digest_of (objects_in now) u.blocks) later.1
        (subst (AreHeld digest_of (objects_in now)) (sym drawn_blocks) (held_laws.stored digest_of (objects_in o) (objects_in now) s.now.tables.blocks same held))) objects after_objects others)

    pub drawn_backed : GoesOnBacked digest_of (Unit {0}) (told before.keeper) (told after.keeper) objects after_objects whole whole
    drawn_backed =
        fact_told (told before.keeper) s.now (λ t. Becomes (Relation t) objects after_objects) s.tells (becomes_weaker (KeepsObjectsOf s.now.tables) (Relation s.now.tables) each objects after_objects others)
      where
        Relation : Tables → Objects → Objects → Type 0
        Relation t o now = (m : Contents) → IsBacked m t o whole → KnowsAll digest_of m (blocks_in whole) → Unit {0} × IfTold (told after.keeper) (λ u. AreBackedAfter digest_of m t u now whole whole)

        each : (o now : Objects) → KeepsObjectsOf s.now.tables o now → Relation s.now.tables o now
        each o now same m backed knows = (
          tt,
          fact_told (told after.keeper) later.0 (λ u. AreBackedAfter digest_of m s.now.tables u now whole whole) later.1 (subst (λ u. AreBackedAfter digest_of m s.now.tables u now whole whole) (sym is_drawn) (record {
            backed = record {
              has = laws.bytes m s.now.tables count no_overlay whole backed.has;
              held = subst (HaveHeld m (objects_in now)) (sym (laws.blocks s.now.tables count)) (held_laws.held m (objects_in o) (objects_in now) s.now.tables.blocks same backed.held);
            };
            exact = laws.exact digest_of s.now.tables count no_overlay whole;
          })),
        )

    pub is_alike : after.handles ≡ before.handles → AreFewTold (told before.keeper) (told after.keeper) → (op : Op) → writes_blocks op ≡ true → IsAlike told before after digest_of objects after_objects whole op
    is_alike handles few op writes = record {
      stays = record { stands = drawn_stands handles; stored = drawn_stored; backed = drawn_backed };
      alike = subst (λ b. IsToldAlike b (told before.keeper) (told after.keeper)) (sym writes) (prepared, few);
    }

-- ---- after a batch of rows

state_kept : (a b : Option Parameters) (state : State) → option_map settings b ≡ option_map settings a → option_map (λ (p : Parameters). p.state) a ≡ Some state → option_map (λ (p : Parameters). p.state) b ≡ Some state
state_kept None None state same is = is
state_kept None (Some q) state same is = absurd (cc same)
state_kept (Some p) None state same is = absurd (cc same)
state_kept (Some p) (Some q) state same is =
    let equal : settings q ≡ settings p = cc same in
    ap (λ (x : Parameters). Some x.state) equal ∙ is

-- What a call that stores no block makes of valid tables: they stay so, with their settings and slots, and represent the next tree, whose
-- files share the blocks of files that were there.
pub record IsSharing (t after : Tables) (whole next : Tree) : Type 0 where
  pub valid : IsValid after
  pub represents : Represents after next
  pub unique : HasUniqueNames after
  pub params : option_map settings after.params ≡ option_map settings t.params
  pub slots : after.slots ≡ t.slots
  pub shares : SharesBlocks t after whole next

-- an operation that writes no bytes and copies no files is such a call
pub IsSharing-step : (laws : NameLaws) (t after : Tables) (whole next : Tree) (drawn : ℕ) → AreServed t → Represents t whole → next.block_size ≡ whole.block_size
    → KeepsBytes whole next → IsStep t after next drawn → IsSharing t after whole next
IsSharing-step laws t after whole next drawn s before size keeps step = record {
  valid = step.valid;
  represents = step.represents;
  unique = step.unique s.unique;
  params = step.rest.params;
  slots = step.rest.slots;
  shares = laws.shares t after whole next s.valid before step.represents step.rest size keeps;
}

-- what is told after a batch that was committed
pub committed_told : (batch : List Change) (before after : Option Told) (s : Told) → IsCommitted batch before after → before ≡ Some s → (t : Told) × (after ≡ Some t) × (t.tables ≡ tables_after batch s.tables)
committed_told [] before after s is tells = (s, is ∙ tells, refl)
committed_told (c ∷ cs) before after s is tells = (with_batch (c ∷ cs) s, is ∙ ap (option_map (with_batch (c ∷ cs))) tells, refl)

module _ {K : Type 0} (told : K → Option Told) (before after : RowCore K) (whole next : Tree) (batch : List Change) (s : StandsFor told before whole)
    (step : IsSharing s.now.tables (tables_after batch s.now.tables) whole next) (committed : IsCommitted batch (told before.keeper) (told after.keeper)) where
  told_then : (t : Told) × (told after.keeper ≡ Some t) × (t.tables ≡ tables_after batch s.now.tables)
  told_then = committed_told batch (told before.keeper) (told after.keeper) s.now committed s.tells

  is_step : IsSharing s.now.tables told_then.0.tables whole next
  is_step = subst (λ (t : Tables). IsSharing s.now.tables t whole next) (sym told_then.2) step

  -- a batch was committed that makes the tables represent another well-formed tree, whose handles the core has
  pub stepped : IsWellFormed next → HasHandles after.handles next → StandsFor told after next
  stepped well handles = record {
    now = told_then.0;
    tells = told_then.1;
    served = record { valid = is_step.valid; unique = is_step.unique; slots = is_step.slots ∙ s.served.slots };
    mounted = state_kept s.now.tables.params told_then.0.tables.params _ is_step.params s.mounted;
    represents = is_step.represents;
    well = well;
    handles = handles;
  }

  -- what is stored, and the bytes of files
  module _ (laws : ShareLaws) (digest_of : List ℕ → List ℕ) (objects : Option Objects) where
    pub stored_after : StaysStored digest_of (told before.keeper) (told after.keeper) objects objects
    stored_after =
        fact_told (told before.keeper) s.now (λ t. Becomes (λ o now. AreHeld digest_of (objects_in o) t.blocks → IfTold (told after.keeper) (λ u. AreHeld digest_of (objects_in now) u.blocks)) objects objects) s.tells
        (becomes_itself (λ o now. AreHeld digest_of (objects_in o) s.now.tables.blocks → IfTold (told after.keeper) (λ u. AreHeld digest_of (objects_in now) u.blocks))
        (λ o held.
        fact_told (told after.keeper) told_then.0 (λ u. AreHeld digest_of (objects_in o) u.blocks) told_then.1
        (laws.stored digest_of (objects_in o) s.now.tables told_then.0.tables whole next s.served.valid.ordered is_step.valid.ordered is_step.shares held)) objects)

    pub backed_after : (fact : Type 0) → fact → GoesOnBacked digest_of fact (told before.keeper) (told after.keeper) objects objects whole next
    backed_after fact holds =
        fact_told (told before.keeper) s.now (λ t. Becomes (Relation t) objects objects) s.tells (becomes_itself (Relation s.now.tables) each objects)
      where
        Relation : Tables → Objects → Objects → Type 0
        Relation t o now = (m : Contents) → IsBacked m t o whole → KnowsAll digest_of m (blocks_in next) → fact × IfTold (told after.keeper) (λ u. AreBackedAfter digest_of m t u now whole next)

        each : (o : Objects) → Relation s.now.tables o o
        each o m backed knows = (
          holds,
          fact_told (told after.keeper) told_then.0 (λ u. AreBackedAfter digest_of m s.now.tables u o whole next) told_then.1 (record {
            backed = record {
              has = laws.bytes m s.now.tables told_then.0.tables whole next s.served.valid.ordered is_step.valid.ordered is_step.shares backed.has;
              held = laws.held m (objects_in o) s.now.tables told_then.0.tables whole next s.served.valid.ordered is_step.valid.ordered is_step.shares backed.held;
            };
            exact = laws.exact digest_of s.now.tables told_then.0.tables whole next is_step.shares;
          }),
        )

few_committed : (batch : List Change) (before after : Option Told) (s : Told) (next : Tree) (drawn : ℕ) → after ≡ option_map (with_batch batch) before → before ≡ Some s → IsTrue (rises by_spot s.tables.inode_blocks)
    → IsStep s.tables (tables_after batch s.tables) next drawn → AreFewTold before after
few_committed batch before after s next drawn committed tells ordered step =
    fact_told before s (λ t. IfTold after (λ u. AreFew 34 t u)) tells
    (fact_told after (with_batch batch s) (λ u. AreFew 34 s.tables u) (committed ∙ ap (option_map (with_batch batch)) tells)
    (few_of_rest s.tables (tables_after batch s.tables) step.valid ordered step.rest))

-- a batch is told where it has a change
pub told_after : (batch : List Change) (keeps : Bool) (drawn : ℕ) (before after : Option Told) (s : Told) (next : Tree) → IsTrue (rises by_spot s.tables.inode_blocks) → (length batch == 0) ≡ keeps → IsCommitted batch before after → before ≡ Some s
    → IsStep s.tables (tables_after batch s.tables) next drawn → IsToldAfter (not keeps) false false drawn before after
told_after [] true drawn before after s next ordered empty committed tells step = committed
told_after [] false drawn before after s next ordered empty committed tells step =
    let clash : true ≡ false = empty in
    absurd (cc clash)
told_after (c ∷ cs) true drawn before after s next ordered empty committed tells step = absurd (omega (arith, eqb-true (length (c ∷ cs)) 0 empty))
told_after (c ∷ cs) false drawn before after s next ordered empty committed tells step =
    (c ∷ cs, committed, fact_told before s (λ t. LeavesRest t (tables_after (c ∷ cs) t) × IsSmall drawn t (tables_after (c ∷ cs) t)) tells (step.rest, step.small), few_committed (c ∷ cs) before after s next drawn committed tells ordered step)

-- ---- answers

pub error_is : {A E : Type 0} (result : Result A E) (e : E) → IsErrAnd result (λ x. x ≡ e) → result ≡ Err e
error_is (Ok x) e is = absurd is
error_is (Err x) e is = ap Err is

module _ {K : Type 0} (told : K → Option Told) (before after : RowCore K) (digest_of : List ℕ → List ℕ) (objects later : Option Objects) (whole : Tree) (pass : ℕ) (op : Op) (now : ℕ) where
  -- an outcome that is a refusal
  pub as_refused : (result : Result Reply Refusal) (refusal : Refusal) → IsErrAnd result (λ x. x ≡ refusal) → IsOutcome told before after digest_of objects later whole pass op now (Err refusal)
      → IsOutcome told before after digest_of objects later whole pass op now result
  as_refused result refusal is outcome = subst (λ r. IsOutcome told before after digest_of objects later whole pass op now r) (sym (error_is result refusal is)) outcome

  -- a keeper's fault leaves all as it was
  pub faulty : (fault : KeeperFault) → IsAlike told before after digest_of objects later whole op
      → IsOutcome told before after digest_of objects later whole pass op now (Err (elim fault [ faults.Failed ↦ Keeper | faults.Memory ↦ Memory ]))
  faulty faults.Failed alike = alike
  faulty faults.Memory alike = alike

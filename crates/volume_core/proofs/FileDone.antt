-- A Write and a Truncate that are done.
use Rattle.std.proofs.Common.{◌≡◌, ◌<◌, ◌^◌, ℕ, List, [], ◌∷◌, length, true, false, Option, Some, sym, subst, arith}
use Rattle.std.specs.Prelude.{◌==◌, option_map}
use Rattle.s3_base.specs.declared.node_kind.Kind.TheVariants as kinds
use Rattle.op_frames.specs.declared.reply.Reply.TheVariants as replies
use Rattle.plain_tree.specs.Tree.{Tree}
use Rattle.plain_tree.specs.Files.{file_at}
use Rattle.plain_tree.specs.Operations.{attr_reply}
use Rattle.plain_tree.specs.WellFormed.{IsWellFormed}
use Rattle.s3_rows.specs.declared.change.Change.{Change}
use Rattle.s3_rows.specs.Rows.{Inode}
use Rattle.s3_rows.specs.Stores.{AreHeld}
use Rattle.s3_rows.specs.Tables.{Tables}
use Rattle.s3_rows.specs.Batches.{tables_after}
use Rattle.s3_rows.specs.Selections.{inode_at}
use Rattle.s3_rows.specs.Told.{Told, IfTold, with_batch}
use Rattle.s3_rows.specs.Validity.{is_regular}
use Rattle.s3_devices.specs.Keys.{objects_in}
use Rattle.s3_devices.specs.Objects.{Objects}
use Rattle.s3_devices.specs.Told as stores
use Rattle.s3_devices.specs.Told.{Becomes}
use Rattle.tree_rows.specs.Attrs.{attr_of_row}
use Rattle.tree_rows.specs.Contents.{Contents, HaveBytes}
use Rattle.core_model.specs.Bytes.{HasBytes, no_overlay}
use Rattle.core_model.specs.Exact.{IsExact}
use Rattle.byte_steps.specs.Changed.{EndsAt, IsFileChanged, KnowsChanged}
use Rattle.file_ops.specs.FileBytes.{IfBothTold}
use Rattle.file_ops.specs.FileChanges.{GetsBytes, HoldsBytes, IsFileAt, IsFileStep, with_length}
use Rattle.file_ops.specs.Placed.{ArePrepared}
use Rattle.volume_core.specs.declared.row_core.RowCore.{RowCore}
use Rattle.volume_core.specs.Refusals.{Stands}
use Rattle.volume_core.specs.Standing.{AreFewTold, StandsFor, IsToldAfter}
use Rattle.volume_core.proofs.Changed.{backed, between, file_is, is_told, next, reply_is, size-row, stands, stored}
use Rattle.volume_core.proofs.LawsUsed.{ChangeLaws, DrawnLaws}
use Rattle.volume_core.proofs.Looking.{kind_is}
use Rattle.volume_core.proofs.Standing.{told_fact}

pub positive_length : (bytes : List ℕ) → (length bytes == 0) ≡ false → 0 < length bytes
positive_length [] some = absurd (cc some)
positive_length (b ∷ bytes) some = omega arith

-- what was told of both devices
both_fact : (tables : Option Told) (objects : Option Objects) (P : Tables → Objects → Type 0) (s : Told) (o : Objects) → tables ≡ Some s → objects ≡ Some o → IfBothTold tables objects P → P s.tables o
both_fact tables objects P s o tells is fact =
    subst (λ x. stores.IfTold x (λ y. P s.tables y)) is (told_fact tables s (λ t. stores.IfTold objects (λ y. P t y)) tells fact)

module _ {K : Type 0} (told : K → Option Told) (before after : RowCore K) (digest_of : List ℕ → List ℕ) (objects later : Option Objects) (whole : Tree) (s : StandsFor told before whole)
    (drawn_laws : DrawnLaws) (laws : ChangeLaws) (r : Inode) (size now block_size : ℕ) (g : List ℕ → List ℕ) (changed : Tables → ℕ → List ℕ) (there : inode_at s.now.tables r.id ≡ Some r) (regular : is_regular r.kind ≡ true)
    (long : (bytes : List ℕ) → length bytes ≡ r.size → length (g bytes) ≡ size) (middle : Option Told) (batch : List Change) (prepared : Becomes ArePrepared (told before.keeper) middle)
    (same_size : block_size ≡ whole.block_size)
    (stepped : IfTold middle (λ t. IsFileAt t r block_size → IsFileStep t (tables_after batch t) (with_length size now r)))
    (held : IfTold middle (λ t. IsFileAt t r block_size → Becomes (λ o now. AreHeld digest_of (objects_in o) t.blocks → AreHeld digest_of (objects_in now) (tables_after batch t).blocks) objects later))
    (gets : IfBothTold (told before.keeper) objects (λ t o. IfTold middle (λ x. GetsBytes digest_of t o x (tables_after batch x) r block_size g (changed t block_size))))
    (bytes_held : IfBothTold (told before.keeper) objects (λ t o. IfTold middle (λ x. HoldsBytes digest_of t o x (tables_after batch x) later r block_size g (changed t block_size))))
    (tells : Becomes (λ o now. Unit {0}) objects later)
    (committed : told after.keeper ≡ option_map (with_batch batch) middle) (handles : after.handles ≡ before.handles) where
  abbrev t : Tables
  t = s.now.tables

  pub kind : r.kind ≡ kinds.Regular
  kind = kind_is r.kind regular

  abbrev pub next_tree : Tree
  next_tree = next told before after whole s drawn_laws laws r size now g there kind long middle batch prepared

  abbrev pub between_told : (x : Told) × (middle ≡ Some x) × ArePrepared s.now x
  between_told = between told before after whole s drawn_laws laws r size now g there kind long middle batch prepared

  abbrev pub drawn_tables : Tables
  drawn_tables = between_told.0.tables

  at : IsFileAt drawn_tables r whole.block_size
  at = file_is told before after whole s drawn_laws laws r size now g there kind long middle batch prepared

  step : IsFileStep drawn_tables (tables_after batch drawn_tables) (with_length size now r)
  step =
      told_fact middle between_told.0 (λ t. IsFileAt t r block_size → IsFileStep t (tables_after batch t) (with_length size now r)) between_told.1 stepped
      (subst (IsFileAt drawn_tables r) (sym same_size) at)

  own_held : Becomes (λ o now. AreHeld digest_of (objects_in o) drawn_tables.blocks → AreHeld digest_of (objects_in now) (tables_after batch drawn_tables).blocks) objects later
  own_held =
      told_fact middle between_told.0 (λ t. IsFileAt t r block_size → Becomes (λ o now. AreHeld digest_of (objects_in o) t.blocks → AreHeld digest_of (objects_in now) (tables_after batch t).blocks) objects later)
      between_told.1 held (subst (IsFileAt drawn_tables r) (sym same_size) at)

  own_gets : (o : Objects) → objects ≡ Some o → GetsBytes digest_of t o drawn_tables (tables_after batch drawn_tables) r whole.block_size g (changed t whole.block_size)
  own_gets o is =
      subst (λ n. GetsBytes digest_of t o drawn_tables (tables_after batch drawn_tables) r n g (changed t n)) same_size
      (told_fact middle between_told.0 (λ y. GetsBytes digest_of t o y (tables_after batch y) r block_size g (changed t block_size)) between_told.1
      (both_fact (told before.keeper) objects (λ u o. IfTold middle (λ y. GetsBytes digest_of u o y (tables_after batch y) r block_size g (changed u block_size))) s.now o s.tells is gets))

  own_bytes_held : (o : Objects) → objects ≡ Some o → HoldsBytes digest_of t o drawn_tables (tables_after batch drawn_tables) later r whole.block_size g (changed t whole.block_size)
  own_bytes_held o is =
      subst (λ n. HoldsBytes digest_of t o drawn_tables (tables_after batch drawn_tables) later r n g (changed t n)) same_size
      (told_fact middle between_told.0 (λ y. HoldsBytes digest_of t o y (tables_after batch y) later r block_size g (changed t block_size)) between_told.1
      (both_fact (told before.keeper) objects (λ u o. IfTold middle (λ y. HoldsBytes digest_of u o y (tables_after batch y) later r block_size g (changed u block_size))) s.now o s.tells is bytes_held))

  -- no place of it lies past its end
  pub ends_at : (old : List ℕ) → length old ≡ r.size → EndsAt t r.id whole.block_size (length old)
  ends_at old is =
      let first : IsFileAt t r whole.block_size = record {
        valid = s.served.valid;
        slots = s.served.slots;
        there = there;
        regular = kind;
        size = size-row t whole s.served.valid.params s.represents s.served.valid.is_made;
      } in
      subst (EndsAt t r.id whole.block_size) (sym is) (laws.ends t r whole.block_size first)

  module _ (well : IsWellFormed next_tree) (fact : Type 0) (is : fact)
      (turns : (old : List ℕ) (m : Contents) → file_at whole r.id ≡ Some old → length old ≡ r.size → IsFileChanged digest_of t (tables_after batch drawn_tables) whole next_tree r.id (g old) (changed t whole.block_size)
      → HaveBytes m (tables_after batch drawn_tables).blocks → KnowsChanged digest_of m whole.block_size (g old) (changed t whole.block_size) → HasBytes m t no_overlay whole → HasBytes m (tables_after batch drawn_tables) no_overlay next_tree)
      (exactly : (old : List ℕ) → file_at whole r.id ≡ Some old → length old ≡ r.size → IsFileChanged digest_of t (tables_after batch drawn_tables) whole next_tree r.id (g old) (changed t whole.block_size)
      → IsExact digest_of t no_overlay whole → IsExact digest_of (tables_after batch drawn_tables) no_overlay next_tree) where
    pub file_stays : Stands told before after digest_of objects later whole fact next_tree
    file_stays = record {
      stands = stands told before after whole s drawn_laws laws r size now g there kind long middle batch prepared step committed handles well;
      stored = stored told before after whole s drawn_laws laws r size now g there kind long middle batch prepared step committed handles digest_of objects later own_held;
      backed = backed told before after whole s drawn_laws laws r size now g there kind long middle batch prepared step committed handles digest_of objects later (changed t whole.block_size) regular own_gets own_bytes_held
          turns exactly fact is (λ y same. subst (λ z. Becomes (λ o now. Unit {0}) z later) same tells);
    }

  pub file_told : AreFewTold (told before.keeper) (told after.keeper) → IsToldAfter true true false 0 (told before.keeper) (told after.keeper)
  file_told = is_told told before after whole s drawn_laws laws r size now g there kind long middle batch prepared step committed handles

  pub file_reply : r.refcount < 2 ^ 62 → attr_reply next_tree r.id ≡ replies.Attr (attr_of_row (with_length size now r))
  file_reply few = reply_is told before after whole s drawn_laws laws r size now g there kind long middle batch prepared step committed handles few

-- A Write and a Truncate, from what was placed.
use Rattle.std.proofs.Common.{◌≡◌, ◌<◌, ◌≤◌, ◌+◌, ◌^◌, ℕ, max, List, [], ◌∷◌, length, true, false, cond, not, Option, None, Some, refl, sym, ap, ◌∙◌, subst, inr, arith, eqb-true}
use Rattle.std.specs.Prelude.{◌==◌, ◌⊎◌, nat_lt, option_map, unwrap_or, if◌then◌else◌}
use Rattle.op_frames.specs.declared.operation.Op.{Op}
use Rattle.op_frames.specs.declared.operation.Op.TheVariants as ops
use Rattle.op_frames.specs.declared.reply.Attr.{Attr}
use Rattle.op_frames.specs.declared.reply.Reply.TheVariants as replies
use Rattle.plain_tree.specs.Tree.{Tree, change_node, handle_of}
use Rattle.plain_tree.specs.Checks.{first_failure}
use Rattle.plain_tree.specs.Files.{file_at, inode_of, resized, written_at}
use Rattle.plain_tree.specs.Operations.{attr_reply, checks, effect, success}
use Rattle.plain_tree.specs.WellFormed.{IsWellFormed}
use Rattle.s3_rows.specs.declared.change.Change.{Change}
use Rattle.s3_rows.specs.declared.change.Change.TheVariants as changes
use Rattle.s3_rows.specs.Rows.{Inode}
use Rattle.s3_rows.specs.Stores.{AreHeld}
use Rattle.s3_rows.specs.Tables.{Tables}
use Rattle.s3_rows.specs.Batches.{tables_after}
use Rattle.s3_rows.specs.Selections.{inode_at}
use Rattle.s3_rows.specs.Told.{Told, IfTold, with_batch}
use Rattle.s3_rows.specs.Validity.{is_regular}
use Rattle.s3_devices.specs.Keys.{objects_in}
use Rattle.s3_devices.specs.Objects.{Objects}
use Rattle.s3_devices.specs.Told.{Becomes}
use Rattle.tree_laws.proofs.WellFormed.{IsWellFormed-effect}
use Rattle.tree_rows.specs.Attrs.{attr_of_row}
use Rattle.tree_rows.specs.Spots.{form_at}
use Rattle.core_model.specs.Changes.{blocks_of_resize, blocks_of_write, needed_by_write}
use Rattle.byte_steps.specs.Changed.{IsFileChanged, KnowsChanged, stored_length}
use Rattle.file_ops.specs.declared.file_fault.FileFault.{FileFault}
use Rattle.file_ops.specs.FileBytes.{IfBothTold, size_of_form, stored_in}
use Rattle.file_ops.specs.FileChanges.{AreWorn, GetsBytes, HoldsBytes, IsFileAt, IsFileStep, with_length}
use Rattle.file_ops.specs.FileFaults.{IsLossAmong}
use Rattle.file_ops.specs.Placed.{ArePrepared}
use Rattle.volume_core.specs.declared.row_core.RowCore.{RowCore}
use Rattle.volume_core.specs.Causes.{AreWornBlocks, AreWornRows, HasRoom, LacksBlocks, file_used, length_of_file, needed_by}
use Rattle.volume_core.specs.Refusals.{IsDone, Stands}
use Rattle.volume_core.specs.Standing.{AreFewTold, StandsFor, IsToldAfter}
use Rattle.volume_core.proofs.ChangedNodes.{changed_file, length-resized, length-written}
use Rattle.volume_core.proofs.FileDone.{drawn_tables, ends_at, file_reply, file_stays, file_told, next_tree, positive_length}
use Rattle.volume_core.proofs.FileOutcomes.{length_is, none_worn, same_loss}
use Rattle.volume_core.proofs.FileRoom.{no_bytes_room}
use Rattle.volume_core.proofs.LawsUsed.{ChangeLaws, DrawnLaws}
use Rattle.volume_core.proofs.Looking.{IsOpenFile}
use Rattle.volume_core.proofs.Standing.{fact_told, told_fact, backed_still, still, stored_still}

-- the length of a block's stored form, said in two ways
stored_same : (t : Tables) (inode : ℕ) → stored_in t inode ≡ stored_length t inode
stored_same t inode = λ i n. by_form (form_at t inode n) i
  where
    by_form : (found : Option (List ℕ × ℕ)) → size_of_form found ≡ unwrap_or (option_map (λ (form : List ℕ × ℕ). form.1) found) 0
    by_form None = refl
    by_form (Some form) = refl

positive_size : (t : Tables) (size : ℕ) → 4096 ≤ size → 0 < size
positive_size t size least = omega arith

module _ {K : Type 0} (told : K → Option Told) (before after : RowCore K) (digest_of : List ℕ → List ℕ) (objects later : Option Objects) (whole : Tree) (s : StandsFor told before whole)
    (drawn_laws : DrawnLaws) (laws : ChangeLaws) (r : Inode) (now block_size : ℕ) (there : inode_at s.now.tables r.id ≡ Some r) (regular : is_regular r.kind ≡ true)
    (middle : Option Told) (batch : List Change) (prepared : Becomes ArePrepared (told before.keeper) middle)
    (same_size : block_size ≡ whole.block_size) (least : 4096 ≤ block_size) (tells : Becomes (λ o now. Unit {0}) objects later)
    (committed : told after.keeper ≡ option_map (with_batch batch) middle) (handles : after.handles ≡ before.handles) where
  abbrev t : Tables
  t = s.now.tables

  sized : 0 < whole.block_size
  sized = positive_size t whole.block_size (subst (λ n. 4096 ≤ n) same_size least)

  -- ---- Write

  module _ (pass handle offset : ℕ) (bytes : List ℕ) (o : IsOpenFile t whole pass handle r) (some : (length bytes == 0) ≡ false) where
    abbrev write : Op
    write = ops.Write handle offset bytes

    abbrev size : ℕ
    size = max r.size (offset + length bytes)

    written_long : (old : List ℕ) → length old ≡ r.size → length (written_at offset bytes old) ≡ size
    written_long old is = length-written offset bytes old (positive_length bytes some) ∙ ap (λ n. max n (offset + length bytes)) is

    abbrev written : Tables → ℕ → List ℕ
    written u n = blocks_of_write n offset (length bytes) r.size (stored_length u r.id)

    module _ (stepped : IfTold middle (λ t. IsFileAt t r block_size → IsFileStep t (tables_after batch t) (with_length size now r)))
        (held : IfTold middle (λ t. IsFileAt t r block_size → Becomes (λ o now. AreHeld digest_of (objects_in o) t.blocks → AreHeld digest_of (objects_in now) (tables_after batch t).blocks) objects later))
        (gets : IfBothTold (told before.keeper) objects (λ t o. IfTold middle (λ x. GetsBytes digest_of t o x (tables_after batch x) r block_size (written_at offset bytes) (written t block_size))))
        (bytes_held : IfBothTold (told before.keeper) objects (λ t o. IfTold middle (λ x. HoldsBytes digest_of t o x (tables_after batch x) later r block_size (written_at offset bytes) (written t block_size))))
        (passes : first_failure (checks whole pass write) ≡ None) (few : AreFewTold (told before.keeper) (told after.keeper))
        (room : HasRoom digest_of (told before.keeper) objects whole pass write now) where
      abbrev after_write : Tree
      after_write = next_tree told before after digest_of objects later whole s drawn_laws laws r size now block_size (written_at offset bytes) written there regular written_long middle batch prepared same_size stepped held gets bytes_held tells committed handles

      abbrev then_written : Tables
      then_written = tables_after batch (drawn_tables told before after digest_of objects later whole s drawn_laws laws r size now block_size (written_at offset bytes) written there regular written_long middle batch prepared same_size stepped held gets bytes_held tells committed handles)

      effect_is : effect whole pass write now ≡ after_write
      effect_is =
          ap (λ c. cond c whole (change_node (inode_of (handle_of whole pass handle)) (changed_file (written_at offset bytes) now r.id whole) whole)) some
          ∙ ap (λ x. change_node x (changed_file (written_at offset bytes) now r.id whole) whole) o.inode

      pub written_done : (n : ℕ) → n ≡ length bytes → IsDone told before after digest_of objects later whole pass write now (replies.Count n)
      written_done n is = record {
        passes = passes;
        like = ap replies.Count is;
        stays = subst (λ x. Stands told before after digest_of objects later whole (replies.Count n ≡ success whole pass write now) x) (sym effect_is)
            (file_stays told before after digest_of objects later whole s drawn_laws laws r size now block_size (written_at offset bytes) written there regular written_long middle batch prepared same_size stepped held gets bytes_held tells committed handles
            (subst IsWellFormed effect_is (IsWellFormed-effect whole pass now write s.well passes)) (replies.Count n ≡ success whole pass write now) (ap replies.Count is)
            (λ old m file long changed fits knows has.
            laws.bytes_written digest_of m t then_written whole after_write r.id offset bytes old file sized (positive_length bytes some)
            (ends_at told before after digest_of objects later whole s drawn_laws laws r size now block_size (written_at offset bytes) written there regular written_long middle batch prepared same_size stepped held gets bytes_held tells committed handles old long)
            (subst (λ k. IsFileChanged digest_of t then_written whole after_write r.id (written_at offset bytes old) (blocks_of_write whole.block_size offset (length bytes) k (stored_length t r.id))) (sym long) changed) fits
            (subst (λ k. KnowsChanged digest_of m whole.block_size (written_at offset bytes old) (blocks_of_write whole.block_size offset (length bytes) k (stored_length t r.id))) (sym long) knows) has)
            (λ old file long changed exact.
            laws.exact_written digest_of t then_written whole after_write r.id offset bytes old file sized (positive_length bytes some)
            (ends_at told before after digest_of objects later whole s drawn_laws laws r size now block_size (written_at offset bytes) written there regular written_long middle batch prepared same_size stepped held gets bytes_held tells committed handles old long)
            (subst (λ k. IsFileChanged digest_of t then_written whole after_write r.id (written_at offset bytes old) (blocks_of_write whole.block_size offset (length bytes) k (stored_length t r.id))) (sym long) changed) exact));
        tells = subst (λ b. IsToldAfter (not b) true false 0 (told before.keeper) (told after.keeper)) (sym some)
            (file_told told before after digest_of objects later whole s drawn_laws laws r size now block_size (written_at offset bytes) written there regular written_long middle batch prepared same_size stepped held gets bytes_held tells committed handles few);
        unworn = none_worn (told before.keeper) s.now s.tells;
        room = room;
      }

  -- ---- Truncate

  module _ (pass inode len : ℕ) (number : inode ≡ r.id) where
    abbrev truncate : Op
    truncate = ops.Truncate inode len

    resized_long : (old : List ℕ) → length old ≡ r.size → length (resized len old) ≡ len
    resized_long old is = length-resized len old

    abbrev cut : Tables → ℕ → List ℕ
    cut u n = blocks_of_resize n len r.size (stored_length u r.id)

    module _ (stepped : IfTold middle (λ t. IsFileAt t r block_size → IsFileStep t (tables_after batch t) (with_length len now r)))
        (held : IfTold middle (λ t. IsFileAt t r block_size → Becomes (λ o now. AreHeld digest_of (objects_in o) t.blocks → AreHeld digest_of (objects_in now) (tables_after batch t).blocks) objects later))
        (gets : IfBothTold (told before.keeper) objects (λ t o. IfTold middle (λ x. GetsBytes digest_of t o x (tables_after batch x) r block_size (resized len) (cut t block_size))))
        (bytes_held : IfBothTold (told before.keeper) objects (λ t o. IfTold middle (λ x. HoldsBytes digest_of t o x (tables_after batch x) later r block_size (resized len) (cut t block_size))))
        (passes : first_failure (checks whole pass truncate) ≡ None) (few : AreFewTold (told before.keeper) (told after.keeper))
        (room : HasRoom digest_of (told before.keeper) objects whole pass truncate now) where
      abbrev after_truncate : Tree
      after_truncate = next_tree told before after digest_of objects later whole s drawn_laws laws r len now block_size (resized len) cut there regular resized_long middle batch prepared same_size stepped held gets bytes_held tells committed handles

      abbrev then_cut : Tables
      then_cut = tables_after batch (drawn_tables told before after digest_of objects later whole s drawn_laws laws r len now block_size (resized len) cut there regular resized_long middle batch prepared same_size stepped held gets bytes_held tells committed handles)

      truncate_effect : effect whole pass truncate now ≡ after_truncate
      truncate_effect = ap (λ x. effect whole pass (ops.Truncate x len) now) number

      reply : r.refcount < 2 ^ 62 → success whole pass truncate now ≡ replies.Attr (attr_of_row (with_length len now r))
      reply few =
          ap (λ x. attr_reply (effect whole pass (ops.Truncate x len) now) x) number
          ∙ file_reply told before after digest_of objects later whole s drawn_laws laws r len now block_size (resized len) cut there regular resized_long middle batch prepared same_size stepped held gets bytes_held tells committed handles few

      pub truncated_done : (attr : Attr) → r.refcount < 2 ^ 62 → attr ≡ attr_of_row (with_length len now r) → IsDone told before after digest_of objects later whole pass truncate now (replies.Attr attr)
      truncated_done attr low is =
          let same : replies.Attr attr ≡ success whole pass truncate now = ap replies.Attr is ∙ sym (reply low) in record {
            passes = passes;
            like = same;
            stays = subst (λ x. Stands told before after digest_of objects later whole (replies.Attr attr ≡ success whole pass truncate now) x) (sym truncate_effect)
                (file_stays told before after digest_of objects later whole s drawn_laws laws r len now block_size (resized len) cut there regular resized_long middle batch prepared same_size stepped held gets bytes_held tells committed handles
                (subst IsWellFormed truncate_effect (IsWellFormed-effect whole pass now truncate s.well passes)) (replies.Attr attr ≡ success whole pass truncate now) same
                (λ old m file long changed fits knows has.
                laws.bytes_resized digest_of m t then_cut whole after_truncate r.id len old file sized
                (ends_at told before after digest_of objects later whole s drawn_laws laws r len now block_size (resized len) cut there regular resized_long middle batch prepared same_size stepped held gets bytes_held tells committed handles old long)
                (subst (λ k. IsFileChanged digest_of t then_cut whole after_truncate r.id (resized len old) (blocks_of_resize whole.block_size len k (stored_length t r.id))) (sym long) changed) fits
                (subst (λ k. KnowsChanged digest_of m whole.block_size (resized len old) (blocks_of_resize whole.block_size len k (stored_length t r.id))) (sym long) knows) has)
                (λ old file long changed exact.
                laws.exact_resized digest_of t then_cut whole after_truncate r.id len old file sized
                (ends_at told before after digest_of objects later whole s drawn_laws laws r len now block_size (resized len) cut there regular resized_long middle batch prepared same_size stepped held gets bytes_held tells committed handles old long)
                (subst (λ k. IsFileChanged digest_of t then_cut whole after_truncate r.id (resized len old) (blocks_of_resize whole.block_size len k (stored_length t r.id))) (sym long) changed) exact));
            tells = file_told told before after digest_of objects later whole s drawn_laws laws r len now block_size (resized len) cut there regular resized_long middle batch prepared same_size stepped held gets bytes_held tells committed handles few;
            unworn = none_worn (told before.keeper) s.now s.tells;
            room = room;
          }

-- ---- a Write of no bytes

pub nothing_written : {K : Type 0} (told : K → Option Told) (before after : RowCore K) (digest_of : List ℕ → List ℕ) (objects : Option Objects) (whole : Tree) (s : StandsFor told before whole) (pass handle offset : ℕ) (bytes : List ℕ) (now : ℕ)
    → (length bytes == 0) ≡ true → first_failure (checks whole pass (ops.Write handle offset bytes)) ≡ None → told after.keeper ≡ told before.keeper → after.handles ≡ before.handles
    → IsDone told before after digest_of objects objects whole pass (ops.Write handle offset bytes) now (replies.Count 0)
nothing_written told before after digest_of objects whole s pass handle offset bytes now empty passes same handles =
    let none : replies.Count 0 ≡ success whole pass (ops.Write handle offset bytes) now = ap replies.Count (sym (eqb-true (length bytes) 0 empty)) in
    let still_tree : effect whole pass (ops.Write handle offset bytes) now ≡ whole = ap (λ c. cond c whole (change_node (inode_of (handle_of whole pass handle)) (changed_file (written_at offset bytes) now 0 whole) whole)) empty in record {
      passes = passes;
      like = none;
      stays = subst (λ x. Stands told before after digest_of objects objects whole (replies.Count 0 ≡ success whole pass (ops.Write handle offset bytes) now) x) (sym still_tree) (record {
        stands = still told before after digest_of objects whole s same handles;
        stored = stored_still told before after digest_of objects whole s same;
        backed = backed_still told before after digest_of objects whole s same (replies.Count 0 ≡ success whole pass (ops.Write handle offset bytes) now) (λ x m b is. none);
      });
      tells = subst (λ b. IsToldAfter (not b) true false 0 (told before.keeper) (told after.keeper)) (sym empty) same;
      unworn = none_worn (told before.keeper) s.now s.tells;
      room = no_bytes_room digest_of (told before.keeper) objects whole pass handle offset bytes now empty;
    }

-- ---- causes

module _ {K : Type 0} (told : K → Option Told) (before : RowCore K) (digest_of : List ℕ → List ℕ) (objects : Option Objects) (whole : Tree) (s : StandsFor told before whole) (r : Inode) (block_size pass now : ℕ)
    (size : block_size ≡ whole.block_size) where
  -- of a Write
  module _ (handle offset : ℕ) (bytes : List ℕ) (o : IsOpenFile s.now.tables whole pass handle r) where
    written_length : length_of_file whole (file_used whole pass (ops.Write handle offset bytes)) ≡ r.size
    written_length = ap (length_of_file whole) o.inode ∙ length_is whole r.id r.size o.bytes o.file o.size

    pub write_loss : (fault : FileFault)
        → IsLossAmong digest_of (told before.keeper) objects r.id (λ t. needed_by_write block_size offset (length bytes) (blocks_of_write block_size offset (length bytes) r.size (stored_in t r.id))) fault
        → IsLossAmong digest_of (told before.keeper) objects (file_used whole pass (ops.Write handle offset bytes)) (λ t. needed_by t whole pass (ops.Write handle offset bytes)) fault
    write_loss fault loss =
        same_loss digest_of (told before.keeper) objects r.id (file_used whole pass (ops.Write handle offset bytes))
        (λ t. needed_by_write block_size offset (length bytes) (blocks_of_write block_size offset (length bytes) r.size (stored_in t r.id))) (λ t. needed_by t whole pass (ops.Write handle offset bytes)) fault (sym o.inode)
        (λ i t. needed_by_write (size i) offset (length bytes) (blocks_of_write (size i) offset (length bytes) (sym written_length i) (stored_in t (sym o.inode i)))) loss

    pub write_worn : IfTold (told before.keeper) (λ t. AreWorn digest_of t objects r block_size (written_at offset bytes) (blocks_of_write block_size offset (length bytes) r.size (stored_in t r.id))
        (changes.PutInode (with_length (max r.size (offset + length bytes)) now r) ∷ []))
        → LacksBlocks digest_of (told before.keeper) objects whole pass (ops.Write handle offset bytes) now
    write_worn worn =
        fact_told (told before.keeper) s.now
        (λ t. AreWornRows t whole (ops.Write handle offset bytes) now ⊎ ((x : Inode) × (inode_at t (file_used whole pass (ops.Write handle offset bytes)) ≡ Some x) × AreWornBlocks digest_of t objects whole x now (ops.Write handle offset bytes))) s.tells
        (inr (
          r,
          ap (inode_at s.now.tables) o.inode ∙ o.row,
          subst (λ n. AreWorn digest_of s.now.tables objects r n (written_at offset bytes) (blocks_of_write n offset (length bytes) r.size (stored_in s.now.tables r.id)) (changes.PutInode (with_length (max r.size (offset + length bytes)) now r) ∷ [])) size
              (told_fact (told before.keeper) s.now (λ t. AreWorn digest_of t objects r block_size (written_at offset bytes) (blocks_of_write block_size offset (length bytes) r.size (stored_in t r.id))
              (changes.PutInode (with_length (max r.size (offset + length bytes)) now r) ∷ [])) s.tells worn),
        ))

  -- of a Truncate
  module _ (inode len : ℕ) (number : inode ≡ r.id) (there : inode_at s.now.tables r.id ≡ Some r) (old : List ℕ) (file : file_at whole r.id ≡ Some old) (long : length old ≡ r.size) where
    truncate_length : length_of_file whole inode ≡ r.size
    truncate_length = ap (length_of_file whole) number ∙ length_is whole r.id r.size old file long

    pub truncate_loss : (fault : FileFault) → IsLossAmong digest_of (told before.keeper) objects r.id (λ t. blocks_of_resize block_size len r.size (stored_in t r.id)) fault
        → IsLossAmong digest_of (told before.keeper) objects (file_used whole pass (ops.Truncate inode len)) (λ t. needed_by t whole pass (ops.Truncate inode len)) fault
    truncate_loss fault loss =
        same_loss digest_of (told before.keeper) objects r.id (file_used whole pass (ops.Truncate inode len)) (λ t. blocks_of_resize block_size len r.size (stored_in t r.id)) (λ t. needed_by t whole pass (ops.Truncate inode len)) fault (sym number)
        (λ i t. blocks_of_resize (size i) len (sym truncate_length i) (stored_in t (sym number i))) loss

    pub truncate_worn : IfTold (told before.keeper) (λ t. AreWorn digest_of t objects r block_size (resized len) (blocks_of_resize block_size len r.size (stored_in t r.id))
        (if nat_lt len r.size then [] else changes.PutInode (with_length len now r) ∷ []))
        → LacksBlocks digest_of (told before.keeper) objects whole pass (ops.Truncate inode len) now
    truncate_worn worn =
        fact_told (told before.keeper) s.now
        (λ t. AreWornRows t whole (ops.Truncate inode len) now ⊎ ((x : Inode) × (inode_at t (file_used whole pass (ops.Truncate inode len)) ≡ Some x) × AreWornBlocks digest_of t objects whole x now (ops.Truncate inode len))) s.tells
        (inr (
          r,
          ap (inode_at s.now.tables) number ∙ there,
          subst (λ n. AreWorn digest_of s.now.tables objects r n (resized len) (blocks_of_resize n len r.size (stored_in s.now.tables r.id)) (if nat_lt len r.size then [] else changes.PutInode (with_length len now r) ∷ [])) size
              (told_fact (told before.keeper) s.now (λ t. AreWorn digest_of t objects r block_size (resized len) (blocks_of_resize block_size len r.size (stored_in t r.id))
              (if nat_lt len r.size then [] else changes.PutInode (with_length len now r) ∷ [])) s.tells worn),
        ))

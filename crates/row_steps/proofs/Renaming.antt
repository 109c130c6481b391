-- A Rename: its passed checks give what moves, and its effect is the entry moved.
use Rattle.std.proofs.Common.{◌≡◌, ℕ, ◌-◌, List, [], ◌∷◌, ◌++◌, Bool, true, false, cond, None, Some, refl, sym, ap, ◌∙◌, subst, arith}
use Rattle.std.specs.Prelude.{IsTrue, not, ◌||◌, ◌==◌, nat_lt}
use Rattle.std.specs.List.{list_all}
use Rattle.op_frames.specs.declared.operation.Op.TheVariants as ops
use Rattle.plain_tree.specs.Tree.{Tree}
use Rattle.plain_tree.specs.Checks.{first_failure}
use Rattle.plain_tree.specs.Entries.{entry_at, is_open, lives}
use Rattle.plain_tree.specs.Operations.{checks, effect}
use Rattle.plain_tree.specs.Subtrees.{dropped, is_same, moved_entry}
use Rattle.plain_tree.specs.WellFormed.{IsWellFormed}
use Rattle.s3_rows.specs.declared.change.Change.{Change}
use Rattle.s3_rows.specs.declared.change.Change.TheVariants as changes
use Rattle.s3_rows.specs.Rows.{Inode, Name, Content, InodeBlock, Slot, Parameters}
use Rattle.s3_rows.specs.Tables.{Tables}
use Rattle.s3_rows.specs.Batches.{tables_after}
use Rattle.s3_rows.specs.Selections.{inode_at, name_of_bytes}
use Rattle.s3_rows.specs.Selections as selections
use Rattle.s3_rows.specs.Validity.{IsValid}
use Rattle.tree_laws.proofs.Walk.Passed.{CanRename, can_move, can_rename}
use Rattle.tree_laws.proofs.WellFormed.{IsWellFormed-effect}
use Rattle.tree_rows.specs.Shapes.{Represents}
use Rattle.ref_counts.specs.Names.{Raised, raised}
use Rattle.ref_counts.specs.Plans.{IsStep}
use Rattle.ref_counts.specs.Links.{places_from}
use Rattle.ref_counts.specs.Removals.{removal}
use Rattle.ref_counts.proofs.Rest.{LeavesRest-LeavesBlocks}
use Rattle.block_steps.proofs.DroppedPlaces.{IsValid-places_dropped, params-places_dropped}
use Rattle.block_steps.proofs.KeptNames.{Represents-KeepsNames}
use Rattle.row_steps.specs.RowChanges.{counted_row, dropping, moving, name_of_replaced, other_name, replacing, same_name}
use Rattle.row_steps.proofs.Leaving.{IsLeaving, entry_is}
use Rattle.row_steps.proofs.MovedNames.{IsStep-other_name, IsStep-same_name}
use Rattle.row_steps.proofs.Moving.{IsMoving, final}
use Rattle.row_steps.proofs.Place.{kind_there}
use Rattle.row_steps.proofs.Replacing.{IsStep-replacing_gone, IsStep-replacing_kept, lives_is, stamped_tree}
use Rattle.row_steps.proofs.WithPlaces.{IsStep-gone, after_removal-cleared, cleared, entry_at-cleared, inode_at-cleared, inode_at-removal, name_of_bytes-cleared, names-cleared, no_places}

pub itself_step : (t : Tables) (whole : Tree) (pass parent new_parent now : ℕ) (name new_name : List ℕ) → IsValid t → Represents t whole
    → is_same (entry_at whole new_parent new_name) (entry_at whole parent name) ≡ true
    → IsStep t (tables_after [] t) (effect whole pass (ops.Rename parent name new_parent new_name) now) 0
itself_step t whole pass parent new_parent now name new_name v same one =
    subst (λ (next : Tree). IsStep t t next 0)
    (sym (ap (λ b. cond b whole (moved_entry parent name new_parent new_name now (entry_at whole parent name) whole)) one))
    (record {
      valid = v;
      represents = same;
      unique = λ unique. unique;
      rest = LeavesRest-LeavesBlocks t t (record {
        params = refl;
        next_inode = omega arith;
        next_name = omega arith;
        inode_blocks = refl;
        blocks = refl;
        objects = refl;
        slots = refl;
      });
      small = record { names = omega arith; uses = omega arith };
    })

module _ (t : Tables) (whole : Tree) (p : Parameters) (d d2 r : Inode) (c : Content) (n : Name) (pass parent new_parent now : ℕ) (name new_name : List ℕ)
    (v : IsValid t) (well : IsWellFormed whole) (same : Represents t whole) (made : t.params ≡ Some p) (found : inode_at t parent ≡ Some d)
    (new_found : inode_at t new_parent ≡ Some d2) (bytes : name_of_bytes t name ≡ Some n) (entry : selections.entry_at t parent n.id ≡ Some c)
    (row : inode_at t c.inode ≡ Some r) (passes : first_failure (checks whole pass (ops.Rename parent name new_parent new_name)) ≡ None) where
  is_leaving : IsLeaving t whole p d r c n parent name
  is_leaving =
      let can : CanRename whole parent name new_parent new_name = can_rename whole pass parent name new_parent new_name passes in
      record {
        valid = v;
        same = same;
        params = made;
        found = found;
        kind = kind_there t whole v same parent d found can.there can.folder;
        bytes = bytes;
        entry = entry;
        child = row;
      }

  tree_entry : entry_at whole parent name ≡ Some c.inode
  tree_entry = entry_is t whole p d r c n now parent name is_leaving

  module _ (differs : is_same (entry_at whole new_parent new_name) (entry_at whole parent name) ≡ false) where
    pub is_moving : IsMoving t whole p d d2 r c n parent name new_parent new_name
    is_moving = record { leaving = is_leaving; well = well; found = new_found; can = can_move whole pass parent name new_parent new_name passes differs }

    pub effect_is : effect whole pass (ops.Rename parent name new_parent new_name) now
        ≡ dropped now (entry_at whole new_parent new_name) (final t whole p d d2 r c n now parent name new_parent new_name is_moving)
    effect_is =
        ap (λ b. cond b whole (moved_entry parent name new_parent new_name now (entry_at whole parent name) whole)) differs
        ∙ ap (λ e. moved_entry parent name new_parent new_name now e whole) tree_entry

  module _ (absent : entry_at whole new_parent new_name ≡ None) where
    apart : is_same (entry_at whole new_parent new_name) (entry_at whole parent name) ≡ false
    apart = ap (λ e. is_same e (entry_at whole parent name)) absent

    to_new_is : effect whole pass (ops.Rename parent name new_parent new_name) now ≡ final t whole p d d2 r c n now parent name new_parent new_name (is_moving apart)
    to_new_is = effect_is apart ∙ ap (λ e. dropped now e (final t whole p d d2 r c n now parent name new_parent new_name (is_moving apart))) absent

    well_after : IsWellFormed (final t whole p d d2 r c n now parent name new_parent new_name (is_moving apart))
    well_after = subst IsWellFormed to_new_is (IsWellFormed-effect whole pass now (ops.Rename parent name new_parent new_name) well passes)

    pub same_name_moved : new_name ≡ name → IsStep t (tables_after (moving d d2 c (same_name c) r now) t) (effect whole pass (ops.Rename parent name new_parent new_name) now) 0
    same_name_moved alike =
        subst (λ (next : Tree). IsStep t (tables_after (moving d d2 c (same_name c) r now) t) next 0) (sym to_new_is)
        (IsStep-same_name t whole p d d2 r c n now parent name new_parent new_name (is_moving apart) alike absent well_after)

    pub other_name_moved : (more : Raised) → raised (tables_after (dropping d c n now) t) new_name ≡ Some more
        → IsStep t (tables_after (moving d d2 c (other_name n more) r now) t) (effect whole pass (ops.Rename parent name new_parent new_name) now) 1
    other_name_moved more used =
        subst (λ (next : Tree). IsStep t (tables_after (moving d d2 c (other_name n more) r now) t) next 1) (sym to_new_is)
        (IsStep-other_name t whole p d d2 r c n now parent name new_parent new_name (is_moving apart) more used absent well_after)

  -- over an entry of another inode
  module _ (r2 : Inode) (c2 : Content) (n2 : Name) (new_bytes : name_of_bytes t new_name ≡ Some n2) (new_entry : selections.entry_at t new_parent n2.id ≡ Some c2)
      (new_row : inode_at t c2.inode ≡ Some r2) (other : (c2.inode == c.inode) ≡ false) where
    replaced : IsLeaving t whole p d2 r2 c2 n2 new_parent new_name
    replaced =
        let can : CanRename whole parent name new_parent new_name = can_rename whole pass parent name new_parent new_name passes in
        record {
          valid = v;
          same = same;
          params = made;
          found = new_found;
          kind = kind_there t whole v same new_parent d2 new_found can.new_there can.new_folder;
          bytes = new_bytes;
          entry = new_entry;
          child = new_row;
        }

    there : entry_at whole new_parent new_name ≡ Some c2.inode
    there = entry_is t whole p d2 r2 c2 n2 now new_parent new_name replaced

    differ : is_same (entry_at whole new_parent new_name) (entry_at whole parent name) ≡ false
    differ = (λ i. is_same (there i) (tree_entry i)) ∙ other

    over_is : effect whole pass (ops.Rename parent name new_parent new_name) now
        ≡ dropped now (Some c2.inode) (final t whole p d d2 r c n now parent name new_parent new_name (is_moving differ))
    over_is = effect_is differ ∙ ap (λ e. dropped now e (final t whole p d d2 r c n now parent name new_parent new_name (is_moving differ))) there

    lives_after : (held : Bool) → is_open whole c2.inode ≡ held
        → lives (stamped_tree t whole p d d2 r r2 c c2 n n2 now parent name new_parent new_name (is_moving differ) replaced) c2.inode ≡ (nat_lt 1 r2.refcount || held)
    lives_after held held_is = lives_is t whole p d d2 r r2 c c2 n n2 now parent name new_parent new_name (is_moving differ) replaced held held_is

    well_over : IsWellFormed (dropped now (Some c2.inode) (final t whole p d d2 r c n now parent name new_parent new_name (is_moving differ)))
    well_over = subst IsWellFormed over_is (IsWellFormed-effect whole pass now (ops.Rename parent name new_parent new_name) well passes)

    pub replaced_kept : (held : Bool) → is_open whole c2.inode ≡ held → (nat_lt 1 r2.refcount || held) ≡ true
        → IsStep t (tables_after (moving d d2 c (name_of_replaced n c2) r now ++ changes.PutInode (counted_row (r2.refcount - 1) now r2) ∷ []) t)
        (effect whole pass (ops.Rename parent name new_parent new_name) now) 0
    replaced_kept held held_is kept =
        subst (λ (next : Tree). IsStep t (tables_after (moving d d2 c (name_of_replaced n c2) r now ++ changes.PutInode (counted_row (r2.refcount - 1) now r2) ∷ []) t) next 0) (sym over_is)
        (IsStep-replacing_kept t whole p d d2 r r2 c c2 n n2 now parent name new_parent new_name (is_moving differ) replaced (lives_after held held_is ∙ kept) well_over)

    pub replaced_gone : (held : Bool) → IsTrue (list_all (λ (x : InodeBlock). not (x.inode == r2.id)) t.inode_blocks)
        → IsTrue (list_all (λ (x : Slot). not (x.inode == r2.id)) t.slots) → is_open whole c2.inode ≡ held → (nat_lt 1 r2.refcount || held) ≡ false
        → IsStep t (tables_after (moving d d2 c (name_of_replaced n c2) r now ++ removal t r2.id (tables_after (moving d d2 c (name_of_replaced n c2) r now) t)) t)
        (effect whole pass (ops.Rename parent name new_parent new_name) now) 0
    replaced_gone held blocks slots held_is goes =
        subst (λ (next : Tree). IsStep t (tables_after (moving d d2 c (name_of_replaced n c2) r now ++ removal t r2.id (tables_after (moving d d2 c (name_of_replaced n c2) r now) t)) t) next 0)
        (sym over_is)
        (IsStep-replacing_gone t whole p d d2 r r2 c c2 n n2 now parent name new_parent new_name (is_moving differ) replaced blocks slots (lives_after held held_is ∙ goes) well_over)

pub same_name_step : (t : Tables) (whole : Tree) (p : Parameters) (d d2 r : Inode) (c : Content) (n : Name) (pass parent new_parent now : ℕ) (name : List ℕ)
    → IsValid t → IsWellFormed whole → Represents t whole → t.params ≡ Some p → inode_at t parent ≡ Some d → inode_at t new_parent ≡ Some d2
    → name_of_bytes t name ≡ Some n → selections.entry_at t parent n.id ≡ Some c → inode_at t c.inode ≡ Some r
    → first_failure (checks whole pass (ops.Rename parent name new_parent name)) ≡ None → entry_at whole new_parent name ≡ None
    → IsStep t (tables_after (moving d d2 c (same_name c) r now) t) (effect whole pass (ops.Rename parent name new_parent name) now) 0
same_name_step t whole p d d2 r c n pass parent new_parent now name v well same made found new_found bytes entry row passes absent =
    same_name_moved t whole p d d2 r c n pass parent new_parent now name name v well same made found new_found bytes entry row passes absent refl

pub other_name_step : (t : Tables) (whole : Tree) (p : Parameters) (d d2 r : Inode) (c : Content) (n : Name) (more : Raised) (pass parent new_parent now : ℕ)
    (name new_name : List ℕ)
    → IsValid t → IsWellFormed whole → Represents t whole → t.params ≡ Some p → inode_at t parent ≡ Some d → inode_at t new_parent ≡ Some d2
    → name_of_bytes t name ≡ Some n → selections.entry_at t parent n.id ≡ Some c → inode_at t c.inode ≡ Some r
    → first_failure (checks whole pass (ops.Rename parent name new_parent new_name)) ≡ None → entry_at whole new_parent new_name ≡ None
    → raised (tables_after (dropping d c n now) t) new_name ≡ Some more
    → IsStep t (tables_after (moving d d2 c (other_name n more) r now) t) (effect whole pass (ops.Rename parent name new_parent new_name) now) 1
other_name_step t whole p d d2 r c n more pass parent new_parent now name new_name v well same made found new_found bytes entry row passes absent used =
    other_name_moved t whole p d d2 r c n pass parent new_parent now name new_name v well same made found new_found bytes entry row passes absent more used

pub replaced_step : (t : Tables) (whole : Tree) (p : Parameters) (d d2 r r2 : Inode) (c c2 : Content) (n n2 : Name) (pass parent new_parent now : ℕ)
    (name new_name : List ℕ) (held : Bool)
    → IsValid t → IsWellFormed whole → Represents t whole → t.params ≡ Some p → inode_at t parent ≡ Some d → inode_at t new_parent ≡ Some d2
    → name_of_bytes t name ≡ Some n → selections.entry_at t parent n.id ≡ Some c → inode_at t c.inode ≡ Some r
    → name_of_bytes t new_name ≡ Some n2 → selections.entry_at t new_parent n2.id ≡ Some c2 → inode_at t c2.inode ≡ Some r2
    → IsTrue (list_all (λ (x : Slot). not (x.inode == r2.id)) t.slots)
    → is_open whole c2.inode ≡ held → first_failure (checks whole pass (ops.Rename parent name new_parent new_name)) ≡ None → (c2.inode == c.inode) ≡ false
    → IsStep t (tables_after (replacing (nat_lt 1 r2.refcount || held) t d d2 r r2 c c2 n now) t) (effect whole pass (ops.Rename parent name new_parent new_name) now) 0
replaced_step t whole p d d2 r r2 c c2 n n2 pass parent new_parent now name new_name held v well same made found new_found bytes entry row new_bytes new_entry new_row slots held_is passes other =
    by_case (nat_lt 1 r2.refcount || held) refl
  where
    rows : List InodeBlock
    rows = places_from t r2.id 0

    u : Tables
    u = cleared t rows

    by_case : (kept : Bool) → (nat_lt 1 r2.refcount || held) ≡ kept
        → IsStep t (tables_after (replacing kept t d d2 r r2 c c2 n now) t) (effect whole pass (ops.Rename parent name new_parent new_name) now) 0
    by_case true stays =
        replaced_kept t whole p d d2 r c n pass parent new_parent now name new_name v well same made found new_found bytes entry row passes
        r2 c2 n2 new_bytes new_entry new_row other held held_is stays
    by_case false goes =
        let next : Tree = effect whole pass (ops.Rename parent name new_parent new_name) now in
        let batch : List Change = moving d d2 c (name_of_replaced n c2) r now in
        subst (λ (w : Tables). IsStep t w next 0) (sym (after_removal-cleared t rows batch r2.id))
        (IsStep-gone t v r2.id (tables_after (batch ++ removal u r2.id (tables_after batch u)) u) next 0 (inode_at-removal u r2.id batch u)
        (replaced_gone u whole p d d2 r c n pass parent new_parent now name new_name (IsValid-places_dropped rows t v) well
        (Represents-KeepsNames t u (names-cleared t rows) whole same) (params-places_dropped rows t ∙ made) (inode_at-cleared t rows parent ∙ found)
        (inode_at-cleared t rows new_parent ∙ new_found) (name_of_bytes-cleared t rows name ∙ bytes) (entry_at-cleared t rows parent n.id ∙ entry)
        (inode_at-cleared t rows c.inode ∙ row) passes r2 c2 n2 (name_of_bytes-cleared t rows new_name ∙ new_bytes) (entry_at-cleared t rows new_parent n2.id ∙ new_entry)
        (inode_at-cleared t rows c2.inode ∙ new_row) other held (no_places t v r2.id)
        (subst (λ (xs : List Slot). IsTrue (list_all (λ (x : Slot). not (x.inode == r2.id)) xs)) (sym (names-cleared t rows).slots) slots) held_is goes))

-- A file that got other bytes: the tables, what is stored and the bytes of the tree after it.
use Rattle.std.proofs.Common.{◌≡◌, ◌<◌, ◌^◌, ℕ, zero, suc, List, length, true, Option, None, Some, refl, sym, ap, ◌∙◌, subst}
use Rattle.std.specs.Prelude.{option_map, unwrap_or}
use Rattle.std.specs.Cmp.{nat_cmp_total}
use Rattle.s3_base.specs.declared.node_kind.Kind.TheVariants as kinds
use Rattle.op_frames.specs.declared.reply.Reply.TheVariants as replies
use Rattle.plain_tree.specs.Tree as tree
use Rattle.plain_tree.specs.Tree.{Node, Tree, change_node}
use Rattle.plain_tree.specs.Files.{file_at, with_bytes}
use Rattle.plain_tree.specs.Operations.{attr_reply}
use Rattle.plain_tree.specs.WellFormed.{IsWellFormed}
use Rattle.s3_rows.specs.declared.change.Change.{Change}
use Rattle.s3_rows.specs.declared.change.Change.TheVariants as changes
use Rattle.s3_rows.specs.declared.params.State.TheVariants as states
use Rattle.s3_rows.specs.Rows.{Inode, Parameters}
use Rattle.s3_rows.specs.Stores.{AreHeld}
use Rattle.s3_rows.specs.Tables.{Tables, by_inode}
use Rattle.s3_rows.specs.Batches.{after_change, tables_after}
use Rattle.s3_rows.specs.Selections.{inode_at}
use Rattle.s3_rows.specs.Told.{Told, IfTold, with_batch}
use Rattle.s3_rows.specs.Validity.{IsValid, HasUniqueNames, is_regular}
use Rattle.s3_devices.specs.Keys.{objects_in}
use Rattle.s3_devices.specs.Objects.{Objects}
use Rattle.s3_devices.specs.Told as stores
use Rattle.s3_devices.specs.Told.{Becomes}
use Rattle.row_lemmas.proofs.Keyed.Put.{row_at-put_same}
use Rattle.tree_rows.specs.Attrs.{attr_of_row}
use Rattle.tree_rows.specs.Contents.{Contents, HaveBytes}
use Rattle.tree_rows.specs.Shapes.{ContentShape, Regular, NodeShape, TreeShape, shape_of_content, node_of_row, Represents}
use Rattle.tree_rows.proofs.Attributed.{attr_is}
use Rattle.tree_rows.proofs.Replaced.{replaced_represents}
use Rattle.tree_rows.proofs.Whole.{content_of_kind}
use Rattle.core_model.specs.Bytes.{HasBytes, no_overlay}
use Rattle.core_model.specs.Exact.{IsExact}
use Rattle.core_model.specs.Occurring.{KnowsAll, blocks_in}
use Rattle.core_model.specs.Safe.{HaveHeld, with_new_object, with_new_objects}
use Rattle.block_steps.specs.Owed.{KeepsNames, without_next_block}
use Rattle.byte_steps.specs.Changed.{IsFileChanged, KnowsChanged}
use Rattle.file_ops.specs.FileBytes.{IsFile}
use Rattle.file_ops.specs.FileChanges.{GetsBytes, HoldsBytes, IsFileAt, IsFileStep, IsFileWritten, with_length}
use Rattle.file_ops.specs.Placed.{ArePrepared}
use Rattle.volume_core.specs.declared.row_core.RowCore.{RowCore}
use Rattle.volume_core.specs.Backed.{AreBackedAfter, GoesOnBacked, IsBacked, StaysStored}
use Rattle.volume_core.specs.Standing.{AreFewTold, IsMounted, StandsFor, IsFileTold}
use Rattle.volume_core.proofs.ChangedNodes.{changed_file, handles_kept, next_handle_kept, other_file, own_file, size_kept}
use Rattle.volume_core.proofs.LawsUsed.{ChangeLaws, DrawnLaws}
use Rattle.volume_core.proofs.Occurring.{knows_changed}
use Rattle.volume_core.proofs.Looking.{file_there}
use Rattle.volume_core.proofs.Standing.{becomes_told, becomes_weaker, fact_told, slots-with_new_objects, state-with_new_objects}

-- ---- tables with new objects

inodes-drawn : (t : Tables) (p : Option Parameters) → (with_new_object p t).inodes ≡ t.inodes
inodes-drawn t None = refl
inodes-drawn t (Some p) = refl

inodes-with_new_objects : (count : ℕ) (t : Tables) → (with_new_objects count t).inodes ≡ t.inodes
inodes-with_new_objects zero t = refl
inodes-with_new_objects (suc count) t = inodes-with_new_objects count (with_new_object t.params t) ∙ inodes-drawn t t.params

-- the size of a block is that of the tree
pub size-row : (t : Tables) (whole : Tree) (p : Parameters) → Represents t whole → t.params ≡ Some p → p.block_size ≡ whole.block_size
size-row t whole p same set =
    sym (ap (λ (found : Option Parameters). unwrap_or (option_map (λ x. x.block_size) found) 0) set) ∙ ap (λ (s : TreeShape). s.block_size) same

-- ---- the shape of a file whose bytes are changed

resized_shape : (t : Tables) (r : Inode) (content : tree.Content) (g : List ℕ → List ℕ) (size : ℕ) → shape_of_content content ≡ content_of_kind t r kinds.Regular
    → ((bytes : List ℕ) → length bytes ≡ r.size → length (g bytes) ≡ size) → shape_of_content (with_bytes g content) ≡ content_of_kind t (record r { size = size }) kinds.Regular
resized_shape t r (tree.Regular bytes) g size is long =
    let old : length bytes ≡ r.size = cc is in
    ap Regular (long bytes old)
resized_shape t r (tree.Directory entries) g size is long = absurd (cc is)
resized_shape t r (tree.Link target) g size is long = absurd (cc is)

mounted_kept : (a b : Option Parameters) → option_map without_next_block b ≡ option_map without_next_block a → option_map (λ (p : Parameters). p.state) a ≡ Some states.Mounted
    → option_map (λ (p : Parameters). p.state) b ≡ Some states.Mounted
mounted_kept None None same is = is
mounted_kept None (Some q) same is = absurd (cc same)
mounted_kept (Some p) None same is = absurd (cc same)
mounted_kept (Some p) (Some q) same is =
    let equal : without_next_block q ≡ without_next_block p = cc same in
    ap (λ (x : Parameters). Some x.state) equal ∙ is

module _ {K : Type 0} (told : K → Option Told) (before after : RowCore K) (whole : Tree) (s : StandsFor told before whole) (drawn_laws : DrawnLaws) (laws : ChangeLaws)
    (r : Inode) (size now : ℕ) (g : List ℕ → List ℕ) (there : inode_at s.now.tables r.id ≡ Some r) (regular : r.kind ≡ kinds.Regular)
    (long : (bytes : List ℕ) → length bytes ≡ r.size → length (g bytes) ≡ size) (middle : Option Told) (batch : List Change) (prepared : Becomes ArePrepared (told before.keeper) middle) where
  abbrev t : Tables
  t = s.now.tables

  pub between : (x : Told) × (middle ≡ Some x) × ArePrepared s.now x
  between = becomes_told ArePrepared (told before.keeper) middle s.now prepared s.tells

  abbrev pub count : ℕ
  count = between.2.0.0

  abbrev pub drawn : Tables
  drawn = between.0.tables

  is_drawn : drawn ≡ with_new_objects count t
  is_drawn = between.2.0.1

  drawn_valid : IsValid drawn
  drawn_valid = subst IsValid (sym is_drawn) (drawn_laws.valid t count s.served.valid)

  drawn_there : inode_at drawn r.id ≡ Some r
  drawn_there = ap (λ (x : Tables). inode_at x r.id) is_drawn ∙ ap (λ (rows : List Inode). inode_at (record t { inodes = rows }) r.id) (inodes-with_new_objects count t) ∙ there

  drawn_represents : Represents drawn whole
  drawn_represents = subst (λ (x : Tables). Represents x whole) (sym is_drawn) (drawn_laws.tree t count whole s.represents)

  pub file_is : IsFileAt drawn r whole.block_size
  file_is = record {
    valid = drawn_valid;
    slots = ap (λ (x : Tables). x.slots) is_drawn ∙ slots-with_new_objects count t ∙ s.served.slots;
    there = drawn_there;
    regular = regular;
    size = size-row drawn whole drawn_valid.params drawn_represents drawn_valid.is_made;
  }

  abbrev pub new : Inode
  new = with_length size now r

  abbrev pub next : Tree
  next = change_node r.id (changed_file g now r.id whole) whole

  put_represents : Represents (after_change (changes.PutInode new) drawn) next
  put_represents = replaced_represents drawn whole r new (changed_file g now r.id whole) drawn_valid.ordered.inodes drawn_represents drawn_there (λ node shape.
      let content : shape_of_content node.content ≡ content_of_kind drawn r kinds.Regular = ap (λ (x : NodeShape). x.content) shape ∙ ap (content_of_kind drawn r) regular in
      let changed : shape_of_content (with_bytes g node.content) ≡ content_of_kind drawn new r.kind = resized_shape drawn r node.content g size content long ∙ ap (content_of_kind drawn new) (sym regular) in
      ap (λ (x : NodeShape). record x { mtime = now; ctime = now; content = shape_of_content (with_bytes g node.content) }) shape
      ∙ ap (λ (c : ContentShape). record (node_of_row drawn new) { content = c }) changed)

  module _ (step : IsFileStep drawn (tables_after batch drawn) new) (committed : told after.keeper ≡ option_map (with_batch batch) middle) (handles : after.handles ≡ before.handles) where
    abbrev then : Tables
    then = tables_after batch drawn

    then_told : told after.keeper ≡ Some (with_batch batch between.0)
    then_told = committed ∙ ap (option_map (with_batch batch)) between.1

    then_represents : Represents then next
    then_represents = laws.tree (after_change (changes.PutInode new) drawn) then next step.names put_represents

    drawn_mounted : IsMounted drawn
    drawn_mounted = subst IsMounted (sym is_drawn) (state-with_new_objects count t ∙ s.mounted)

    pub stands : IsWellFormed next → StandsFor told after next
    stands well = record {
      now = with_batch batch between.0;
      tells = then_told;
      served = record {
        valid = step.valid;
        unique = laws.unique (after_change (changes.PutInode new) drawn) then step.names (subst HasUniqueNames (sym is_drawn) (drawn_laws.unique t count s.served.unique));
        slots = step.names.slots ∙ file_is.slots;
      };
      mounted = mounted_kept drawn.params then.params step.names.params drawn_mounted;
      represents = then_represents;
      well = well;
      handles = (
        next_handle_kept (changed_file g now r.id whole) r.id whole ∙ s.handles.0 ∙ ap (λ h. h.next) (sym handles),
        handles_kept (changed_file g now r.id whole) r.id whole ∙ s.handles.1 ∙ ap (λ h. h.handles) (sym handles),
      );
    }

    pub is_told : AreFewTold (told before.keeper) (told after.keeper) → IsFileTold (told before.keeper) (told after.keeper)
    is_told few = (middle, batch, prepared, committed, fact_told middle between.0 (λ x. (own : Inode) × KeepsNames (after_change (changes.PutInode own) x) (tables_after batch x)) between.1 (new, step.names), few)

    pub reply_is : r.refcount < 2 ^ 62 → attr_reply next r.id ≡ replies.Attr (attr_of_row new)
    reply_is few = attr_is then next r.id new step.valid then_represents (ap (λ (rows : List Inode). inode_at (record then { inodes = rows }) r.id) step.names.inodes ∙ row_at-put_same by_inode nat_cmp_total new drawn.inodes) few

    -- ---- what is stored

    module _ (digest_of : List ℕ → List ℕ) (objects later : Option Objects) where
      pub stored : Becomes (λ o now. AreHeld digest_of (objects_in o) drawn.blocks → AreHeld digest_of (objects_in now) then.blocks) objects later
          → StaysStored digest_of (told before.keeper) (told after.keeper) objects later
      stored held =
          fact_told (told before.keeper) s.now (λ x. Becomes (Relation x) objects later) s.tells (becomes_weaker (λ o now. AreHeld digest_of (objects_in o) drawn.blocks → AreHeld digest_of (objects_in now) then.blocks)
          (Relation t) (λ o now is own.
          fact_told (told after.keeper) (with_batch batch between.0) (λ u. AreHeld digest_of (objects_in now) u.blocks) then_told
          (is (subst (AreHeld digest_of (objects_in o)) (sym drawn_blocks) own))) objects later held)
        where
          Relation : Tables → Objects → Objects → Type 0
          Relation x o now = AreHeld digest_of (objects_in o) x.blocks → IfTold (told after.keeper) (λ u. AreHeld digest_of (objects_in now) u.blocks)

          drawn_blocks : drawn.blocks ≡ t.blocks
          drawn_blocks = ap (λ (x : Tables). x.blocks) is_drawn ∙ drawn_laws.blocks t count

      -- ---- the bytes

      module _ (changed : List ℕ) (regular_row : is_regular r.kind ≡ true)
          (gets : (o : Objects) → objects ≡ Some o → GetsBytes digest_of t o drawn then r whole.block_size g changed)
          (holds : (o : Objects) → objects ≡ Some o → HoldsBytes digest_of t o drawn then later r whole.block_size g changed)
          (turns : (old : List ℕ) (m : Contents) → file_at whole r.id ≡ Some old → length old ≡ r.size → IsFileChanged digest_of t then whole next r.id (g old) changed → HaveBytes m then.blocks
          → KnowsChanged digest_of m whole.block_size (g old) changed → HasBytes m t no_overlay whole → HasBytes m then no_overlay next)
          (exactly : (old : List ℕ) → file_at whole r.id ≡ Some old → length old ≡ r.size → IsFileChanged digest_of t then whole next r.id (g old) changed → IsExact digest_of t no_overlay whole → IsExact digest_of then no_overlay next) where
        file : (old : List ℕ) × (file_at whole r.id ≡ Some old) × (length old ≡ r.size)
        file = file_there t whole s.represents r.id r there regular_row

        abbrev old : List ℕ
        old = file.0

        module _ (m : Contents) (o : Objects) (is : objects ≡ Some o) (b : IsBacked m t o whole) (knows : KnowsAll digest_of m (blocks_in next)) where
          knows_them : KnowsChanged digest_of m whole.block_size (g old) changed
          knows_them =
              subst (λ n. KnowsChanged digest_of m n (g old) changed) (size_kept g now r.id whole)
              (knows_changed digest_of next r.id (g old) changed (own_file g now r.id whole old file.1) m knows)

          is_file : IsFile t o r.id r.size whole.block_size old
          is_file = record { contents = m; whole = whole; held = b.held; has = b.has; is = file.1; long = file.2; blocks = refl }

          drawn_blocks : drawn.blocks ≡ t.blocks
          drawn_blocks = ap (λ (x : Tables). x.blocks) is_drawn ∙ drawn_laws.blocks t count

          is_written : IsFileWritten digest_of m t then r.id whole.block_size (g old) changed
          is_written = gets o is file_is old is_file m (subst (HaveBytes m) (sym drawn_blocks) b.has.fits) knows_them

          is_changed : IsFileChanged digest_of t then whole next r.id (g old) changed
          is_changed = record {
            size = size_kept g now r.id whole;
            file = own_file g now r.id whole old file.1;
            others = λ x apart. other_file g now r.id whole x apart;
            put = is_written.put;
            past = is_written.past;
            kept = is_written.kept;
          }

          backed_then : (now : Objects) → later ≡ Some now → AreBackedAfter digest_of m t then now whole next
          backed_then now so = record {
            backed = record {
              has = turns old m file.1 file.2 is_changed is_written.known knows_them b.has;
              held = subst (λ z. stores.IfTold z (λ y. HaveHeld m (objects_in o) drawn.blocks → HaveHeld m (objects_in y) then.blocks)) so (holds o is file_is old is_file m knows_them) (subst (HaveHeld m (objects_in o)) (sym drawn_blocks) b.held);
            };
            exact = exactly old file.1 file.2 is_changed;
          }

        pub backed : (fact : Type 0) → fact → ((x : Option Objects) → objects ≡ x → Becomes (λ o now. Unit {0}) x later) → GoesOnBacked digest_of fact (told before.keeper) (told after.keeper) objects later whole next
        backed fact holds_so tells = fact_told (told before.keeper) s.now (λ x. Becomes (Relation x) objects later) s.tells (by_objects objects later refl refl (tells objects refl))
          where
            Relation : Tables → Objects → Objects → Type 0
            Relation x o now = (m : Contents) → IsBacked m x o whole → KnowsAll digest_of m (blocks_in next) → fact × IfTold (told after.keeper) (λ u. AreBackedAfter digest_of m x u now whole next)

            by_objects : (x y : Option Objects) → objects ≡ x → later ≡ y → Becomes (λ o now. Unit {0}) x y → Becomes (Relation t) x y
            by_objects None y is so same = same
            by_objects (Some o) None is so same = absurd same
            by_objects (Some o) (Some now) is so same = λ m b knows. (holds_so, fact_told (told after.keeper) (with_batch batch between.0) (λ u. AreBackedAfter digest_of m t u now whole next) then_told (backed_then m o is b knows now so))

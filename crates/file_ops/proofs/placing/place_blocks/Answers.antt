use Rattle.std.proofs.Common.{◌≡◌, List, length, sym, subst, ◌∙◌, ⊎_elim}
use Rattle.sha2.specs.Sha256.{sha256}
use Rattle.s3_rows.specs.Batches.{tables_after}
use Rattle.s3_rows.specs.Tables.{Tables}
use Rattle.s3_rows.specs.Told.{IfTold, Told}
use Rattle.s3_rows.specs.Stores.{AreHeld}
use Rattle.s3_devices.specs.Keys.{objects_in}
use Rattle.s3_devices.specs.Told.{Becomes}
use Rattle.core_model.specs.Safe.{HaveHeld}
use Rattle.tree_rows.specs.Contents.{Contents, HaveBytes}
use Rattle.ref_counts.proofs.Told.{IfTold-same, IfTold-weaker2}
use Rattle.file_ops.specs.declared.place.Place.{Place}
use Rattle.file_ops.specs.Placed.{ArePlaceable, ArePlaced, AreReady, ArePut, HaveTheirForms, KnowsBlocks, LacksCounts}
use Rattle.file_ops.specs.FileChanges.{AreFew}
use Rattle.file_ops.proofs.FewPlaces.{both_told, few_placed}
use Rattle.file_ops.proofs.PutObjects.{Becomes-follows}
use Rattle.file_ops.proofs.NamedBlocks.{IfTold-becomes, were_placed}
use Rattle.file_ops.proofs.Room.{IfTold-became, counts_there}
use Rattle.file_ops.proofs.placing.place_blocks.Goals as goal

pub returns-clause-placed : goal.returns-clause-placed
returns-clause-placed g c =
    let inode = c.args.inode in
    let blocks = c.args.blocks.now in
    let batch = c.args.batch.now in
    let now = c.relink_places.new.batch in
    let first = g.K.Keeper.told c.args.keeper.now in
    let drawn = g.K.Keeper.told c.prepare_blocks.new.keeper in
    let linked = g.K.Keeper.told c.relink_places.new.keeper in
    let Q : Told → Told → Type 0 = λ s after. ArePlaceable after.tables batch inode blocks → ArePlaced (tables_after batch after.tables) (tables_after now after.tables) inode blocks in
    IfTold-becomes Q _ (λ a b fact. fact) first linked
    (were_placed sha256 inode blocks c.in_ok-prepared.prepared.params c.as_slice-places.result.now batch c.count_places.new.batch now c.in_ok-count_places.field-0 Q
    (λ s after did same. c.placed_blocks_leave_valid_tables.ensures.valid sha256 inode blocks s after batch now did)
    first drawn linked c.if-not-branch.false (c.in_ok-relink_places.ensures.same ∙ c.in_ok-count_places.ensures.same)
    (subst (λ (l : List Place). Becomes (AreReady sha256 blocks c.in_ok-prepared.prepared.params l) first drawn) (sym c.as_slice-places.ensures) c.in_ok-prepared.ensures.found)
    c.in_ok-count_places.ensures.counted
    (IfTold-same linked (g.K.Keeper.told c.count_places.new.keeper) _ (sym c.in_ok-relink_places.ensures.same) c.in_ok-relink_places.ensures.relinked))

pub returns-clause-forms : goal.returns-clause-forms
returns-clause-forms g c =
    let inode = c.args.inode in
    let blocks = c.args.blocks.now in
    let batch = c.args.batch.now in
    let now = c.relink_places.new.batch in
    let first = g.K.Keeper.told c.args.keeper.now in
    let drawn = g.K.Keeper.told c.prepare_blocks.new.keeper in
    let linked = g.K.Keeper.told c.relink_places.new.keeper in
    let Q : Told → Told → Type 0 = λ s after. ArePlaceable after.tables batch inode blocks → (m : Contents) → HaveBytes m after.tables.blocks → KnowsBlocks sha256 m blocks
    → HaveTheirForms sha256 (tables_after now after.tables) inode blocks × HaveBytes m (tables_after now after.tables).blocks in
    IfTold-becomes Q _ (λ a b fact. fact) first linked
    (were_placed sha256 inode blocks c.in_ok-prepared.prepared.params c.as_slice-places.result.now batch c.count_places.new.batch now c.in_ok-count_places.field-0 Q
    (λ s after did same. c.placed_blocks_leave_valid_tables.ensures.forms sha256 inode blocks s after batch now did)
    first drawn linked c.if-not-branch.false (c.in_ok-relink_places.ensures.same ∙ c.in_ok-count_places.ensures.same)
    (subst (λ (l : List Place). Becomes (AreReady sha256 blocks c.in_ok-prepared.prepared.params l) first drawn) (sym c.as_slice-places.ensures) c.in_ok-prepared.ensures.found)
    c.in_ok-count_places.ensures.counted
    (IfTold-same linked (g.K.Keeper.told c.count_places.new.keeper) _ (sym c.in_ok-relink_places.ensures.same) c.in_ok-relink_places.ensures.relinked))

pub returns-clause-held : goal.returns-clause-held
returns-clause-held g c =
    let inode = c.args.inode in
    let blocks = c.args.blocks.now in
    let batch = c.args.batch.now in
    let now = c.relink_places.new.batch in
    let first = g.K.Keeper.told c.args.keeper.now in
    let drawn = g.K.Keeper.told c.prepare_blocks.new.keeper in
    let linked = g.K.Keeper.told c.relink_places.new.keeper in
    let before = g.L.Link.told c.args.link.now in
    let since = g.L.Link.told c.prepare_blocks.new.link in
    let Q : Told → Told → Type 0 = λ s after. ArePlaceable after.tables batch inode blocks
    → Becomes (λ o o2. AreHeld sha256 (objects_in o) after.tables.blocks → AreHeld sha256 (objects_in o2) (tables_after now after.tables).blocks) before since in
    IfTold-becomes Q _ (λ a b fact. fact) first linked
    (were_placed sha256 inode blocks c.in_ok-prepared.prepared.params c.as_slice-places.result.now batch c.count_places.new.batch now c.in_ok-count_places.field-0 Q
    (λ s after did same able.
    Becomes-follows (ArePut blocks c.in_ok-prepared.prepared.places) _
    (λ o o2 put.
    c.placed_blocks_leave_valid_tables.ensures.held sha256 inode blocks s after batch now did able o o2
    (subst (λ (l : List Place). ArePut blocks l o o2) (sym (same ∙ c.as_slice-places.ensures)) put))
    before since c.in_ok-prepared.ensures.put)
    first drawn linked c.if-not-branch.false (c.in_ok-relink_places.ensures.same ∙ c.in_ok-count_places.ensures.same)
    (subst (λ (l : List Place). Becomes (AreReady sha256 blocks c.in_ok-prepared.prepared.params l) first drawn) (sym c.as_slice-places.ensures) c.in_ok-prepared.ensures.found)
    c.in_ok-count_places.ensures.counted
    (IfTold-same linked (g.K.Keeper.told c.count_places.new.keeper) _ (sym c.in_ok-relink_places.ensures.same) c.in_ok-relink_places.ensures.relinked))

pub returns-clause-bytes_held : goal.returns-clause-bytes_held
returns-clause-bytes_held g c =
    let inode = c.args.inode in
    let blocks = c.args.blocks.now in
    let batch = c.args.batch.now in
    let now = c.relink_places.new.batch in
    let first = g.K.Keeper.told c.args.keeper.now in
    let drawn = g.K.Keeper.told c.prepare_blocks.new.keeper in
    let linked = g.K.Keeper.told c.relink_places.new.keeper in
    let before = g.L.Link.told c.args.link.now in
    let since = g.L.Link.told c.prepare_blocks.new.link in
    let Q : Told → Told → Type 0 = λ s after. ArePlaceable after.tables batch inode blocks
    → (m : Contents) → KnowsBlocks sha256 m blocks
    → Becomes (λ o o2. HaveHeld m (objects_in o) after.tables.blocks → HaveHeld m (objects_in o2) (tables_after now after.tables).blocks) before since in
    IfTold-becomes Q _ (λ a b fact. fact) first linked
    (were_placed sha256 inode blocks c.in_ok-prepared.prepared.params c.as_slice-places.result.now batch c.count_places.new.batch now c.in_ok-count_places.field-0 Q
    (λ s after did same able m knows.
    Becomes-follows (ArePut blocks c.in_ok-prepared.prepared.places) _
    (λ o o2 put.
    c.placed_blocks_leave_valid_tables.ensures.bytes_held sha256 inode blocks s after batch now did able m knows o o2
    (subst (λ (l : List Place). ArePut blocks l o o2) (sym (same ∙ c.as_slice-places.ensures)) put))
    before since c.in_ok-prepared.ensures.put)
    first drawn linked c.if-not-branch.false (c.in_ok-relink_places.ensures.same ∙ c.in_ok-count_places.ensures.same)
    (subst (λ (l : List Place). Becomes (AreReady sha256 blocks c.in_ok-prepared.prepared.params l) first drawn) (sym c.as_slice-places.ensures) c.in_ok-prepared.ensures.found)
    c.in_ok-count_places.ensures.counted
    (IfTold-same linked (g.K.Keeper.told c.count_places.new.keeper) _ (sym c.in_ok-relink_places.ensures.same) c.in_ok-relink_places.ensures.relinked))

pub returns-clause-few : goal.returns-clause-few
returns-clause-few g c =
    let inode = c.args.inode in
    let blocks = c.args.blocks.now in
    let batch = c.args.batch.now in
    let now = c.relink_places.new.batch in
    let first = g.K.Keeper.told c.args.keeper.now in
    let drawn = g.K.Keeper.told c.prepare_blocks.new.keeper in
    let linked = g.K.Keeper.told c.relink_places.new.keeper in
    let P : Tables → Tables → Type 0 = λ t later. (tables_after batch later).params ≡ later.params → (tables_after batch later).inode_blocks ≡ later.inode_blocks
    → AreFew (length blocks) t (tables_after now later) in
    let Q : Told → Told → Type 0 = λ s after. P s.tables after.tables in
    both_told Q P (λ a b fact. fact) first linked
    (were_placed sha256 inode blocks c.in_ok-prepared.prepared.params c.as_slice-places.result.now batch c.count_places.new.batch now c.in_ok-count_places.field-0 Q
    (λ s after did same. few_placed sha256 inode blocks s after batch now did)
    first drawn linked c.if-not-branch.false (c.in_ok-relink_places.ensures.same ∙ c.in_ok-count_places.ensures.same)
    (subst (λ (l : List Place). Becomes (AreReady sha256 blocks c.in_ok-prepared.prepared.params l) first drawn) (sym c.as_slice-places.ensures) c.in_ok-prepared.ensures.found)
    c.in_ok-count_places.ensures.counted
    (IfTold-same linked (g.K.Keeper.told c.count_places.new.keeper) _ (sym c.in_ok-relink_places.ensures.same) c.in_ok-relink_places.ensures.relinked))

pub returns-clause-room : goal.returns-clause-room
returns-clause-room g c =
    let inode = c.args.inode in
    let blocks = c.args.blocks.now in
    let batch = c.args.batch.now in
    let now = c.relink_places.new.batch in
    let first = g.K.Keeper.told c.args.keeper.now in
    let drawn = g.K.Keeper.told c.prepare_blocks.new.keeper in
    let linked = g.K.Keeper.told c.relink_places.new.keeper in
    let Q : Told → Told → Type 0 = λ s after. LacksCounts sha256 s.tables batch blocks → ⊥ in
    let counts : IfTold first (λ t. LacksCounts sha256 t batch blocks → ⊥) =
    IfTold-became Q _ (λ a b fact. fact) first linked
    (were_placed sha256 inode blocks c.in_ok-prepared.prepared.params c.as_slice-places.result.now batch c.count_places.new.batch now c.in_ok-count_places.field-0 Q
    (λ s after did same. counts_there sha256 inode blocks s after batch now did)
    first drawn linked c.if-not-branch.false (c.in_ok-relink_places.ensures.same ∙ c.in_ok-count_places.ensures.same)
    (subst (λ (l : List Place). Becomes (AreReady sha256 blocks c.in_ok-prepared.prepared.params l) first drawn) (sym c.as_slice-places.ensures) c.in_ok-prepared.ensures.found)
    c.in_ok-count_places.ensures.counted
    (IfTold-same linked (g.K.Keeper.told c.count_places.new.keeper) _ (sym c.in_ok-relink_places.ensures.same) c.in_ok-relink_places.ensures.relinked)) in
    IfTold-weaker2 first _ _ _ (λ t numbers left worn. ⊎_elim numbers left worn) c.in_ok-prepared.ensures.room counts

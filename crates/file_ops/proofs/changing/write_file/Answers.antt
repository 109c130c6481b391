use Rattle.std.proofs.Common.{◌≡◌, ◌+◌, ◌*◌, ◌<◌, ◌≤◌, ◌∷◌, [], List, ℕ, length, get_or, max, Option, sym, ap, ◌∙◌, subst, arith}
use Rattle.std.specs.Prelude.{◌==◌, IfErr, IfOk, IsTrue, OnOk}
use Rattle.sha2.specs.Sha256.{sha256}
use Rattle.block_math.specs.Changes.{written_at}
use Rattle.core_model.specs.Changes.{blocks_of_write}
use Rattle.block_math.specs.Ranges.{piece_count}
use Rattle.s3_rows.specs.declared.change.Change.{Change}
use Rattle.s3_rows.specs.declared.change.Change.TheVariants as changes
use Rattle.s3_rows.specs.Batches.{tables_after}
use Rattle.s3_rows.specs.Rows.{Inode}
use Rattle.s3_rows.specs.Stores.{AreHeld}
use Rattle.s3_rows.specs.Told.{IfTold, Told}
use Rattle.s3_rows.specs.Validity.{differ}
use Rattle.s3_devices.specs.Keys.{objects_in}
use Rattle.s3_devices.specs.Objects.{Objects}
use Rattle.s3_devices.specs.Told.{Becomes}
use Rattle.tree_rows.specs.Contents.{Contents}
use Rattle.core_model.specs.Safe.{HaveHeld}
use Rattle.ref_counts.proofs.Told.{IfTold-weaker}
use Rattle.file_ops.specs.declared.file_fault.FileFault.TheVariants.{Worn}
use Rattle.file_ops.specs.declared.new_block.NewBlock.{NewBlock}
use Rattle.file_ops.specs.FileBytes.{IfBothTold, IfFile, stored_in}
use Rattle.file_ops.specs.FileChanges.{AreFew, AreInFile, AreWorn, HaveRoom, IsFileAt, IsFileStep, KeepsObjects, with_length}
use Rattle.file_ops.specs.NewBlocks.{AreBlocksOf, numbers_of}
use Rattle.file_ops.specs.Placed.{ArePrepared, IsWornFor, KnowsBlocks}
use Rattle.file_ops.proofs.ChangedNumbers.{distinct_of_write}
use Rattle.file_ops.proofs.Room.{room_answer}
use Rattle.file_ops.proofs.WrittenFiles.{bytes_answer, changed_answer, grown_answer, length-written, step_answer, worn_answer}
use Rattle.file_ops.proofs.ChangedFew.{written_few}
use Rattle.file_ops.proofs.FewPlaces.{few_answer, few_more, told_few_same}
use Rattle.file_ops.proofs.FileSteps.{IfOk-weaker}
use Rattle.file_ops.proofs.KeptObjects.{keeps_same}
use Rattle.file_ops.proofs.changing.write_file.Goals as goal

pub returns-clause-step : goal.returns-clause-step
returns-clause-step g c =
    let file = c.args.file.now in
    let count : ℕ = length c.args.new.now in
    let blocks = c.in_ok-blocks.blocks.items in
    let before = g.K.Keeper.told c.args.keeper.now in
    let after = g.K.Keeper.told c.place_within.new.keeper in
    let numbers : IfTold before (λ t. numbers_of blocks ≡ blocks_of_write c.args.block_size c.args.off count c.file.inside.size (stored_in t c.file.inside.id)) = c.in_ok-blocks.ensures.numbers in
    let distinct : IfTold before (λ t. IsTrue (differ (λ (a b : NewBlock). b.blockno == a.blockno) blocks)) =
    IfTold-weaker before _ _ (λ t is. distinct_of_write c.args.block_size c.args.off count c.file.inside.size (stored_in t c.file.inside.id) blocks is) numbers in
    let prepared : Becomes ArePrepared before after = subst (λ (o : Option Told). Becomes ArePrepared o after) c.in_ok-blocks.ensures.keeper_same c.place_within.ensures.prepared in
    let own : c.file.inside.size ≡ file.size = ap (λ (r : Inode). r.size) c.file.view_is in
    let most : c.max.result ≡ max file.size (c.args.off + count) = c.max.ensures ∙ ap (λ (n : ℕ). max n (c.args.off + count)) own in
    let grows : file.size ≤ c.max.result = omega (arith, most) in
    let low : (k : ℕ) (d : NewBlock) → k < length blocks → (get_or blocks k d).blockno * c.args.block_size < c.max.result =
    λ k d less. let begin = c.in_ok-blocks.ensures.below k d less in omega (arith, begin, most) in
    subst (λ (n : ℕ). IfOk c.place_within.result (λ batch. IfTold after (λ t. IsFileAt t file c.args.block_size → IsFileStep t (tables_after batch t) (with_length n c.args.now file)))) most
    (step_answer sha256 after file (with_length c.max.result c.args.now file) c.args.block_size blocks c.place_within.result
    (grown_answer before after file c.max.result c.args.block_size c.as_slice.result.now blocks c.as_slice.ensures.value prepared low c.in_ok-blocks.ensures.short distinct
    (λ n bs batch t. AreInFile sha256 t (tables_after batch t) (with_length c.max.result c.args.now file) n bs) grows c.place_within.result c.place_within.ensures.placed))

pub returns-clause-held : goal.returns-clause-held
returns-clause-held g c =
    let file = c.args.file.now in
    let count : ℕ = length c.args.new.now in
    let blocks = c.in_ok-blocks.blocks.items in
    let before = g.K.Keeper.told c.args.keeper.now in
    let after = g.K.Keeper.told c.place_within.new.keeper in
    let since = g.L.Link.told c.place_within.new.link in
    let numbers : IfTold before (λ t. numbers_of blocks ≡ blocks_of_write c.args.block_size c.args.off count c.file.inside.size (stored_in t c.file.inside.id)) = c.in_ok-blocks.ensures.numbers in
    let distinct : IfTold before (λ t. IsTrue (differ (λ (a b : NewBlock). b.blockno == a.blockno) blocks)) =
    IfTold-weaker before _ _ (λ t is. distinct_of_write c.args.block_size c.args.off count c.file.inside.size (stored_in t c.file.inside.id) blocks is) numbers in
    let prepared : Becomes ArePrepared before after = subst (λ (o : Option Told). Becomes ArePrepared o after) c.in_ok-blocks.ensures.keeper_same c.place_within.ensures.prepared in
    let own : c.file.inside.size ≡ file.size = ap (λ (r : Inode). r.size) c.file.view_is in
    let most : c.max.result ≡ max file.size (c.args.off + count) = c.max.ensures ∙ ap (λ (n : ℕ). max n (c.args.off + count)) own in
    let grows : file.size ≤ c.max.result = omega (arith, most) in
    let low : (k : ℕ) (d : NewBlock) → k < length blocks → (get_or blocks k d).blockno * c.args.block_size < c.max.result =
    λ k d less. let begin = c.in_ok-blocks.ensures.below k d less in omega (arith, begin, most) in
    subst
    (λ (o : Option Objects). IfOk c.place_within.result (λ batch. IfTold after (λ t. IsFileAt t file c.args.block_size
    → Becomes (λ x y. AreHeld sha256 (objects_in x) t.blocks → AreHeld sha256 (objects_in y) (tables_after batch t).blocks) o since)))
    c.in_ok-blocks.ensures.link_same
    (grown_answer before after file c.max.result c.args.block_size c.as_slice.result.now blocks c.as_slice.ensures.value prepared low c.in_ok-blocks.ensures.short distinct
    (λ n bs batch t. Becomes (λ x y. AreHeld sha256 (objects_in x) t.blocks → AreHeld sha256 (objects_in y) (tables_after batch t).blocks) (g.L.Link.told c.written_blocks.new.link) since)
    grows c.place_within.result c.place_within.ensures.held)

pub returns-clause-changed : goal.returns-clause-changed
returns-clause-changed g c =
    let file = c.args.file.now in
    let count : ℕ = length c.args.new.now in
    let blocks = c.in_ok-blocks.blocks.items in
    let before = g.K.Keeper.told c.args.keeper.now in
    let objects = g.L.Link.told c.args.link.now in
    let after = g.K.Keeper.told c.place_within.new.keeper in
    let numbers : IfTold before (λ t. numbers_of blocks ≡ blocks_of_write c.args.block_size c.args.off count file.size (stored_in t file.id)) =
    subst (λ (r : Inode). IfTold before (λ t. numbers_of blocks ≡ blocks_of_write c.args.block_size c.args.off count r.size (stored_in t r.id))) c.file.view_is c.in_ok-blocks.ensures.numbers in
    let stored : IfFile before objects file.id file.size c.args.block_size (λ old. AreBlocksOf c.args.block_size (written_at c.args.off c.args.new.now old) blocks) =
    subst (λ (r : Inode). IfFile before objects r.id r.size c.args.block_size (λ old. AreBlocksOf c.args.block_size (written_at c.args.off c.args.new.now old) blocks)) c.file.view_is c.in_ok-blocks.ensures.stored in
    let distinct : IfTold before (λ t. IsTrue (differ (λ (a b : NewBlock). b.blockno == a.blockno) blocks)) =
    IfTold-weaker before _ _ (λ t is. distinct_of_write c.args.block_size c.args.off count file.size (stored_in t file.id) blocks is) numbers in
    let prepared : Becomes ArePrepared before after = subst (λ (o : Option Told). Becomes ArePrepared o after) c.in_ok-blocks.ensures.keeper_same c.place_within.ensures.prepared in
    let own : c.file.inside.size ≡ file.size = ap (λ (r : Inode). r.size) c.file.view_is in
    let most : c.max.result ≡ max file.size (c.args.off + count) = c.max.ensures ∙ ap (λ (n : ℕ). max n (c.args.off + count)) own in
    let grows : file.size ≤ c.max.result = omega (arith, most) in
    let low : (k : ℕ) (d : NewBlock) → k < length blocks → (get_or blocks k d).blockno * c.args.block_size < c.max.result =
    λ k d less. let begin = c.in_ok-blocks.ensures.below k d less in omega (arith, begin, most) in
    changed_answer sha256 before objects file c.args.block_size blocks (written_at c.args.off c.args.new.now) (λ stored. blocks_of_write c.args.block_size c.args.off count file.size stored) numbers stored
    after c.max.result c.args.now c.place_within.result prepared
    (λ old long. length-written c.args.off c.args.new.now old c.requires.some ∙ ap (λ (n : ℕ). max n (c.args.off + count)) long ∙ sym most)
    (grown_answer before after file c.max.result c.args.block_size c.as_slice.result.now blocks c.as_slice.ensures.value prepared low c.in_ok-blocks.ensures.short distinct
    (λ n bs batch t. AreInFile sha256 t (tables_after batch t) (with_length c.max.result c.args.now file) n bs) grows c.place_within.result c.place_within.ensures.placed)

pub returns-clause-bytes_held : goal.returns-clause-bytes_held
returns-clause-bytes_held g c =
    let file = c.args.file.now in
    let count : ℕ = length c.args.new.now in
    let blocks = c.in_ok-blocks.blocks.items in
    let before = g.K.Keeper.told c.args.keeper.now in
    let objects = g.L.Link.told c.args.link.now in
    let after = g.K.Keeper.told c.place_within.new.keeper in
    let numbers : IfTold before (λ t. numbers_of blocks ≡ blocks_of_write c.args.block_size c.args.off count file.size (stored_in t file.id)) =
    subst (λ (r : Inode). IfTold before (λ t. numbers_of blocks ≡ blocks_of_write c.args.block_size c.args.off count r.size (stored_in t r.id))) c.file.view_is c.in_ok-blocks.ensures.numbers in
    let stored : IfFile before objects file.id file.size c.args.block_size (λ old. AreBlocksOf c.args.block_size (written_at c.args.off c.args.new.now old) blocks) =
    subst (λ (r : Inode). IfFile before objects r.id r.size c.args.block_size (λ old. AreBlocksOf c.args.block_size (written_at c.args.off c.args.new.now old) blocks)) c.file.view_is c.in_ok-blocks.ensures.stored in
    let distinct : IfTold before (λ t. IsTrue (differ (λ (a b : NewBlock). b.blockno == a.blockno) blocks)) =
    IfTold-weaker before _ _ (λ t is. distinct_of_write c.args.block_size c.args.off count file.size (stored_in t file.id) blocks is) numbers in
    let prepared : Becomes ArePrepared before after = subst (λ (o : Option Told). Becomes ArePrepared o after) c.in_ok-blocks.ensures.keeper_same c.place_within.ensures.prepared in
    let own : c.file.inside.size ≡ file.size = ap (λ (r : Inode). r.size) c.file.view_is in
    let most : c.max.result ≡ max file.size (c.args.off + count) = c.max.ensures ∙ ap (λ (n : ℕ). max n (c.args.off + count)) own in
    let grows : file.size ≤ c.max.result = omega (arith, most) in
    let low : (k : ℕ) (d : NewBlock) → k < length blocks → (get_or blocks k d).blockno * c.args.block_size < c.max.result =
    λ k d less. let begin = c.in_ok-blocks.ensures.below k d less in omega (arith, begin, most) in
    let since = g.L.Link.told c.place_within.new.link in
    bytes_answer sha256 before objects file c.args.block_size blocks (written_at c.args.off c.args.new.now) (λ stored. blocks_of_write c.args.block_size c.args.off count file.size stored) numbers stored after since c.place_within.result
    (subst
    (λ (o : Option Objects). IfOk c.place_within.result (λ batch. IfTold after (λ t. IsFileAt t file c.args.block_size → (m : Contents) → KnowsBlocks sha256 m blocks → Becomes (λ x y. HaveHeld m (objects_in x) t.blocks → HaveHeld m (objects_in y) (tables_after batch t).blocks) o since)))
    c.in_ok-blocks.ensures.link_same
    (grown_answer before after file c.max.result c.args.block_size c.as_slice.result.now blocks c.as_slice.ensures.value prepared low c.in_ok-blocks.ensures.short distinct
    (λ n bs batch t. (m : Contents) → KnowsBlocks sha256 m bs → Becomes (λ x y. HaveHeld m (objects_in x) t.blocks → HaveHeld m (objects_in y) (tables_after batch t).blocks) (g.L.Link.told c.written_blocks.new.link) since) grows c.place_within.result c.place_within.ensures.bytes_held))

pub returns-clause-worn : goal.returns-clause-worn
returns-clause-worn g c =
    let file = c.args.file.now in
    let count : ℕ = length c.args.new.now in
    let blocks = c.in_ok-blocks.blocks.items in
    let before = g.K.Keeper.told c.args.keeper.now in
    let objects = g.L.Link.told c.args.link.now in
    let numbers : IfTold before (λ t. numbers_of blocks ≡ blocks_of_write c.args.block_size c.args.off count file.size (stored_in t file.id)) =
    subst (λ (r : Inode). IfTold before (λ t. numbers_of blocks ≡ blocks_of_write c.args.block_size c.args.off count r.size (stored_in t r.id))) c.file.view_is c.in_ok-blocks.ensures.numbers in
    let stored : IfFile before objects file.id file.size c.args.block_size (λ old. AreBlocksOf c.args.block_size (written_at c.args.off c.args.new.now old) blocks) =
    subst (λ (r : Inode). IfFile before objects r.id r.size c.args.block_size (λ old. AreBlocksOf c.args.block_size (written_at c.args.off c.args.new.now old) blocks)) c.file.view_is c.in_ok-blocks.ensures.stored in
    let own : c.file.inside.size ≡ file.size = ap (λ (r : Inode). r.size) c.file.view_is in
    let most : c.max.result ≡ max file.size (c.args.off + count) = c.max.ensures ∙ ap (λ (n : ℕ). max n (c.args.off + count)) own in
    subst
    (λ (n : ℕ). IfErr c.place_within.result (λ fault. fault ≡ Worn → IfTold before (λ t. AreWorn sha256 t objects file c.args.block_size (written_at c.args.off c.args.new.now)
    (blocks_of_write c.args.block_size c.args.off count file.size (stored_in t file.id)) (changes.PutInode (with_length n c.args.now file) ∷ []))))
    most
    (worn_answer sha256 before objects file c.args.block_size blocks (written_at c.args.off c.args.new.now) (λ stored. blocks_of_write c.args.block_size c.args.off count file.size stored) numbers stored
    c.as_slice.result.now (changes.PutInode (with_length c.max.result c.args.now file) ∷ []) c.place_within.result c.as_slice.ensures.value
    (subst
    (λ (o : Option Told). IfErr c.place_within.result (λ fault. fault ≡ Worn → IfTold o (λ t. IsWornFor sha256 t (changes.PutInode (with_length c.max.result c.args.now file) ∷ []) c.as_slice.result.now)))
    c.in_ok-blocks.ensures.keeper_same c.place_within.ensures.worn))

pub returns-clause-kept : goal.returns-clause-kept
returns-clause-kept g c =
    let since = g.L.Link.told c.place_within.new.link in
    subst (λ (o : Option Told). KeepsObjects o (g.L.Link.told c.args.link.now) since) c.in_ok-blocks.ensures.keeper_same
    (subst (λ (o : Option Objects). KeepsObjects (g.K.Keeper.told c.written_blocks.new.keeper) o since) c.in_ok-blocks.ensures.link_same c.place_within.ensures.kept)

pub returns-in_err-blocks-clause-kept : goal.returns-in_err-blocks-clause-kept
returns-in_err-blocks-clause-kept g c =
    keeps_same (g.K.Keeper.told c.args.keeper.now) (g.L.Link.told c.args.link.now) (g.L.Link.told c.written_blocks.new.link) c.written_blocks.ensures.link_same

pub returns-clause-few : goal.returns-clause-few
returns-clause-few g c =
    let count : ℕ = length c.args.new.now in
    let before = g.K.Keeper.told c.args.keeper.now in
    let middle = g.K.Keeper.told c.written_blocks.new.keeper in
    let after = g.K.Keeper.told c.place_within.new.keeper in
    let most : ℕ = piece_count c.args.off count c.args.block_size + 1 in
    IfOk-weaker (λ (batch : List Change). IfTold middle (λ t. IfTold after (λ later. AreFew (length c.as_slice.result.now) t (tables_after batch later))))
    (λ (batch : List Change). IfTold before (λ t. IfTold after (λ later. AreFew most t (tables_after batch later))))
    (λ batch few.
    few_answer (λ n t later. AreFew n t (tables_after batch later)) (λ a b t later less fact. few_more a b t (tables_after batch later) less fact) before middle after most
    c.in_ok-blocks.blocks.items c.as_slice.result.now (λ t. blocks_of_write c.args.block_size c.args.off count c.file.inside.size (stored_in t c.file.inside.id))
    c.in_ok-blocks.ensures.keeper_same c.as_slice.ensures.value c.in_ok-blocks.ensures.numbers
    (λ t. written_few c.args.block_size c.args.off count c.file.inside.size (stored_in t c.file.inside.id)) few)
    c.place_within.result c.place_within.ensures.few

pub returns-clause-drawn : goal.returns-clause-drawn
returns-clause-drawn g c =
    let count : ℕ = length c.args.new.now in
    few_answer AreFew few_more (g.K.Keeper.told c.args.keeper.now) (g.K.Keeper.told c.written_blocks.new.keeper) (g.K.Keeper.told c.place_within.new.keeper)
    (piece_count c.args.off count c.args.block_size + 1) c.in_ok-blocks.blocks.items c.as_slice.result.now
    (λ t. blocks_of_write c.args.block_size c.args.off count c.file.inside.size (stored_in t c.file.inside.id)) c.in_ok-blocks.ensures.keeper_same c.as_slice.ensures.value c.in_ok-blocks.ensures.numbers
    (λ t. written_few c.args.block_size c.args.off count c.file.inside.size (stored_in t c.file.inside.id)) c.place_within.ensures.drawn

pub returns-in_err-blocks-clause-drawn : goal.returns-in_err-blocks-clause-drawn
returns-in_err-blocks-clause-drawn g c =
    told_few_same (piece_count c.args.off (length c.args.new.now) c.args.block_size + 1) (g.K.Keeper.told c.args.keeper.now) (g.K.Keeper.told c.written_blocks.new.keeper)
    c.written_blocks.ensures.keeper_same

pub returns-clause-room : goal.returns-clause-room
returns-clause-room g c =
    let file = c.args.file.now in
    let count : ℕ = length c.args.new.now in
    let blocks = c.in_ok-blocks.blocks.items in
    let before = g.K.Keeper.told c.args.keeper.now in
    let objects = g.L.Link.told c.args.link.now in
    let numbers : IfTold before (λ t. numbers_of blocks ≡ blocks_of_write c.args.block_size c.args.off count file.size (stored_in t file.id)) =
    subst (λ (r : Inode). IfTold before (λ t. numbers_of blocks ≡ blocks_of_write c.args.block_size c.args.off count r.size (stored_in t r.id))) c.file.view_is c.in_ok-blocks.ensures.numbers in
    let stored : IfFile before objects file.id file.size c.args.block_size (λ old. AreBlocksOf c.args.block_size (written_at c.args.off c.args.new.now old) blocks) =
    subst (λ (r : Inode). IfFile before objects r.id r.size c.args.block_size (λ old. AreBlocksOf c.args.block_size (written_at c.args.off c.args.new.now old) blocks)) c.file.view_is c.in_ok-blocks.ensures.stored in
    let own : c.file.inside.size ≡ file.size = ap (λ (r : Inode). r.size) c.file.view_is in
    let most : c.max.result ≡ max file.size (c.args.off + count) = c.max.ensures ∙ ap (λ (n : ℕ). max n (c.args.off + count)) own in
    subst
    (λ (n : ℕ). OnOk c.place_within.result (IfBothTold before objects (λ t o. HaveRoom sha256 t o file c.args.block_size (written_at c.args.off c.args.new.now)
    (blocks_of_write c.args.block_size c.args.off count file.size (stored_in t file.id)) (changes.PutInode (with_length n c.args.now file) ∷ []))))
    most
    (room_answer sha256 before objects file c.args.block_size blocks (written_at c.args.off c.args.new.now) (λ stored. blocks_of_write c.args.block_size c.args.off count file.size stored) numbers stored
    c.as_slice.result.now (changes.PutInode (with_length c.max.result c.args.now file) ∷ []) c.place_within.result c.as_slice.ensures.value
    (subst
    (λ (o : Option Told). OnOk c.place_within.result (IfTold o (λ t. IsWornFor sha256 t (changes.PutInode (with_length c.max.result c.args.now file) ∷ []) c.as_slice.result.now → ⊥)))
    c.in_ok-blocks.ensures.keeper_same c.place_within.ensures.room))

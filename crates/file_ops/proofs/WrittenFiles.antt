-- What calls that change the bytes of a file answer, from what was told of its blocks and of their places.
use Rattle.std.proofs.Common.{◌≡◌, ℕ, ◌+◌, ◌*◌, ◌<◌, ◌≤◌, List, length, max, true, false, Option, None, Some, Result, Ok, Err, ap, ◌∙◌, subst, inl, arith, take, drop, length-append, length-drop}
use Rattle.std.specs.Prelude.{◌==◌, ◌++◌, All, Contains, IfErr, IfOk, IsTrue, nat_lt}
use Rattle.std.proofs.lemmas.Bool.Decides.{nat_tests}
use Rattle.std.proofs.lemmas.List.{length-take}
use Rattle.block_math.specs.Changes.{padded, written_at}
use Rattle.block_math.proofs.LengthLemmas.{length-padded}
use Rattle.s3_rows.specs.declared.change.Change.{Change}
use Rattle.s3_rows.specs.Rows.{Inode}
use Rattle.s3_rows.specs.Tables.{Tables}
use Rattle.s3_rows.specs.Batches.{tables_after}
use Rattle.s3_rows.specs.Told.{IfTold, Told}
use Rattle.s3_rows.specs.Validity.{differ}
use Rattle.s3_devices.specs.Keys.{objects_in}
use Rattle.s3_devices.specs.Objects.{Objects}
use Rattle.s3_devices.specs.Told as stores
use Rattle.s3_devices.specs.Told.{Becomes}
use Rattle.tree_rows.specs.Contents.{Contents}
use Rattle.core_model.specs.Safe.{HaveHeld}
use Rattle.tree_rows.specs.Spots.{form_at}
use Rattle.core_model.proofs.Prepared.{form_at-with_new_objects}
use Rattle.byte_steps.specs.Changed.{stored_length}
use Rattle.ref_counts.proofs.Told.{IfTold-weaker, IfTold-weaker2}
use Rattle.file_ops.specs.declared.file_fault.FileFault.{FileFault}
use Rattle.file_ops.specs.declared.file_fault.FileFault.TheVariants as faults
use Rattle.file_ops.specs.declared.new_block.NewBlock.{NewBlock}
use Rattle.file_ops.specs.FileBytes.{IfBothTold, IfFile, stored_in}
use Rattle.file_ops.specs.FileChanges.{AreInFile, AreWithin, AreWorn, GetsBytes, HoldsBytes, IsFileAt, IsFileStep, with_length}
use Rattle.file_ops.specs.FileFaults.{is_worn}
use Rattle.file_ops.specs.NewBlocks.{AreBlocksOf, AreShort, numbers_of}
use Rattle.file_ops.specs.Placed.{ArePrepared, IsWornFor, KnowsBlocks}
use Rattle.file_ops.proofs.ChangedNumbers.{stored_lengths}
use Rattle.file_ops.proofs.FileForms.{file_written, knows_blocks}
use Rattle.file_ops.proofs.FileSteps.{all_within}

-- ---- answers

-- nothing was drawn
pub prepared_none : (before after : Option Told) → after ≡ before → Becomes ArePrepared before after
prepared_none None after same = same
prepared_none (Some s) None same = absurd (cc same)
prepared_none (Some s) (Some s2) same = let equal : s2 ≡ s = cc same in ((0, ap (λ (x : Told). x.tables) equal), inl (ap (λ (x : Told). x.commits) equal))

-- an answer that is not worn says nothing of numbers and counts
pub never_worn : {T : Type 0} (X : Type 0) (r : Result T FileFault) → is_worn r ≡ false → IfErr r (λ fault. fault ≡ faults.Worn → X)
never_worn X (Ok x) none = tt
never_worn X (Err (faults.Lost object kept got)) none = λ is. absurd (cc is)
never_worn X (Err faults.Keeper) none = λ is. absurd (cc is)
never_worn X (Err faults.Link) none = λ is. absurd (cc is)
never_worn X (Err faults.Worn) none = absurd (cc none)
never_worn X (Err faults.Memory) none = λ is. absurd (cc is)

pub is_less : (a b : ℕ) → a < b → nat_lt a b ≡ true
is_less a b less = grind (arith, nat_tests)

pub is_not_less : (a b : ℕ) → b ≤ a → nat_lt a b ≡ false
is_not_less a b most = grind (arith, nat_tests)

told_after : (R : Objects → Objects → Type 0) (o : Objects) (since : Option Objects) → Becomes R (Some o) since → stores.IfTold since (R o)
told_after R o None fact = tt
told_after R o (Some y) fact = fact

-- ---- what is told

module _ (digest_of : List ℕ → List ℕ) (before : Option Told) (objects : Option Objects) (file : Inode) (block_size : ℕ) (blocks : List NewBlock) (new : List ℕ → List ℕ)
    (changed : (ℕ → ℕ) → List ℕ) (numbers : IfTold before (λ t. numbers_of blocks ≡ changed (stored_in t file.id)))
    (stored : IfFile before objects file.id file.size block_size (λ old. AreBlocksOf block_size (new old) blocks)) where
  -- the file has its bytes
  pub gets_bytes : (after : Option Told) (batch : List Change) (size now : ℕ) → Becomes ArePrepared before after → ((old : List ℕ) → length old ≡ file.size → length (new old) ≡ size)
      → IfTold after (λ t. IsFileAt t file block_size → AreInFile digest_of t (tables_after batch t) (with_length size now file) block_size blocks)
      → IfBothTold before objects (λ t o. IfTold after (λ later. GetsBytes digest_of t o later (tables_after batch later) file block_size new (changed (stored_length t file.id))))
  gets_bytes after batch size now prepared long are = by_told before objects after numbers stored prepared are
    where
      by_told : (a : Option Told) (b : Option Objects) (c : Option Told) → IfTold a (λ t. numbers_of blocks ≡ changed (stored_in t file.id))
          → IfFile a b file.id file.size block_size (λ old. AreBlocksOf block_size (new old) blocks) → Becomes ArePrepared a c
          → IfTold c (λ t. IsFileAt t file block_size → AreInFile digest_of t (tables_after batch t) (with_length size now file) block_size blocks)
          → IfBothTold a b (λ t o. IfTold c (λ later. GetsBytes digest_of t o later (tables_after batch later) file block_size new (changed (stored_length t file.id))))
      by_told None b c named own drawn within = tt
      by_told (Some s) None c named own drawn within = tt
      by_told (Some s) (Some o) None named own drawn within = tt
      by_told (Some s) (Some o) (Some s2) named own drawn within =
          λ there old is m have knows.
          file_written digest_of s.tables s2.tables (tables_after batch s2.tables) file (with_length size now file) block_size blocks there (within there)
          (new old) (changed (stored_length s.tables file.id)) (long old is.long) (named ∙ ap changed (stored_lengths s.tables file.id)) (own old is)
          (λ x n. ap (λ (u : Tables). form_at u x n) drawn.0.1 ∙ form_at-with_new_objects s.tables drawn.0.0 x n) m have knows

  pub changed_answer : (after : Option Told) (size now : ℕ) (r : Result (List Change) FileFault) → Becomes ArePrepared before after
      → ((old : List ℕ) → length old ≡ file.size → length (new old) ≡ size)
      → IfOk r (λ batch. IfTold after (λ t. IsFileAt t file block_size → AreInFile digest_of t (tables_after batch t) (with_length size now file) block_size blocks))
      → IfOk r (λ batch. IfBothTold before objects (λ t o. IfTold after (λ later. GetsBytes digest_of t o later (tables_after batch later) file block_size new (changed (stored_length t file.id)))))
  changed_answer after size now (Err fault) prepared long are = tt
  changed_answer after size now (Ok batch) prepared long are = gets_bytes after batch size now prepared long are

  -- what contents have of the rows is held
  pub holds_bytes : (after : Option Told) (since : Option Objects) (batch : List Change)
      → IfTold after (λ t. IsFileAt t file block_size → (m : Contents) → KnowsBlocks digest_of m blocks
      → Becomes (λ x y. HaveHeld m (objects_in x) t.blocks → HaveHeld m (objects_in y) (tables_after batch t).blocks) objects since)
      → IfBothTold before objects (λ t o. IfTold after (λ later. HoldsBytes digest_of t o later (tables_after batch later) since file block_size new (changed (stored_length t file.id))))
  holds_bytes after since batch held = by_told before objects after numbers stored held
    where
      by_told : (a : Option Told) (b : Option Objects) (c : Option Told) → IfTold a (λ t. numbers_of blocks ≡ changed (stored_in t file.id))
          → IfFile a b file.id file.size block_size (λ old. AreBlocksOf block_size (new old) blocks)
          → IfTold c (λ t. IsFileAt t file block_size → (m : Contents) → KnowsBlocks digest_of m blocks
          → Becomes (λ x y. HaveHeld m (objects_in x) t.blocks → HaveHeld m (objects_in y) (tables_after batch t).blocks) b since)
          → IfBothTold a b (λ t o. IfTold c (λ later. HoldsBytes digest_of t o later (tables_after batch later) since file block_size new (changed (stored_length t file.id))))
      by_told None b c named own holds = tt
      by_told (Some s) None c named own holds = tt
      by_told (Some s) (Some o) None named own holds = tt
      by_told (Some s) (Some o) (Some s2) named own holds =
          λ there old is m knows.
          let same : numbers_of blocks ≡ changed (stored_length s.tables file.id) = named ∙ ap changed (stored_lengths s.tables file.id) in
          told_after (λ x y. HaveHeld m (objects_in x) s2.tables.blocks → HaveHeld m (objects_in y) (tables_after batch s2.tables).blocks) o since
          (holds there m (knows_blocks digest_of m block_size (new old) blocks (own old is) (λ n among. knows n (subst (λ (ns : List ℕ). Contains ns n) same among))))

  pub bytes_answer : (after : Option Told) (since : Option Objects) (r : Result (List Change) FileFault)
      → IfOk r (λ batch. IfTold after (λ t. IsFileAt t file block_size → (m : Contents) → KnowsBlocks digest_of m blocks
      → Becomes (λ x y. HaveHeld m (objects_in x) t.blocks → HaveHeld m (objects_in y) (tables_after batch t).blocks) objects since))
      → IfOk r (λ batch. IfBothTold before objects (λ t o. IfTold after (λ later. HoldsBytes digest_of t o later (tables_after batch later) since file block_size new (changed (stored_length t file.id)))))
  bytes_answer after since (Err fault) held = tt
  bytes_answer after since (Ok batch) held = holds_bytes after since batch held

  -- numbers or counts are at their end
  pub are_worn : (batch : List Change) → IfTold before (λ t. IsWornFor digest_of t batch blocks)
      → IfTold before (λ t. AreWorn digest_of t objects file block_size new (changed (stored_in t file.id)) batch)
  are_worn batch worn = by_told before numbers stored worn
    where
      by_told : (a : Option Told) → IfTold a (λ t. numbers_of blocks ≡ changed (stored_in t file.id))
          → IfFile a objects file.id file.size block_size (λ old. AreBlocksOf block_size (new old) blocks) → IfTold a (λ t. IsWornFor digest_of t batch blocks)
          → IfTold a (λ t. AreWorn digest_of t objects file block_size new (changed (stored_in t file.id)) batch)
      by_told None named own lacks = tt
      by_told (Some s) named own lacks = record { blocks = blocks; numbers = named; stored = own; worn = lacks }

  pub worn_answer : (slice : List NewBlock) (batch : List Change) (r : Result (List Change) FileFault) → slice ≡ blocks
      → IfErr r (λ fault. fault ≡ faults.Worn → IfTold before (λ t. IsWornFor digest_of t batch slice))
      → IfErr r (λ fault. fault ≡ faults.Worn → IfTold before (λ t. AreWorn digest_of t objects file block_size new (changed (stored_in t file.id)) batch))
  worn_answer slice batch (Ok x) same worn = tt
  worn_answer slice batch (Err fault) same worn =
      λ is. are_worn batch (subst (λ (bs : List NewBlock). IfTold before (λ t. IsWornFor digest_of t batch bs)) same (worn is))

-- ---- blocks that were placed

module _ (before after : Option Told) (file : Inode) (size block_size : ℕ) (slice blocks : List NewBlock) (same : slice ≡ blocks)
    (prepared : Becomes ArePrepared before after) (low : All (λ b. b.blockno * block_size < size) blocks) (short : AreShort block_size blocks)
    (distinct : IfTold before (λ t. IsTrue (differ (λ a b. b.blockno == a.blockno) blocks))) where
  -- what an answer says of a file that does not get shorter
  pub grown_answer : (X : ℕ → List NewBlock → List Change → Tables → Type 0) → file.size ≤ size → (r : Result (List Change) FileFault)
      → IfOk r (λ batch. IfTold after (λ t. (n : ℕ) → IsFileAt t file n → file.size ≤ size → AreWithin size n slice → X n slice batch t))
      → IfOk r (λ batch. IfTold after (λ t. IsFileAt t file block_size → X block_size blocks batch t))
  grown_answer X grows (Err fault) placed = tt
  grown_answer X grows (Ok batch) placed =
      IfTold-weaker2 after
      (λ t. (n : ℕ) → IsFileAt t file n → file.size ≤ size → AreWithin size n blocks → X n blocks batch t) (λ t. AreWithin size block_size blocks)
      (λ t. IsFileAt t file block_size → X block_size blocks batch t)
      (λ t own within there. own block_size there grows within)
      (subst (λ (bs : List NewBlock). IfTold after (λ t. (n : ℕ) → IsFileAt t file n → file.size ≤ size → AreWithin size n bs → X n bs batch t)) same placed)
      (all_within before after size block_size blocks prepared low short distinct)

  -- and of one that gets shorter
  pub less_answer : (X : List NewBlock → List Change → Tables → Type 0) → size ≤ file.size → (r : Result (List Change) FileFault)
      → IfOk r (λ batch. IfTold after (λ t. IsFileAt t file block_size → size ≤ file.size → AreWithin size block_size slice → X slice batch t))
      → IfOk r (λ batch. IfTold after (λ t. IsFileAt t file block_size → X blocks batch t))
  less_answer X less (Err fault) placed = tt
  less_answer X less (Ok batch) placed =
      IfTold-weaker2 after
      (λ t. IsFileAt t file block_size → size ≤ file.size → AreWithin size block_size blocks → X blocks batch t) (λ t. AreWithin size block_size blocks)
      (λ t. IsFileAt t file block_size → X blocks batch t)
      (λ t own within there. own there less within)
      (subst (λ (bs : List NewBlock). IfTold after (λ t. IsFileAt t file block_size → size ≤ file.size → AreWithin size block_size bs → X bs batch t)) same placed)
      (all_within before after size block_size blocks prepared low short distinct)

-- the tables stay valid, with the row of the file
pub step_answer : (digest_of : List ℕ → List ℕ) (after : Option Told) (file new : Inode) (block_size : ℕ) (blocks : List NewBlock) (r : Result (List Change) FileFault)
    → IfOk r (λ batch. IfTold after (λ t. IsFileAt t file block_size → AreInFile digest_of t (tables_after batch t) new block_size blocks))
    → IfOk r (λ batch. IfTold after (λ t. IsFileAt t file block_size → IsFileStep t (tables_after batch t) new))
step_answer digest_of after file new block_size blocks (Err fault) placed = tt
step_answer digest_of after file new block_size blocks (Ok batch) placed =
    IfTold-weaker after (λ t. IsFileAt t file block_size → AreInFile digest_of t (tables_after batch t) new block_size blocks)
    (λ t. IsFileAt t file block_size → IsFileStep t (tables_after batch t) new) (λ t are there. (are there).step) placed

-- ---- lengths

pub length-written : (offset : ℕ) (new bytes : List ℕ) → 0 < length new → length (written_at offset new bytes) ≡ max (length bytes) (offset + length new)
length-written offset new bytes some =
    omega (
      arith,
      length-append (take offset (padded offset bytes) ++ new) (drop (offset + length new) bytes),
      length-append (take offset (padded offset bytes)) new,
      length-take offset (padded offset bytes),
      length-padded offset bytes,
      length-drop (offset + length new) bytes,
    )

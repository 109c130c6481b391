-- Numbers and counts that are there for the blocks of a file.
use Rattle.std.proofs.Common.{◌≡◌, ℕ, ◌+◌, ◌≤◌, ◌^◌, List, [], ◌∷◌, true, false, Option, None, Some, Result, Ok, Err, refl, sym, ap, ◌∙◌, subst, arith, inl, inr, count_by}
use Rattle.std.specs.Prelude.{OnOk}
use Rattle.std.proofs.lemmas.List.Elements.{All-head, All-tail}
use Rattle.block_math.specs.Blocks.{piece_of, trimmed}
use Rattle.s3_rows.specs.declared.change.Change.{Change}
use Rattle.s3_rows.specs.Batches.{tables_after}
use Rattle.s3_rows.specs.Rows.{Inode, Parameters}
use Rattle.s3_rows.specs.Tables.{Tables}
use Rattle.s3_rows.specs.Told.{IfTold, Told}
use Rattle.s3_devices.specs.Objects.{Objects}
use Rattle.s3_devices.specs.Told.{Becomes}
use Rattle.core_model.specs.Safe.{with_new_objects}
use Rattle.file_ops.specs.declared.file_fault.FileFault.{FileFault}
use Rattle.file_ops.specs.declared.new_block.NewBlock.{NewBlock}
use Rattle.file_ops.specs.declared.place.Place.{Place}
use Rattle.file_ops.specs.FileBytes.{IfBothTold, IfFile, stored_in}
use Rattle.file_ops.specs.FileChanges.{HaveRoom}
use Rattle.file_ops.specs.NewBlocks.{AreBlocksOf, blocks_at, numbers_of}
use Rattle.file_ops.specs.Placed.{AreCounted, IsWornFor, LacksCounts, LacksNumbers, WerePlaced, places_counted, with_drawn}
use Rattle.file_ops.specs.Resolved.{IsWorn, is_new, resolved}

-- ---- tables that have parameters

module _ (digest_of : List ℕ → List ℕ) (t : Tables) (blocks : List NewBlock) where
  abbrev found_by : Option Parameters → List Place
  found_by o = elim o [ None ↦ [] | Some p ↦ resolved digest_of t [] p.next_block p.next_object blocks ]

  abbrev LacksNumbersBy : Option Parameters → Option Parameters → Type 0
  LacksNumbersBy o whole = elim o [ None ↦ Unit {0} | Some p ↦ IsWorn p.next_block p.next_object (count_by is_new (found_by whole)) ]

  abbrev LacksCountsBy : List Change → Option Parameters → Option Parameters → Type 0
  LacksCountsBy batch o whole =
      elim o [
        | None ↦ Unit {0}
        | Some p ↦
            places_counted (with_drawn (count_by is_new (found_by whole)) p) (found_by whole)
            (tables_after batch (with_new_objects (count_by is_new (found_by whole)) t)) ≡ None
      ]

  module _ (p : Parameters) (made : t.params ≡ Some p) where
    numbers_lack : LacksNumbers digest_of t blocks → IsWorn p.next_block p.next_object (count_by is_new (resolved digest_of t [] p.next_block p.next_object blocks))
    numbers_lack lacks = subst (λ (o : Option Parameters). LacksNumbersBy o o) made lacks

    counts_lack : (batch : List Change) → LacksCounts digest_of t batch blocks
        → places_counted (with_drawn (count_by is_new (resolved digest_of t [] p.next_block p.next_object blocks)) p) (resolved digest_of t [] p.next_block p.next_object blocks)
        (tables_after batch (with_new_objects (count_by is_new (resolved digest_of t [] p.next_block p.next_object blocks)) t)) ≡ None
    counts_lack batch lacks = subst (λ (o : Option Parameters). LacksCountsBy batch o o) made lacks

-- not more are drawn than there are
not_worn : (block object count : ℕ) → (block + count ≤ 2 ^ 62) × (object + count ≤ 2 ^ 62) → IsWorn block object count → ⊥
not_worn block object count room (inl worn) = omega (arith, room.0, worn)
not_worn block object count room (inr worn) = omega (arith, room.1, worn)

-- there are numbers for the new blocks among places that were found
pub numbers_there : (digest_of : List ℕ → List ℕ) (t : Tables) (blocks : List NewBlock) (p : Parameters) → Some p ≡ t.params → (block object : ℕ) → block ≡ p.next_block → object ≡ p.next_object
    → (xs : List Place) → xs ≡ resolved digest_of t [] block object blocks → (block + count_by is_new xs ≤ 2 ^ 62) × (object + count_by is_new xs ≤ 2 ^ 62)
    → LacksNumbers digest_of t blocks → ⊥
numbers_there digest_of t blocks p made block object next_block next_object xs found room lacks =
    let same : xs ≡ resolved digest_of t [] p.next_block p.next_object blocks =
    found ∙ ap (λ (n : ℕ). resolved digest_of t [] n object blocks) next_block ∙ ap (λ (n : ℕ). resolved digest_of t [] p.next_block n blocks) next_object in
    let worn : IsWorn block object (count_by is_new xs) =
    subst (λ (n : ℕ). IsWorn n object (count_by is_new xs)) (sym next_block)
    (subst (λ (n : ℕ). IsWorn p.next_block n (count_by is_new xs)) (sym next_object)
    (subst (λ (ys : List Place). IsWorn p.next_block p.next_object (count_by is_new ys)) (sym same) (numbers_lack digest_of t blocks p (sym made) lacks))) in
    not_worn block object (count_by is_new xs) room worn

-- no count was at its end where all places were counted
pub counts_there : (digest_of : List ℕ → List ℕ) (inode : ℕ) (blocks : List NewBlock) (before after : Told) (batch now : List Change) → WerePlaced digest_of inode blocks before after batch now
    → LacksCounts digest_of before.tables batch blocks → ⊥
counts_there digest_of inode blocks before after batch now did lacks =
    let p : Parameters = did.ready.params in
    let t : Tables = before.tables in
    let count : List Place → Option (List Change) = λ xs. places_counted (with_drawn (count_by is_new xs) p) xs (tables_after batch (with_new_objects (count_by is_new xs) t)) in
    let none : places_counted did.params did.xs (tables_after batch after.tables) ≡ None =
    ap (λ (q : Parameters). places_counted q did.xs (tables_after batch after.tables)) did.ready.now
    ∙ ap (λ (u : Tables). places_counted (with_drawn (count_by is_new did.xs) p) did.xs (tables_after batch u)) did.ready.drawn
    ∙ ap count did.ready.found
    ∙ counts_lack digest_of t blocks p did.ready.made batch lacks in
    let clash : true ≡ false = subst (λ (o : Option (List Change)). AreCounted o batch true did.counted) none did.counts in
    cc clash

-- a fact of what was told before a call, by what the call made of it
pub IfTold-became : (R : Told → Told → Type 0) (P : Tables → Type 0) → ((a b : Told) → R a b → P a.tables) → (before after : Option Told) → Becomes R before after → IfTold before P
IfTold-became R P follows None after fact = tt
IfTold-became R P follows (Some a) None fact = absurd fact
IfTold-became R P follows (Some a) (Some b) fact = follows a b fact

-- ---- the blocks of a file

-- blocks of a file are those under their numbers
blocks_named : (block_size : ℕ) (file : List ℕ) (blocks : List NewBlock) → AreBlocksOf block_size file blocks → blocks ≡ blocks_at block_size file (numbers_of blocks)
blocks_named block_size file [] are = refl
blocks_named block_size file (b ∷ bs) are =
    let P : NewBlock → Type 0 = λ x. x.stored ≡ trimmed (piece_of block_size file x.blockno) in
    let one : b ≡ record { blockno = b.blockno; stored = trimmed (piece_of block_size file b.blockno) } =
    ap (λ (s : List ℕ). let x : NewBlock = record { blockno = b.blockno; stored = s } in x) (All-head P b bs are) in
    ap (λ (x : NewBlock). x ∷ bs) one
    ∙ ap (λ (xs : List NewBlock). record { blockno = b.blockno; stored = trimmed (piece_of block_size file b.blockno) } ∷ xs) (blocks_named block_size file bs (All-tail P b bs are))

module _ (digest_of : List ℕ → List ℕ) (before : Option Told) (objects : Option Objects) (file : Inode) (block_size : ℕ) (blocks : List NewBlock) (new : List ℕ → List ℕ)
    (changed : (ℕ → ℕ) → List ℕ) (numbers : IfTold before (λ t. numbers_of blocks ≡ changed (stored_in t file.id)))
    (stored : IfFile before objects file.id file.size block_size (λ old. AreBlocksOf block_size (new old) blocks)) where
  have_room : (batch : List Change) → IfTold before (λ t. IsWornFor digest_of t batch blocks → ⊥)
      → IfBothTold before objects (λ t o. HaveRoom digest_of t o file block_size new (changed (stored_in t file.id)) batch)
  have_room batch room = by_told before objects numbers stored room
    where
      by_told : (a : Option Told) (b : Option Objects) → IfTold a (λ t. numbers_of blocks ≡ changed (stored_in t file.id))
          → IfFile a b file.id file.size block_size (λ old. AreBlocksOf block_size (new old) blocks) → IfTold a (λ t. IsWornFor digest_of t batch blocks → ⊥)
          → IfBothTold a b (λ t o. HaveRoom digest_of t o file block_size new (changed (stored_in t file.id)) batch)
      by_told None b named own left = tt
      by_told (Some s) None named own left = tt
      by_told (Some s) (Some o) named own left =
          λ old is worn.
          left (subst (IsWornFor digest_of s.tables batch) (sym (blocks_named block_size (new old) blocks (own old is) ∙ ap (blocks_at block_size (new old)) named)) worn)

  -- what an answer says of the numbers and counts for a file's changed blocks
  pub room_answer : (slice : List NewBlock) (batch : List Change) (r : Result (List Change) FileFault) → slice ≡ blocks
      → OnOk r (IfTold before (λ t. IsWornFor digest_of t batch slice → ⊥))
      → OnOk r (IfBothTold before objects (λ t o. HaveRoom digest_of t o file block_size new (changed (stored_in t file.id)) batch))
  room_answer slice batch (Err fault) same room = tt
  room_answer slice batch (Ok x) same room = have_room batch (subst (λ (bs : List NewBlock). IfTold before (λ t. IsWornFor digest_of t batch bs → ⊥)) same room)

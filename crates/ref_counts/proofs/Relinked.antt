-- Changes that come behind one that was pushed.
use Rattle.std.proofs.Common.{◌≡◌, ℕ, List, [], ◌∷◌, ◌++◌, true, cond, Option, None, Some, refl, sym, ap, ◌∙◌, append_assoc, eq-eqb}
use Rattle.std.specs.Prelude.{◌==◌, ◌-◌}
use Rattle.s3_rows.specs.declared.change.Change.{Change}
use Rattle.s3_rows.specs.declared.change.Change.TheVariants as changes
use Rattle.s3_rows.specs.Rows.{InodeBlock, Block}
use Rattle.s3_rows.specs.Tables.{Tables}
use Rattle.s3_rows.specs.Batches.{after_change, tables_after}
use Rattle.s3_rows.specs.Selections.{block_at, inode_block_at, object_at}
use Rattle.row_lemmas.proofs.Tables.{tables_after-tables_after}
use Rattle.ref_counts.specs.Links.{link_replaced, link_set, lowered_block, lowered_object, relinked}

-- what is added of the tables after a change is pushed, where it reads of them what it reads of those before
behind : (t : Tables) (batch pushed after : List Change) (change : Change) (more : Tables → List Change) → more (after_change change (tables_after batch t)) ≡ more (tables_after batch t)
    → pushed ≡ batch ++ change ∷ [] → after ≡ pushed ++ more (tables_after pushed t) → after ≡ batch ++ change ∷ more (tables_after batch t)
behind t batch pushed after change more same is added =
    added ∙ ap (λ (b : List Change). b ++ more (tables_after b t)) is
    ∙ ap (λ (u : Tables). batch ++ change ∷ [] ++ more u) (sym (tables_after-tables_after batch (change ∷ []) t))
    ∙ ap (λ (cs : List Change). batch ++ change ∷ [] ++ cs) same
    ∙ append_assoc batch (change ∷ []) (more (tables_after batch t))

-- a block that goes with its last place
block_gone : (t : Tables) (b : Block) (found : Option Block) → found ≡ Some b → (b.refcount == 1) ≡ true
    → lowered_block t found ≡ changes.DeleteBlock b.id ∷ lowered_object (object_at t b.object)
block_gone t b found is last =
    ap (lowered_block t) is ∙ ap (λ x. cond x (changes.DeleteBlock b.id ∷ lowered_object (object_at t b.object)) (changes.PutBlock (record b { refcount = b.refcount - 1 }) ∷ [])) last

pub last_place : (t : Tables) (batch pushed after : List Change) (id : ℕ) (b : Block) → block_at (tables_after batch t) id ≡ Some b → b.refcount ≡ 1
    → pushed ≡ batch ++ changes.DeleteBlock b.id ∷ [] → after ≡ pushed ++ lowered_object (object_at (tables_after pushed t) b.object)
    → after ≡ batch ++ lowered_block (tables_after batch t) (block_at (tables_after batch t) id)
last_place t batch pushed after id b there last is added =
    behind t batch pushed after (changes.DeleteBlock b.id) (λ (u : Tables). lowered_object (object_at u b.object)) refl is added
    ∙ ap (λ (cs : List Change). batch ++ cs) (sym (block_gone (tables_after batch t) b (block_at (tables_after batch t) id) there (eq-eqb b.refcount 1 last)))

-- a place says nothing of blocks and objects
set_leaves_blocks : (inode blockno : ℕ) (new : Option ℕ) (t : Tables) (old : ℕ) → lowered_block (after_change (link_set inode blockno new) t) (block_at (after_change (link_set inode blockno new) t) old) ≡ lowered_block t (block_at t old)
set_leaves_blocks inode blockno None t old = by_block (block_at t old)
  where
    by_block : (found : Option Block) → lowered_block (after_change (link_set inode blockno None) t) found ≡ lowered_block t found
    by_block None = refl
    by_block (Some b) = refl
set_leaves_blocks inode blockno (Some block) t old = by_block (block_at t old)
  where
    by_block : (found : Option Block) → lowered_block (after_change (link_set inode blockno (Some block)) t) found ≡ lowered_block t found
    by_block None = refl
    by_block (Some b) = refl

pub place_changed : (t : Tables) (batch pushed after : List Change) (inode blockno : ℕ) (new : Option ℕ) (old : InodeBlock) → inode_block_at (tables_after batch t) inode blockno ≡ Some old
    → pushed ≡ batch ++ link_set inode blockno new ∷ [] → after ≡ pushed ++ lowered_block (tables_after pushed t) (block_at (tables_after pushed t) old.block)
    → after ≡ batch ++ relinked (tables_after batch t) inode blockno new
place_changed t batch pushed after inode blockno new old there is added =
    behind t batch pushed after (link_set inode blockno new) (λ (u : Tables). lowered_block u (block_at u old.block))
    (set_leaves_blocks inode blockno new (tables_after batch t) old.block) is added
    ∙ ap (λ (found : Option InodeBlock). batch ++ link_replaced (tables_after batch t) inode blockno new found) (sym there)

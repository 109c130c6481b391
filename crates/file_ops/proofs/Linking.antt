-- Places of a file that name their blocks one after the other.
use Rattle.std.proofs.Common.{◌≡◌, ℕ, List, ◌∷◌, ◌++◌, Option, sym, ap, ◌∙◌}
use Rattle.std.proofs.lemmas.List.{append_assoc}
use Rattle.s3_rows.specs.declared.change.Change.{Change}
use Rattle.s3_rows.specs.Tables.{Tables}
use Rattle.s3_rows.specs.Batches.{tables_after}
use Rattle.row_lemmas.proofs.Tables.{tables_after-tables_after}
use Rattle.ref_counts.specs.Links.{relinked}
use Rattle.block_steps.specs.Places.{Places, places_relinked}
use Rattle.file_ops.specs.declared.new_block.NewBlock.{NewBlock}
use Rattle.file_ops.specs.declared.place.Place.{Place}
use Rattle.file_ops.specs.Placed.{links_of}
use Rattle.file_ops.specs.Resolved.{id_of}

-- one place more
pub relinked_more : (t : Tables) (batch now : List Change) (inode blockno : ℕ) (block : Option ℕ) (places : Places)
    → now ≡ batch ++ relinked (tables_after batch t) inode blockno block
    → now ++ places_relinked inode places (tables_after now t) ≡ batch ++ places_relinked inode ((blockno, block) ∷ places) (tables_after batch t)
relinked_more t batch now inode blockno block places is =
    let u = tables_after batch t in
    let this = relinked u inode blockno block in
    ap (λ (cs : List Change). cs ++ places_relinked inode places (tables_after cs t)) is
    ∙ ap (λ (v : Tables). (batch ++ this) ++ places_relinked inode places v) (sym (tables_after-tables_after batch this t))
    ∙ append_assoc batch this (places_relinked inode places (tables_after this u))

-- and at the place of one more block
pub linked_more : (t : Tables) (batch now : List Change) (inode : ℕ) (named : Option ℕ) (b : NewBlock) (x : Place) (bs blocks : List NewBlock) (xs ys : List Place)
    → blocks ≡ b ∷ bs → ys ≡ x ∷ xs → named ≡ id_of x → now ≡ batch ++ relinked (tables_after batch t) inode b.blockno named
    → now ++ places_relinked inode (links_of bs xs) (tables_after now t) ≡ batch ++ places_relinked inode (links_of blocks ys) (tables_after batch t)
linked_more t batch now inode named b x bs blocks xs ys block_here place_here id is =
    relinked_more t batch now inode b.blockno named (links_of bs xs) is
    ∙ ap (λ (block : Option ℕ). batch ++ places_relinked inode ((b.blockno, block) ∷ links_of bs xs) (tables_after batch t)) id
    ∙ ap (λ (zs : List Place). batch ++ places_relinked inode (links_of (b ∷ bs) zs) (tables_after batch t)) (sym place_here)
    ∙ ap (λ (cs : List NewBlock). batch ++ places_relinked inode (links_of cs ys) (tables_after batch t)) (sym block_here)

-- The places of a file are copied one after the other.
use Rattle.std.proofs.Common.{◌≡◌, ℕ, ◌+◌, List, [], ◌∷◌, ◌++◌, true, false, None, Some, refl, sym, ap, ◌∙◌, append_assoc}
use Rattle.std.proofs.lemmas.List.{append-nil}
use Rattle.std.specs.Prelude.{◌&&◌, find}
use Rattle.s3_rows.specs.declared.change.Change.{Change}
use Rattle.s3_rows.specs.Batches.{tables_after}
use Rattle.s3_rows.specs.Rows.{InodeBlock}
use Rattle.s3_rows.specs.Selections.{block_at}
use Rattle.s3_rows.specs.Tables.{IsOrdered, Tables}
use Rattle.row_lemmas.proofs.Tables.{tables_after-tables_after}
use Rattle.ref_counts.specs.Links.{is_place_from, places_from}
use Rattle.ref_counts.proofs.NextPlaces.{places_first, places_none}
use Rattle.tree_copy.specs.CopiedPlaces.{block_fits, file_copied, file_fits, place_copied}

-- what is left makes of the batch what all makes of the first
pub record IsLeft (t : Tables) (file copy from : ℕ) (first batch : List Change) : Type 0 where
  pub added : batch ++ file_copied copy (places_from t file from) (tables_after batch t) ≡ first ++ file_copied copy (places_from t file 0) (tables_after first t)
  pub fits : file_fits copy (places_from t file from) (tables_after batch t) ≡ file_fits copy (places_from t file 0) (tables_after first t)

pub left_first : (t : Tables) (file copy : ℕ) (batch : List Change) → IsLeft t file copy 0 batch batch
left_first t file copy batch = record { added = refl; fits = refl }

-- a place that fits
pub left_more : (t : Tables) (file copy from : ℕ) (first batch after : List Change) (r : InodeBlock) → IsOrdered t → IsLeft t file copy from first batch
    → Some r ≡ find (is_place_from file from) t.inode_blocks → true ≡ block_fits (block_at (tables_after batch t) r.block)
    → after ≡ batch ++ place_copied copy r (tables_after batch t) → IsLeft t file copy (r.blockno + 1) first after
left_more t file copy from first batch after r o left next fits added =
    let this : List Change = place_copied copy r (tables_after batch t) in
    let rest : List InodeBlock = places_from t file (r.blockno + 1) in
    let rows : places_from t file from ≡ r ∷ rest = places_first file from t.inode_blocks r o.inode_blocks (sym next) in
    let joined : tables_after this (tables_after batch t) ≡ tables_after (batch ++ this) t = tables_after-tables_after batch this t in
    record {
      added =
          ap (λ (b : List Change). b ++ file_copied copy rest (tables_after b t)) added
          ∙ ap (λ (u : Tables). batch ++ this ++ file_copied copy rest u) (sym joined)
          ∙ append_assoc batch this (file_copied copy rest (tables_after this (tables_after batch t)))
          ∙ ap (λ (rs : List InodeBlock). batch ++ file_copied copy rs (tables_after batch t)) (sym rows) ∙ left.added;
      fits =
          ap (λ (b : List Change). file_fits copy rest (tables_after b t)) added ∙ ap (file_fits copy rest) (sym joined)
          ∙ ap (λ b. b && file_fits copy rest (tables_after this (tables_after batch t))) fits
          ∙ ap (λ (rs : List InodeBlock). file_fits copy rs (tables_after batch t)) (sym rows) ∙ left.fits;
    }

-- one that does not
pub left_worn : (t : Tables) (file copy from : ℕ) (first batch : List Change) (r : InodeBlock) → IsOrdered t → IsLeft t file copy from first batch
    → Some r ≡ find (is_place_from file from) t.inode_blocks → false ≡ block_fits (block_at (tables_after batch t) r.block)
    → false ≡ file_fits copy (places_from t file 0) (tables_after first t)
left_worn t file copy from first batch r o left next fits =
    ap (λ b. b && file_fits copy (places_from t file (r.blockno + 1)) (tables_after (place_copied copy r (tables_after batch t)) (tables_after batch t))) fits
    ∙ ap (λ (rs : List InodeBlock). file_fits copy rs (tables_after batch t)) (sym (places_first file from t.inode_blocks r o.inode_blocks (sym next))) ∙ left.fits

-- none is left
pub left_none : (t : Tables) (file copy from : ℕ) (first batch : List Change) → IsLeft t file copy from first batch → None ≡ find (is_place_from file from) t.inode_blocks
    → (batch ≡ first ++ file_copied copy (places_from t file 0) (tables_after first t)) × (true ≡ file_fits copy (places_from t file 0) (tables_after first t))
left_none t file copy from first batch left next =
    let rows : places_from t file from ≡ [] = places_none file from t.inode_blocks (sym next) in (
      sym (append-nil batch) ∙ ap (λ (rs : List InodeBlock). batch ++ file_copied copy rs (tables_after batch t)) (sym rows) ∙ left.added,
      ap (λ (rs : List InodeBlock). file_fits copy rs (tables_after batch t)) (sym rows) ∙ left.fits,
    )

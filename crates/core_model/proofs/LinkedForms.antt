-- The forms of spots under each change of a row.
use Rattle.std.proofs.Common.{◌≡◌, ℕ, List, Bool, true, false, cond, Option, None, Some, refl, sym, ap, ◌∙◌, eqb-true}
use Rattle.std.specs.Prelude.{IsTrue, not, ◌==◌, option_and_then, option_map}
use Rattle.std.specs.List.{list_all}
use Rattle.std.specs.Ordering.{is_eq}
use Rattle.std.proofs.lemmas.Cmp.{nat_cmp_total}
use Rattle.s3_rows.specs.declared.change.Change.TheVariants as changes
use Rattle.s3_rows.specs.Rows.{InodeBlock, Block}
use Rattle.s3_rows.specs.Keyed.{has_key, pair_cmp, put, row_at, without}
use Rattle.s3_rows.specs.Tables.{Tables, by_spot, by_block}
use Rattle.s3_rows.specs.Batches.{after_change}
use Rattle.s3_rows.specs.Selections.{block_at}
use Rattle.row_lemmas.proofs.Tests.{eqb_comm, false_from_not, is_eq-nat_cmp}
use Rattle.row_lemmas.proofs.Tables.{pair_cmp_total}
use Rattle.row_lemmas.proofs.Keyed.Put.{row_at-put, row_at-put_same, row_at-put_other}
use Rattle.row_lemmas.proofs.Keyed.RowAt.{row_at_passes}
use Rattle.row_lemmas.proofs.Keyed.Without.{row_at-without_same, row_at-without_other}
use Rattle.tree_rows.specs.Spots.{form_at, form_of_row}

-- the form of the block that a link names, among these blocks
form_in : List Block → InodeBlock → Option (List ℕ × ℕ)
form_in blocks l = option_map form_of_row (row_at by_block l.block blocks)

-- ---- links

module _ (t : Tables) where
  pub form_at-put_same : (r : InodeBlock) → form_at (after_change (changes.PutInodeBlock r) t) r.inode r.blockno ≡ option_map form_of_row (block_at t r.block)
  form_at-put_same r = ap (option_and_then (λ (l : InodeBlock). option_map form_of_row (block_at t l.block))) (row_at-put_same by_spot pair_cmp_total r t.inode_blocks)

  pub form_at-put_other : (r : InodeBlock) (inode blockno : ℕ) → is_eq (pair_cmp (inode, blockno) (r.inode, r.blockno)) ≡ false
      → form_at (after_change (changes.PutInodeBlock r) t) inode blockno ≡ form_at t inode blockno
  form_at-put_other r inode blockno other =
      ap (option_and_then (λ (l : InodeBlock). option_map form_of_row (block_at t l.block))) (row_at-put_other by_spot pair_cmp_total (inode, blockno) r t.inode_blocks other)

  pub form_at-without_same : (inode blockno : ℕ) → form_at (after_change (changes.DeleteInodeBlock inode blockno) t) inode blockno ≡ None
  form_at-without_same inode blockno =
      ap (option_and_then (λ (l : InodeBlock). option_map form_of_row (block_at t l.block))) (row_at-without_same by_spot pair_cmp_total (inode, blockno) t.inode_blocks)

  pub form_at-without_other : (inode blockno other number : ℕ) → is_eq (pair_cmp (inode, blockno) (other, number)) ≡ false
      → form_at (after_change (changes.DeleteInodeBlock inode blockno) t) other number ≡ form_at t other number
  form_at-without_other inode blockno other number apart =
      ap (option_and_then (λ (l : InodeBlock). option_map form_of_row (block_at t l.block))) (row_at-without_other by_spot pair_cmp_total (inode, blockno) (other, number) t.inode_blocks apart)

-- ---- blocks

-- where each link finds the same form among other blocks, each spot does
by_links : (links : List InodeBlock) (blocks others : List Block) (inode blockno : ℕ)
    → ((l : InodeBlock) → row_at by_spot (inode, blockno) links ≡ Some l → option_map form_of_row (row_at by_block l.block others) ≡ option_map form_of_row (row_at by_block l.block blocks))
    → option_and_then (λ (l : InodeBlock). option_map form_of_row (row_at by_block l.block others)) (row_at by_spot (inode, blockno) links)
    ≡ option_and_then (λ (l : InodeBlock). option_map form_of_row (row_at by_block l.block blocks)) (row_at by_spot (inode, blockno) links)
by_links links blocks others inode blockno each = by_case (row_at by_spot (inode, blockno) links) each
  where
    by_case : (found : Option InodeBlock)
        → ((l : InodeBlock) → found ≡ Some l → option_map form_of_row (row_at by_block l.block others) ≡ option_map form_of_row (row_at by_block l.block blocks))
        → option_and_then (λ (l : InodeBlock). option_map form_of_row (row_at by_block l.block others)) found
        ≡ option_and_then (λ (l : InodeBlock). option_map form_of_row (row_at by_block l.block blocks)) found
    by_case None of_link = refl
    by_case (Some l) of_link = of_link l refl

module _ (t : Tables) where
  -- a block that no link names is not the one that a link names
  unnamed : (id inode blockno : ℕ) (l : InodeBlock) → IsTrue (list_all (λ (x : InodeBlock). not (x.block == id)) t.inode_blocks)
      → row_at by_spot (inode, blockno) t.inode_blocks ≡ Some l → (l.block == id) ≡ false
  unnamed id inode blockno l none there =
      false_from_not (l.block == id) (row_at_passes by_spot (λ (x : InodeBlock). not (x.block == id)) (inode, blockno) t.inode_blocks l none there)

  pub form_at-put_block : (r : Block) (inode blockno : ℕ) → IsTrue (list_all (λ (x : InodeBlock). not (x.block == r.id)) t.inode_blocks)
      → form_at (after_change (changes.PutBlock r) t) inode blockno ≡ form_at t inode blockno
  form_at-put_block r inode blockno none =
      by_links t.inode_blocks t.blocks (put by_block r t.blocks) inode blockno
      (λ l there. ap (option_map form_of_row) (row_at-put_other by_block nat_cmp_total l.block r t.blocks (is_eq-nat_cmp l.block r.id ∙ unnamed r.id inode blockno l none there)))

  pub form_at-without_block : (id inode blockno : ℕ) → IsTrue (list_all (λ (x : InodeBlock). not (x.block == id)) t.inode_blocks)
      → form_at (after_change (changes.DeleteBlock id) t) inode blockno ≡ form_at t inode blockno
  form_at-without_block id inode blockno none =
      by_links t.inode_blocks t.blocks (without by_block id t.blocks) inode blockno
      (λ l there. ap (option_map form_of_row) (row_at-without_other by_block nat_cmp_total id l.block t.blocks
      (is_eq-nat_cmp id l.block ∙ eqb_comm id l.block ∙ unnamed id inode blockno l none there)))

  pub form_at-put_same_form : (r : Block) (inode blockno : ℕ) → option_map form_of_row (block_at t r.id) ≡ Some (form_of_row r)
      → form_at (after_change (changes.PutBlock r) t) inode blockno ≡ form_at t inode blockno
  form_at-put_same_form r inode blockno same =
      by_links t.inode_blocks t.blocks (put by_block r t.blocks) inode blockno (λ l there. ap (option_map form_of_row) (row_at-put by_block nat_cmp_total l.block r t.blocks) ∙ by_test l (has_key by_block l.block r) refl)
    where
      by_test : (l : InodeBlock) (b : Bool) → has_key by_block l.block r ≡ b
          → option_map form_of_row (cond b (Some r) (row_at by_block l.block t.blocks)) ≡ option_map form_of_row (row_at by_block l.block t.blocks)
      by_test l true is =
          let own : l.block ≡ r.id = eqb-true l.block r.id (sym (is_eq-nat_cmp l.block r.id) ∙ is) in
          sym same ∙ ap (λ n. option_map form_of_row (row_at by_block n t.blocks)) (sym own)
      by_test l false is = refl

  pub form_at-same_tables : (other : Tables) (inode blockno : ℕ) → other.inode_blocks ≡ t.inode_blocks → other.blocks ≡ t.blocks
      → form_at other inode blockno ≡ form_at t inode blockno
  form_at-same_tables other inode blockno links blocks =
      ap (λ (rows : List InodeBlock). option_and_then (λ (l : InodeBlock). option_map form_of_row (row_at by_block l.block other.blocks)) (row_at by_spot (inode, blockno) rows)) links
      ∙ ap (λ (rows : List Block). option_and_then (λ (l : InodeBlock). option_map form_of_row (row_at by_block l.block rows)) (row_at by_spot (inode, blockno) t.inode_blocks)) blocks

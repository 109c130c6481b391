-- The forms of places and of blocks where a place names another block.
use Rattle.std.proofs.Common.{◌≡◌, ℕ, ◌+◌, List, ◌∷◌, Bool, true, false, cond, not, Option, None, Some, IsTrue, refl, sym, ap, ◌∙◌, arith, eq-eqb, eqb-true, ne_eqb}
use Rattle.std.specs.Prelude.{◌==◌, ◌||◌, count_by, is_some, nat_le, option_and_then, option_map}
use Rattle.std.specs.Cmp.{tied_itself}
use Rattle.std.specs.Ordering.{is_eq}
use Rattle.std.proofs.lemmas.Bool.{and_parts, or_right}
use Rattle.s3_rows.specs.Rows.{InodeBlock, Block, Parameters}
use Rattle.s3_rows.specs.Keyed.{pair_cmp, put, row_at, without}
use Rattle.s3_rows.specs.Tables.{Tables, by_block, by_spot}
use Rattle.s3_rows.specs.Batches.{tables_after}
use Rattle.s3_rows.specs.Counts.{listed_block_count}
use Rattle.s3_rows.specs.Selections.{block_at, inode_block_at}
use Rattle.row_lemmas.proofs.Sums.{list_any_from_count_by}
use Rattle.row_lemmas.proofs.Tables.{pair_cmp_total}
use Rattle.row_lemmas.proofs.Tests.{false_from_not, list_all_from_list_any, pair_parts}
use Rattle.row_lemmas.proofs.Keyed.Count.{count_by-without_there}
use Rattle.row_lemmas.proofs.Keyed.Put.{row_at-put_same, row_at-put_other}
use Rattle.row_lemmas.proofs.Keyed.RowAt.{row_at_passes}
use Rattle.row_lemmas.proofs.Keyed.Without.{row_at-without_same, row_at-without_other, without_none}
use Rattle.tree_rows.specs.Spots.{form_at, form_of_row}
use Rattle.ref_counts.specs.Links.{link_replaced, relinked}
use Rattle.block_steps.specs.Owed.{OwesPlaces, is_owed, owes_places, times}
use Rattle.block_steps.proofs.FormsOfBlocks.{block_at_id, form_of_row-lowered, inode_blocks-lowered}

-- ---- pairs of numbers

-- pairs that are not the same do not tie
pub is_eq-pair_cmp_other : (x y : ℕ × ℕ) → (x.0 ≡ y.0 → x.1 ≡ y.1 → ⊥) → is_eq (pair_cmp x y) ≡ false
is_eq-pair_cmp_other x y apart = by_test (is_eq (pair_cmp x y)) refl
  where
    by_test : (b : Bool) → is_eq (pair_cmp x y) ≡ b → b ≡ false
    by_test true is =
        let parts : (x.0 ≡ y.0) × (x.1 ≡ y.1) = pair_parts x y is in
        absurd (apart parts.0 parts.1)
    by_test false is = refl

is_eq-pair_cmp_same : (x y : ℕ × ℕ) → x.0 ≡ y.0 → x.1 ≡ y.1 → is_eq (pair_cmp x y) ≡ true
is_eq-pair_cmp_same x y first second = ap is_eq (ap (λ a. pair_cmp (a, x.1) y) first ∙ ap (λ a. pair_cmp (y.0, a) y) second ∙ tied_itself pair_cmp_total y)

-- the other way round too
pub is_eq-pair_cmp_back : (x y : ℕ × ℕ) → is_eq (pair_cmp x y) ≡ false → is_eq (pair_cmp y x) ≡ false
is_eq-pair_cmp_back x y other =
    is_eq-pair_cmp_other y x
    (λ first second. let clash : true ≡ false = sym (is_eq-pair_cmp_same x y (sym first) (sym second)) ∙ other in
    cc clash)

-- ---- what a relink makes of the rows

module _ (t : Tables) (inode blockno : ℕ) where
  -- the places after it
  abbrev links_after : Option ℕ → List InodeBlock
  links_after None = without by_spot (inode, blockno) t.inode_blocks
  links_after (Some block) = put by_spot (record { inode = inode; blockno = blockno; block = block }) t.inode_blocks

  pub inode_blocks-relinked : (new : Option ℕ) → (tables_after (relinked t inode blockno new) t).inode_blocks ≡ links_after new
  inode_blocks-relinked new = by_link new (inode_block_at t inode blockno) refl
    where
      by_link : (new : Option ℕ) (found : Option InodeBlock) → inode_block_at t inode blockno ≡ found
          → (tables_after (link_replaced t inode blockno new found) t).inode_blocks ≡ links_after new
      by_link None None is = sym (without_none by_spot (inode, blockno) t.inode_blocks (ap is_some is))
      by_link (Some block) None is = refl
      by_link None (Some old) is = inode_blocks-lowered t (links_after None) (block_at t old.block)
      by_link (Some block) (Some old) is = inode_blocks-lowered t (links_after (Some block)) (block_at t old.block)

  -- a block keeps its form if it is not the one that goes with its last place
  form_of_row-relinked : (new : Option ℕ) (id : ℕ)
      → ((old : InodeBlock) (b : Block) → inode_block_at t inode blockno ≡ Some old → block_at t old.block ≡ Some b → b.refcount ≡ 1 → (id == b.id) ≡ false)
      → option_map form_of_row (block_at (tables_after (relinked t inode blockno new) t) id) ≡ option_map form_of_row (block_at t id)
  form_of_row-relinked new id spared = by_link new (inode_block_at t inode blockno) refl
    where
      by_link : (new : Option ℕ) (found : Option InodeBlock) → inode_block_at t inode blockno ≡ found
          → option_map form_of_row (block_at (tables_after (link_replaced t inode blockno new found) t) id) ≡ option_map form_of_row (block_at t id)
      by_link None None is = refl
      by_link (Some block) None is = refl
      by_link None (Some old) is = form_of_row-lowered t (links_after None) old.block id (λ b. spared old b is)
      by_link (Some block) (Some old) is = form_of_row-lowered t (links_after (Some block)) old.block id (λ b. spared old b is)

  -- another place keeps its row
  inode_block_at-relinked_other : (new : Option ℕ) (other number : ℕ) → is_eq (pair_cmp (other, number) (inode, blockno)) ≡ false
      → inode_block_at (tables_after (relinked t inode blockno new) t) other number ≡ inode_block_at t other number
  inode_block_at-relinked_other new other number apart = ap (row_at by_spot (other, number)) (inode_blocks-relinked new) ∙ by_new new
    where
      by_new : (new : Option ℕ) → row_at by_spot (other, number) (links_after new) ≡ row_at by_spot (other, number) t.inode_blocks
      by_new None =
          row_at-without_other by_spot pair_cmp_total (inode, blockno) (other, number) t.inode_blocks
          (is_eq-pair_cmp_back (other, number) (inode, blockno) apart)
      by_new (Some block) =
          row_at-put_other by_spot pair_cmp_total (other, number) (record { inode = inode; blockno = blockno; block = block }) t.inode_blocks apart

  -- a place that names none has no form
  pub form_at-relinked_none : form_at (tables_after (relinked t inode blockno None) t) inode blockno ≡ None
  form_at-relinked_none =
      let after : Tables = tables_after (relinked t inode blockno None) t in
      ap (option_and_then (λ (l : InodeBlock). option_map form_of_row (block_at after l.block)))
      (ap (row_at by_spot (inode, blockno)) (inode_blocks-relinked None) ∙ row_at-without_same by_spot pair_cmp_total (inode, blockno) t.inode_blocks)

-- a place whose row stays keeps its form where the block of the row does
form_at_from_row : (t after : Tables) (other number : ℕ) → inode_block_at after other number ≡ inode_block_at t other number
    → ((l : InodeBlock) → inode_block_at t other number ≡ Some l → option_map form_of_row (block_at after l.block) ≡ option_map form_of_row (block_at t l.block))
    → form_at after other number ≡ form_at t other number
form_at_from_row t after other number same each =
    ap (option_and_then (λ (l : InodeBlock). option_map form_of_row (block_at after l.block))) same ∙ by_row (inode_block_at t other number) each
  where
    by_row : (found : Option InodeBlock)
        → ((l : InodeBlock) → found ≡ Some l → option_map form_of_row (block_at after l.block) ≡ option_map form_of_row (block_at t l.block))
        → option_and_then (λ (l : InodeBlock). option_map form_of_row (block_at after l.block)) found
        ≡ option_and_then (λ (l : InodeBlock). option_map form_of_row (block_at t l.block)) found
    by_row None of_row = refl
    by_row (Some l) of_row = of_row l refl

-- ---- a block that goes with its last place is named by no other place, and is not owed

module _ (t : Tables) (p : Parameters) (owed : List ℕ) (o : OwesPlaces t p owed) (inode blockno : ℕ) (old : InodeBlock) (b : Block) (named : inode_block_at t inode blockno ≡ Some old)
    (there : block_at t old.block ≡ Some b) (last : b.refcount ≡ 1) where
  abbrev names_it : InodeBlock → Bool
  names_it l = l.block == b.id

  abbrev others : List InodeBlock
  others = without by_spot (inode, blockno) t.inode_blocks

  counted : b.refcount ≡ listed_block_count t b.id + times b.id owed
  counted =
      eqb-true b.refcount (listed_block_count t b.id + times b.id owed)
      (and_parts (b.refcount == listed_block_count t b.id + times b.id owed) (nat_le 1 b.refcount)
      (row_at_passes by_block (owes_places t owed) old.block t.blocks b o.counts there)).0

  listed : 1 + count_by names_it others ≡ listed_block_count t b.id
  listed =
      let own : cond (names_it old) 1 0 ≡ 1 = ap (λ x. cond x 1 0) (eq-eqb old.block b.id (block_at_id t old.block b there)) in
      ap (λ n. n + count_by names_it others) (sym own)
      ∙ count_by-without_there by_spot pair_cmp_total names_it (inode, blockno) old t.inode_blocks o.ordered.inode_blocks named

  not_owed : times b.id owed ≡ 0
  not_owed = omega (arith, counted, listed, last)

  not_named : count_by names_it others ≡ 0
  not_named = omega (arith, counted, listed, last)

  gone_is_not_owed : (id : ℕ) → IsTrue (is_owed owed id) → (id == b.id) ≡ false
  gone_is_not_owed id owes =
      ne_eqb id b.id
      (λ same. let clash : true ≡ false = sym owes ∙ ap (is_owed owed) same ∙ list_any_from_count_by (λ x. x == b.id) owed not_owed in
      cc clash)

  gone_is_not_named : (other number : ℕ) (l : InodeBlock) → is_eq (pair_cmp (other, number) (inode, blockno)) ≡ false → inode_block_at t other number ≡ Some l
      → (l.block == b.id) ≡ false
  gone_is_not_named other number l apart is =
      false_from_not (names_it l)
      (row_at_passes by_spot (λ (x : InodeBlock). not (names_it x)) (other, number) others l
      (list_all_from_list_any names_it others (ap not (list_any_from_count_by names_it others not_named)))
      (row_at-without_other by_spot pair_cmp_total (inode, blockno) (other, number) t.inode_blocks (is_eq-pair_cmp_back (other, number) (inode, blockno) apart) ∙ is))

-- ---- the forms after a relink

module _ (t : Tables) (p : Parameters) (owed : List ℕ) (o : OwesPlaces t p owed) (inode blockno : ℕ) where
  -- what is owed keeps its form
  pub form_of_row-relinked_owed : (new : Option ℕ) (id : ℕ) → IsTrue (is_owed owed id)
      → option_map form_of_row (block_at (tables_after (relinked t inode blockno new) t) id) ≡ option_map form_of_row (block_at t id)
  form_of_row-relinked_owed new id owes =
      form_of_row-relinked t inode blockno new id (λ old b named there last. gone_is_not_owed t p owed o inode blockno old b named there last id owes)

  -- and so do all other places
  pub form_at-relinked_other : (new : Option ℕ) (other number : ℕ) → is_eq (pair_cmp (other, number) (inode, blockno)) ≡ false
      → form_at (tables_after (relinked t inode blockno new) t) other number ≡ form_at t other number
  form_at-relinked_other new other number apart =
      form_at_from_row t (tables_after (relinked t inode blockno new) t) other number (inode_block_at-relinked_other t inode blockno new other number apart)
      (λ l is. form_of_row-relinked t inode blockno new l.block
      (λ old b named there last. gone_is_not_named t p owed o inode blockno old b named there last other number l apart is))

  -- the place has the form of the block that it names, which was owed
  pub form_at-relinked_same : (block : ℕ) → IsTrue (is_owed owed block)
      → form_at (tables_after (relinked t inode blockno (Some block)) t) inode blockno ≡ option_map form_of_row (block_at t block)
  form_at-relinked_same block owes =
      let after : Tables = tables_after (relinked t inode blockno (Some block)) t in
      ap (option_and_then (λ (l : InodeBlock). option_map form_of_row (block_at after l.block)))
      (ap (row_at by_spot (inode, blockno)) (inode_blocks-relinked t inode blockno (Some block))
      ∙ row_at-put_same by_spot pair_cmp_total (record { inode = inode; blockno = blockno; block = block }) t.inode_blocks)
      ∙ form_of_row-relinked_owed (Some block) block owes

-- ---- what is owed with one more

pub is_owed_first : (id : ℕ) (owed : List ℕ) → IsTrue (is_owed (id ∷ owed) id)
is_owed_first id owed = ap (λ x. x || is_owed owed id) (eq-eqb id id refl)

pub is_owed_more : (first : ℕ) (owed : List ℕ) (id : ℕ) → IsTrue (is_owed owed id) → IsTrue (is_owed (first ∷ owed) id)
is_owed_more first owed id owes = or_right (first == id) (is_owed owed id) owes

-- The forms of blocks where one counts one place more or less, comes, or goes.
use Rattle.std.proofs.Common.{◌≡◌, ℕ, ◌+◌, ◌-◌, ◌^◌, ◌<◌, List, [], ◌∷◌, Bool, true, false, cond, not, Option, None, Some, IsTrue, refl, sym, ap, ◌∙◌, arith, eq-eqb, eqb-true, ne_eqb, ltb-true}
use Rattle.std.specs.Prelude.{◌==◌, is_some, nat_lt, option_map}
use Rattle.std.specs.List.{list_all}
use Rattle.std.specs.FinMap.{nat_cmp-IsAntisymmetric}
use Rattle.std.proofs.lemmas.Cmp.{nat_cmp_total}
use Rattle.std.proofs.lemmas.Bool.{and_parts}
use Rattle.s3_rows.specs.declared.change.Change.{Change}
use Rattle.s3_rows.specs.declared.change.Change.TheVariants as changes
use Rattle.s3_rows.specs.declared.digest.Digest.{Digest}
use Rattle.s3_rows.specs.Rows.{InodeBlock, Block, Object, Parameters}
use Rattle.s3_rows.specs.Keyed.{has_key, put, row_at, without}
use Rattle.s3_rows.specs.Tables.{Tables, by_block}
use Rattle.s3_rows.specs.Batches.{after_change, tables_after}
use Rattle.s3_rows.specs.Selections.{block_at, object_at}
use Rattle.s3_rows.specs.Validity.{finds_of_inode_block, has_inode, is_regular}
use Rattle.row_lemmas.proofs.Tests.{is_eq-nat_cmp, list_all_weaker}
use Rattle.row_lemmas.proofs.Keyed.RowAt.{row_at_key, row_at_passes}
use Rattle.row_lemmas.proofs.Keyed.Put.{row_at-put, row_at-put_same, row_at-put_other}
use Rattle.row_lemmas.proofs.Keyed.Without.{row_at-without_other}
use Rattle.tree_rows.specs.Spots.{form_at, form_of_row}
use Rattle.core_model.proofs.LinkedForms.{form_at-put_block, form_at-put_same_form}
use Rattle.ref_counts.specs.Links.{counted_block, lowered_block, lowered_object}
use Rattle.block_steps.specs.Owed.{OwesPlaces}
use Rattle.block_steps.specs.Places.{block_drawn, block_made}

-- ---- rows of blocks

-- a block that is found has the number
pub block_at_id : (t : Tables) (id : ℕ) (b : Block) → block_at t id ≡ Some b → id ≡ b.id
block_at_id t id b there = nat_cmp-IsAntisymmetric id b.id (row_at_key by_block id t.blocks b there)

-- and is found by its own
pub block_at_own : (t : Tables) (id : ℕ) (b : Block) → block_at t id ≡ Some b → block_at t b.id ≡ Some b
block_at_own t id b there = ap (block_at t) (sym (block_at_id t id b there)) ∙ there

module _ (blocks : List Block) where
  -- a row of the same form in place of one changes no form
  pub form_of_row-put_same : (r : Block) (id : ℕ) → option_map form_of_row (row_at by_block r.id blocks) ≡ Some (form_of_row r)
      → option_map form_of_row (row_at by_block id (put by_block r blocks)) ≡ option_map form_of_row (row_at by_block id blocks)
  form_of_row-put_same r id same = ap (option_map form_of_row) (row_at-put by_block nat_cmp_total id r blocks) ∙ by_test (has_key by_block id r) refl
    where
      by_test : (x : Bool) → has_key by_block id r ≡ x
          → option_map form_of_row (cond x (Some r) (row_at by_block id blocks)) ≡ option_map form_of_row (row_at by_block id blocks)
      by_test true is =
          let own : id ≡ r.id = eqb-true id r.id (sym (is_eq-nat_cmp id r.id) ∙ is) in
          sym same ∙ ap (λ n. option_map form_of_row (row_at by_block n blocks)) (sym own)
      by_test false is = refl

  -- and a row that goes changes that of no other number
  pub form_of_row-without_other : (gone id : ℕ) → (gone == id) ≡ false
      → option_map form_of_row (row_at by_block id (without by_block gone blocks)) ≡ option_map form_of_row (row_at by_block id blocks)
  form_of_row-without_other gone id other =
      ap (option_map form_of_row) (row_at-without_other by_block nat_cmp_total gone id blocks (is_eq-nat_cmp gone id ∙ other))

-- ---- a block that counts one place more

module _ (t : Tables) (b : Block) where
  abbrev more_counted : ℕ → Block
  more_counted n = record b { refcount = n }

  changes_of_counted : (more : List Change) → counted_block (Some b) ≡ Some more → more ≡ changes.PutBlock (more_counted (b.refcount + 1)) ∷ []
  changes_of_counted more is = by_test (nat_lt (b.refcount + 1) (2 ^ 62)) is
    where
      by_test : (x : Bool) → cond x (Some (changes.PutBlock (more_counted (b.refcount + 1)) ∷ [])) None ≡ Some more
          → more ≡ changes.PutBlock (more_counted (b.refcount + 1)) ∷ []
      by_test true same =
          let own : changes.PutBlock (more_counted (b.refcount + 1)) ∷ [] ≡ more = cc same in
          sym own
      by_test false same = absurd (cc same)

  pub form_at-counted : (more : List Change) (inode blockno : ℕ) → block_at t b.id ≡ Some b → counted_block (Some b) ≡ Some more
      → form_at (tables_after more t) inode blockno ≡ form_at t inode blockno
  form_at-counted more inode blockno there is =
      ap (λ cs. form_at (tables_after cs t) inode blockno) (changes_of_counted more is)
      ∙ form_at-put_same_form t (more_counted (b.refcount + 1)) inode blockno (ap (option_map form_of_row) there)

  pub form_of_row-counted : (more : List Change) (id : ℕ) → block_at t b.id ≡ Some b → counted_block (Some b) ≡ Some more
      → option_map form_of_row (block_at (tables_after more t) id) ≡ option_map form_of_row (block_at t id)
  form_of_row-counted more id there is =
      ap (λ cs. option_map form_of_row (block_at (tables_after cs t) id)) (changes_of_counted more is)
      ∙ form_of_row-put_same t.blocks (more_counted (b.refcount + 1)) id (ap (option_map form_of_row) there)

-- ---- a block that comes

module _ (t : Tables) (p : Parameters) (object size : ℕ) (digest : Digest) where
  -- the tables before its row is put, and the row
  abbrev drawn : Tables
  drawn = after_change (changes.PutObject (record { id = object; refcount = 1; size = Some size })) (after_change (changes.SetParams (block_drawn p)) t)

  abbrev made : Block
  made = record { id = p.next_block; digest = digest; refcount = 1; size = size; object = object }

  pub form_of_row-made_own : option_map form_of_row (block_at (tables_after (block_made p object digest size) t) p.next_block) ≡ Some (digest.0, size)
  form_of_row-made_own = ap (option_map form_of_row) (row_at-put_same by_block nat_cmp_total made t.blocks)

  module _ (owed : List ℕ) (o : OwesPlaces t p owed) where
    -- no block has the next number
    next_is_free : (id : ℕ) → IsTrue (is_some (block_at t id)) → (id == p.next_block) ≡ false
    next_is_free id there = by_row (block_at t id) refl there
      where
        by_row : (found : Option Block) → block_at t id ≡ found → IsTrue (is_some found) → (id == p.next_block) ≡ false
        by_row None is some = absurd (cc some)
        by_row (Some b) is some =
            let own : id ≡ b.id = block_at_id t id b is in
            let less : b.id < p.next_block =
            ltb-true b.id p.next_block (row_at_passes by_block (λ r. nat_lt r.id p.next_block) id t.blocks b o.free.blocks is) in
            ne_eqb id p.next_block (λ same. omega arith)

    -- so no place names it
    next_is_unnamed : IsTrue (list_all (λ (l : InodeBlock). not (l.block == p.next_block)) t.inode_blocks)
    next_is_unnamed =
        list_all_weaker (finds_of_inode_block t) (λ (l : InodeBlock). not (l.block == p.next_block))
        (λ l found. ap not (next_is_free l.block (and_parts (has_inode is_regular t l.inode) (is_some (block_at t l.block)) found).1))
        t.inode_blocks o.rows.inode_blocks

    pub form_at-made : (inode blockno : ℕ) → form_at (tables_after (block_made p object digest size) t) inode blockno ≡ form_at t inode blockno
    form_at-made inode blockno = form_at-put_block drawn made inode blockno next_is_unnamed

    pub form_of_row-made_other : (id : ℕ) → IsTrue (is_some (block_at t id))
        → option_map form_of_row (block_at (tables_after (block_made p object digest size) t) id) ≡ option_map form_of_row (block_at t id)
    form_of_row-made_other id there =
        ap (option_map form_of_row) (row_at-put_other by_block nat_cmp_total id made t.blocks (is_eq-nat_cmp id p.next_block ∙ next_is_free id there))

-- ---- a block that counts one place less

module _ (t : Tables) (links : List InodeBlock) where
  -- the tables with other places
  abbrev with_links : Tables
  with_links = record t { inode_blocks = links }

  -- its object keeps places and blocks
  links-lowered_object : (u : Tables) (found : Option Object) → (tables_after (lowered_object found) u).inode_blocks ≡ u.inode_blocks
  links-lowered_object u None = refl
  links-lowered_object u (Some o) = refl

  blocks-lowered_object : (u : Tables) (found : Option Object) → (tables_after (lowered_object found) u).blocks ≡ u.blocks
  blocks-lowered_object u None = refl
  blocks-lowered_object u (Some o) = refl

  abbrev less_counted : Block → Block
  less_counted b = record b { refcount = b.refcount - 1 }

  -- places stay
  pub inode_blocks-lowered : (found : Option Block) → (tables_after (lowered_block t found) (record t { inode_blocks = links })).inode_blocks ≡ links
  inode_blocks-lowered None = refl
  inode_blocks-lowered (Some b) = by_count (b.refcount == 1)
    where
      by_count : (x : Bool)
          → (tables_after (cond x (changes.DeleteBlock b.id ∷ lowered_object (object_at t b.object)) (changes.PutBlock (less_counted b) ∷ [])) with_links).inode_blocks ≡ links
      by_count true = links-lowered_object (after_change (changes.DeleteBlock b.id) with_links) (object_at t b.object)
      by_count false = refl

  -- and so do the forms of all blocks but one that goes
  pub form_of_row-lowered : (old id : ℕ) → ((b : Block) → block_at t old ≡ Some b → b.refcount ≡ 1 → (id == b.id) ≡ false)
      → option_map form_of_row (block_at (tables_after (lowered_block t (block_at t old)) (record t { inode_blocks = links })) id) ≡ option_map form_of_row (block_at t id)
  form_of_row-lowered old id spared = by_row (block_at t old) refl
    where
      by_count : (b : Block) → block_at t old ≡ Some b → (x : Bool) → (b.refcount == 1) ≡ x
          → option_map form_of_row (block_at (tables_after (cond x (changes.DeleteBlock b.id ∷ lowered_object (object_at t b.object)) (changes.PutBlock (less_counted b) ∷ [])) with_links) id)
          ≡ option_map form_of_row (block_at t id)
      by_count b is true last =
          let apart : id ≡ b.id → ⊥ =
          λ same. let clash : true ≡ false = sym (eq-eqb id b.id same) ∙ spared b is (eqb-true b.refcount 1 last) in
          cc clash in
          ap (λ (rows : List Block). option_map form_of_row (row_at by_block id rows))
          (blocks-lowered_object (after_change (changes.DeleteBlock b.id) with_links) (object_at t b.object))
          ∙ form_of_row-without_other t.blocks b.id id (ne_eqb b.id id (λ same. apart (sym same)))
      by_count b is false more = form_of_row-put_same t.blocks (less_counted b) id (ap (option_map form_of_row) (block_at_own t old b is))

      by_row : (found : Option Block) → block_at t old ≡ found
          → option_map form_of_row (block_at (tables_after (lowered_block t found) with_links) id) ≡ option_map form_of_row (block_at t id)
      by_row None is = refl
      by_row (Some b) is = by_count b is (b.refcount == 1) refl

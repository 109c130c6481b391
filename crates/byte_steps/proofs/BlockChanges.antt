-- Changes of blocks: what is one, and that a put of an inode makes the same of tables before and after them.
use Rattle.std.proofs.Common.{◌≡◌, ℕ, ◌+◌, ◌-◌, List, [], ◌∷◌, ◌++◌, Bool, true, false, cond, Option, None, Some, IsTrue, refl, sym, ap, ◌∙◌}
use Rattle.std.specs.Prelude.{◌==◌, ◌^◌, nat_lt}
use Rattle.std.specs.List.{list_all}
use Rattle.std.proofs.lemmas.Bool.{and_from, and_parts}
use Rattle.std.proofs.lemmas.List.Folds.{list_all-append}
use Rattle.s3_rows.specs.declared.change.Change.{Change}
use Rattle.s3_rows.specs.declared.change.Change.TheVariants as changes
use Rattle.s3_rows.specs.Rows.{Block, Inode, InodeBlock, Object}
use Rattle.s3_rows.specs.Tables.{Tables}
use Rattle.s3_rows.specs.Batches.{after_change, tables_after}
use Rattle.s3_rows.specs.Selections.{block_at, inode_block_at, object_at}
use Rattle.ref_counts.specs.Links.{counted_block, link_replaced, link_set, lowered_block, lowered_object, places_dropped, relinked}
use Rattle.byte_steps.specs.BlockChanges.{is_of_blocks}
use Rattle.block_steps.specs.Places.{Places, places_relinked}

-- ---- is_of_blocks

pub list_all_is_of_blocks-append : (first second : List Change) → IsTrue (list_all is_of_blocks first) → IsTrue (list_all is_of_blocks second)
    → IsTrue (list_all is_of_blocks (first ++ second))
list_all_is_of_blocks-append first second one two =
    list_all-append is_of_blocks first second ∙ and_from (list_all is_of_blocks first) (list_all is_of_blocks second) one two

pub is_of_blocks-counted : (b : Block) (more : List Change) → counted_block (Some b) ≡ Some more → IsTrue (list_all is_of_blocks more)
is_of_blocks-counted b more is = by_case (nat_lt (b.refcount + 1) (2 ^ 62)) is
  where
    by_case : (c : Bool) → cond c (Some (changes.PutBlock (record b { refcount = b.refcount + 1 }) ∷ [])) None ≡ Some more → IsTrue (list_all is_of_blocks more)
    by_case true made =
        let same : changes.PutBlock (record b { refcount = b.refcount + 1 }) ∷ [] ≡ more = cc made in
        sym (ap (list_all is_of_blocks) same)
    by_case false made = absurd (cc made)

is_of_blocks-lowered_object : (found : Option Object) → IsTrue (list_all is_of_blocks (lowered_object found))
is_of_blocks-lowered_object None = refl
is_of_blocks-lowered_object (Some o) = refl

is_of_blocks-lowered_block : (t : Tables) (found : Option Block) → IsTrue (list_all is_of_blocks (lowered_block t found))
is_of_blocks-lowered_block t None = refl
is_of_blocks-lowered_block t (Some b) = by_count (b.refcount == 1)
  where
    by_count : (last : Bool)
        → IsTrue (list_all is_of_blocks (cond last (changes.DeleteBlock b.id ∷ lowered_object (object_at t b.object)) (changes.PutBlock (record b { refcount = b.refcount - 1 }) ∷ [])))
    by_count true = is_of_blocks-lowered_object (object_at t b.object)
    by_count false = refl

pub is_of_blocks-relinked : (t : Tables) (inode blockno : ℕ) (block : Option ℕ) → IsTrue (list_all is_of_blocks (relinked t inode blockno block))
is_of_blocks-relinked t inode blockno block = by_place (inode_block_at t inode blockno) block
  where
    by_place : (found : Option InodeBlock) (new : Option ℕ) → IsTrue (list_all is_of_blocks (link_replaced t inode blockno new found))
    by_place None None = refl
    by_place None (Some id) = refl
    by_place (Some old) None = is_of_blocks-lowered_block t (block_at t old.block)
    by_place (Some old) (Some id) = is_of_blocks-lowered_block t (block_at t old.block)

pub is_of_blocks-places_relinked : (inode : ℕ) (places : Places) (t : Tables) → IsTrue (list_all is_of_blocks (places_relinked inode places t))
is_of_blocks-places_relinked inode [] t = refl
is_of_blocks-places_relinked inode (place ∷ places) t =
    let first = relinked t inode place.0 place.1 in
    list_all_is_of_blocks-append first (places_relinked inode places (tables_after first t)) (is_of_blocks-relinked t inode place.0 place.1)
    (is_of_blocks-places_relinked inode places (tables_after first t))

pub is_of_blocks-places_dropped : (rows : List InodeBlock) (t : Tables) → IsTrue (list_all is_of_blocks (places_dropped rows t))
is_of_blocks-places_dropped [] t = refl
is_of_blocks-places_dropped (r ∷ rs) t =
    let first = relinked t r.inode r.blockno None in
    list_all_is_of_blocks-append first (places_dropped rs (tables_after first t)) (is_of_blocks-relinked t r.inode r.blockno None)
    (is_of_blocks-places_dropped rs (tables_after first t))

-- ---- after a put of an inode

module _ (new : Inode) where
  abbrev put_in : Tables → Tables
  put_in t = after_change (changes.PutInode new) t

  after_change-put_inode : (t : Tables) (c : Change) → IsTrue (is_of_blocks c) → after_change c (put_in t) ≡ put_in (after_change c t)
  after_change-put_inode t (changes.PutInodeBlock r) is = refl
  after_change-put_inode t (changes.DeleteInodeBlock inode blockno) is = refl
  after_change-put_inode t (changes.PutBlock r) is = refl
  after_change-put_inode t (changes.DeleteBlock id) is = refl
  after_change-put_inode t (changes.PutObject r) is = refl
  after_change-put_inode t (changes.DeleteObject id) is = refl
  after_change-put_inode t (changes.SetParams p) is = refl
  after_change-put_inode t (changes.PutInode r) is = absurd (cc is)
  after_change-put_inode t (changes.DeleteInode id) is = absurd (cc is)
  after_change-put_inode t (changes.PutName r) is = absurd (cc is)
  after_change-put_inode t (changes.DeleteName id) is = absurd (cc is)
  after_change-put_inode t (changes.PutContent r) is = absurd (cc is)
  after_change-put_inode t (changes.DeleteContent parent name_id) is = absurd (cc is)
  after_change-put_inode t (changes.PutTarget r) is = absurd (cc is)
  after_change-put_inode t (changes.DeleteTarget inode) is = absurd (cc is)
  after_change-put_inode t (changes.PutAttr r) is = absurd (cc is)
  after_change-put_inode t (changes.DeleteAttr inode name_id) is = absurd (cc is)
  after_change-put_inode t (changes.PutSlot r) is = absurd (cc is)
  after_change-put_inode t (changes.DeleteSlot slot) is = absurd (cc is)

  -- changes of blocks make the same of tables after the put
  pub tables_after-put_inode : (t : Tables) (more : List Change) → IsTrue (list_all is_of_blocks more) → tables_after more (put_in t) ≡ put_in (tables_after more t)
  tables_after-put_inode t [] all = refl
  tables_after-put_inode t (c ∷ cs) all =
      let parts = and_parts (is_of_blocks c) (list_all is_of_blocks cs) all in
      ap (tables_after cs) (after_change-put_inode t c parts.0) ∙ tables_after-put_inode (after_change c t) cs parts.1

  -- a place needs the same changes after the put
  pub relinked-put_inode : (t : Tables) (inode blockno : ℕ) (block : Option ℕ) → relinked (put_in t) inode blockno block ≡ relinked t inode blockno block
  relinked-put_inode t inode blockno block = by_place (inode_block_at t inode blockno)
    where
      by_block : (found : Option Block) → lowered_block (put_in t) found ≡ lowered_block t found
      by_block None = refl
      by_block (Some b) = refl

      by_place : (found : Option InodeBlock) → link_replaced (put_in t) inode blockno block found ≡ link_replaced t inode blockno block found
      by_place None = refl
      by_place (Some old) = ap (λ (cs : List Change). link_set inode blockno block ∷ cs) (by_block (block_at t old.block))

  now_same : (t : Tables) (inode blockno : ℕ) (block : Option ℕ)
      → tables_after (relinked (put_in t) inode blockno block) (put_in t) ≡ put_in (tables_after (relinked t inode blockno block) t)
  now_same t inode blockno block =
      ap (λ (cs : List Change). tables_after cs (put_in t)) (relinked-put_inode t inode blockno block)
      ∙ tables_after-put_inode t (relinked t inode blockno block) (is_of_blocks-relinked t inode blockno block)

  -- and so do many
  pub places_relinked-put_inode : (inode : ℕ) (places : Places) (t : Tables) → places_relinked inode places (put_in t) ≡ places_relinked inode places t
  places_relinked-put_inode inode [] t = refl
  places_relinked-put_inode inode (place ∷ places) t =
      let first = relinked t inode place.0 place.1 in
      let rest : places_relinked inode places (tables_after (relinked (put_in t) inode place.0 place.1) (put_in t)) ≡ places_relinked inode places (tables_after first t) =
      ap (places_relinked inode places) (now_same t inode place.0 place.1) ∙ places_relinked-put_inode inode places (tables_after first t) in
      λ i. (relinked-put_inode t inode place.0 place.1) i ++ rest i

  pub places_dropped-put_inode : (rows : List InodeBlock) (t : Tables) → places_dropped rows (put_in t) ≡ places_dropped rows t
  places_dropped-put_inode [] t = refl
  places_dropped-put_inode (r ∷ rs) t =
      let first = relinked t r.inode r.blockno None in
      let rest : places_dropped rs (tables_after (relinked (put_in t) r.inode r.blockno None) (put_in t)) ≡ places_dropped rs (tables_after first t) =
      ap (places_dropped rs) (now_same t r.inode r.blockno None) ∙ places_dropped-put_inode rs (tables_after first t) in
      λ i. (relinked-put_inode t r.inode r.blockno None) i ++ rest i

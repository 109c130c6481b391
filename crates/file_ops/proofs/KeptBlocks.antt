-- What holds of all block rows, and of the new ones, holds of them once blocks are placed.
use Rattle.std.proofs.Common.{◌≡◌, ℕ, List, [], ◌∷◌, ◌++◌, length, true, cond, Option, None, Some, refl, sym, ap, ◌∙◌, subst, eqb-true}
use Rattle.std.specs.Prelude.{option_map}
use Rattle.std.specs.Ordering.{is_eq}
use Rattle.std.specs.declared.cmp.Ordering.{Ordering}
use Rattle.std.specs.declared.cmp.Ordering.TheVariants.{Less, Equal, Greater}
use Rattle.s3_rows.specs.declared.change.Change.{Change}
use Rattle.s3_rows.specs.Rows.{Block, Parameters}
use Rattle.s3_rows.specs.Stores.{AreHeld}
use Rattle.s3_rows.specs.Keyed.{put}
use Rattle.s3_rows.specs.Tables.{Tables, IsOrdered, by_block}
use Rattle.s3_rows.specs.Batches.{tables_after}
use Rattle.s3_rows.specs.Selections.{block_at}
use Rattle.row_lemmas.proofs.Tables.{IsOrdered-tables_after, tables_after-tables_after}
use Rattle.row_lemmas.proofs.Tests.{is_eq-nat_cmp}
use Rattle.row_lemmas.proofs.Keyed.RowAt.{row_at_key}
use Rattle.tree_rows.specs.Contents.{Contents, HaveBytes, bytes_of}
use Rattle.core_model.specs.Safe.{HaveHeld, Held}
use Rattle.core_model.specs.Occurring.{Knows, is_stored}
use Rattle.ref_counts.specs.Links.{counted_block, AreRowsOf}
use Rattle.block_steps.specs.Places.{block_made}
use Rattle.file_ops.specs.declared.new_block.NewBlock.{NewBlock}
use Rattle.file_ops.specs.declared.place.Place.{Place}
use Rattle.file_ops.specs.declared.place.Place.TheVariants as places
use Rattle.file_ops.specs.Placed.{KnowsBlocks, place_counted, places_counted, with_next_block}
use Rattle.file_ops.specs.Resolved.{digest_for, known_or_new, known_row, new_row, next_after, place_for, resolved}
use Rattle.file_ops.proofs.CountedPlaces.{CountLaws}
use Rattle.file_ops.proofs.PlacedBlocks.{counted_split}

-- the laws of block rows that are those that were there
pub record KeptLaws : Type 0 where
  pub known : (m : Contents) (t after : Tables) → IsOrdered t → IsOrdered after → AreRowsOf t after → HaveBytes m t.blocks → HaveBytes m after.blocks
  pub held : (m : Contents) (held : Held) (t after : Tables) → IsOrdered t → IsOrdered after → AreRowsOf t after → HaveHeld m held t.blocks → HaveHeld m held after.blocks
  pub stored : (digest_of : List ℕ → List ℕ) (held : Held) (t after : Tables) → IsOrdered t → IsOrdered after → AreRowsOf t after
      → AreHeld digest_of held t.blocks → AreHeld digest_of held after.blocks

-- each new block's row is so
abbrev pub AreNewOk : (Block → Type 0) → List Place → Type 0
AreNewOk Ok [] = Unit {0}
AreNewOk Ok (places.Zeros ∷ xs) = AreNewOk Ok xs
AreNewOk Ok (places.Known r ∷ xs) = AreNewOk Ok xs
AreNewOk Ok (places.New r ∷ xs) = Ok (record r { refcount = 1 }) × AreNewOk Ok xs

module _ (laws : CountLaws) (Q : List Block → Type 0) (Ok : Block → Type 0)
    (keeps : (t after : Tables) → IsOrdered t → IsOrdered after → AreRowsOf t after → Q t.blocks → Q after.blocks)
    (puts : (r : Block) (rows : List Block) → Ok r → Q rows → Q (put by_block r rows)) (p : Parameters) where
  counted_one : (r : Block) (u : Tables) (one : List Change) → counted_block (block_at u r.id) ≡ Some one → IsOrdered u → Q u.blocks → Q (tables_after one u).blocks
  counted_one r u one is o all = by_case (block_at u r.id) refl is
    where
      by_case : (found : Option Block) → block_at u r.id ≡ found → counted_block found ≡ Some one → Q (tables_after one u).blocks
      by_case None at counts = absurd (cc counts)
      by_case (Some b) at counts =
          let own : r.id ≡ b.id = eqb-true r.id b.id (sym (is_eq-nat_cmp r.id b.id) ∙ ap is_eq (row_at_key by_block r.id u.blocks b at)) in
          let here : block_at u b.id ≡ Some b = ap (block_at u) (sym own) ∙ at in
          keeps u (tables_after one u) o (IsOrdered-tables_after one u o) (laws.counted_rows u b one here counts) all

  pub counted_keeps : (xs : List Place) (u : Tables) (more : List Change) → places_counted p xs u ≡ Some more → IsOrdered u → AreNewOk Ok xs → Q u.blocks
      → Q (tables_after more u).blocks
  counted_keeps [] u more is o ok all = let none : [] ≡ more = cc is in subst (λ (cs : List Change). Q (tables_after cs u).blocks) none all
  counted_keeps (x ∷ xs) u more is o ok all =
      let s = counted_split p x xs u more is in
      let v = tables_after s.one u in
      let here = by_place x s.one s.first ok in
      let later = counted_keeps xs v s.rest s.others (IsOrdered-tables_after s.one u o) here.1 here.0 in
      subst (λ (w : Tables). Q w.blocks) (tables_after-tables_after s.one s.rest u ∙ ap (λ (cs : List Change). tables_after cs u) (sym s.whole)) later
    where
      by_place : (y : Place) (one : List Change) → place_counted p y u ≡ Some one → AreNewOk Ok (y ∷ xs) → Q (tables_after one u).blocks × AreNewOk Ok xs
      by_place places.Zeros one first good = let none : [] ≡ one = cc first in (subst (λ (cs : List Change). Q (tables_after cs u).blocks) none all, good)
      by_place (places.Known r) one first good = (counted_one r u one first o all, good)
      by_place (places.New r) one first good =
          let same : block_made (with_next_block r.id p) r.object r.digest r.size ≡ one = cc first in
          (subst (λ (cs : List Change). Q (tables_after cs u).blocks) same (puts (record r { refcount = 1 }) u.blocks good.0 all), good.1)

-- ---- bytes

-- the contents have the bytes of a row's digest, as many as its size
abbrev pub HasItsBytes : Contents → Block → Type 0
HasItsBytes m r = option_map length (bytes_of m r.digest.0) ≡ Some r.size

pub HaveBytes-put : (m : Contents) (r : Block) (rows : List Block) → HasItsBytes m r → HaveBytes m rows → HaveBytes m (put by_block r rows)
HaveBytes-put m r [] own all = (own, tt)
HaveBytes-put m r (x ∷ xs) own all = by_case (by_block.compare r.id x.id) (HaveBytes-put m r xs own all.1)
  where
    by_case : (c : Ordering) → HaveBytes m (put by_block r xs) → HaveBytes m (elim c [ Less ↦ r ∷ x ∷ xs | Equal ↦ r ∷ xs | Greater ↦ x ∷ put by_block r xs ])
    by_case Less later = (own, all)
    by_case Equal later = (own, all.1)
    by_case Greater later = (all.0, later)

pub HaveBytes-row : (m : Contents) (id : ℕ) (rows : List Block) (r : Block) (t : Tables) → t.blocks ≡ rows → HaveBytes m rows → block_at t id ≡ Some r → HasItsBytes m r
HaveBytes-row m id [] r t same all at = absurd (cc (sym (ap (λ (l : List Block). block_at (record t { blocks = l }) id) same) ∙ at))
HaveBytes-row m id (x ∷ xs) r t same all at =
    row_head (by_block.compare id x.id) (HaveBytes-row m id xs r (record t { blocks = xs }) refl all.1) (sym (ap (λ (l : List Block). block_at (record t { blocks = l }) id) same) ∙ at)
  where
    row_head : (c : Ordering) → (block_at (record t { blocks = xs }) id ≡ Some r → HasItsBytes m r) → cond (is_eq c) (Some x) (block_at (record t { blocks = xs }) id) ≡ Some r → HasItsBytes m r
    row_head Equal others is = let own : x ≡ r = cc is in subst (HasItsBytes m) own all.0
    row_head Less others is = others is
    row_head Greater others is = others is

-- new blocks whose bytes are known have them
module _ (digest_of : List ℕ → List ℕ) (m : Contents) (t : Tables) where
  one_new : (bytes : List ℕ) (before : List Place) (block object : ℕ) (xs : List Place) → (is_stored bytes ≡ true → Knows digest_of m bytes) → AreNewOk (HasItsBytes m) xs
      → AreNewOk (HasItsBytes m) (place_for digest_of t before block object bytes ∷ xs)
  one_new [] before block object xs knows ok = ok
  one_new (b ∷ bytes) before block object xs knows ok = by_row (known_row t before (digest_for digest_of (b ∷ bytes)))
    where
      by_row : (row : Option Block) → AreNewOk (HasItsBytes m) (known_or_new row (new_row digest_of block object (b ∷ bytes)) ∷ xs)
      by_row None = (ap (option_map length) (knows refl), ok)
      by_row (Some r) = ok

  pub new_have_bytes : (blocks : List NewBlock) (before : List Place) (block object : ℕ) → KnowsBlocks digest_of m blocks
      → AreNewOk (HasItsBytes m) (resolved digest_of t before block object blocks)
  new_have_bytes [] before block object knows = tt
  new_have_bytes (b ∷ bs) before block object knows =
      let x = place_for digest_of t before block object b.stored in
      one_new b.stored before block object (resolved digest_of t (before ++ x ∷ []) (next_after x block) (next_after x object) bs) knows.0
      (new_have_bytes bs (before ++ x ∷ []) (next_after x block) (next_after x object) knows.1)

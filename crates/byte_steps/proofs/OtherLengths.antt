-- Regular files that take another length: what is owed stays owed where all their places lie within it.
use Rattle.std.proofs.Common.{◌≡◌, ◌≤◌, ◌<◌, ℕ, ◌*◌, List, [], Bool, true, false, cond, not, Option, None, Some, IsTrue, refl, sym, ap, ◌∙◌, subst, arith, eq-eqb, eqb-true, leb-false, lt-ltb, ltb-true}
use Rattle.std.specs.Prelude.{◌==◌, ◌&&◌, ◌||◌, is_some, nat_le, nat_lt}
use Rattle.std.specs.List.{list_all}
use Rattle.std.specs.Cmp.{nat_cmp_total}
use Rattle.std.proofs.lemmas.Bool.{and_from, and_parts}
use Rattle.s3_base.specs.declared.node_kind.Kind.TheVariants as kinds
use Rattle.s3_rows.specs.declared.change.Change.TheVariants as changes
use Rattle.s3_rows.specs.Rows.{Inode, InodeBlock, Parameters}
use Rattle.s3_rows.specs.Keyed.{has_key, put, row_at}
use Rattle.s3_rows.specs.Tables.{Tables, by_inode}
use Rattle.s3_rows.specs.Batches.{after_change, tables_after}
use Rattle.s3_rows.specs.Selections.{block_at, inode_at}
use Rattle.s3_rows.specs.Validity.{finds_of_inode_block, has_inode, is_in_file, is_regular}
use Rattle.row_lemmas.proofs.ReplacedInode.{resized_valid}
use Rattle.row_lemmas.proofs.Tests.{list_all_weaker, list_all_weaker_both}
use Rattle.row_lemmas.proofs.Keyed.Put.{row_at-put}
use Rattle.ref_counts.specs.Links.{places_dropped, places_from}
use Rattle.block_steps.specs.Owed.{OwesPlaces}
use Rattle.block_steps.proofs.DebtsBlocks.{one_number}
use Rattle.block_steps.proofs.DebtsTables.{IsValid-OwesPlaces, OwesPlaces-IsValid, OwesPlaces-rows}
use Rattle.block_steps.proofs.DroppedPlaces.{KeepsNames-places_dropped, OwesPlaces-places_dropped, inode_blocks-places_from}

-- the place is of another file, or begins before the end
abbrev pub begins_within : Parameters → Inode → InodeBlock → Bool
begins_within p new l = not (l.inode == new.id) || nat_lt (l.blockno * p.block_size) new.size

-- what is told of a row, if there is one
abbrev told : (Inode → Bool) → Option Inode → Bool
told test found = elim found [ Some r ↦ test r | None ↦ false ]

-- tables without places, blocks and objects
abbrev bare : Tables → Tables
bare t = record t { inode_blocks = []; blocks = []; objects = [] }

module _ (t : Tables) (p : Parameters) (r new : Inode) (owed : List ℕ) (o : OwesPlaces t p owed) (found : inode_at t new.id ≡ Some r)
    (regular : r.kind ≡ kinds.Regular) (kind : new.kind ≡ r.kind) (refcount : new.refcount ≡ r.refcount) (no_slots : t.slots ≡ []) where
  abbrev after : Tables
  after = record t { inodes = put by_inode new t.inodes }

  bare_owes : OwesPlaces (bare t) p []
  bare_owes =
      OwesPlaces-rows t p owed o t.params p.next_block [] [] [] [] (record {
        made = o.made;
        rising_places = refl;
        rising_blocks = refl;
        rising_objects = refl;
        counts = refl;
        objects = refl;
        there = refl;
        found_blocks = refl;
        found_objects = refl;
        distinct = record { digests = refl; objects = refl; sizes = refl; within = refl };
        inside = refl;
        free_blocks = refl;
        free_objects = refl;
      })

  bare_after_owes : OwesPlaces (bare after) p []
  bare_after_owes =
      OwesPlaces-IsValid (bare after) p
      (resized_valid (bare t) r new (IsValid-OwesPlaces (bare t) p bare_owes) found kind refcount (kind ∙ regular) refl no_slots) o.made

  -- what is told of the rows stays told where it is told of the new row
  told_after : (test : Inode → Bool) (x : ℕ) → (x ≡ new.id → IsTrue (test new)) → IsTrue (told test (inode_at t x)) → IsTrue (told test (inode_at after x))
  told_after test x own before =
      subst (λ (row : Option Inode). IsTrue (told test row)) (sym (row_at-put by_inode nat_cmp_total x new t.inodes)) (by_case (has_key by_inode x new) refl)
    where
      by_case : (b : Bool) → has_key by_inode x new ≡ b → IsTrue (told test (cond b (Some new) (inode_at t x)))
      by_case true is = own (one_number x new.id is)
      by_case false is = before

  found_after : (l : InodeBlock) → IsTrue (finds_of_inode_block t l) → IsTrue (finds_of_inode_block after l)
  found_after l own =
      let parts = and_parts (has_inode is_regular t l.inode) (is_some (block_at t l.block)) own in
      and_from (has_inode is_regular after l.inode) (is_some (block_at t l.block))
      (told_after (λ (y : Inode). is_regular y.kind) l.inode (λ same. ap is_regular (kind ∙ regular)) parts.0) parts.1

  inside_after : (l : InodeBlock) → IsTrue (begins_within p new l) → IsTrue (is_in_file t p l.inode l.blockno) → IsTrue (is_in_file after p l.inode l.blockno)
  inside_after l within own =
      told_after (λ (y : Inode). nat_lt (l.blockno * p.block_size) y.size) l.inode
      (λ same. sym (ap (λ b. not b || nat_lt (l.blockno * p.block_size) new.size) (eq-eqb l.inode new.id same)) ∙ within) own

  -- the other length leaves what is owed
  pub OwesPlaces-length : IsTrue (list_all (begins_within p new) t.inode_blocks) → OwesPlaces (after_change (changes.PutInode new) t) p owed
  OwesPlaces-length within =
      OwesPlaces-rows (bare after) p [] bare_after_owes t.params p.next_block t.inode_blocks t.blocks t.objects owed (record {
        made = o.made;
        rising_places = o.ordered.inode_blocks;
        rising_blocks = o.ordered.blocks;
        rising_objects = o.ordered.objects;
        counts = o.counts;
        objects = o.objects;
        there = o.there;
        found_blocks = list_all_weaker (finds_of_inode_block t) (finds_of_inode_block after) found_after t.inode_blocks o.rows.inode_blocks;
        found_objects = o.rows.objects;
        distinct = record { digests = o.distinct.digests; objects = o.distinct.objects; sizes = o.distinct.sizes; within = o.distinct.within };
        inside =
            list_all_weaker_both (begins_within p new) (λ (l : InodeBlock). is_in_file t p l.inode l.blockno) (λ (l : InodeBlock). is_in_file after p l.inode l.blockno)
            inside_after t.inode_blocks within o.sizes.inode_blocks;
        free_blocks = o.free.blocks;
        free_objects = o.free.objects;
      })

  -- ---- a longer file

  within_longer : r.size ≤ new.size → (l : InodeBlock) → IsTrue (is_in_file t p l.inode l.blockno) → IsTrue (begins_within p new l)
  within_longer longer l own = by_case (l.inode == new.id) refl
    where
      by_case : (b : Bool) → (l.inode == new.id) ≡ b → IsTrue (not b || nat_lt (l.blockno * p.block_size) new.size)
      by_case true is =
          let before : IsTrue (nat_lt (l.blockno * p.block_size) r.size) =
          subst (λ (row : Option Inode). IsTrue (told (λ (y : Inode). nat_lt (l.blockno * p.block_size) y.size) row)) (ap (inode_at t) (eqb-true l.inode new.id is) ∙ found) own in
          lt-ltb (l.blockno * p.block_size) new.size (omega (arith, ltb-true (l.blockno * p.block_size) r.size before, longer))
      by_case false is = refl

  pub OwesPlaces-length_longer : r.size ≤ new.size → OwesPlaces (after_change (changes.PutInode new) t) p owed
  OwesPlaces-length_longer longer =
      OwesPlaces-length
      (list_all_weaker (λ (l : InodeBlock). is_in_file t p l.inode l.blockno) (begins_within p new) (within_longer longer) t.inode_blocks o.sizes.inode_blocks)

-- ---- a file that is cut

abbrev pub cut_from : Tables → ℕ → ℕ → Tables
cut_from t inode from = tables_after (places_dropped (places_from t inode from) t) t

pub inode_at-cut_from : (t : Tables) (r : Inode) (id from : ℕ) → inode_at t id ≡ Some r → inode_at (cut_from t id from) id ≡ Some r
inode_at-cut_from t r id from found = ap (row_at by_inode id) (KeepsNames-places_dropped (places_from t id from) t).inodes ∙ found

within_cut : (p : Parameters) (new : Inode) (from : ℕ) → ((n : ℕ) → n < from → n * p.block_size < new.size) → (l : InodeBlock)
    → IsTrue (not (l.inode == new.id && nat_le from l.blockno)) → IsTrue (begins_within p new l)
within_cut p new from inside l gone = by_case (l.inode == new.id) gone
  where
    before : (b : Bool) → nat_le from l.blockno ≡ b → IsTrue (not b) → IsTrue (nat_lt (l.blockno * p.block_size) new.size)
    before true is other = absurd (cc other)
    before false is other =
        lt-ltb (l.blockno * p.block_size) new.size (inside l.blockno (omega (arith, leb-false from l.blockno is)))

    by_case : (b : Bool) → IsTrue (not (b && nat_le from l.blockno)) → IsTrue (not b || nat_lt (l.blockno * p.block_size) new.size)
    by_case true other = before (nat_le from l.blockno) refl other
    by_case false other = refl

-- where its places from one on go, and those before it lie within the new length, it takes it
pub OwesPlaces-length_cut : (t : Tables) (p : Parameters) (r new : Inode) (from : ℕ) (owed : List ℕ) → OwesPlaces t p owed → inode_at t new.id ≡ Some r
    → r.kind ≡ kinds.Regular → new.kind ≡ r.kind → new.refcount ≡ r.refcount → t.slots ≡ [] → ((n : ℕ) → n < from → n * p.block_size < new.size)
    → OwesPlaces (after_change (changes.PutInode new) (cut_from t new.id from)) p owed
OwesPlaces-length_cut t p r new from owed o found regular kind refcount no_slots inside =
    OwesPlaces-length (cut_from t new.id from) p r new owed (OwesPlaces-places_dropped p owed (places_from t new.id from) t o)
    (inode_at-cut_from t r new.id from found) regular kind refcount ((KeepsNames-places_dropped (places_from t new.id from) t).slots ∙ no_slots)
    (list_all_weaker (λ (l : InodeBlock). not (l.inode == new.id && nat_le from l.blockno)) (begins_within p new) (within_cut p new from inside)
    (cut_from t new.id from).inode_blocks (inode_blocks-places_from t new.id from))

-- Tables stay valid where a put replaces an inode's row by one of its kind and count.
use Rattle.std.proofs.Common.{◌≡◌, ℕ, [], length, Bool, true, false, cond, not, ◌&&◌, ◌||◌, Option, None, Some, refl, sym, ap, ◌∙◌}
use Rattle.std.specs.Prelude.{IsTrue, ◌==◌, ◌*◌, is_some, option_map, nat_lt}
use Rattle.std.specs.List.{list_all}
use Rattle.std.specs.Cmp.{nat_cmp_total}
use Rattle.std.specs.FinMap.{nat_cmp-IsAntisymmetric}
use Rattle.std.specs.Ordering.{nat_cmp, is_eq}
use Rattle.s3_base.specs.declared.node_kind.Kind.{Kind}
use Rattle.s3_base.specs.declared.node_kind.Kind.TheVariants as kinds
use Rattle.s3_rows.specs.declared.change.Change.TheVariants as changes
use Rattle.s3_rows.specs.Rows.{Inode, Content, InodeBlock, Attr, Parameters}
use Rattle.s3_rows.specs.Keyed.{has_key, rises, put}
use Rattle.s3_rows.specs.Tables.{Tables, by_inode}
use Rattle.s3_rows.specs.Batches.{after_change}
use Rattle.s3_rows.specs.Selections.{inode_at, name_at, block_at, target_at, bytes_of_name, bytes_cmp}
use Rattle.s3_rows.specs.Counts.{listed_inode_count}
use Rattle.s3_base.specs.Numbers.{root}
use Rattle.s3_rows.specs.Validity.{IsValid, HasItsRows, HasOneTree, HasItsSizes, is_directory, is_regular, is_link, any_kind, has_inode, is_named, counts_inode, finds_of_entry, finds_of_inode_block, finds_of_attr, finds_target, leads_to_root, is_below_root, is_named_once, lost_and_found, is_lost_and_found, is_no_lost_directory, is_number, has_its_size, is_in_file}
use Rattle.row_lemmas.proofs.Tests.{list_all_weaker, find_passes, find_passes_all, list_any_weaker, equal_from_is_eq}
use Rattle.row_lemmas.proofs.Keyed.Put.{list_all-put, row_at-put, length-put_there}
use Rattle.row_lemmas.proofs.Tables.{IsOrdered-after_change, leads_to_root_same}

-- ---- a row of the same key, kind and count

-- what is told of a row, if there is one
abbrev told : (Inode → Bool) → Option Inode → Bool
told g found = elim found [ Some r ↦ g r | None ↦ false ]

key_of : (x : ℕ) (r : Inode) → IsTrue (has_key by_inode x r) → x ≡ r.id
key_of x r same = nat_cmp-IsAntisymmetric x r.id (equal_from_is_eq (nat_cmp x r.id) same)

module _ (t : Tables) (r new : Inode) (found : inode_at t new.id ≡ Some r) (kind : new.kind ≡ r.kind) (refcount : new.refcount ≡ r.refcount) where
  abbrev u : Tables
  u = record t { inodes = put by_inode new t.inodes }

  ids : new.id ≡ r.id
  ids = key_of new.id r (find_passes (has_key by_inode new.id) t.inodes r found)

  told_same : (g : Inode → Bool) → g new ≡ g r → (x : ℕ) → told g (inode_at u x) ≡ told g (inode_at t x)
  told_same g same x =
      ap (told g) (row_at-put by_inode nat_cmp_total x new t.inodes) ∙ by_case (has_key by_inode x new) refl
    where
      by_case : (b : Bool) → has_key by_inode x new ≡ b
          → told g (cond b (Some new) (inode_at t x)) ≡ told g (inode_at t x)
      by_case true is = same ∙ sym (ap (told g) (ap (inode_at t) (key_of x new is) ∙ found))
      by_case false is = refl

  has_same : (test : Kind → Bool) (x : ℕ) → has_inode test u x ≡ has_inode test t x
  has_same test x = told_same (λ y. test y.kind) (ap test kind) x

  in_file_same : (p : Parameters) → new.size ≡ r.size → (inode blockno : ℕ)
      → is_in_file u p inode blockno ≡ is_in_file t p inode blockno
  in_file_same p size inode blockno =
      told_same (λ y. nat_lt (blockno * p.block_size) y.size) (ap (λ n. nat_lt (blockno * p.block_size) n) size) inode

  entry_same : (y : Content) → finds_of_entry u y ≡ finds_of_entry t y
  entry_same y =
      λ i. (has_same is_directory y.parent) i && is_some (name_at t y.name_id) && (has_same any_kind y.inode) i

  inode_block_same : (y : InodeBlock) → finds_of_inode_block u y ≡ finds_of_inode_block t y
  inode_block_same y = λ i. (has_same is_regular y.inode) i && is_some (block_at t y.block)

  attr_same : (y : Attr) → finds_of_attr u y ≡ finds_of_attr t y
  attr_same y = λ i. (has_same any_kind y.inode) i && is_some (name_at t y.name_id)

  lost_and_found_same : (y : Content) → is_lost_and_found u y ≡ is_lost_and_found t y
  lost_and_found_same y =
      λ i. y.parent == root && is_eq (bytes_cmp (bytes_of_name t y.name_id) lost_and_found) &&
      (has_same is_directory y.inode) i

  -- what all rows pass, all pass after the put
  passes : (p : Inode → Bool) → p new ≡ p r → IsTrue (list_all p t.inodes)
      → IsTrue (list_all p (put by_inode new t.inodes))
  passes p same all =
      list_all-put by_inode p new t.inodes
      (same ∙ find_passes_all (has_key by_inode new.id) p t.inodes r all found) all

  below_same : IsTrue (rises by_inode t.inodes) → (y : Inode) → is_below_root u y ≡ is_below_root t y
  below_same rise y =
      let steps : length (put by_inode new t.inodes) ≡ length t.inodes =
      length-put_there by_inode nat_cmp_total new r t.inodes rise found in
      let leads : leads_to_root (length (put by_inode new t.inodes)) u y.id ≡ leads_to_root (length t.inodes) t y.id =
      leads_to_root_same t u refl (length (put by_inode new t.inodes)) y.id ∙ ap (λ n. leads_to_root n t y.id) steps in
      ap (λ b. not (is_directory y.kind) || b) leads

  rows_kept : HasItsRows t → HasItsRows u
  rows_kept has = record {
    entries =
        list_all_weaker (finds_of_entry t) (finds_of_entry u) (λ y own. entry_same y ∙ own) t.contents has.entries;
    inode_blocks =
        list_all_weaker (finds_of_inode_block t) (finds_of_inode_block u)
        (λ y own. inode_block_same y ∙ own) t.inode_blocks has.inode_blocks;
    objects = has.objects;
    targets =
        list_all_weaker (λ y. has_inode is_link t y.inode) (λ y. has_inode is_link u y.inode)
        (λ y own. has_same is_link y.inode ∙ own) t.targets has.targets;
    links = passes (finds_target t) (λ i. not (is_link (kind i)) || is_some (target_at t (ids i))) has.links;
    attrs = list_all_weaker (finds_of_attr t) (finds_of_attr u) (λ y own. attr_same y ∙ own) t.attrs has.attrs;
    slots =
        list_all_weaker (λ y. has_inode is_regular t y.inode) (λ y. has_inode is_regular u y.inode)
        (λ y own. has_same is_regular y.inode ∙ own) t.slots has.slots;
  }

  tree_kept : IsTrue (rises by_inode t.inodes) → HasOneTree t → HasOneTree u
  tree_kept rise tree = record {
    is_rooted = has_same is_directory root ∙ tree.is_rooted;
    root_is_unnamed = tree.root_is_unnamed;
    named_once =
        passes (is_named_once t)
        (λ i. not (is_directory (kind i)) || ids i == root || listed_inode_count t (ids i) == 1) tree.named_once;
    below_root =
        list_all_weaker (is_below_root t) (is_below_root u) (λ y own. below_same rise y ∙ own)
        (put by_inode new t.inodes)
        (passes (is_below_root t)
        (λ i. not (is_directory (kind i)) || leads_to_root (length t.inodes) t (ids i)) tree.below_root);
    legal = tree.legal;
    unlike = tree.unlike;
    keeps_lost_and_found =
        list_any_weaker (is_lost_and_found t) (is_lost_and_found u)
        (λ y own. lost_and_found_same y ∙ own) t.contents tree.keeps_lost_and_found;
  }

  sizes_kept : (p : Parameters) → new.size ≡ r.size → HasItsSizes t p → HasItsSizes u p
  sizes_kept p size has = record {
    inodes = passes (has_its_size t) size_same has.inodes;
    inode_blocks =
        list_all_weaker (λ y. is_in_file t p y.inode y.blockno) (λ y. is_in_file u p y.inode y.blockno)
        (λ y own. in_file_same p size y.inode y.blockno ∙ own) t.inode_blocks has.inode_blocks;
    slots =
        list_all_weaker (λ y. is_in_file t p y.inode y.blockno) (λ y. is_in_file u p y.inode y.blockno)
        (λ y own. in_file_same p size y.inode y.blockno ∙ own) t.slots has.slots;
    spots = has.spots;
    numbers = has.numbers;
    lengths = has.lengths;
  }
    where
      size_same : has_its_size t new ≡ has_its_size t r
      size_same = λ i. elim (kind i) [
        | kinds.Directory ↦ size i == 0
        | kinds.Regular ↦ true
        | kinds.Link ↦ is_number (size i) (option_map (λ x. length x.target) (target_at t (ids i)))
      ]

  -- a regular file may have any size where no blocks lie in files
  sizes_fit : (p : Parameters) → new.kind ≡ kinds.Regular → t.inode_blocks ≡ [] → t.slots ≡ [] → HasItsSizes t p
      → HasItsSizes u p
  sizes_fit p regular no_blocks no_slots has = record {
    inodes = list_all-put by_inode (has_its_size t) new t.inodes fits has.inodes;
    inode_blocks = ap (list_all (λ y. is_in_file u p y.inode y.blockno)) no_blocks;
    slots = ap (list_all (λ y. is_in_file u p y.inode y.blockno)) no_slots;
    spots = has.spots;
    numbers = has.numbers;
    lengths = has.lengths;
  }
    where
      fits : IsTrue (has_its_size t new)
      fits =
          ap
          (λ k. elim k [
            | kinds.Directory ↦ new.size == 0
            | kinds.Regular ↦ true
            | kinds.Link ↦ is_number new.size (option_map (λ x. length x.target) (target_at t new.id))
          ]) regular

  kept : (v : IsValid t) → HasItsSizes u v.params → IsValid u
  kept v sizes = record {
    params = v.params;
    is_made = v.is_made;
    ordered = IsOrdered-after_change (changes.PutInode new) t v.ordered;
    counts = record {
      inodes = passes (counts_inode t) (λ i. refcount i == listed_inode_count t (ids i)) v.counts.inodes;
      names = v.counts.names;
      blocks = v.counts.blocks;
      objects = v.counts.objects;
    };
    rows = rows_kept v.rows;
    tree = tree_kept v.ordered.inodes v.tree;
    orphans =
        passes (is_no_lost_directory t)
        (λ i. ids i == root || is_named t (ids i) || not (is_directory (kind i))) v.orphans;
    blocks =
        record { digests = v.blocks.digests; objects = v.blocks.objects; sizes = v.blocks.sizes; within = v.blocks.within };
    sizes = sizes;
    free = record {
      inodes = passes (λ y. nat_lt y.id v.params.next_inode) (λ i. nat_lt (ids i) v.params.next_inode) v.free.inodes;
      names = v.free.names;
      blocks = v.free.blocks;
      objects = v.free.objects;
    };
  }

-- a put that replaces a row by one of the same kind, count and size leaves tables valid
pub replaced_valid : (t : Tables) (r new : Inode) → IsValid t → inode_at t new.id ≡ Some r → new.kind ≡ r.kind
    → new.refcount ≡ r.refcount → new.size ≡ r.size → IsValid (after_change (changes.PutInode new) t)
replaced_valid t r new valid found kind refcount size =
    kept t r new found kind refcount valid (sizes_kept t r new found kind refcount valid.params size valid.sizes)

-- and so does one of a regular file of another size, where no blocks lie in files
pub resized_valid : (t : Tables) (r new : Inode) → IsValid t → inode_at t new.id ≡ Some r → new.kind ≡ r.kind
    → new.refcount ≡ r.refcount → new.kind ≡ kinds.Regular → t.inode_blocks ≡ [] → t.slots ≡ []
    → IsValid (after_change (changes.PutInode new) t)
resized_valid t r new valid found kind refcount regular no_blocks no_slots =
    kept t r new found kind refcount valid
    (sizes_fit t r new found kind refcount valid.params regular no_blocks no_slots valid.sizes)

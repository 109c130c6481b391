-- Tables with other places, blocks and objects: what they owe, and when they are valid.
use Rattle.std.proofs.Common.{◌≡◌, ℕ, ◌+◌, List, [], length, Option, Some, refl, sym, ap, ◌∙◌, subst, arith}
use Rattle.std.specs.Prelude.{IsTrue, not, ◌&&◌, ◌||◌, ◌==◌, is_some, nat_le, nat_lt}
use Rattle.std.specs.List.{list_all}
use Rattle.s3_rows.specs.Rows.{InodeBlock, Block, Object, Parameters}
use Rattle.s3_rows.specs.Keyed.{rises}
use Rattle.s3_rows.specs.Tables.{Tables, by_block, by_object, by_spot}
use Rattle.s3_rows.specs.Selections.{block_at, object_at}
use Rattle.s3_rows.specs.Counts.{listed_block_count}
use Rattle.s3_rows.specs.Validity.{IsValid, HasDistinctBlocks, HasFreeNumbers, HasItsSizes, counts_block, counts_object, finds_of_inode_block, is_below_root, is_directory, is_in_file}
use Rattle.row_lemmas.proofs.Tables.{leads_to_root_same}
use Rattle.row_lemmas.proofs.Tests.{list_all_weaker}
use Rattle.block_steps.specs.Owed.{OwesPlaces, owes_places, times}
use Rattle.block_steps.proofs.DebtsLists.{list_all_from_times, passes_from_times}

-- ---- other rows

-- what tables that owe places have of places, blocks and objects
pub record OwesRows (t : Tables) (p : Parameters) (owed : List ℕ) : Type 0 where
  pub made : t.params ≡ Some p
  pub rising_places : IsTrue (rises by_spot t.inode_blocks)
  pub rising_blocks : IsTrue (rises by_block t.blocks)
  pub rising_objects : IsTrue (rises by_object t.objects)
  pub counts : IsTrue (list_all (owes_places t owed) t.blocks)
  pub objects : IsTrue (list_all (counts_object t) t.objects)
  pub there : IsTrue (list_all (λ id. is_some (block_at t id)) owed)
  pub found_blocks : IsTrue (list_all (finds_of_inode_block t) t.inode_blocks)
  pub found_objects : IsTrue (list_all (λ r. is_some (object_at t r.object)) t.blocks)
  pub distinct : HasDistinctBlocks t p
  pub inside : IsTrue (list_all (λ r. is_in_file t p r.inode r.blockno) t.inode_blocks)
  pub free_blocks : IsTrue (list_all (λ r. nat_lt r.id p.next_block) t.blocks)
  pub free_objects : IsTrue (list_all (λ r. nat_lt r.id p.next_object) t.objects)

module _ (t : Tables) (p : Parameters) (owed : List ℕ) (o : OwesPlaces t p owed) where
  -- tables with other places, blocks and objects, and with another next number of a block
  pub OwesPlaces-rows : (params : Option Parameters) (next : ℕ) (places : List InodeBlock) (rows : List Block) (objects : List Object) (now : List ℕ)
      → OwesRows (record t { params = params; inode_blocks = places; blocks = rows; objects = objects }) (record p { next_block = next }) now
      → OwesPlaces (record t { params = params; inode_blocks = places; blocks = rows; objects = objects }) (record p { next_block = next }) now
  OwesPlaces-rows params next places rows objects now n =
      let after : Tables = record t { params = params; inode_blocks = places; blocks = rows; objects = objects } in
      record {
        made = n.made;
        ordered = record {
          inodes = o.ordered.inodes;
          names = o.ordered.names;
          contents = o.ordered.contents;
          inode_blocks = n.rising_places;
          blocks = n.rising_blocks;
          objects = n.rising_objects;
          targets = o.ordered.targets;
          attrs = o.ordered.attrs;
          slots = o.ordered.slots;
        };
        inodes = o.inodes;
        names = o.names;
        counts = n.counts;
        objects = n.objects;
        there = n.there;
        rows = record {
          entries = o.rows.entries;
          inode_blocks = n.found_blocks;
          objects = n.found_objects;
          targets = o.rows.targets;
          links = o.rows.links;
          attrs = o.rows.attrs;
          slots = o.rows.slots;
        };
        tree = record {
          is_rooted = o.tree.is_rooted;
          root_is_unnamed = o.tree.root_is_unnamed;
          named_once = o.tree.named_once;
          below_root =
              list_all_weaker (is_below_root t) (is_below_root after)
              (λ r below. ap (λ b. not (is_directory r.kind) || b) (leads_to_root_same t after refl (length t.inodes) r.id) ∙ below)
              t.inodes o.tree.below_root;
          legal = o.tree.legal;
          unlike = o.tree.unlike;
          keeps_lost_and_found = o.tree.keeps_lost_and_found;
        };
        orphans = o.orphans;
        distinct = n.distinct;
        sizes = record {
          inodes = o.sizes.inodes;
          inode_blocks = n.inside;
          slots = o.sizes.slots;
          spots = o.sizes.spots;
          numbers = o.sizes.numbers;
          lengths = o.sizes.lengths;
        };
        free = record {
          inodes = o.free.inodes;
          names = o.free.names;
          blocks = n.free_blocks;
          objects = n.free_objects;
        };
      }

  -- ---- what is owed, in another order

  pub OwesPlaces-times : (others : List ℕ) → ((id : ℕ) → times id others ≡ times id owed) → OwesPlaces t p others
  OwesPlaces-times others same = record {
    made = o.made;
    ordered = o.ordered;
    inodes = o.inodes;
    names = o.names;
    counts =
        list_all_weaker (owes_places t owed) (owes_places t others)
        (λ r own. ap (λ n. r.refcount == listed_block_count t r.id + n && nat_le 1 r.refcount) (same r.id) ∙ own) t.blocks o.counts;
    objects = o.objects;
    there =
        list_all_from_times (λ id. is_some (block_at t id)) others
        (λ id some. passes_from_times (λ x. is_some (block_at t x)) id owed o.there (omega (arith, some, same id)));
    rows = o.rows;
    tree = o.tree;
    orphans = o.orphans;
    distinct = o.distinct;
    sizes = o.sizes;
    free = o.free;
  }

-- ---- where nothing is owed

plus_none : (n : ℕ) → n + 0 ≡ n
plus_none n = omega arith

owes_none : (t : Tables) (r : Block) → owes_places t [] r ≡ counts_block t r
owes_none t r = ap (λ n. r.refcount == n && nat_le 1 r.refcount) (plus_none (listed_block_count t r.id))

pub OwesPlaces-IsValid : (t : Tables) (p : Parameters) → IsValid t → t.params ≡ Some p → OwesPlaces t p []
OwesPlaces-IsValid t p v made =
    let same : v.params ≡ p = cc (v.is_made, made) in
    record {
      made = made;
      ordered = v.ordered;
      inodes = v.counts.inodes;
      names = v.counts.names;
      counts = list_all_weaker (counts_block t) (owes_places t []) (λ r own. owes_none t r ∙ own) t.blocks v.counts.blocks;
      objects = v.counts.objects;
      there = refl;
      rows = v.rows;
      tree = v.tree;
      orphans = v.orphans;
      distinct = subst (HasDistinctBlocks t) same v.blocks;
      sizes = subst (HasItsSizes t) same v.sizes;
      free = subst (HasFreeNumbers t) same v.free;
    }

pub IsValid-OwesPlaces : (t : Tables) (p : Parameters) → OwesPlaces t p [] → IsValid t
IsValid-OwesPlaces t p o = record {
  params = p;
  is_made = o.made;
  ordered = o.ordered;
  counts = record {
    inodes = o.inodes;
    names = o.names;
    blocks = list_all_weaker (owes_places t []) (counts_block t) (λ r own. sym (owes_none t r) ∙ own) t.blocks o.counts;
    objects = o.objects;
  };
  rows = o.rows;
  tree = o.tree;
  orphans = o.orphans;
  blocks = o.distinct;
  sizes = o.sizes;
  free = o.free;
}

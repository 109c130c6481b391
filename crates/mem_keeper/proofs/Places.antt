-- The maps of all tables: their rows are in order, and places that are held stay.
use Rattle.std.proofs.Common.{List, [], ◌∷◌, All}
use Rattle.std.specs.List.{AllByRecursion}
use Rattle.std.specs.Cmp.{nat_cmp_total}
use Rattle.std.proofs.lemmas.List.Elements.{recursion_from_All, All-from_recursion}
use Rattle.s3_rows.specs.declared.change.Change.{Change}
use Rattle.s3_rows.specs.declared.change.Change.TheVariants as changes
use Rattle.s3_rows.specs.Tables.{IsOrdered, by_inode, by_name, by_entry, by_spot, by_block, by_object, by_target, by_attr, by_slot}
use Rattle.row_lemmas.proofs.Tables.{pair_cmp_total}
use Rattle.mem_keeper.specs.declared.store.Maps.{Maps}
use Rattle.mem_keeper.specs.Store.{HasPlace, IsMaps, KeepsAll, tables_in}
use Rattle.mem_keeper.proofs.Tabled.{rises-rows_of}

pub IsOrdered-tables_in : (m : Maps) → IsMaps m → IsOrdered (tables_in m)
IsOrdered-tables_in m h = record {
  inodes = rises-rows_of by_inode nat_cmp_total m.inodes.entries h.inodes;
  names = rises-rows_of by_name nat_cmp_total m.names.map.entries h.names;
  contents = rises-rows_of by_entry pair_cmp_total m.contents.entries h.contents;
  inode_blocks = rises-rows_of by_spot pair_cmp_total m.inode_blocks.entries h.inode_blocks;
  blocks = rises-rows_of by_block nat_cmp_total m.blocks.entries h.blocks;
  objects = rises-rows_of by_object nat_cmp_total m.objects.entries h.objects;
  targets = rises-rows_of by_target nat_cmp_total m.targets.entries h.targets;
  attrs = rises-rows_of by_attr pair_cmp_total m.attrs.entries h.attrs;
  slots = rises-rows_of by_slot nat_cmp_total m.slots.entries h.slots;
}

pub place_stays : (m n : Maps) → KeepsAll m n → (c : Change) → HasPlace m c → HasPlace n c
place_stays m n kept (changes.PutInode r) h = kept.inodes r.id h
place_stays m n kept (changes.PutName r) h = kept.names r.id h
place_stays m n kept (changes.PutContent r) h = kept.contents (r.parent, r.name_id) h
place_stays m n kept (changes.PutInodeBlock r) h = kept.inode_blocks (r.inode, r.blockno) h
place_stays m n kept (changes.PutBlock r) h = kept.blocks r.id h
place_stays m n kept (changes.PutObject r) h = kept.objects r.id h
place_stays m n kept (changes.PutTarget r) h = kept.targets r.inode h
place_stays m n kept (changes.PutAttr r) h = kept.attrs (r.inode, r.name_id) h
place_stays m n kept (changes.PutSlot r) h = kept.slots r.slot h
place_stays m n kept _ h = h

places_stay : (m n : Maps) → KeepsAll m n → (cs : List Change) → AllByRecursion (HasPlace m) cs
    → AllByRecursion (HasPlace n) cs
places_stay m n kept [] all = tt
places_stay m n kept (c ∷ cs) all = (place_stays m n kept c all.0, places_stay m n kept cs all.1)

pub first_place : (m : Maps) (c : Change) (cs : List Change) → All (HasPlace m) (c ∷ cs) → HasPlace m c
first_place m c cs all = (recursion_from_All (HasPlace m) (c ∷ cs) all).0

pub later_places : (m n : Maps) → KeepsAll m n → (c : Change) (cs : List Change)
    → All (HasPlace m) (c ∷ cs) → All (HasPlace n) cs
later_places m n kept c cs all =
    All-from_recursion (HasPlace n) cs (places_stay m n kept cs (recursion_from_All (HasPlace m) (c ∷ cs) all).1)

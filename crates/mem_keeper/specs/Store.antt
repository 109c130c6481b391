-- The tables that maps of rows are, and the places that changes need in them.
use Rattle.std.specs.Prelude.{Some, None, IsSome}
use Rattle.std.specs.BTreeMap.{get}
use Rattle.std.specs.Ordering.{nat_cmp}
use Rattle.s3_rows.specs.declared.change.Change.{Change}
use Rattle.s3_rows.specs.declared.change.Change.TheVariants as changes
use Rattle.s3_rows.specs.Rows.{IsInode, IsName, IsContent, IsInodeBlock, IsBlock, IsObject, IsTarget, IsAttr, IsSlot, IsParameters}
use Rattle.s3_rows.specs.Keyed.{pair_cmp}
use Rattle.s3_rows.specs.Tables.{Tables, by_inode, by_name, by_entry, by_spot, by_block, by_object, by_target, by_attr, by_slot}
use Rattle.mem_keeper.specs.declared.store.Maps.{Maps}
use Rattle.mem_keeper.specs.declared.store.Store.{Store}
use Rattle.mem_keeper.specs.Table.{rows_of, IsTable, KeepsPlaces}

-- the rows of the maps
abbrev pub tables_in : Maps → Tables
tables_in m = record {
  params = m.params;
  inodes = rows_of m.inodes.entries;
  names = rows_of m.names.map.entries;
  contents = rows_of m.contents.entries;
  inode_blocks = rows_of m.inode_blocks.entries;
  blocks = rows_of m.blocks.entries;
  objects = rows_of m.objects.entries;
  targets = rows_of m.targets.entries;
  attrs = rows_of m.attrs.entries;
  slots = rows_of m.slots.entries;
}

-- the tables that were given, or those of the maps
abbrev pub tables_of : Store → Tables
tables_of s = elim s.given [ None ↦ tables_in s.maps | Some tables ↦ tables ]

-- in each map the keys rise, and each row is at its own
pub record IsMaps (m : Maps) : Type 0 where
  pub inodes : IsTable by_inode m.inodes.entries
  pub names : IsTable by_name m.names.map.entries
  pub contents : IsTable by_entry m.contents.entries
  pub inode_blocks : IsTable by_spot m.inode_blocks.entries
  pub blocks : IsTable by_block m.blocks.entries
  pub objects : IsTable by_object m.objects.entries
  pub targets : IsTable by_target m.targets.entries
  pub attrs : IsTable by_attr m.attrs.entries
  pub slots : IsTable by_slot m.slots.entries

-- each of the second maps has all keys of the first
pub record KeepsAll (m n : Maps) : Type 0 where
  pub inodes : KeepsPlaces nat_cmp m.inodes n.inodes
  pub names : KeepsPlaces nat_cmp m.names.map n.names.map
  pub contents : KeepsPlaces pair_cmp m.contents n.contents
  pub inode_blocks : KeepsPlaces pair_cmp m.inode_blocks n.inode_blocks
  pub blocks : KeepsPlaces nat_cmp m.blocks n.blocks
  pub objects : KeepsPlaces nat_cmp m.objects n.objects
  pub targets : KeepsPlaces nat_cmp m.targets n.targets
  pub attrs : KeepsPlaces pair_cmp m.attrs n.attrs
  pub slots : KeepsPlaces nat_cmp m.slots n.slots

-- a row that the change puts finds its place
abbrev pub HasPlace : Maps → Change → Type 0
HasPlace m (changes.PutInode r) = IsSome (get nat_cmp m.inodes r.id)
HasPlace m (changes.PutName r) = IsSome (get nat_cmp m.names.map r.id)
HasPlace m (changes.PutContent r) = IsSome (get pair_cmp m.contents (r.parent, r.name_id))
HasPlace m (changes.PutInodeBlock r) = IsSome (get pair_cmp m.inode_blocks (r.inode, r.blockno))
HasPlace m (changes.PutBlock r) = IsSome (get nat_cmp m.blocks r.id)
HasPlace m (changes.PutObject r) = IsSome (get nat_cmp m.objects r.id)
HasPlace m (changes.PutTarget r) = IsSome (get nat_cmp m.targets r.inode)
HasPlace m (changes.PutAttr r) = IsSome (get pair_cmp m.attrs (r.inode, r.name_id))
HasPlace m (changes.PutSlot r) = IsSome (get nat_cmp m.slots r.slot)
HasPlace m _ = Unit {0}

-- what the change puts keeps its ranges
abbrev pub IsFitChange : Change → Type 0
IsFitChange (changes.PutInode r) = IsInode r
IsFitChange (changes.PutName r) = IsName r
IsFitChange (changes.PutContent r) = IsContent r
IsFitChange (changes.PutInodeBlock r) = IsInodeBlock r
IsFitChange (changes.PutBlock r) = IsBlock r
IsFitChange (changes.PutObject r) = IsObject r
IsFitChange (changes.PutTarget r) = IsTarget r
IsFitChange (changes.PutAttr r) = IsAttr r
IsFitChange (changes.PutSlot r) = IsSlot r
IsFitChange (changes.SetParams p) = IsParameters p
IsFitChange _ = Unit {0}

-- Rows that keep their ranges, under changes.
use Rattle.std.proofs.Common.{◌≡◌, Some, subst, List, [], ◌∷◌, All}
use Rattle.std.specs.List.{AllByRecursion}
use Rattle.std.specs.declared.cmp.Ordering.{Ordering}
use Rattle.std.specs.declared.cmp.Ordering.TheVariants.{Less, Equal, Greater}
use Rattle.std.proofs.lemmas.List.Elements.{All-from_recursion, recursion_from_All, All-filter}
use Rattle.s3_rows.specs.declared.change.Change.{Change}
use Rattle.s3_rows.specs.declared.change.Change.TheVariants as changes
use Rattle.s3_rows.specs.Rows.{Parameters, IsInode, IsName, IsContent, IsInodeBlock, IsBlock, IsObject, IsTarget, IsAttr, IsSlot, IsParameters}
use Rattle.s3_rows.specs.Keyed.{Order, put, without}
use Rattle.s3_rows.specs.Tables.{Tables, by_inode, by_name, by_entry, by_spot, by_block, by_object, by_target, by_attr, by_slot}
use Rattle.s3_rows.specs.Ranges.{HasRanges}
use Rattle.s3_rows.specs.Batches.{after_change}
use Rattle.mem_keeper.specs.Store.{IsFitChange}

module _ {K R : Type 0} (o : Order K R) (P : R → Type 0) where
  AllByRecursion-put : (r : R) (rows : List R) → P r → AllByRecursion P rows → AllByRecursion P (put o r rows)
  AllByRecursion-put r [] here all = (here, all)
  AllByRecursion-put r (x ∷ xs) here all = by_case (AllByRecursion-put r xs here all.1) (o.compare (o.key r) (o.key x))
    where
      by_case : AllByRecursion P (put o r xs) → (c : Ordering)
          → AllByRecursion P (elim c [ Less ↦ r ∷ x ∷ xs | Equal ↦ r ∷ xs | Greater ↦ x ∷ put o r xs ])
      by_case rest Less = (here, all)
      by_case rest Equal = (here, all.1)
      by_case rest Greater = (all.0, rest)

  pub All-put : (r : R) (rows : List R) → P r → All P rows → All P (put o r rows)
  All-put r rows here all =
      All-from_recursion P (put o r rows) (AllByRecursion-put r rows here (recursion_from_All P rows all))

  pub All-without : (k : K) (rows : List R) → All P rows → All P (without o k rows)
  All-without k rows all = All-filter _ P rows all

one : (p x : Parameters) → IsParameters p → Some p ≡ Some x → IsParameters x
one p x fits is =
    let same : p ≡ x = cc is in
    subst IsParameters same fits

-- a change whose row keeps its ranges
pub HasRanges-after_change : (c : Change) (t : Tables) → IsFitChange c → HasRanges t → HasRanges (after_change c t)
HasRanges-after_change (changes.PutInode r) t fits h =
    record { params = h.params; inodes = All-put by_inode IsInode r t.inodes fits h.inodes; names = h.names; contents = h.contents; inode_blocks = h.inode_blocks; blocks = h.blocks; objects = h.objects; targets = h.targets; attrs = h.attrs; slots = h.slots }
HasRanges-after_change (changes.DeleteInode id) t fits h =
    record { params = h.params; inodes = All-without by_inode IsInode id t.inodes h.inodes; names = h.names; contents = h.contents; inode_blocks = h.inode_blocks; blocks = h.blocks; objects = h.objects; targets = h.targets; attrs = h.attrs; slots = h.slots }
HasRanges-after_change (changes.PutName r) t fits h =
    record { params = h.params; inodes = h.inodes; names = All-put by_name IsName r t.names fits h.names; contents = h.contents; inode_blocks = h.inode_blocks; blocks = h.blocks; objects = h.objects; targets = h.targets; attrs = h.attrs; slots = h.slots }
HasRanges-after_change (changes.DeleteName id) t fits h =
    record { params = h.params; inodes = h.inodes; names = All-without by_name IsName id t.names h.names; contents = h.contents; inode_blocks = h.inode_blocks; blocks = h.blocks; objects = h.objects; targets = h.targets; attrs = h.attrs; slots = h.slots }
HasRanges-after_change (changes.PutContent r) t fits h =
    record { params = h.params; inodes = h.inodes; names = h.names; contents = All-put by_entry IsContent r t.contents fits h.contents; inode_blocks = h.inode_blocks; blocks = h.blocks; objects = h.objects; targets = h.targets; attrs = h.attrs; slots = h.slots }
HasRanges-after_change (changes.DeleteContent parent name_id) t fits h =
    record { params = h.params; inodes = h.inodes; names = h.names; contents = All-without by_entry IsContent (parent, name_id) t.contents h.contents; inode_blocks = h.inode_blocks; blocks = h.blocks; objects = h.objects; targets = h.targets; attrs = h.attrs; slots = h.slots }
HasRanges-after_change (changes.PutInodeBlock r) t fits h =
    record { params = h.params; inodes = h.inodes; names = h.names; contents = h.contents; inode_blocks = All-put by_spot IsInodeBlock r t.inode_blocks fits h.inode_blocks; blocks = h.blocks; objects = h.objects; targets = h.targets; attrs = h.attrs; slots = h.slots }
HasRanges-after_change (changes.DeleteInodeBlock inode blockno) t fits h =
    record { params = h.params; inodes = h.inodes; names = h.names; contents = h.contents; inode_blocks = All-without by_spot IsInodeBlock (inode, blockno) t.inode_blocks h.inode_blocks; blocks = h.blocks; objects = h.objects; targets = h.targets; attrs = h.attrs; slots = h.slots }
HasRanges-after_change (changes.PutBlock r) t fits h =
    record { params = h.params; inodes = h.inodes; names = h.names; contents = h.contents; inode_blocks = h.inode_blocks; blocks = All-put by_block IsBlock r t.blocks fits h.blocks; objects = h.objects; targets = h.targets; attrs = h.attrs; slots = h.slots }
HasRanges-after_change (changes.DeleteBlock id) t fits h =
    record { params = h.params; inodes = h.inodes; names = h.names; contents = h.contents; inode_blocks = h.inode_blocks; blocks = All-without by_block IsBlock id t.blocks h.blocks; objects = h.objects; targets = h.targets; attrs = h.attrs; slots = h.slots }
HasRanges-after_change (changes.PutObject r) t fits h =
    record { params = h.params; inodes = h.inodes; names = h.names; contents = h.contents; inode_blocks = h.inode_blocks; blocks = h.blocks; objects = All-put by_object IsObject r t.objects fits h.objects; targets = h.targets; attrs = h.attrs; slots = h.slots }
HasRanges-after_change (changes.DeleteObject id) t fits h =
    record { params = h.params; inodes = h.inodes; names = h.names; contents = h.contents; inode_blocks = h.inode_blocks; blocks = h.blocks; objects = All-without by_object IsObject id t.objects h.objects; targets = h.targets; attrs = h.attrs; slots = h.slots }
HasRanges-after_change (changes.PutTarget r) t fits h =
    record { params = h.params; inodes = h.inodes; names = h.names; contents = h.contents; inode_blocks = h.inode_blocks; blocks = h.blocks; objects = h.objects; targets = All-put by_target IsTarget r t.targets fits h.targets; attrs = h.attrs; slots = h.slots }
HasRanges-after_change (changes.DeleteTarget inode) t fits h =
    record { params = h.params; inodes = h.inodes; names = h.names; contents = h.contents; inode_blocks = h.inode_blocks; blocks = h.blocks; objects = h.objects; targets = All-without by_target IsTarget inode t.targets h.targets; attrs = h.attrs; slots = h.slots }
HasRanges-after_change (changes.PutAttr r) t fits h =
    record { params = h.params; inodes = h.inodes; names = h.names; contents = h.contents; inode_blocks = h.inode_blocks; blocks = h.blocks; objects = h.objects; targets = h.targets; attrs = All-put by_attr IsAttr r t.attrs fits h.attrs; slots = h.slots }
HasRanges-after_change (changes.DeleteAttr inode name_id) t fits h =
    record { params = h.params; inodes = h.inodes; names = h.names; contents = h.contents; inode_blocks = h.inode_blocks; blocks = h.blocks; objects = h.objects; targets = h.targets; attrs = All-without by_attr IsAttr (inode, name_id) t.attrs h.attrs; slots = h.slots }
HasRanges-after_change (changes.PutSlot r) t fits h =
    record { params = h.params; inodes = h.inodes; names = h.names; contents = h.contents; inode_blocks = h.inode_blocks; blocks = h.blocks; objects = h.objects; targets = h.targets; attrs = h.attrs; slots = All-put by_slot IsSlot r t.slots fits h.slots }
HasRanges-after_change (changes.DeleteSlot slot) t fits h =
    record { params = h.params; inodes = h.inodes; names = h.names; contents = h.contents; inode_blocks = h.inode_blocks; blocks = h.blocks; objects = h.objects; targets = h.targets; attrs = h.attrs; slots = All-without by_slot IsSlot slot t.slots h.slots }
HasRanges-after_change (changes.SetParams p) t fits h =
    record { params = λ x is. one p x fits is; inodes = h.inodes; names = h.names; contents = h.contents; inode_blocks = h.inode_blocks; blocks = h.blocks; objects = h.objects; targets = h.targets; attrs = h.attrs; slots = h.slots }

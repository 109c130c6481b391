-- What a change and a batch of changes make of tables.
use Rattle.std.specs.Prelude.{List, [], ◌∷◌, Bool, true, Some, is_some}
use Rattle.s3_rows.specs.declared.change.Change.{Change}
use Rattle.s3_rows.specs.declared.change.Change.TheVariants as changes
use Rattle.s3_rows.specs.Keyed.{put, without, row_at}
use Rattle.s3_rows.specs.Tables.{Tables, by_inode, by_name, by_entry, by_spot, by_block, by_object, by_target, by_attr, by_slot}

-- a put replaces the row of its key, and a delete takes the row of its key away
abbrev pub after_change : Change → Tables → Tables
after_change (changes.PutInode r) t = record t { inodes = put by_inode r t.inodes }
after_change (changes.DeleteInode id) t = record t { inodes = without by_inode id t.inodes }
after_change (changes.PutName r) t = record t { names = put by_name r t.names }
after_change (changes.DeleteName id) t = record t { names = without by_name id t.names }
after_change (changes.PutContent r) t = record t { contents = put by_entry r t.contents }
after_change (changes.DeleteContent parent name_id) t = record t { contents = without by_entry (parent, name_id) t.contents }
after_change (changes.PutInodeBlock r) t = record t { inode_blocks = put by_spot r t.inode_blocks }
after_change (changes.DeleteInodeBlock inode blockno) t = record t { inode_blocks = without by_spot (inode, blockno) t.inode_blocks }
after_change (changes.PutBlock r) t = record t { blocks = put by_block r t.blocks }
after_change (changes.DeleteBlock id) t = record t { blocks = without by_block id t.blocks }
after_change (changes.PutObject r) t = record t { objects = put by_object r t.objects }
after_change (changes.DeleteObject id) t = record t { objects = without by_object id t.objects }
after_change (changes.PutTarget r) t = record t { targets = put by_target r t.targets }
after_change (changes.DeleteTarget inode) t = record t { targets = without by_target inode t.targets }
after_change (changes.PutAttr r) t = record t { attrs = put by_attr r t.attrs }
after_change (changes.DeleteAttr inode name_id) t = record t { attrs = without by_attr (inode, name_id) t.attrs }
after_change (changes.PutSlot r) t = record t { slots = put by_slot r t.slots }
after_change (changes.DeleteSlot slot) t = record t { slots = without by_slot slot t.slots }
after_change (changes.SetParams p) t = record t { params = Some p }

-- the changes of a batch, in order
abbrev pub tables_after : List Change → Tables → Tables
tables_after [] t = t
tables_after (c ∷ cs) t = tables_after cs (after_change c t)

-- batches, one after the other
abbrev pub tables_after_all : List (List Change) → Tables → Tables
tables_after_all [] t = t
tables_after_all (b ∷ bs) t = tables_after_all bs (tables_after b t)

-- a delete of a key that has a row
abbrev pub finds_row : Change → Tables → Bool
finds_row (changes.DeleteInode id) t = is_some (row_at by_inode id t.inodes)
finds_row (changes.DeleteName id) t = is_some (row_at by_name id t.names)
finds_row (changes.DeleteContent parent name_id) t = is_some (row_at by_entry (parent, name_id) t.contents)
finds_row (changes.DeleteInodeBlock inode blockno) t = is_some (row_at by_spot (inode, blockno) t.inode_blocks)
finds_row (changes.DeleteBlock id) t = is_some (row_at by_block id t.blocks)
finds_row (changes.DeleteObject id) t = is_some (row_at by_object id t.objects)
finds_row (changes.DeleteTarget inode) t = is_some (row_at by_target inode t.targets)
finds_row (changes.DeleteAttr inode name_id) t = is_some (row_at by_attr (inode, name_id) t.attrs)
finds_row (changes.DeleteSlot slot) t = is_some (row_at by_slot slot t.slots)
finds_row _ t = true

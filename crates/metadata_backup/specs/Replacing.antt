-- The batch that puts tables in place of others: it deletes all rows, and then puts all rows.
use Rattle.std.specs.Prelude.{List, [], ◌∷◌, ◌++◌, map, reverse}
use Rattle.s3_rows.specs.declared.change.Change.{Change}
use Rattle.s3_rows.specs.declared.change.Change.TheVariants as changes
use Rattle.s3_rows.specs.Rows.{Inode, Name, Content, InodeBlock, Block, Object, Target, Attr, Slot, Parameters}
use Rattle.s3_rows.specs.Tables.{Tables}

-- a table: its rows among all tables, and the changes that put a row and that delete the row of its key
pub record RowChanges (R : Type 0) : Type 0 where
  pub put_of : R → Change
  pub delete_of : R → Change
  pub rows : Tables → List R
  pub with_rows : List R → Tables → Tables

abbrev pub inode_changes : RowChanges Inode
inode_changes = record {
  put_of = changes.PutInode;
  delete_of = λ r. changes.DeleteInode r.id;
  rows = λ t. t.inodes;
  with_rows = λ rows t. record t { inodes = rows };
}

abbrev pub name_changes : RowChanges Name
name_changes = record {
  put_of = changes.PutName;
  delete_of = λ r. changes.DeleteName r.id;
  rows = λ t. t.names;
  with_rows = λ rows t. record t { names = rows };
}

abbrev pub content_changes : RowChanges Content
content_changes = record {
  put_of = changes.PutContent;
  delete_of = λ r. changes.DeleteContent r.parent r.name_id;
  rows = λ t. t.contents;
  with_rows = λ rows t. record t { contents = rows };
}

abbrev pub inode_block_changes : RowChanges InodeBlock
inode_block_changes = record {
  put_of = changes.PutInodeBlock;
  delete_of = λ r. changes.DeleteInodeBlock r.inode r.blockno;
  rows = λ t. t.inode_blocks;
  with_rows = λ rows t. record t { inode_blocks = rows };
}

abbrev pub block_changes : RowChanges Block
block_changes = record {
  put_of = changes.PutBlock;
  delete_of = λ r. changes.DeleteBlock r.id;
  rows = λ t. t.blocks;
  with_rows = λ rows t. record t { blocks = rows };
}

abbrev pub object_changes : RowChanges Object
object_changes = record {
  put_of = changes.PutObject;
  delete_of = λ r. changes.DeleteObject r.id;
  rows = λ t. t.objects;
  with_rows = λ rows t. record t { objects = rows };
}

abbrev pub target_changes : RowChanges Target
target_changes = record {
  put_of = changes.PutTarget;
  delete_of = λ r. changes.DeleteTarget r.inode;
  rows = λ t. t.targets;
  with_rows = λ rows t. record t { targets = rows };
}

abbrev pub attr_changes : RowChanges Attr
attr_changes = record {
  put_of = changes.PutAttr;
  delete_of = λ r. changes.DeleteAttr r.inode r.name_id;
  rows = λ t. t.attrs;
  with_rows = λ rows t. record t { attrs = rows };
}

abbrev pub slot_changes : RowChanges Slot
slot_changes = record {
  put_of = changes.PutSlot;
  delete_of = λ r. changes.DeleteSlot r.slot;
  rows = λ t. t.slots;
  with_rows = λ rows t. record t { slots = rows };
}

-- deletes of all rows of a table, from the last on, and puts of them
abbrev pub deletes : {R : Type 0} → RowChanges R → Tables → List Change
deletes c t = map c.delete_of (reverse (c.rows t))

abbrev pub puts : {R : Type 0} → RowChanges R → Tables → List Change
puts c t = map c.put_of (c.rows t)

abbrev pub first_deletes : Tables → List Change
first_deletes t = deletes inode_changes t ++ (deletes name_changes t ++ (deletes content_changes t ++ deletes inode_block_changes t))

abbrev pub last_deletes : Tables → List Change
last_deletes t = deletes block_changes t ++ (deletes object_changes t ++ (deletes target_changes t ++ (deletes attr_changes t ++ deletes slot_changes t)))

abbrev pub first_puts : Tables → List Change
first_puts t = puts inode_changes t ++ (puts name_changes t ++ (puts content_changes t ++ puts inode_block_changes t))

abbrev pub last_puts : Tables → List Change
last_puts t = puts block_changes t ++ (puts object_changes t ++ (puts target_changes t ++ (puts attr_changes t ++ puts slot_changes t)))

-- all rows of the old tables go, all of the new ones come, and then the parameters
unfoldable pub replacement : Tables → Tables → Parameters → List Change
replacement old new p = first_deletes old ++ (last_deletes old ++ (first_puts new ++ (last_puts new ++ changes.SetParams p ∷ [])))

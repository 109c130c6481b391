-- The attributes that an inode's row has.
use Rattle.op_frames.specs.declared.reply.Attr.{Attr}
use Rattle.s3_rows.specs.Rows.{Inode}

-- the count of the row is the number of links
abbrev pub attr_of_row : Inode → Attr
attr_of_row r = record {
  inode = r.id;
  kind = r.kind;
  mode = r.mode;
  uid = r.uid;
  gid = r.gid;
  links = r.refcount;
  size = r.size;
  mtime = r.mtime;
  ctime = r.ctime;
  locked = r.locked;
}

-- Tables whose rows keep the ranges of their fields.
use Rattle.std.specs.Prelude.{All}
use Rattle.std.specs.Option.{ForSome}
use Rattle.s3_rows.specs.Rows.{IsInode, IsName, IsContent, IsInodeBlock, IsBlock, IsObject, IsTarget, IsAttr, IsSlot, IsParameters}
use Rattle.s3_rows.specs.Tables.{Tables}

-- parameters and rows keep their ranges
pub record HasRanges (t : Tables) : Type 0 where
  pub params : ForSome t.params IsParameters
  pub inodes : All IsInode t.inodes
  pub names : All IsName t.names
  pub contents : All IsContent t.contents
  pub inode_blocks : All IsInodeBlock t.inode_blocks
  pub blocks : All IsBlock t.blocks
  pub objects : All IsObject t.objects
  pub targets : All IsTarget t.targets
  pub attrs : All IsAttr t.attrs
  pub slots : All IsSlot t.slots

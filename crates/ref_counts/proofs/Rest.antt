-- What is left alone where no place, block or object changes.
use Rattle.std.proofs.Common.{◌≡◌, ◌≤◌, ℕ, List, refl, sym, ap, ◌∙◌}
use Rattle.std.specs.Prelude.{option_map}
use Rattle.s3_rows.specs.Rows.{Block, InodeBlock}
use Rattle.s3_rows.specs.Keyed.{row_at}
use Rattle.s3_rows.specs.Tables.{Tables, by_block}
use Rattle.tree_rows.specs.Spots.{form_at}
use Rattle.ref_counts.specs.Links.{AreRowsOf}
use Rattle.ref_counts.specs.Plans.{LeavesRest, next_inode_of, next_name_of, settings}

-- settings and generations stay, with all places, blocks, objects and slots, and no next number falls
pub record LeavesBlocks (t after : Tables) : Type 0 where
  pub params : option_map settings after.params ≡ option_map settings t.params
  pub next_inode : next_inode_of t ≤ next_inode_of after
  pub next_name : next_name_of t ≤ next_name_of after
  pub inode_blocks : after.inode_blocks ≡ t.inode_blocks
  pub blocks : after.blocks ≡ t.blocks
  pub objects : after.objects ≡ t.objects
  pub slots : after.slots ≡ t.slots

form_at-same : (t after : Tables) (inode blockno : ℕ) → after.inode_blocks ≡ t.inode_blocks → after.blocks ≡ t.blocks → form_at after inode blockno ≡ form_at t inode blockno
form_at-same t after inode blockno links blocks =
    ap (λ (rows : List InodeBlock). form_at (record after { inode_blocks = rows }) inode blockno) links
    ∙ ap (λ (rows : List Block). form_at (record after { inode_blocks = t.inode_blocks; blocks = rows }) inode blockno) blocks

pub AreRowsOf-same : (t after : Tables) → after.blocks ≡ t.blocks → AreRowsOf t after
AreRowsOf-same t after same id r there = (r, sym (ap (row_at by_block id) same) ∙ there, refl, refl, refl)

pub LeavesRest-LeavesBlocks : (t after : Tables) → LeavesBlocks t after → LeavesRest t after
LeavesRest-LeavesBlocks t after rest = record {
  params = rest.params;
  next_inode = rest.next_inode;
  next_name = rest.next_name;
  forms = λ inode blockno living. form_at-same t after inode blockno rest.inode_blocks rest.blocks;
  blocks = AreRowsOf-same t after rest.blocks;
  slots = rest.slots;
}

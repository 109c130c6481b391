use Rattle.std.proofs.Common.{refl}
use Rattle.s3_rows.specs.Made.{made_parameters}
use Rattle.s3_rows.proofs.laws.made_tables_are_clean.Goals as goal

pub returns-clause-clean : goal.returns-clause-clean
returns-clause-clean c block_size slots now = record {
  valid = record {
    params = made_parameters block_size slots;
    is_made = refl;
    ordered = record { inodes = refl; names = refl; contents = refl; inode_blocks = refl; blocks = refl; objects = refl; targets = refl; attrs = refl; slots = refl };
    counts = record { inodes = refl; names = refl; blocks = refl; objects = refl };
    rows = record { entries = refl; inode_blocks = refl; objects = refl; targets = refl; links = refl; attrs = refl; slots = refl };
    tree = record { is_rooted = refl; root_is_unnamed = refl; named_once = refl; below_root = refl; legal = refl; unlike = refl; keeps_lost_and_found = refl };
    orphans = refl;
    blocks = record { digests = refl; objects = refl; sizes = refl; within = refl };
    sizes = record { inodes = refl; inode_blocks = refl; slots = refl; spots = refl; numbers = refl; lengths = refl };
    free = record { inodes = refl; names = refl; blocks = refl; objects = refl };
  };
  inodes = refl;
  slots = refl;
  objects = refl;
  held = refl;
  numbers = refl;
  generations = refl;
}

use Rattle.std.proofs.Common.{ap}
use Rattle.s3_rows.specs.Keyed.{put}
use Rattle.s3_rows.specs.Tables.{by_inode}
use Rattle.byte_steps.proofs.lengths.lengths_leave_forms.Goals as goal

pub returns-clause-kept : goal.returns-clause-kept
returns-clause-kept c = λ t after new k. record {
  params = k.params;
  next_block = k.next_block;
  inodes = ap (put by_inode new) k.inodes;
  names = k.names;
  contents = k.contents;
  targets = k.targets;
  attrs = k.attrs;
  slots = k.slots;
}

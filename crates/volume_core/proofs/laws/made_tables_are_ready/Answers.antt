use Rattle.std.proofs.Common.{refl}
use Rattle.volume_core.proofs.laws.made_tables_are_ready.Goals as goal

pub returns : goal.returns
returns c block_size slots now = record {
  served = record {
    valid = (c.made_tables_are_clean.ensures.clean block_size slots now).valid;
    unique = c.made_tables_are_clean.ensures.unique block_size slots now;
    slots = refl;
  };
  named = refl;
}

use Rattle.std.proofs.Common.{refl}
use Rattle.std.specs.Fmt.{digits}
use Rattle.fsck_tables.proofs.laws.sizes_are_right.Goals as goal

pub returns : goal.returns
unfolding digits
returns c = refl

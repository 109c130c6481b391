-- The bits that were read are those of the mode, since both are what the column has.
use Rattle.std.proofs.Common.{◌≡◌}
use Rattle.sqlite_rows.specs.Values.{file_mode}
use Rattle.sqlite_rows.proofs.inodes.mode_in.Goals as goal

pub returns-clause-refused : goal.returns-clause-refused
returns-clause-refused c failed kind mode small within same =
    let read = c.in_ok-bits.ensures.read in
    let equal : c.in_ok-bits.bits ≡ file_mode kind mode = cc in
    c.kind_and_mode.ensures.refused failed kind mode small equal

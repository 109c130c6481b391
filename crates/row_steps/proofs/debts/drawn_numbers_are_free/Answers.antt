use Rattle.std.proofs.Common.{◌+◌, arith}
use Rattle.row_steps.proofs.Owed.Draws.{Owes-params, next_has_no_row, next_is_unlisted}
use Rattle.row_steps.proofs.debts.drawn_numbers_are_free.Goals as goal

pub returns : goal.returns
returns c = record {
  owes = λ t p links uses o. Owes-params t p (p.next_inode + 1) p.next_name links uses o (omega arith) (omega arith);
  row = next_has_no_row;
  entries = next_is_unlisted;
}

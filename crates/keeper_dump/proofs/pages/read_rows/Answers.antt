use Rattle.std.proofs.Common.{refl, arith}
use Rattle.keeper_dump.proofs.PageLaws.{told_always}
use Rattle.keeper_dump.proofs.pages.read_rows.Goals as goal

pub loop-page-init : goal.loop-page-init
loop-page-init g c = record {
  order = rw c.new-rows.ensures refl;
  read = told_always (g.K.Keeper.told c.args.keeper.now) _ (λ t up. record { rest = g.T.KeptRow.kept.listed t; parts = rw c.new-rows.ensures refl });
  same = refl;
  later = omega arith;
}

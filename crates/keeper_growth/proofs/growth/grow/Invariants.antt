use Rattle.std.proofs.Common.{◌≡◌, ◌≤◌, IsSome}
use Rattle.keeper_growth.proofs.growth.grow.Given as goal

-- all rows so far were found, where the keeper tells
abbrev pub invariant-loop-turn : goal.invariant-loop-turn
invariant-loop-turn g l = record {
  bound : l.found ≤ l.turn;
  told : IsSome (g.K.Keeper.told l.fn.keeper) → IsSome (g.K.Keeper.told l.keeper);
  all : IsSome (g.K.Keeper.told l.fn.keeper) → l.found ≡ l.turn;
}

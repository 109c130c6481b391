use Rattle.std.proofs.Common.{min, ◌+◌, ◌-◌, ◌^◌, refl, ap, ◌∙◌, subst}
use Rattle.std.specs.Prelude.{Contains}
use Rattle.mem_keeper.specs.Memory.{KeeperState}
use Rattle.mem_keeper.proofs.memory.MemKeeper.begin.Goals as goal

-- the number is listed
pub returns-then-contains-clause-call : goal.returns-then-contains-clause-call
returns-then-contains-clause-call c = record {
  fails = (λ failed. subst (λ (s : KeeperState). Contains s.fails s.calls) c.self.view_is (c.contains.ensures.0 c.if-contains.true), λ listed. refl);
  calls = c.saturating_add-self-inside.ensures ∙ ap (λ (s : KeeperState). min (s.calls + 1) (2 ^ 64 - 1)) c.self.view_is;
  kept = ap (λ (s : KeeperState). s.fails) c.self.view_is;
  faults = c.saturating_add-self-inside-then-contains.ensures ∙ ap (λ (s : KeeperState). min (s.faults + 1) (2 ^ 64 - 1)) c.self.view_is;
}

use Rattle.std.proofs.Common.{nat_eq, Some, subst}
use Rattle.std.specs.Cmp.Lexicographic.{pointwise}
use Rattle.std.specs.HashMap.{UpdatesBy}
use Rattle.mem_keeper.specs.Index.{IsListed}
use Rattle.mem_keeper.proofs.Listed.{listed_after}
use Rattle.mem_keeper.proofs.index.Index.add_new.Goals as goal

-- nothing was listed under the bytes, and what is under other bytes stays
pub returns-clause-kept : goal.returns-clause-kept
returns-clause-kept c = λ q n listed.
    listed_after c.args.self.now record { ids = c.insert.new.self } c.args.bytes.now (Some c.push.new.self) (subst (λ l. UpdatesBy (λ x y. pointwise nat_eq x.items y.items) (λ k. pointwise nat_eq l k.items) c.args.self.now.ids c.insert.new.self (Some c.push.new.self)) c.in_ok-key.ensures.items c.in_ok-insert.ensures.updates) q n listed
    (λ same. absurd (c.requires n (subst (λ l. IsListed c.args.self.now l n) same listed)))

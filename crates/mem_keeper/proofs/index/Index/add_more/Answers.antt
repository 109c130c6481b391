use Rattle.std.proofs.Common.{rules, Some, sym, subst, IsTrue}
use Rattle.std.specs.Option.{IsSomeAnd}
use Rattle.mem_keeper.specs.Index.{IsListed, has_id}
use Rattle.mem_keeper.proofs.Listed.{listed_after}
use Rattle.mem_keeper.proofs.index.Index.add_more.Goals as goal

-- the ids under the bytes have one more, and those under other bytes stay
pub returns-in-Some-clause-kept : goal.returns-in-Some-clause-kept
returns-in-Some-clause-kept c = λ q n listed.
    listed_after c.args.self.now record { ids = c.get_mut.follows.lender c.add_to.new.ids } c.args.bytes.now (Some c.add_to.new.ids) ((c.get_mut.follows.holds c.add_to.new.ids).3 (search rules)) q n listed
    (λ same. c.add_to.ensures.kept n (subst (λ v. IsSomeAnd v (λ ids. IsTrue (has_id n ids.items))) (sym c.in-Some.ensures.value) (subst (λ l. IsListed c.args.self.now l n) same listed)))

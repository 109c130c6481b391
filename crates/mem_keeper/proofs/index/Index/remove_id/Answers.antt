use Rattle.std.proofs.Common.{rules, Some, sym, subst, IsTrue}
use Rattle.std.specs.Option.{IsSomeAnd}
use Rattle.mem_keeper.specs.Index.{IsListed, has_id}
use Rattle.mem_keeper.proofs.Listed.{listed_after}
use Rattle.mem_keeper.proofs.index.Index.remove_id.Goals as goal

-- the ids under the bytes have one less, and those under other bytes stay
pub returns-in-Some-clause-kept : goal.returns-in-Some-clause-kept
returns-in-Some-clause-kept c = λ q n differs listed.
    listed_after c.args.self.now record { ids = c.get_mut.follows.lender c.remove_from.new.ids } c.args.bytes.now (Some c.remove_from.new.ids) ((c.get_mut.follows.holds c.remove_from.new.ids).3 (search rules)) q n listed
    (λ same. c.remove_from.ensures n (differs same) (subst (λ v. IsSomeAnd v (λ ids. IsTrue (has_id n ids.items))) (sym c.in-Some.ensures.value) (subst (λ l. IsListed c.args.self.now l n) same listed)))

use Rattle.std.proofs.Common.{None, subst}
use Rattle.mem_keeper.specs.Index.{IsListed}
use Rattle.mem_keeper.proofs.Listed.{listed_after}
use Rattle.mem_keeper.proofs.index.Index.remove.Goals as goal

-- nothing was left under the bytes
pub returns-then-remove_id : goal.returns-then-remove_id
returns-then-remove_id c = λ q n differs listed.
    let mid = c.remove_id.ensures.kept q n differs listed in
    listed_after c.remove_id.new.self record { ids = c.remove.new.self } c.args.bytes.now None c.remove.ensures.updates q n mid
    (λ same. c.remove_id.ensures.empty c.if-remove_id.true n (subst (λ l. IsListed c.remove_id.new.self l n) same mid))

use Rattle.std.proofs.Common.{◌≡◌, subst}
use Rattle.std.specs.declared.cmp.Ordering.TheVariants.{Equal}
use Rattle.mem_keeper.specs.Holders.{holder_cmp, holder_key}
use Rattle.mem_keeper.proofs.holders.remove_holder.Goals as goal

pub returns : goal.returns
returns c = λ r apart there.
    c.drop_key.ensures (holder_key r) (λ tied. apart (subst (λ p. holder_cmp p (holder_key r) ≡ Equal) c.place_of.ensures tied)) there

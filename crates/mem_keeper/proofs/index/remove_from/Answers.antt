use Rattle.std.proofs.Common.{◌≡◌, ◌==◌, sym, position, Some}
use Rattle.std.proofs.lemmas.Bool.{eqb-true}
use Rattle.std.proofs.lemmas.List.Quantifiers.{position-Some}
use Rattle.mem_keeper.proofs.Listed.{has_id-remove}
use Rattle.mem_keeper.proofs.index.remove_from.Goals as goal

-- the id stands at the place
pub returns-in-Some : goal.returns-in-Some
returns-in-Some c = λ n other listed.
    let ids = c.args.ids.now.items in
    let found : position (λ x. x == c.args.id) ids ≡ Some c.in-Some.at = rw (← c.deref.ensures.value) (sym c.in-Some.ensures) in
    let here = (position-Some (λ x. x == c.args.id) ids c.in-Some.at c.args.id found).1 in
    rw c.remove.ensures.items (has_id-remove n c.args.id ids c.in-Some.at other (sym (eqb-true _ _ here)) listed)

use Rattle.std.proofs.Common.{rules}
use Rattle.std.proofs.lemmas.List.Sorted.{answers_always}
use Rattle.row_lemmas.proofs.Keyed.Place.{Stands_from_search}
use Rattle.table_look_ups.proofs.search.place.Goals as goal

-- the closure gives a row's key
pub returns-clause-found : goal.returns-clause-found
returns-clause-found g c =
    let facts = c.binary_search_by_key.ensures in
    let by_key = facts.position g.R.Row.key (answers_always _ _ _ (λ f a r h called. search rules)) in
    (Stands_from_search record { compare = g.R.Key.Ord.cmp; key = g.R.Row.key } g.met.R.Key.Ord.total c.args.key c.args.rows.now _ c.requires facts.bound by_key).0

pub returns-clause-absent : goal.returns-clause-absent
returns-clause-absent g c =
    let facts = c.binary_search_by_key.ensures in
    let by_key = facts.position g.R.Row.key (answers_always _ _ _ (λ f a r h called. search rules)) in
    (Stands_from_search record { compare = g.R.Key.Ord.cmp; key = g.R.Row.key } g.met.R.Key.Ord.total c.args.key c.args.rows.now _ c.requires facts.bound by_key).1

use Rattle.std.proofs.Common.{sym, ap, ◌∙◌, Some}
use Rattle.row_lemmas.proofs.Keyed.Place.{row_at-Stands, row_at-GoesAt}
use Rattle.table_look_ups.proofs.search.row_of.Goals as goal

-- the row stands at its place
pub returns-in-Ok : goal.returns-in-Ok
returns-in-Ok g c = ap Some c.index-rows-at.is ∙ sym (row_at-Stands record { compare = g.R.Key.Ord.cmp; key = g.R.Row.key } c.args.key c.args.rows.now _ _ c.in-Ok.ensures.found)

-- there is none
pub returns-in-Err : goal.returns-in-Err
returns-in-Err g c = sym (row_at-GoesAt record { compare = g.R.Key.Ord.cmp; key = g.R.Row.key } g.met.R.Key.Ord.total c.args.key c.args.rows.now _ c.requires c.in-Err.ensures.absent)

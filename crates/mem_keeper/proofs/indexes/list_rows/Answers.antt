use Rattle.std.proofs.Common.{sym, subst, ◌∙◌}
use Rattle.std.specs.List.{AllByRecursion}
use Rattle.std.specs.Ordering.{nat_cmp}
use Rattle.mem_keeper.specs.Index.{IsListed}
use Rattle.mem_keeper.specs.Table.{rows_of}
use Rattle.mem_keeper.proofs.Least.{covers_all}
use Rattle.mem_keeper.proofs.Tabled.{all_held, if_held, entries_everywhere}
use Rattle.mem_keeper.proofs.indexes.list_rows.Goals as goal

pub loop-held-preserved : goal.loop-held-preserved
loop-held-preserved g c = λ x stays all.
    c.loop-held.invariant x (λ bytes id listed. stays bytes id (c.list_held.ensures.kept bytes id listed))
    (subst (λ es. AllByRecursion (λ r. IsListed x (g.R.Indexed.bytes r) (g.R.Keyed.key r)) (rows_of es)) (sym c.in-Some.ensures.steps)
    (all_held (λ r. IsListed x (g.R.Indexed.bytes r) (g.R.Keyed.key r)) c.in-Some.field-0-0.now c.in-Some.held.now c.next.new.self
    (if_held (λ r. IsListed c.list_held.new.index (g.R.Indexed.bytes r) (g.R.Keyed.key r)) (λ r. IsListed x (g.R.Indexed.bytes r) (g.R.Keyed.key r)) (λ r listed. stays (g.R.Indexed.bytes r) (g.R.Keyed.key r) listed) c.in-Some.held.now c.in_ok-list_held.ensures.listed)
    all))

pub returns : goal.returns
returns g c =
    covers_all g.R.Keyed.key g.R.Indexed.bytes c.loop-held.index (rows_of c.args.table.now.entries)
    (subst (λ es. AllByRecursion (λ r. IsListed c.loop-held.index (g.R.Indexed.bytes r) (g.R.Keyed.key r)) (rows_of es)) (c.range-entries.ensures.between tt ∙ entries_everywhere nat_cmp c.args.table.now.entries)
    (c.loop-held.invariant c.loop-held.index (λ bytes id listed. listed)
    (subst (λ es. AllByRecursion (λ r. IsListed c.loop-held.index (g.R.Indexed.bytes r) (g.R.Keyed.key r)) (rows_of es)) (sym c.in_default.ensures.steps.0) tt)))

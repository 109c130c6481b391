use Rattle.std.proofs.Common.{sym, subst, ◌∙◌}
use Rattle.std.specs.List.{AllByRecursion}
use Rattle.std.proofs.lemmas.List.Elements.{All-from_recursion}
use Rattle.s3_rows.specs.Keyed.{pair_cmp}
use Rattle.mem_keeper.specs.Filed.{IsFiled}
use Rattle.mem_keeper.specs.Table.{rows_of}
use Rattle.mem_keeper.proofs.Tabled.{all_held, entries_everywhere}
use Rattle.mem_keeper.proofs.Stays.{put_stays, stay_joined, stay_itself}
use Rattle.mem_keeper.proofs.filing.file_all.Goals as goal

pub loop-held-preserved : goal.loop-held-preserved
loop-held-preserved g c = record {
  all = λ x stays all.
      c.loop-held.invariant.all x (stay_joined c.loop-held.filing c.file_held.new.filing x c.file_held.ensures.kept stays)
      (subst (λ es. AllByRecursion (λ r. IsFiled x (rows_of c.args.names.now.map.entries) (g.R.Keyed.key r)) (rows_of es)) (sym c.in-Some.ensures.steps)
      (all_held (λ r. IsFiled x (rows_of c.args.names.now.map.entries) (g.R.Keyed.key r)) c.in-Some.field-0-0.now c.in-Some.held.now c.next.new.self
      (put_stays g.R.Keyed.key c.file_held.new.filing x (rows_of c.args.names.now.map.entries) stays c.in-Some.held.now c.in_ok-file_held.ensures.filed)
      all));
  same = c.file_held.ensures.same ∙ c.loop-held.invariant.same;
}

pub returns-in_err-file_held-clause-same : goal.returns-in_err-file_held-clause-same
returns-in_err-file_held-clause-same g c = c.file_held.ensures.same ∙ c.loop-held.invariant.same

pub returns-clause-filed : goal.returns-clause-filed
returns-clause-filed g c =
    All-from_recursion (λ r. IsFiled c.loop-held.filing (rows_of c.args.names.now.map.entries) (g.R.Keyed.key r)) (rows_of c.args.table.now.entries)
    (subst (λ es. AllByRecursion (λ r. IsFiled c.loop-held.filing (rows_of c.args.names.now.map.entries) (g.R.Keyed.key r)) (rows_of es)) (c.range-entries.ensures.between tt ∙ entries_everywhere pair_cmp c.args.table.now.entries)
    (c.loop-held.invariant.all c.loop-held.filing (stay_itself c.loop-held.filing)
    (subst (λ es. AllByRecursion (λ r. IsFiled c.loop-held.filing (rows_of c.args.names.now.map.entries) (g.R.Keyed.key r)) (rows_of es)) (sym c.in_default.ensures.steps.0) tt)))

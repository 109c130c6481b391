use Rattle.std.proofs.Common.{sym, subst, ◌∙◌}
use Rattle.std.specs.List.{AllByRecursion}
use Rattle.s3_rows.specs.Keyed.{pair_cmp}
use Rattle.s3_rows.specs.Tables.{by_entry}
use Rattle.row_lemmas.proofs.Keyed.RowAt.{row_at_meets}
use Rattle.mem_keeper.specs.Holders.{IsHolder}
use Rattle.mem_keeper.specs.Table.{rows_of}
use Rattle.mem_keeper.proofs.Tabled.{all_held, if_held, entries_everywhere}
use Rattle.mem_keeper.proofs.holders.list_holders.Goals as goal

pub loop-held-preserved : goal.loop-held-preserved
loop-held-preserved c = λ x stays all.
    c.loop-held.invariant x (λ r listed. stays r (c.list_holder.ensures.kept r listed))
    (subst (λ es. AllByRecursion (IsHolder x) (rows_of es)) (sym c.in-Some.ensures.steps)
    (all_held (IsHolder x) c.in-Some.field-0-0.now c.in-Some.held.now c.next.new.self
    (if_held (IsHolder c.list_holder.new.holders) (IsHolder x) stays c.in-Some.held.now c.in_ok-list_holder.ensures.listed)
    all))

pub returns : goal.returns
returns c = λ k r there.
    row_at_meets by_entry (IsHolder c.loop-held.holders) k (rows_of c.args.contents.now.entries) r
    (subst (λ es. AllByRecursion (IsHolder c.loop-held.holders) (rows_of es)) (c.range-entries.ensures.between tt ∙ entries_everywhere pair_cmp c.args.contents.now.entries)
    (c.loop-held.invariant c.loop-held.holders (λ s listed. listed)
    (subst (λ es. AllByRecursion (IsHolder c.loop-held.holders) (rows_of es)) (sym c.in_default.ensures.steps.0) tt)))
    there

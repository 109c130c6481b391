use Rattle.std.proofs.Common.{rules, ◌∙◌, ap}
use Rattle.std.proofs.lemmas.List.Sorted.{answers_always}
use Rattle.std.specs.Cmp.{nat_cmp_total}
use Rattle.s3_rows.specs.Tables.{by_block}
use Rattle.s3_rows.specs.Selections.{block_at}
use Rattle.fsck_names.proofs.Searches.{row_at_found, row_at_missed}
use Rattle.fsck_names.proofs.look_ups.block_row.Goals as goal

pub returns-in-Ok : goal.returns-in-Ok
returns-in-Ok c =
    row_at_found by_block nat_cmp_total c.args.id _ _ c.in-Ok.place _ c.as_slice-rows.ensures c.tables.invariant.blocks
    c.in-Ok.ensures.bound (c.in-Ok.ensures.position (λ r. r.id) (answers_always _ _ _ (λ f a r g called. search rules))) c.index-rows-place.is
    ∙ ap (λ t. block_at t c.args.id) c.tables.view_is

pub returns-in-Err : goal.returns-in-Err
returns-in-Err c =
    row_at_missed by_block nat_cmp_total c.args.id _ _ c.in-Err.field-0 c.as_slice-rows.ensures c.tables.invariant.blocks
    c.in-Err.ensures.bound (c.in-Err.ensures.position (λ r. r.id) (answers_always _ _ _ (λ f a r g called. search rules)))
    ∙ ap (λ t. block_at t c.args.id) c.tables.view_is

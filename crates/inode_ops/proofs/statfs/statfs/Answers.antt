use Rattle.std.proofs.Common.{◌≡◌, sym, ap, ◌∙◌, subst, refl, Option}
use Rattle.std.specs.Prelude.{option_map, unwrap_or}
use Rattle.op_frames.specs.declared.operation.Op.TheVariants as ops
use Rattle.ref_counts.specs.declared.plan.Plan.{Plan}
use Rattle.ref_counts.specs.Plans.{IsPlanOf}
use Rattle.ref_counts.proofs.Told.{IfTold-weaker3, IfTold-same}
use Rattle.s3_rows.specs.declared.table_rows.TableName.TheVariants as tables
use Rattle.s3_rows.specs.Rows.{Parameters}
use Rattle.s3_rows.specs.Tables.{IsOrdered}
use Rattle.s3_rows.specs.Selections.{rows_of}
use Rattle.inode_ops.specs.Tallies.{IsCounted}
use Rattle.inode_ops.proofs.Sums.{stat_planned}
use Rattle.inode_ops.proofs.statfs.statfs.Goals as goal

pub returns-clause-plan : goal.returns-clause-plan
returns-clause-plan g c =
    let told = g.K.Keeper.told c.args.keeper.now in
    let first_same = c.in_ok-params.ensures.same in
    IfTold-weaker3 told (λ t. c.in_ok-params.field-0 ≡ t.params) (λ t. IsOrdered t → IsCounted (rows_of t tables.Inodes) c.in_ok-inodes.inodes) (λ t. IsOrdered t → IsCounted (rows_of t tables.Contents) c.in_ok-entries.entries) _
    (λ t params of_inodes of_entries v whole pass now same.
    let size : c.block_size_of-block_size.result ≡ unwrap_or (option_map (λ p. p.block_size) t.params) 0 = c.block_size_of-block_size.ensures ∙ ap (λ (found : Option Parameters). unwrap_or (option_map (λ p. p.block_size) found) 0) params in
    subst (λ (p : Plan). IsPlanOf t whole pass ops.Statfs now p) (sym c.answer.ensures.plan)
    (stat_planned t whole pass now c.block_size_of-block_size.result c.in_ok-inodes.inodes c.in_ok-entries.entries _ v same size (of_inodes v.ordered) (of_entries v.ordered) refl))
    c.in_ok-params.ensures.row (IfTold-same told _ _ first_same c.in_ok-inodes.ensures.counted) (IfTold-same told _ _ (c.in_ok-inodes.ensures.same ∙ first_same) c.in_ok-entries.ensures.counted)

use Rattle.s3_rows.specs.Rows.{Content}
use Rattle.s3_rows.specs.Tables.{Tables}
use Rattle.ref_counts.proofs.Named.{if_ok}
use Rattle.ref_counts.proofs.NamedRows.{told_row_of_id, told_row_named_none}
use Rattle.dir_ops.proofs.EntryRows.{entries_have_names}
use Rattle.dir_ops.proofs.entries.find_entry.Goals as goal

pub returns-in-Some-clause-found : goal.returns-in-Some-clause-found
returns-in-Some-clause-found g c =
    if_ok _ _
    (λ r own. told_row_of_id (λ (e : Content). e.parent) (λ (e : Content). e.name_id) (λ (t : Tables). t.contents) entries_have_names (g.K.Keeper.told c.args.keeper.now) c.args.parent c.args.name.now
    c.in_ok-id.field-0 c.in_ok-id.ensures.row _ c.in-Some.id r c.in-Some.is c.in_ok-id.ensures.same own)
    c.entry.result c.entry.ensures.row

pub returns-in-None-clause-found : goal.returns-in-None-clause-found
returns-in-None-clause-found g c =
    told_row_named_none (λ (e : Content). e.parent) (λ (e : Content). e.name_id) (λ (t : Tables). t.contents) entries_have_names (g.K.Keeper.told c.args.keeper.now) c.args.parent c.args.name.now
    c.in_ok-id.field-0 c.in_ok-id.ensures.row c.in-None.is

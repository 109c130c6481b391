use Rattle.std.proofs.Common.{◌≡◌, ◌∙◌, sym, ap, None}
use Rattle.std.specs.Prelude.{option_map}
use Rattle.std.specs.Option.{option_or}
use Rattle.s3_rows.specs.Latest.{last_named}
use Rattle.s3_rows.specs.Selections.{name_of_bytes}
use Rattle.ref_counts.proofs.Named.{if_ok}
use Rattle.ref_counts.proofs.Told.{IfTold-weaker}
use Rattle.ref_counts.proofs.pending.last_name_id.Goals as goal

pub returns-in-None-clause-id : goal.returns-in-None-clause-id
returns-in-None-clause-id g c =
    let batch = c.args.batch.now in
    let none : last_named c.args.name.now batch ≡ None =
    ap (λ name. last_named name batch) (sym c.as_slice.ensures) ∙ sym c.last_named.ensures ∙ c.in-None.is in
    if_ok _ _
    (λ id own.
    IfTold-weaker (g.K.Keeper.told c.args.keeper.now) _ _
    (λ t is. is ∙ ap (λ last. option_or last (option_map (λ n. n.id) (name_of_bytes t c.args.name.now))) (sym none)) own)
    c.name_id.result c.name_id.ensures.row

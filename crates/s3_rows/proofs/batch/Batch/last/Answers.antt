use Rattle.std.proofs.Common.{◌∙◌, ap, None, Some}
use Rattle.std.specs.Option.{option_copied}
use Rattle.std.specs.Prelude.{slice_get}
use Rattle.s3_rows.proofs.Indexed.{change_at_place, item_read}
use Rattle.s3_rows.proofs.batch.Batch.last.Goals as goal

pub returns-in_err-place : goal.returns-in_err-place
returns-in_err-place c =
    let items = c.self.inside.changes.items in
    let last = c.place.ensures items c.self.invariant in
    ap option_copied c.from_residual.ensures
    ∙ change_at_place c.args.id items c.args.self.now c.place.result None last c.in_err-place.was c.self.view_is

pub returns : goal.returns
returns c =
    let items = c.self.inside.changes.items in
    let last = c.place.ensures items c.self.invariant in
    let place = c.in_ok-place.place in
    item_read c.as_slice.result.now place c.get.result c.get.ensures.lookup
    ∙ ap (λ xs. slice_get xs place) c.as_slice.ensures
    ∙ change_at_place c.args.id items c.args.self.now c.place.result (Some place) last c.in_ok-place.was c.self.view_is

use Rattle.std.proofs.Common.{List, sym, ap, ◌∙◌}
use Rattle.std.specs.List.{slice_get}
use Rattle.std.specs.Option.{option_copied}
use Rattle.s3_rows.specs.Rows.{InodeBlock}
use Rattle.ref_counts.proofs.Told.{IfTold-weaker}
use Rattle.ref_counts.proofs.NextPlaces.{found_row}
use Rattle.tree_copy.proofs.places.next_place.Goals as goal

pub returns-in-Some-clause-next : goal.returns-in-Some-clause-next
returns-in-Some-clause-next g c =
    IfTold-weaker (g.K.Keeper.told c.args.keeper.now) _ _
    (λ t is. found_row t c.args.inode c.args.from c.in_ok-page.page _ is (c.in-Some.ensures.value ∙ ap (λ (l : List InodeBlock). slice_get l 0) c.as_slice.ensures))
    c.in_ok-page.ensures.rows

pub returns-clause-next : goal.returns-clause-next
returns-clause-next g c =
    IfTold-weaker (g.K.Keeper.told c.args.keeper.now) _ _
    (λ t is.
    found_row t c.args.inode c.args.from c.in_ok-page.page _ is
    (sym (ap option_copied c.in-None.is) ∙ c.first.ensures.value ∙ ap (λ (l : List InodeBlock). slice_get l 0) c.as_slice.ensures))
    c.in_ok-page.ensures.rows

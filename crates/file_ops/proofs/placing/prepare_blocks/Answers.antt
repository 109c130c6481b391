use Rattle.std.proofs.Common.{◌≡◌, ◌≤◌, ◌+◌, ◌^◌, [], length, count_by, ap, sym, ◌∙◌, arith}
use Rattle.sha2.specs.Sha256.{sha256}
use Rattle.ref_counts.proofs.Told.{IfTold-same, IfTold-weaker, IfTold-weaker2}
use Rattle.s3_rows.specs.Rows.{Parameters}
use Rattle.file_ops.specs.Resolved.{is_new, resolved}
use Rattle.std.proofs.lemmas.List.Sums.{count_by-le-length}
use Rattle.file_ops.proofs.FewPlaces.{told_few_drawn}
use Rattle.file_ops.proofs.Left.{IfSome-there}
use Rattle.file_ops.proofs.OldObjects.{old_kept}
use Rattle.file_ops.proofs.Room.{numbers_there}
use Rattle.file_ops.proofs.placing.prepare_blocks.Goals as goal

pub returns-clause-others : goal.returns-clause-others
returns-clause-others g c =
    IfTold-weaker2 (g.K.Keeper.told c.args.keeper.now) _ _ _
    (λ t row found.
    old_kept sha256 t c.args.blocks.now c.in-Some.params (sym c.in-Some.is ∙ row) c.params-2.inside.next_block c.params-2.inside.next_object c.in-Some-2.places c.as_slice-2.result.now
    (ap (λ (p : Parameters). p.next_block) c.params-2.view_is) (ap (λ (p : Parameters). p.next_object) c.params-2.view_is)
    c.as_slice-2.ensures (IfSome-there (λ places. places ≡ resolved sha256 t [] c.params-2.inside.next_block c.params-2.inside.next_object c.args.blocks.now) _ c.in-Some-2.places c.in-Some-2.is found)
    (g.L.Link.told c.args.link.now) (g.L.Link.told c.store_objects.new.link) c.in_ok-store_objects.ensures.put)
    c.in_ok-params.ensures.row
    (IfTold-same _ _ _ c.in_ok-params.ensures.same c.in_ok-places.ensures.places)

pub returns-clause-drawn : goal.returns-clause-drawn
returns-clause-drawn g c =
    let some = count_by-le-length is_new c.as_slice.result.now in
    let long : length c.in-Some-2.places ≡ length c.args.blocks.now =
    IfSome-there (λ places. length places ≡ length c.args.blocks.now) _ c.in-Some-2.places c.in-Some-2.is c.in_ok-places.ensures.length in
    let whole : length c.as_slice.result.now ≡ length c.in-Some-2.places = ap length c.as_slice.ensures in
    let less : c.count_new-count.result ≤ length c.args.blocks.now = omega (arith, c.count_new-count.ensures, some, long, whole) in
    told_few_drawn c.count_new-count.result (length c.args.blocks.now) c.in-Some.params (g.K.Keeper.told c.args.keeper.now) (g.K.Keeper.told c.resolve.new.keeper)
    (g.K.Keeper.told c.draw_objects.new.keeper) less
    (IfTold-weaker (g.K.Keeper.told c.args.keeper.now) _ _ (λ t row. sym (sym c.in-Some.is ∙ row)) c.in_ok-params.ensures.row)
    (c.in_ok-places.ensures.same ∙ c.in_ok-params.ensures.same) c.in_ok-draw_objects.ensures.drawn

pub returns-in_err-store_objects-clause-drawn : goal.returns-in_err-store_objects-clause-drawn
returns-in_err-store_objects-clause-drawn g c =
    let some = count_by-le-length is_new c.as_slice.result.now in
    let long : length c.in-Some-2.places ≡ length c.args.blocks.now =
    IfSome-there (λ places. length places ≡ length c.args.blocks.now) _ c.in-Some-2.places c.in-Some-2.is c.in_ok-places.ensures.length in
    let whole : length c.as_slice.result.now ≡ length c.in-Some-2.places = ap length c.as_slice.ensures in
    let less : c.count_new-count.result ≤ length c.args.blocks.now = omega (arith, c.count_new-count.ensures, some, long, whole) in
    told_few_drawn c.count_new-count.result (length c.args.blocks.now) c.in-Some.params (g.K.Keeper.told c.args.keeper.now) (g.K.Keeper.told c.resolve.new.keeper)
    (g.K.Keeper.told c.draw_objects.new.keeper) less
    (IfTold-weaker (g.K.Keeper.told c.args.keeper.now) _ _ (λ t row. sym (sym c.in-Some.is ∙ row)) c.in_ok-params.ensures.row)
    (c.in_ok-places.ensures.same ∙ c.in_ok-params.ensures.same) c.in_ok-draw_objects.ensures.drawn

pub returns-clause-room : goal.returns-clause-room
returns-clause-room g c =
    IfTold-weaker2 (g.K.Keeper.told c.args.keeper.now) _ _ _
    (λ t row found.
    numbers_there sha256 t c.args.blocks.now c.in-Some.params (sym c.in-Some.is ∙ row) c.params-2.inside.next_block c.params-2.inside.next_object
    (ap (λ (p : Parameters). p.next_block) c.params-2.view_is) (ap (λ (p : Parameters). p.next_object) c.params-2.view_is) c.in-Some-2.places
    (IfSome-there (λ places. places ≡ resolved sha256 t [] c.params-2.inside.next_block c.params-2.inside.next_object c.args.blocks.now) _ c.in-Some-2.places c.in-Some-2.is found)
    (IfSome-there (λ places. (c.params-2.inside.next_block + count_by is_new places ≤ 2 ^ 62) × (c.params-2.inside.next_object + count_by is_new places ≤ 2 ^ 62)) _ c.in-Some-2.places c.in-Some-2.is
    c.in_ok-places.ensures.room))
    c.in_ok-params.ensures.row
    (IfTold-same _ _ _ c.in_ok-params.ensures.same c.in_ok-places.ensures.places)

use Rattle.std.proofs.Common.{All, ◌≡◌, ◌++◌, [], ◌∷◌, reverse, ap, ◌∙◌, subst}
use Rattle.std.proofs.lemmas.List.{reverse-append}
use Rattle.s3_rows.specs.Batches.{tables_after}
use Rattle.mem_keeper.specs.Store.{tables_in, HasPlace}
use Rattle.mem_keeper.proofs.Ranges.{HasRanges-after_change}
use Rattle.mem_keeper.proofs.Places.{first_place, later_places}
use Rattle.mem_keeper.proofs.commit.apply_changes.Goals as goal

pub loop-change-preserved : goal.loop-change-preserved
loop-change-preserved c =
    let last : c.loop-change.changes.items ≡ c.pop.new.self.items ++ c.in-Some.change ∷ [] = c.in-Some.ensures.items in
    let turned : reverse c.loop-change.changes.items ≡ c.in-Some.change ∷ reverse c.pop.new.self.items = ap reverse last ∙ reverse-append c.pop.new.self.items (c.in-Some.change ∷ []) in
    record {
      maps = c.apply_change.ensures.maps;
      ranges = rw c.apply_change.ensures.tables (HasRanges-after_change c.in-Some.change (tables_in c.loop-change.maps) c.apply_change.ensures.fits c.loop-change.invariant.ranges);
      places = later_places c.loop-change.maps c.apply_change.new.maps c.apply_change.ensures.kept c.in-Some.change (reverse c.pop.new.self.items)
          (subst (All (HasPlace c.loop-change.maps)) turned c.loop-change.invariant.places);
      tables = rw c.apply_change.ensures.tables (subst (λ l. tables_after l (tables_in c.loop-change.maps) ≡ tables_after c.args.changes.items (tables_in c.args.maps.now)) turned c.loop-change.invariant.tables);
    }

pub apply_change-requires-clause-place : goal.apply_change-requires-clause-place
apply_change-requires-clause-place c =
    let last : c.loop-change.changes.items ≡ c.pop.new.self.items ++ c.in-Some.change ∷ [] = c.in-Some.ensures.items in
    let turned : reverse c.loop-change.changes.items ≡ c.in-Some.change ∷ reverse c.pop.new.self.items = ap reverse last ∙ reverse-append c.pop.new.self.items (c.in-Some.change ∷ []) in
    first_place c.loop-change.maps c.in-Some.change (reverse c.pop.new.self.items) (subst (All (HasPlace c.loop-change.maps)) turned c.loop-change.invariant.places)

use Rattle.block_steps.proofs.DebtsTables.{OwesPlaces-IsValid}
use Rattle.block_steps.proofs.DroppedPlaces.{AreRowsOf-places_dropped, IsValid-places_dropped, KeepsNames-places_dropped, form_at-places_from, inode_blocks-places_from, params-places_dropped}
use Rattle.block_steps.proofs.drops.dropped_places_leave_valid_tables.Goals as goal

pub returns-clause-valid : goal.returns-clause-valid
returns-clause-valid c = λ t rows valid. IsValid-places_dropped rows t valid

pub returns-clause-names : goal.returns-clause-names
returns-clause-names c = λ t rows. KeepsNames-places_dropped rows t

pub returns-clause-params : goal.returns-clause-params
returns-clause-params c = λ t rows. params-places_dropped rows t

pub returns-clause-rows : goal.returns-clause-rows
returns-clause-rows c = λ t rows. AreRowsOf-places_dropped rows t

pub returns-clause-gone : goal.returns-clause-gone
returns-clause-gone c = inode_blocks-places_from

pub returns-clause-elsewhere : goal.returns-clause-elsewhere
returns-clause-elsewhere c =
    λ t inode from other number valid outside.
    form_at-places_from t valid.params inode from other number (OwesPlaces-IsValid t valid.params valid valid.is_made) outside

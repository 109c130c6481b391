use Rattle.std.proofs.Common.{refl}
use Rattle.ref_counts.specs.Links.{AreRowsOf}
use Rattle.ref_counts.proofs.Rest.{AreRowsOf-same}
use Rattle.block_steps.specs.Owed.{KeepsNames}
use Rattle.block_steps.proofs.RelinkedPlaces.{IsValid-places_relinked, kept-places_relinked, form_at-places_relinked, form_at-places_relinked_other}
use Rattle.block_steps.proofs.places.relinked_places_leave_valid_tables.Goals as goal

pub returns-clause-valid : goal.returns-clause-valid
returns-clause-valid c =
    λ t p inode places o regular within.
    IsValid-places_relinked c.places_pay_for_their_blocks.ensures.put c.places_pay_for_their_blocks.ensures.dropped c.changes_of_places_keep_names.ensures.relinked
    c.tables_that_owe_no_places_are_valid.ensures.back t p inode places (record { owes = o; regular = regular; within = within })

pub returns-clause-names : goal.returns-clause-names
returns-clause-names c =
    kept-places_relinked KeepsNames c.changes_of_places_keep_names.ensures.same c.changes_of_places_keep_names.ensures.joined c.changes_of_places_keep_names.ensures.relinked

pub returns-clause-rows : goal.returns-clause-rows
returns-clause-rows c =
    kept-places_relinked AreRowsOf (λ t. AreRowsOf-same t t refl) c.changes_of_places_keep_names.ensures.joined_rows c.changes_of_places_keep_names.ensures.relinked_rows

pub returns-clause-forms : goal.returns-clause-forms
returns-clause-forms c =
    λ t p inode places o regular within unlike place there.
    form_at-places_relinked c.places_pay_for_their_blocks.ensures.put c.places_pay_for_their_blocks.ensures.dropped c.changes_of_places_keep_names.ensures.relinked
    t p inode places (record { owes = o; regular = regular; within = within }) unlike place there

pub returns-clause-elsewhere : goal.returns-clause-elsewhere
returns-clause-elsewhere c =
    λ t p inode other number places o regular within apart.
    form_at-places_relinked_other c.places_pay_for_their_blocks.ensures.put c.places_pay_for_their_blocks.ensures.dropped c.changes_of_places_keep_names.ensures.relinked
    t p inode places other number (record { owes = o; regular = regular; within = within }) apart

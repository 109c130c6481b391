use Rattle.file_ops.proofs.CountedPlaces.{CountLaws}
use Rattle.file_ops.proofs.KeptBlocks.{KeptLaws}
use Rattle.file_ops.proofs.NamedBlocks.{LinkLaws, known_bytes, known_forms, placed}
use Rattle.file_ops.proofs.StoredPlaces.{StoreLaws, held_known, stored}
use Rattle.file_ops.proofs.laws.placed_blocks_leave_valid_tables.Goals as goal

pub returns-clause-valid : goal.returns-clause-valid
returns-clause-valid c digest_of inode blocks before after batch now did able =
    let laws : CountLaws = record {
      counted_owes = c.counted_blocks_owe_a_place.ensures;
      made_owes = c.made_blocks_owe_a_place.ensures;
      joined = c.changes_of_places_keep_names.ensures.joined;
      counted_names = c.changes_of_places_keep_names.ensures.counted;
      made_names = c.changes_of_places_keep_names.ensures.made;
      counted_rows = c.changes_of_places_keep_names.ensures.counted_rows;
      counted_spots = c.counted_blocks_leave_forms.ensures.places;
      counted_forms = c.counted_blocks_leave_forms.ensures.blocks;
      made_own = c.made_blocks_have_their_form.ensures.own;
      made_spots = c.made_blocks_have_their_form.ensures.places;
      made_forms = c.made_blocks_have_their_form.ensures.blocks;
    } in
    let links : LinkLaws = record {
      none_owed = c.tables_that_owe_no_places_are_valid.ensures.valid;
      order = c.order_of_debts_is_free.ensures;
      same = c.changes_of_places_keep_names.ensures.same;
      valid = c.relinked_places_leave_valid_tables.ensures.valid;
      names = c.relinked_places_leave_valid_tables.ensures.names;
      rows = c.relinked_places_leave_valid_tables.ensures.rows;
      forms = c.relinked_places_leave_valid_tables.ensures.forms;
      elsewhere = c.relinked_places_leave_valid_tables.ensures.elsewhere;
    } in
    placed digest_of inode blocks before after batch now did laws links able

pub returns-clause-forms : goal.returns-clause-forms
returns-clause-forms c digest_of inode blocks before after batch now did able m have knows =
    let laws : CountLaws = record {
      counted_owes = c.counted_blocks_owe_a_place.ensures;
      made_owes = c.made_blocks_owe_a_place.ensures;
      joined = c.changes_of_places_keep_names.ensures.joined;
      counted_names = c.changes_of_places_keep_names.ensures.counted;
      made_names = c.changes_of_places_keep_names.ensures.made;
      counted_rows = c.changes_of_places_keep_names.ensures.counted_rows;
      counted_spots = c.counted_blocks_leave_forms.ensures.places;
      counted_forms = c.counted_blocks_leave_forms.ensures.blocks;
      made_own = c.made_blocks_have_their_form.ensures.own;
      made_spots = c.made_blocks_have_their_form.ensures.places;
      made_forms = c.made_blocks_have_their_form.ensures.blocks;
    } in
    let links : LinkLaws = record {
      none_owed = c.tables_that_owe_no_places_are_valid.ensures.valid;
      order = c.order_of_debts_is_free.ensures;
      same = c.changes_of_places_keep_names.ensures.same;
      valid = c.relinked_places_leave_valid_tables.ensures.valid;
      names = c.relinked_places_leave_valid_tables.ensures.names;
      rows = c.relinked_places_leave_valid_tables.ensures.rows;
      forms = c.relinked_places_leave_valid_tables.ensures.forms;
      elsewhere = c.relinked_places_leave_valid_tables.ensures.elsewhere;
    } in
    let kept : KeptLaws = record {
      known = c.kept_rows_keep_what_is_held.ensures.known;
      held = c.kept_rows_keep_what_is_held.ensures.held;
      stored = c.kept_rows_keep_what_is_held.ensures.stored;
    } in (
      known_forms digest_of inode blocks before after batch now did laws links able kept m have knows,
      known_bytes digest_of inode blocks before after batch now did laws links able kept m have knows,
    )

pub returns-clause-held : goal.returns-clause-held
returns-clause-held c digest_of inode blocks before after batch now did able o since puts =
    let laws : CountLaws = record {
      counted_owes = c.counted_blocks_owe_a_place.ensures;
      made_owes = c.made_blocks_owe_a_place.ensures;
      joined = c.changes_of_places_keep_names.ensures.joined;
      counted_names = c.changes_of_places_keep_names.ensures.counted;
      made_names = c.changes_of_places_keep_names.ensures.made;
      counted_rows = c.changes_of_places_keep_names.ensures.counted_rows;
      counted_spots = c.counted_blocks_leave_forms.ensures.places;
      counted_forms = c.counted_blocks_leave_forms.ensures.blocks;
      made_own = c.made_blocks_have_their_form.ensures.own;
      made_spots = c.made_blocks_have_their_form.ensures.places;
      made_forms = c.made_blocks_have_their_form.ensures.blocks;
    } in
    let links : LinkLaws = record {
      none_owed = c.tables_that_owe_no_places_are_valid.ensures.valid;
      order = c.order_of_debts_is_free.ensures;
      same = c.changes_of_places_keep_names.ensures.same;
      valid = c.relinked_places_leave_valid_tables.ensures.valid;
      names = c.relinked_places_leave_valid_tables.ensures.names;
      rows = c.relinked_places_leave_valid_tables.ensures.rows;
      forms = c.relinked_places_leave_valid_tables.ensures.forms;
      elsewhere = c.relinked_places_leave_valid_tables.ensures.elsewhere;
    } in
    let kept : KeptLaws = record {
      known = c.kept_rows_keep_what_is_held.ensures.known;
      held = c.kept_rows_keep_what_is_held.ensures.held;
      stored = c.kept_rows_keep_what_is_held.ensures.stored;
    } in
    let store : StoreLaws = record {
      others = c.held_blocks_rest_on_their_objects.ensures.others;
      row = c.held_blocks_rest_on_their_objects.ensures.put;
      stored_others = c.held_blocks_rest_on_their_objects.ensures.stored_others;
      stored_row = c.held_blocks_rest_on_their_objects.ensures.stored_put;
    } in
    stored laws links kept store digest_of inode blocks before after batch now did able o since puts

pub returns-clause-bytes_held : goal.returns-clause-bytes_held
returns-clause-bytes_held c digest_of inode blocks before after batch now did able m knows o since puts =
    let laws : CountLaws = record {
      counted_owes = c.counted_blocks_owe_a_place.ensures;
      made_owes = c.made_blocks_owe_a_place.ensures;
      joined = c.changes_of_places_keep_names.ensures.joined;
      counted_names = c.changes_of_places_keep_names.ensures.counted;
      made_names = c.changes_of_places_keep_names.ensures.made;
      counted_rows = c.changes_of_places_keep_names.ensures.counted_rows;
      counted_spots = c.counted_blocks_leave_forms.ensures.places;
      counted_forms = c.counted_blocks_leave_forms.ensures.blocks;
      made_own = c.made_blocks_have_their_form.ensures.own;
      made_spots = c.made_blocks_have_their_form.ensures.places;
      made_forms = c.made_blocks_have_their_form.ensures.blocks;
    } in
    let links : LinkLaws = record {
      none_owed = c.tables_that_owe_no_places_are_valid.ensures.valid;
      order = c.order_of_debts_is_free.ensures;
      same = c.changes_of_places_keep_names.ensures.same;
      valid = c.relinked_places_leave_valid_tables.ensures.valid;
      names = c.relinked_places_leave_valid_tables.ensures.names;
      rows = c.relinked_places_leave_valid_tables.ensures.rows;
      forms = c.relinked_places_leave_valid_tables.ensures.forms;
      elsewhere = c.relinked_places_leave_valid_tables.ensures.elsewhere;
    } in
    let kept : KeptLaws = record {
      known = c.kept_rows_keep_what_is_held.ensures.known;
      held = c.kept_rows_keep_what_is_held.ensures.held;
      stored = c.kept_rows_keep_what_is_held.ensures.stored;
    } in
    let store : StoreLaws = record {
      others = c.held_blocks_rest_on_their_objects.ensures.others;
      row = c.held_blocks_rest_on_their_objects.ensures.put;
      stored_others = c.held_blocks_rest_on_their_objects.ensures.stored_others;
      stored_row = c.held_blocks_rest_on_their_objects.ensures.stored_put;
    } in
    held_known laws links kept store digest_of inode blocks before after batch now did able o since puts m knows

use Rattle.std.proofs.Common.{◌∷◌, None, Some}
use Rattle.block_steps.proofs.RelinkedForms.{form_at-relinked_none, form_at-relinked_other, form_at-relinked_same, form_of_row-relinked_owed, is_owed_first, is_owed_more}
use Rattle.block_steps.proofs.forms.relinked_places_have_their_form.Goals as goal

pub returns-clause-put : goal.returns-clause-put
returns-clause-put c = λ t p inode blockno block blocks o. form_at-relinked_same t p (block ∷ blocks) o inode blockno block (is_owed_first block blocks)

pub returns-clause-put_elsewhere : goal.returns-clause-put_elsewhere
returns-clause-put_elsewhere c =
    λ t p inode blockno block other number blocks o apart. form_at-relinked_other t p (block ∷ blocks) o inode blockno (Some block) other number apart

pub returns-clause-put_owed : goal.returns-clause-put_owed
returns-clause-put_owed c =
    λ t p inode blockno block id blocks o owes. form_of_row-relinked_owed t p (block ∷ blocks) o inode blockno (Some block) id (is_owed_more block blocks id owes)

pub returns-clause-dropped : goal.returns-clause-dropped
returns-clause-dropped c = form_at-relinked_none

pub returns-clause-dropped_elsewhere : goal.returns-clause-dropped_elsewhere
returns-clause-dropped_elsewhere c = λ t p inode blockno other number blocks o apart. form_at-relinked_other t p blocks o inode blockno None other number apart

pub returns-clause-dropped_owed : goal.returns-clause-dropped_owed
returns-clause-dropped_owed c = λ t p inode blockno id blocks o owes. form_of_row-relinked_owed t p blocks o inode blockno None id owes

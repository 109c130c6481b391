use Rattle.std.proofs.Common.{ℕ, List, [], ◌∷◌, ◌++◌, max, ap, ◌∙◌}
use Rattle.metadata_backup.specs.Survey.{generations_in, object_end}
use Rattle.metadata_backup.proofs.SurveyLaws.{generations_in-push, objects_end-push, last_or-items}
use Rattle.metadata_backup.proofs.survey.note_page.Goals as goal

pub loop-item-preserved : goal.loop-item-preserved
loop-item-preserved c = record {
  generations = generations_in-push c.loop-item.yielded c.in-Some.item c.args.found.now.generations c.loop-item.found.generations c.note.new.found.generations c.loop-item.invariant.generations (c.in_ok-note.ensures.generations ∙ ap (λ (k : List ℕ). c.loop-item.found.generations ++ generations_in (k ∷ [])) c.as_slice.ensures);
  next_object = objects_end-push c.loop-item.yielded c.in-Some.item c.args.found.now.next_object c.loop-item.found.next_object c.note.new.found.next_object c.loop-item.invariant.next_object (c.in_ok-note.ensures.next_object ∙ ap (λ (k : List ℕ). max c.loop-item.found.next_object (object_end k)) c.as_slice.ensures);
  last = last_or-items c.loop-item.yielded c.in-Some.item c.args.after.now;
  ids = c.note.ensures.ids;
  next = c.note.ensures.next;
}

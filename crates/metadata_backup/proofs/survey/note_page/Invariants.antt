use Rattle.std.proofs.Common.{◌≡◌, ◌++◌, max, map}
use Rattle.std.specs.Prelude.{All}
use Rattle.s3_rows.specs.Rows.{IsId, IsNext}
use Rattle.metadata_backup.specs.Survey.{generations_in, objects_end, last_or}
use Rattle.metadata_backup.proofs.survey.note_page.Given as goal

-- so much of the page is noted
abbrev pub invariant-loop-item : goal.invariant-loop-item
invariant-loop-item l = record {
  generations : l.found.generations ≡ l.fn.found.generations ++ generations_in (map (λ i. i.key) l.yielded);
  next_object : l.found.next_object ≡ max l.fn.found.next_object (objects_end (map (λ i. i.key) l.yielded));
  last : l.after ≡ last_or l.fn.after (map (λ i. i.key) l.yielded);
  ids : All IsId l.found.generations;
  next : IsNext l.found.next_object;
}

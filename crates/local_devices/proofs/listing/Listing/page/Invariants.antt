-- The items so far are a page.
use Rattle.std.specs.Prelude.{◌≤◌, length}
use Rattle.s3_devices.specs.LinkAnswers.{IsKeyPage}
use Rattle.local_devices.proofs.listing.Listing.page.Given as goal

abbrev pub invariant-loop-key : goal.invariant-loop-key
invariant-loop-key l = record {
  page : IsKeyPage l.after l.max l.page;
}

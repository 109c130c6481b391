use Rattle.std.proofs.Common.{◌≡◌, ◌++◌, map}
use Rattle.std.specs.Prelude.{filter}
use Rattle.metadata_backup.specs.Survey.{last_or}
use Rattle.fsck_run.specs.Listing.{is_own}
use Rattle.fsck_run.proofs.listing.keep_page.Given as goal

-- so much of the page is kept
abbrev pub invariant-loop-item : goal.invariant-loop-item
invariant-loop-item l = record {
  kept : l.keys ≡ l.fn.keys ++ filter is_own l.yielded;
  last : l.after ≡ last_or l.fn.after (map (λ i. i.key) l.yielded);
}

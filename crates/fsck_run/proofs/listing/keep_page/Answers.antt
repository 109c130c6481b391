use Rattle.std.proofs.Common.{◌∙◌}
use Rattle.metadata_backup.proofs.SurveyLaws.{last_or-items}
use Rattle.fsck_run.proofs.ListedKeys.{own-push}
use Rattle.fsck_run.proofs.listing.keep_page.Goals as goal

pub loop-item-preserved : goal.loop-item-preserved
loop-item-preserved c = record {
  kept = own-push c.loop-item.yielded c.in-Some.item c.args.keys.now c.loop-item.keys c.keep.new.keys c.loop-item.invariant.kept c.in_ok-keep.ensures;
  last = c.in_ok-after.ensures.cases ∙ last_or-items c.loop-item.yielded c.in-Some.item c.args.after.now;
}

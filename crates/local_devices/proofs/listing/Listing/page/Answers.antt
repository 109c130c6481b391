use Rattle.std.proofs.Common.{sym, subst, List}
use Rattle.s3_devices.specs.LinkAnswers.{IsKeyPage}
use Rattle.s3_devices.specs.declared.key_list.KeyItem.{KeyItem}
use Rattle.local_devices.proofs.KeyPages.{IsKeyPage-none}
use Rattle.local_devices.proofs.listing.Listing.page.Goals as goal

pub loop-key-init : goal.loop-key-init
loop-key-init c = record { page = subst (IsKeyPage c.args.after.now c.args.max) (sym c.new-page.ensures) (IsKeyPage-none c.args.after.now c.args.max) }

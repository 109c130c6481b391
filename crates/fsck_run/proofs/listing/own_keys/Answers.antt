use Rattle.fsck_run.proofs.ListedKeys.{keys_told}
use Rattle.fsck_run.proofs.listing.own_keys.Goals as goal

pub returns-then-branch-clause-keys : goal.returns-then-branch-clause-keys
returns-then-branch-clause-keys g c =
    keys_told (g.L.Link.told c.args.link.now) (g.L.Link.told c.loop-page.link) c.in_ok-read_page.field-0 c.loop-page.keys c.read_page.new.keys c.loop-page.after
    c.read_page.new.after c.loop-page.invariant.same c.if-branch.true c.in_ok-read_page.ensures.read c.loop-page.invariant.read

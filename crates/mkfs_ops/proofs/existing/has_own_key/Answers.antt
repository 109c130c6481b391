use Rattle.std.proofs.Common.{sym, ap, ◌∙◌}
use Rattle.std.specs.Prelude.{codes}
use Rattle.std.specs.List.{list_any}
use Rattle.s3_devices.specs.declared.key_list.KeyItem.{KeyItem}
use Rattle.mkfs_ops.specs.Making.{is_own}
use Rattle.mkfs_ops.proofs.FirstKeys.{held_is_found, listed_is_found}
use Rattle.mkfs_ops.proofs.existing.has_own_key.Goals as goal

pub returns-then-is_some-clause-found : goal.returns-then-is_some-clause-found
returns-then-is_some-clause-found g c =
    held_is_found (g.L.Link.told c.args.link.now) (codes "s3ql_") c.in_ok-start.start c.in_ok-held.held
    c.in_ok-start.ensures (sym c.is_some.ensures ∙ c.if-is_some.true) c.in_ok-held.ensures.held

pub returns-clause-found : goal.returns-clause-found
returns-clause-found g c =
    listed_is_found (g.L.Link.told c.args.link.now) (g.L.Link.told c.get.new.self) (codes "s3ql_") c.in_ok-start.start c.in_ok-held.held c.in_ok-page.page c.any_own.result
    c.in_ok-held.ensures.same c.in_ok-start.ensures (sym c.is_some.ensures ∙ c.if-is_some.false) c.in_ok-held.ensures.held c.in_ok-page.ensures.keys
    (c.any_own.ensures ∙ ap (list_any (λ (i : KeyItem). is_own i.key)) c.as_slice.ensures)

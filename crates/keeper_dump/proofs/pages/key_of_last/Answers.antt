use Rattle.std.proofs.Common.{sym, ◌∙◌}
use Rattle.keeper_dump.proofs.PageLaws.{last_some}
use Rattle.keeper_dump.proofs.pages.key_of_last.Goals as goal

pub returns-in-Some : goal.returns-in-Some
returns-in-Some g c = c.key.ensures ∙ sym (last_some g.T.TableRow.format.key c.args.rows.now c.in-Some.row.now c.in-Some.ensures.value)

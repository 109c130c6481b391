use Rattle.std.proofs.Common.{◌∙◌, ap, rules, tests}
use Rattle.std.specs.Prelude.{◌==◌, ◌&&◌, not}
use Rattle.std.proofs.lemmas.Iterator.Consumers.{YieldsList-from_rest}
use Rattle.std.proofs.lemmas.Iterator.Search.{any_from_yields_List}
use Rattle.plain_tree.specs.Tree.{Handle}
use Rattle.ref_counts.specs.Handles.{OpenHandles, closed, is_held}
use Rattle.ref_counts.proofs.Held.{list_any-remove_entry}
use Rattle.ref_counts.proofs.handles.Handles.is_held_beside.Goals as goal

pub returns : goal.returns
returns c =
    any_from_yields_List (λ e. not (e.0 == c.args.number) && e.1.inode == c.args.inode) _ _ c.any.result c.any.ensures.ran
    (YieldsList-from_rest c.self.inside.entries.entries c.iter.ensures.rest) (λ x b q k. search (rules, tests))
    ∙ list_any-remove_entry (λ (h : Handle). h.inode == c.args.inode) c.args.number c.self.inside.entries.entries c.iter.ensures.ordered
    ∙ ap (λ (h : OpenHandles). is_held (closed c.args.number h) c.args.inode) c.self.view_is

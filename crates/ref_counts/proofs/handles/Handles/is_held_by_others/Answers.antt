use Rattle.std.proofs.Common.{◌∙◌, ap, sym, rules, tests}
use Rattle.std.specs.Prelude.{◌==◌, ◌&&◌, not}
use Rattle.std.proofs.lemmas.Iterator.Consumers.{YieldsList-from_rest}
use Rattle.std.proofs.lemmas.Iterator.Search.{any_from_yields_List}
use Rattle.ref_counts.specs.Handles.{OpenHandles, closed_all, is_held}
use Rattle.ref_counts.proofs.Held.{list_any-filter}
use Rattle.ref_counts.proofs.handles.Handles.is_held_by_others.Goals as goal

pub returns : goal.returns
returns c =
    any_from_yields_List (λ e. not (e.1.pass == c.args.pass) && e.1.inode == c.args.inode) _ _ c.any.result c.any.ensures.ran
    (YieldsList-from_rest c.self.inside.entries.entries c.iter.ensures.rest) (λ x b q k. search (rules, tests))
    ∙ sym (list_any-filter (λ e. e.1.inode == c.args.inode) (λ e. not (e.1.pass == c.args.pass)) c.self.inside.entries.entries)
    ∙ ap (λ (h : OpenHandles). is_held (closed_all c.args.pass h) c.args.inode) c.self.view_is

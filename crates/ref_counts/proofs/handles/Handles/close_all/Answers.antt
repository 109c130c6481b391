use Rattle.std.proofs.Common.{◌≡◌, ◌∙◌, ap, rules}
use Rattle.std.specs.Prelude.{◌==◌, not, filter}
use Rattle.std.proofs.lemmas.Map.Made.{filter_same_pairs}
use Rattle.ref_counts.specs.Handles.{OpenHandles}
use Rattle.ref_counts.proofs.Numbers.{AllBelow-filter}
use Rattle.ref_counts.proofs.handles.Handles.close_all.Goals as goal

kept : (c : goal.After-retain) → c.retain.new.self.entries ≡ filter (λ e. not (e.1.pass == c.args.pass)) c.self.inside.entries.entries
kept c = filter_same_pairs _ (λ e. not (e.1.pass == c.args.pass)) _ (λ k v b w f' t. search rules) _ _ c.retain.ensures.filtered

pub invariant_of-self : goal.invariant_of-self
invariant_of-self c = rw (kept c) (AllBelow-filter (λ e. not (e.1.pass == c.args.pass)) c.self.inside.next c.self.inside.entries.entries c.self.invariant)

pub returns : goal.returns
returns c =
    ap (λ es. record { next = c.self.inside.next; handles = es }) (kept c)
    ∙ ap (λ (h : OpenHandles). record h { handles = filter (λ e. not (e.1.pass == c.args.pass)) h.handles }) c.self.view_is

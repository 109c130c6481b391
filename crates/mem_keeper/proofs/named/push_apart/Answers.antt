use Rattle.std.proofs.Common.{◌++◌, sym, ap, ◌∙◌}
use Rattle.std.specs.List.{cons_option}
use Rattle.std.specs.Ordering.{is_eq}
use Rattle.s3_rows.specs.Selections.{bytes_cmp}
use Rattle.mem_keeper.specs.Filed.{apart, last_name}
use Rattle.mem_keeper.proofs.Apart.{apart_pushed}
use Rattle.mem_keeper.proofs.named.push_apart.Goals as goal

pub returns-in_ok-push-clause-items : goal.returns-in_ok-push-clause-items
returns-in_ok-push-clause-items g c = λ rest.
    ap (λ l. l ++ apart g.T.Named.name_of (last_name g.T.Named.name_of c.args.after.now l) rest) c.in_ok-push.ensures.items
    ∙ apart_pushed g.T.Named.name_of c.args.after.now c.args.items.now.items c.in-Some.item rest
    (sym (c.is_last.ensures ∙ ap (λ l. is_eq (bytes_cmp (last_name g.T.Named.name_of c.args.after.now l) c.name.result.now)) c.as_slice.ensures.value
    ∙ ap (λ n. is_eq (bytes_cmp (last_name g.T.Named.name_of c.args.after.now c.args.items.now.items) n)) c.name.ensures)
    ∙ c.if-not-is_last.true)
    ∙ ap (λ v. c.args.items.now.items ++ apart g.T.Named.name_of (last_name g.T.Named.name_of c.args.after.now c.args.items.now.items) (cons_option v rest)) (sym c.in-Some.is)

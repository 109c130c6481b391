use Rattle.std.proofs.Common.{◌++◌, [], map, append-nil, append_assoc, sym, ap, ◌∙◌}
use Rattle.std.specs.List.{cons_option}
use Rattle.s3_rows.specs.Keyed.{row_at}
use Rattle.s3_rows.specs.Tables.{by_entry}
use Rattle.row_lemmas.proofs.Tables.{pair_cmp_total}
use Rattle.mem_keeper.specs.Holders.{naming}
use Rattle.mem_keeper.specs.Table.{rows_of}
use Rattle.mem_keeper.proofs.Tabled.{rises-rows_of}
use Rattle.mem_keeper.proofs.Holder.{held-more, rows_naming_all}
use Rattle.mem_keeper.proofs.holders.rows_naming.Goals as goal

pub loop-place-preserved : goal.loop-place-preserved
loop-place-preserved c =
    let all = rows_of c.args.contents.now.entries in
    let rest = map (λ e. (e.0.1, naming c.args.inode (row_at by_entry e.0.1 all))) c.next.new.self in
    ap (λ l. l ++ rows_of rest) c.in_ok-push_found.ensures
    ∙ append_assoc c.loop-place.rows.items (cons_option c.naming_row.result []) (rows_of rest)
    ∙ ap (λ l. c.loop-place.rows.items ++ l)
    (ap (λ v. cons_option v [] ++ rows_of rest) c.naming_row.ensures
    ∙ held-more c.in-Some.place.now.1 (naming c.args.inode (row_at by_entry c.in-Some.place.now.1 all)) rest
    ∙ ap (λ es. rows_of (map (λ e. (e.0.1, naming c.args.inode (row_at by_entry e.0.1 all))) es)) (sym c.in-Some.ensures.steps))
    ∙ c.loop-place.invariant

pub returns : goal.returns
returns c =
    let all = rows_of c.args.contents.now.entries in
    sym (append-nil c.loop-place.rows.items)
    ∙ ap (λ es. c.loop-place.rows.items ++ rows_of (map (λ e. (e.0.1, naming c.args.inode (row_at by_entry e.0.1 all))) es)) (sym c.in_default.ensures.steps.0)
    ∙ c.loop-place.invariant
    ∙ ap (λ es. rows_of (map (λ e. (e.0.1, naming c.args.inode (row_at by_entry e.0.1 all))) es)) (c.range-entries.ensures.between tt)
    ∙ rows_naming_all c.args.inode c.args.holders.now all (rises-rows_of by_entry pair_cmp_total c.args.contents.now.entries c.requires.table) c.requires.ranges c.requires.listed c.range-entries.ensures.ordered

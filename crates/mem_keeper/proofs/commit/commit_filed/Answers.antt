use Rattle.std.proofs.Common.{List, All, sym, subst}
use Rattle.std.specs.Prelude.{IsTrue}
use Rattle.s3_rows.specs.declared.change.Change.{Change}
use Rattle.s3_rows.specs.Tables.{Tables, by_entry, by_attr}
use Rattle.mem_keeper.specs.Filed.{entry_put, attr_put, keeps_bytes, AreStanding, IsMoved}
use Rattle.mem_keeper.specs.Store.{tables_in}
use Rattle.mem_keeper.proofs.Moved.{moved_entries, moved_attrs}
use Rattle.mem_keeper.proofs.Places.{IsOrdered-tables_in}
use Rattle.mem_keeper.proofs.commit.commit_filed.Goals as goal

pub follow_both-requires-clause-entries : goal.follow_both-requires-clause-entries
follow_both-requires-clause-entries c = λ stands keeps.
    let old : Tables = tables_in c.args.maps.now in
    let new : Tables = tables_in c.commit_maps.new.maps in
    subst (λ (cs : List Change). IsMoved by_entry.key entry_put c.args.filings.now.entries new.names cs new.contents) (sym c.as_slice-2.ensures)
    (subst (λ (t : Tables). IsMoved by_entry.key entry_put c.args.filings.now.entries t.names c.args.batch.now t.contents) (sym c.in_ok-commit_maps.ensures.ok)
    (moved_entries c.args.filings.now.entries c.args.batch.now old (IsOrdered-tables_in c.args.maps.now c.requires.maps).names (c.requires.filed.entries stands)
    (subst (λ (cs : List Change). All (λ d. IsTrue (keeps_bytes c.args.filings.now.entries.used old.names d)) cs) c.as_slice.ensures (c.in_ok-plans.ensures.entries keeps))))

pub follow_both-requires-clause-attrs : goal.follow_both-requires-clause-attrs
follow_both-requires-clause-attrs c = λ stands keeps.
    let old : Tables = tables_in c.args.maps.now in
    let new : Tables = tables_in c.commit_maps.new.maps in
    subst (λ (cs : List Change). IsMoved by_attr.key attr_put c.args.filings.now.attrs new.names cs new.attrs) (sym c.as_slice-2.ensures)
    (subst (λ (t : Tables). IsMoved by_attr.key attr_put c.args.filings.now.attrs t.names c.args.batch.now t.attrs) (sym c.in_ok-commit_maps.ensures.ok)
    (moved_attrs c.args.filings.now.attrs c.args.batch.now old (IsOrdered-tables_in c.args.maps.now c.requires.maps).names (c.requires.filed.attrs stands)
    (subst (λ (cs : List Change). All (λ d. IsTrue (keeps_bytes c.args.filings.now.attrs.used old.names d)) cs) c.as_slice.ensures (c.in_ok-plans.ensures.attrs keeps))))

pub returns-in_err-commit_maps-clause-filed : goal.returns-in_err-commit_maps-clause-filed
returns-in_err-commit_maps-clause-filed c = subst (AreStanding c.args.filings.now) (sym c.in_err-commit_maps.ensures.err) c.requires.filed

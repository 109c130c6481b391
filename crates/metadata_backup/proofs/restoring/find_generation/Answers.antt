use Rattle.std.proofs.Common.{◌≡◌, None, Some, sym, ap, ◌∙◌}
use Rattle.std.proofs.lemmas.Result.{err_from_is_err_and}
use Rattle.metadata_backup.specs.Survey.{greatest}
use Rattle.metadata_backup.proofs.GenerationLaws.{greatest_is_id}
use Rattle.metadata_backup.proofs.RestoreLaws.{all_found, found_by, none_by, refused_by}
use Rattle.metadata_backup.proofs.restoring.find_generation.Goals as goal

pub returns-in_default-clause-refused : goal.returns-in_default-clause-refused
returns-in_default-clause-refused g c =
    let numbers = c.in_ok-keys.keys.generations in
    let told = g.L.Link.told c.args.link.now in
    let none : None ≡ greatest numbers = sym c.in_default.is ∙ c.greatest.ensures ∙ ap greatest c.as_slice.ensures in
    none_by told c.args.generation c.in_ok-keys.keys.next_object numbers none (all_found numbers c.in_ok-keys.keys.next_object told c.in_ok-keys.ensures.found)

pub returns-clause-found : goal.returns-clause-found
returns-clause-found g c =
    let numbers = c.in_ok-keys.keys.generations in
    let next = c.in_ok-keys.keys.next_object in
    let told = g.L.Link.told c.args.link.now in
    let some : Some c.in-Some.newest ≡ greatest numbers = sym c.in-Some.is ∙ c.greatest.ensures ∙ ap greatest c.as_slice.ensures in
    found_by told (g.L.Link.told c.read_keys.new.link) c.args.generation c.in-Some.newest next numbers c.in_ok-bytes.bytes c.in_ok-tables.tables
    c.read_keys.ensures.same some c.in_ok-tables.ensures.found (all_found numbers next told c.in_ok-keys.ensures.found) c.in_ok-bytes.ensures.held

pub returns-clause-newest : goal.returns-clause-newest
returns-clause-newest g c =
    greatest_is_id c.in_ok-keys.keys.generations c.in_ok-keys.ensures.ids c.in-Some.newest
    (sym (c.greatest.ensures ∙ ap greatest c.as_slice.ensures) ∙ c.in-Some.is)

pub returns-in_err-tables-clause-refused : goal.returns-in_err-tables-clause-refused
returns-in_err-tables-clause-refused g c =
    let p = err_from_is_err_and c.from_residual-in_err-tables.result c.from_residual-in_err-tables.ensures.1 in
    let numbers = c.in_ok-keys.keys.generations in
    let next = c.in_ok-keys.keys.next_object in
    let told = g.L.Link.told c.args.link.now in
    let some : Some c.in-Some.newest ≡ greatest numbers = sym c.in-Some.is ∙ c.greatest.ensures ∙ ap greatest c.as_slice.ensures in
    rw (p.1, p.2)
    (refused_by told (g.L.Link.told c.read_keys.new.link) c.args.generation c.in-Some.newest next numbers c.in_ok-bytes.bytes c.in_err-tables.field-0.0
    c.read_keys.ensures.same some c.in_err-tables.ensures.refused (all_found numbers next told c.in_ok-keys.ensures.found) c.in_ok-bytes.ensures.held)

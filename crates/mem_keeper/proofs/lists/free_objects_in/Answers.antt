use Rattle.std.proofs.Common.{◌≡◌, List, Bool, ◌==◌, nat_lt, map, take, refl, sym, ap, ◌∙◌, subst}
use Rattle.std.specs.Prelude.{IsTrue, filter}
use Rattle.std.specs.Cmp.{nat_cmp_total}
use Rattle.s3_rows.specs.Rows.{Object}
use Rattle.s3_rows.specs.Keyed.{rises}
use Rattle.s3_rows.specs.Tables.{by_object}
use Rattle.row_lemmas.proofs.Filters.{filter_comm}
use Rattle.row_lemmas.proofs.Keyed.Rises.{rises-filter}
use Rattle.row_lists.proofs.ListingPages.{filter-map}
use Rattle.mem_keeper.specs.Table.{rows_of}
use Rattle.mem_keeper.specs.Store.{tables_in}
use Rattle.mem_keeper.proofs.Standing.{if_ok_at}
use Rattle.mem_keeper.proofs.Tabled.{rises-rows_of}
use Rattle.mem_keeper.proofs.Parts.{filter_agree, filter_again, past_number}
use Rattle.mem_keeper.proofs.lists.free_objects_in.Goals as goal

pub free_objects_of-requires : goal.free_objects_of-requires
free_objects_of-requires c =
    let all : List Object = rows_of c.args.maps.now.objects.entries in
    subst (λ (l : List Object). IsTrue (rises by_object l)) (sym (c.deref.ensures.value ∙ c.in_ok-rows.ensures))
    (rises-filter by_object _ (filter _ all) (rises-filter by_object _ all (rises-rows_of by_object nat_cmp_total c.args.maps.now.objects.entries c.requires.objects)))

pub returns-clause-rows : goal.returns-clause-rows
returns-clause-rows c =
    let all : List Object = rows_of c.args.maps.now.objects.entries in
    let free : Object → Bool = λ r. r.refcount == 0 in
    let past : Object → Bool = λ r. nat_lt c.args.after r.id in
    let part : c.deref.result.now ≡ filter free (filter past all) =
    c.deref.ensures.value ∙ c.in_ok-rows.ensures
    ∙ ap (filter free) (filter_agree (λ (r : Object). Unit {0}) _ past (λ r any. past_number c.args.after r.id) all (λ i d below. tt)) in
    let same : filter past (filter free c.deref.result.now) ≡ filter past (filter free all) =
    ap (filter past) (filter_again free (filter past all) c.deref.result.now part)
    ∙ ap (filter past) (filter_comm free past all) ∙ filter_again past (filter free all) (filter past (filter free all)) refl in
    if_ok_at c.free_objects_of.result _ _
    (λ l h. h (record (tables_in c.args.maps.now) { objects = c.deref.result.now }) refl
    ∙ ap (take c.args.max) (filter-map (λ (r : Object). r.id) (nat_lt c.args.after) (filter free c.deref.result.now) ∙ ap (map (λ (r : Object). r.id)) same
    ∙ sym (filter-map (λ (r : Object). r.id) (nat_lt c.args.after) (filter free all))))
    c.free_objects_of.ensures.rows

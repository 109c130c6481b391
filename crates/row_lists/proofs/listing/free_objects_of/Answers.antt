use Rattle.std.proofs.Common.{◌≡◌, nat_lt, ◌==◌, true, List, ℕ, take, refl, sym, ap, ◌∙◌, subst, arith, map}
use Rattle.std.specs.List.{filter}
use Rattle.std.proofs.lemmas.Bool.Decides.{nat_tests}
use Rattle.std.proofs.lemmas.List.Elements.{filter_agree}
use Rattle.std.proofs.lemmas.Result.{IfOk-weaker}
use Rattle.s3_rows.specs.Rows.{Object}
use Rattle.s3_rows.specs.Tables.{by_object}
use Rattle.s3_rows.specs.Keyed.{is_past, rises}
use Rattle.s3_rows.specs.Told.{is_page, by_number}
use Rattle.row_lemmas.proofs.Keyed.Rises.{rises-filter, rises-map}
use Rattle.row_lists.proofs.ListingOrder.{first-filtered}
use Rattle.row_lists.proofs.listing.free_objects_of.Goals as goal

abbrev free : List Object → List Object
free rows = filter (λ (r : Object). r.refcount == 0) rows

abbrev ids : List Object → List ℕ
ids rows = map (λ (r : Object). r.id) (free rows)

past : (after n : ℕ) → is_past by_number after n ≡ nat_lt after n
past after n = grind (arith, nat_tests)

paged : (rows : List Object) (after max : ℕ) → rises by_object rows ≡ true → is_page by_number after max (take max (filter (nat_lt after) (ids rows))) ≡ true
paged rows after max up =
    subst (λ (l : List ℕ). is_page by_number after max (take max l) ≡ true) (filter_agree (is_past by_number after) (nat_lt after) (past after) (ids rows))
    (first-filtered by_number (is_past by_number after) max (ids rows)
    (rises-map by_object by_number (λ (r : Object). r.id) (λ x y. refl) (free rows) (rises-filter by_object (λ (r : Object). r.refcount == 0) rows up)))

pub returns-clause-rows : goal.returns-clause-rows
returns-clause-rows c =
    IfOk-weaker c.from_slice.result _ _
    (λ l is t same. is ∙ c.as_slice.ensures.value ∙ c.in_ok-ids.ensures ∙ ap (λ (rows : List Object). take c.args.max (filter (nat_lt c.args.after) (ids rows))) (sym same)) c.from_slice.ensures

pub returns-clause-page : goal.returns-clause-page
returns-clause-page c =
    IfOk-weaker c.from_slice.result _ _
    (λ l is. subst (λ (rows : List ℕ). is_page by_number c.args.after c.args.max rows ≡ true) (sym (is ∙ c.as_slice.ensures.value ∙ c.in_ok-ids.ensures))
    (paged c.args.objects.now c.args.after c.args.max c.requires)) c.from_slice.ensures

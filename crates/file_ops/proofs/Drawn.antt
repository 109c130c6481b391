-- Objects that are drawn one after the other.
use Rattle.std.proofs.Common.{◌≡◌, ℕ, zero, suc, ◌+◌, List, [], ◌∷◌, ◌++◌, Option, Some, refl, sym, ap, ◌∙◌, arith, add-one}
use Rattle.s3_rows.specs.declared.change.Change.{Change}
use Rattle.s3_rows.specs.declared.change.Change.TheVariants as changes
use Rattle.s3_rows.specs.Rows.{Parameters}
use Rattle.s3_rows.specs.Tables.{Tables}
use Rattle.s3_rows.specs.Batches.{tables_after, after_change}
use Rattle.row_lemmas.proofs.Tables.{tables_after-tables_after}
use Rattle.core_model.specs.Safe.{new_object, with_new_object, with_new_objects}

-- ---- with_new_objects

-- the next number has risen by as many
pub params-with_new_objects : (count : ℕ) (t : Tables) (p : Parameters) → t.params ≡ Some p
    → (with_new_objects count t).params ≡ Some (record p { next_object = p.next_object + count })
params-with_new_objects zero t p made =
    let same : p.next_object ≡ p.next_object + 0 = omega arith in
    made ∙ ap (λ (n : ℕ). Some (record p { next_object = n })) same
params-with_new_objects (suc count) t p made =
    let drawn : (with_new_object t.params t).params ≡ Some (record p { next_object = p.next_object + 1 }) = ap (λ (x : Option Parameters). (with_new_object x t).params) made in
    let same : (p.next_object + 1) + count ≡ p.next_object + suc count = omega arith in
    params-with_new_objects count (with_new_object t.params t) (record p { next_object = p.next_object + 1 }) drawn
    ∙ ap (λ (n : ℕ). Some (record p { next_object = n })) same

-- the last one comes after all others
pub with_new_objects-suc : (count : ℕ) (t : Tables) → with_new_objects (suc count) t ≡ with_new_object (with_new_objects count t).params (with_new_objects count t)
with_new_objects-suc zero t = refl
with_new_objects-suc (suc count) t = with_new_objects-suc count (with_new_object t.params t)

-- ---- changes

-- the changes by which one object more is drawn
pub drawn_more : (t : Tables) (p : Parameters) (batch first after : List Change) (n object next : ℕ) → object ≡ p.next_object + n → next ≡ object + 1
    → first ≡ batch ++ changes.PutObject (new_object object) ∷ [] → after ≡ first ++ changes.SetParams (record p { next_object = next }) ∷ []
    → t.params ≡ Some p → tables_after batch t ≡ with_new_objects n t → tables_after after t ≡ with_new_objects (n + 1) t
drawn_more t p batch first after n object next here above put set made drawn =
    let last : Tables = with_new_objects n t in
    let q : ℕ → Parameters = λ x. record p { next_object = x } in
    let changed : ℕ → ℕ → Tables → Tables = λ x y u. after_change (changes.SetParams (q y)) (after_change (changes.PutObject (new_object x)) u) in
    let split : tables_after after t ≡ changed object next (tables_after batch t) =
    ap (λ (cs : List Change). tables_after cs t) set ∙ sym (tables_after-tables_after first (changes.SetParams (q next) ∷ []) t)
    ∙ ap (λ (cs : List Change). after_change (changes.SetParams (q next)) (tables_after cs t)) put
    ∙ ap (after_change (changes.SetParams (q next))) (sym (tables_after-tables_after batch (changes.PutObject (new_object object) ∷ []) t)) in
    let named : changed object next last ≡ with_new_object (Some (q (p.next_object + n))) last =
    ap (λ (x : ℕ). changed object x last) above ∙ ap (λ (x : ℕ). changed x (x + 1) last) here in
    let whole : with_new_object (Some (q (p.next_object + n))) last ≡ with_new_objects (suc n) t =
    ap (λ (x : Option Parameters). with_new_object x last) (sym (params-with_new_objects n t p made)) ∙ sym (with_new_objects-suc n t) in
    split ∙ ap (changed object next) drawn ∙ named ∙ whole ∙ ap (λ (x : ℕ). with_new_objects x t) (sym (add-one n))

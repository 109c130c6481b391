use Rattle.std.proofs.Common.{◌≡◌, ℕ, suc, ◌<◌, List, ◌∷◌, Option, Result, Ok, Err, length, get_or, drop, sym, ap, ◌∙◌, subst, arith}
use Rattle.std.specs.Prelude.{OnErr}
use Rattle.std.proofs.Math.Seq.{drop-cons}
use Rattle.s3_devices.specs.Objects.{Objects, IsKeptOrGone}
use Rattle.s3_devices.specs.Told.{Becomes}
use Rattle.fsck_run.specs.DoomedKeys.{IsFirstKeptOrGone}
use Rattle.fsck_run.proofs.doomed_keys.DoomedKeys.delete_first.Goals as goal

on_err : {A E : Type 0} (r : Result A E) (P : Type 0) → P → OnErr r P
on_err (Ok x) P p = tt
on_err (Err e) P p = p

first_refused : (xs ys : List (List ℕ)) (n : ℕ) (k : List ℕ) (before after : Option Objects) → ys ≡ xs → n < length xs → k ≡ get_or ys n k
    → Becomes (IsKeptOrGone k) before after → Becomes (IsFirstKeptOrGone (drop n xs)) before after
first_refused xs ys n k before after same within is becomes =
    subst (λ (zs : List (List ℕ)). Becomes (IsFirstKeptOrGone zs) before after)
    (sym (drop-cons xs n k within ∙ ap (λ (z : List ℕ). z ∷ drop (suc n) xs) (ap (λ (zs : List (List ℕ)). get_or zs n k) (sym same) ∙ sym is)))
    becomes

pub returns-in_err-delete-clause-refused : goal.returns-in_err-delete-clause-refused
returns-in_err-delete-clause-refused g c =
    let self = c.args.self.now in
    let before = g.L.Link.told c.args.link.now in
    let after = g.L.Link.told c.delete.new.self in
    let within : self.gone < length self.keys = omega (arith, c.if-self-count.false, c.len-count.ensures) in
    on_err c.from_residual.result (Becomes (IsFirstKeptOrGone (drop self.gone self.keys)) before after)
    (first_refused self.keys c.as_slice.result.now self.gone c.index-as_slice-self.result before after c.as_slice.ensures within c.index-as_slice-self.is
    c.in_err-delete.ensures.err)

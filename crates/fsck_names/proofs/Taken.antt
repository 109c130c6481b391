-- Steps that were taken: of one change, and one after the other.
use Rattle.std.proofs.Common.{◌≡◌, List, [], ◌∷◌, ◌++◌, map, Option, None, Some, Result, Ok, Err, refl, sym, ap, subst, ◌∙◌, append_assoc}
use Rattle.std.specs.Prelude.{IsErrAnd, option_map}
use Rattle.std.specs.Option.{option_and_then}
use Rattle.s3_rows.specs.declared.change.Change.{Change}
use Rattle.s3_rows.specs.Tables.{Tables}
use Rattle.s3_rows.specs.Batches.{after_change, tables_after}
use Rattle.row_lemmas.proofs.Tables.{tables_after-tables_after}
use Rattle.fsck_findings.specs.declared.finding.Finding.{Finding}
use Rattle.fsck_findings.specs.declared.repair.Repair.{Repair}
use Rattle.fsck_findings.specs.declared.repair.PassFault.{PassFault}
use Rattle.fsck_findings.specs.declared.repair.PassFault.TheVariants as faults
use Rattle.fsck_findings.specs.Line.{line_of}
use Rattle.fsck_names.specs.Made.{Made, nothing, changing, finding, joined, ◌then◌}
use Rattle.fsck_names.specs.Steps.{IsTaken, Takes, Gives}

pub append-none : {X : Type 0} (xs : List X) → xs ++ [] ≡ xs
append-none [] = refl
append-none (x ∷ xs) = ap (λ ys. x ∷ ys) (append-none xs)

-- one change, which is no finding
pub taken_change : (c : Change) (t u : Tables) (r s : Repair) → u ≡ after_change c t → s.batch ≡ r.batch ++ c ∷ []
    → s.findings ≡ r.findings → IsTaken (changing (c ∷ [])) t u r s
taken_change c t u r s tables batch findings = record {
  tables = tables;
  batch = batch;
  findings = findings ∙ sym (append-none r.findings);
}

map-append : {X Y : Type 0} (f : X → Y) (xs ys : List X) → map f (xs ++ ys) ≡ map f xs ++ map f ys
map-append f [] ys = refl
map-append f (x ∷ xs) ys = ap (λ zs. f x ∷ zs) (map-append f xs ys)

-- one step, and another on what it leaves
pub taken_joined : (a b : Made) (t u v : Tables) (r s w : Repair) → IsTaken a t u r s → IsTaken b u v s w → IsTaken (joined a b) t v r w
taken_joined a b t u v r s w first second = record {
  tables = second.tables ∙ ap (λ x. tables_after b.batch x) first.tables ∙ tables_after-tables_after a.batch b.batch t;
  batch = second.batch ∙ ap (λ x. x ++ b.batch) first.batch ∙ append_assoc r.batch a.batch b.batch;
  findings =
      second.findings
      ∙ ap (λ x. x ++ map line_of b.found) first.findings
      ∙ append_assoc r.findings (map line_of a.found) (map line_of b.found)
      ∙ ap (λ x. r.findings ++ x) (sym (map-append line_of a.found b.found));
}

-- nothing at all
pub taken_nothing : (t : Tables) (r : Repair) → IsTaken nothing t t r r
taken_nothing t r = record { tables = refl; batch = sym (append-none r.batch); findings = sym (append-none r.findings) }

-- a finding without a change
pub taken_finding : (f : Finding) (t : Tables) (r s : Repair) → s.batch ≡ r.batch → s.findings ≡ r.findings ++ line_of f ∷ []
    → Takes (finding f t) t t r s
taken_finding f t r s batch findings = record { tables = refl; batch = batch ∙ sym (append-none r.batch); findings = findings }

-- ---- one step after the other

none_some : {X : Type 0} (x : X) → Some x ≡ None → ⊥
none_some x clash = cc clash

-- what the second step gives, after the first was taken
after_first : (m : Made) (y : Option Made) (result : Result (Unit {0}) PassFault) (t u v : Tables) (r s w : Repair)
    → IsTaken m t u r s → Gives result y u v s w → Gives result (option_map (joined m) y) t v r w
after_first m None (Ok x) t u v r s w first second = absurd second
after_first m (Some n) (Ok x) t u v r s w first second = taken_joined m n t u v r s w first second
after_first m None (Err faults.Worn) t u v r s w first second = refl
after_first m (Some n) (Err faults.Worn) t u v r s w first second = absurd (none_some n second)
after_first m None (Err faults.Memory) t u v r s w first second = tt
after_first m (Some n) (Err faults.Memory) t u v r s w first second = tt

module _ (a b : Tables → Option Made) where
  -- where the first was taken, the two give what the second gives
  pub gives_then : (result : Result (Unit {0}) PassFault) (t u v : Tables) (r s w : Repair) → Takes (a t) t u r s → Gives result (b u) u v s w
      → Gives result ((a then b) t) t v r w
  gives_then result t u v r s w first second = by_first (a t) first
    where
      by_first : (x : Option Made) → Takes x t u r s
          → Gives result (option_and_then (λ m. option_map (joined m) (b (tables_after m.batch t))) x) t v r w
      by_first None first = absurd first
      by_first (Some m) first =
          after_first m (b (tables_after m.batch t)) result t u v r s w first
          (subst (λ y. Gives result (b y) u v s w) first.tables second)

  -- where the first gives none, so do the two
  pub fails_then : (e : PassFault) (t u v : Tables) (r s w : Repair) → Gives (Err e) (a t) t u r s → Gives (Err e) ((a then b) t) t v r w
  fails_then faults.Worn t u v r s w is =
      ap (λ x. option_and_then (λ m. option_map (joined m) (b (tables_after m.batch t))) x) is
  fails_then faults.Memory t u v r s w is = tt

-- a call answers the fault of the call that it makes
pub gives_err : (result : Result (Unit {0}) PassFault) (e : PassFault) (made : Option Made) (t v : Tables) (r w : Repair) → IsErrAnd result (λ x. x ≡ e) → Gives (Err e) made t v r w → Gives result made t v r w
gives_err (Ok x) e made t v r w is gives = absurd is
gives_err (Err x) e made t v r w is gives = subst (λ y. Gives (Err y) made t v r w) (sym is) gives

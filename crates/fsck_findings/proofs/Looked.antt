-- Rows that are looked at one after the other: what is left to be found about them.
use Rattle.std.proofs.Common.{◌≡◌, ℕ, suc, ◌+◌, ◌<◌, List, [], ◌∷◌, ◌++◌, map, length, get_or, drop, sym, ap, ◌∙◌, append_assoc, add-one, drop-cons}
use Rattle.std.proofs.lemmas.List.{map-append, append-nil}
use Rattle.fsck_findings.specs.declared.repair.Repair.{Repair}
use Rattle.fsck_findings.specs.Line.{line_of}
use Rattle.fsck_findings.specs.Found.{Found, Adds, each_found, ◌then_also◌}

-- with what is found about these rows more, the repair has all that is found about all rows
pub record Leaves {R : Type 0} (about : R → Found) (left rows : List R) (before now : Repair) : Type 0 where
  pub batch : now.batch ++ (each_found about left).changes ≡ before.batch ++ (each_found about rows).changes
  pub findings : now.findings ++ map line_of (each_found about left).findings ≡ before.findings ++ map line_of (each_found about rows).findings

-- a row more is looked at
pub Leaves-Adds : {R : Type 0} (about : R → Found) (x : R) (left rows : List R) (before now after : Repair)
    → Leaves about (x ∷ left) rows before now → Adds (about x) now after → Leaves about left rows before after
Leaves-Adds about x left rows before now after leaves adds = record {
  batch =
      ap (λ b. b ++ (each_found about left).changes) adds.batch ∙ append_assoc now.batch (about x).changes (each_found about left).changes ∙ leaves.batch;
  findings =
      ap (λ f. f ++ map line_of (each_found about left).findings) adds.findings
      ∙ append_assoc now.findings (map line_of (about x).findings) (map line_of (each_found about left).findings)
      ∙ ap (λ f. now.findings ++ f) (sym (map-append line_of (about x).findings (each_found about left).findings)) ∙ leaves.findings;
}

-- no row is left
pub Adds-Leaves : {R : Type 0} (about : R → Found) (rows : List R) (before now : Repair) → Leaves about [] rows before now
    → Adds (each_found about rows) before now
Adds-Leaves about rows before now leaves = record {
  batch = sym (append-nil now.batch) ∙ leaves.batch;
  findings = sym (append-nil now.findings) ∙ leaves.findings;
}

-- the row at a place is the first of those that are left there
pub drop_at : {R : Type 0} (rows : List R) (i : ℕ) (x : R) → i < length rows → x ≡ get_or rows i x → drop i rows ≡ x ∷ drop (i + 1) rows
drop_at rows i x short is = drop-cons rows i x short ∙ ap (λ y. y ∷ drop (suc i) rows) (sym is) ∙ ap (λ k. x ∷ drop k rows) (sym (add-one i))

-- one step after the other
pub Adds-then_also : (first second : Found) (before now after : Repair) → Adds first before now → Adds second now after
    → Adds (first then_also second) before after
Adds-then_also first second before now after a b = record {
  batch = b.batch ∙ ap (λ l. l ++ second.changes) a.batch ∙ append_assoc before.batch first.changes second.changes;
  findings =
      b.findings ∙ ap (λ l. l ++ map line_of second.findings) a.findings
      ∙ append_assoc before.findings (map line_of first.findings) (map line_of second.findings)
      ∙ ap (λ l. before.findings ++ l) (sym (map-append line_of first.findings second.findings));
}

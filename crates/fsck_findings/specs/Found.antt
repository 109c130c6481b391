-- What a pass finds about a row: changes that mend it, and findings. Steps of a pass add up.
use Rattle.std.specs.Prelude.{◌≡◌, List, [], ◌∷◌, ◌++◌, map, Bool, if◌then◌else◌}
use Rattle.s3_rows.specs.declared.change.Change.{Change}
use Rattle.fsck_findings.specs.declared.finding.Finding.{Finding}
use Rattle.fsck_findings.specs.declared.repair.Repair.{Repair}
use Rattle.fsck_findings.specs.Line.{line_of}

pub record Found : Type 0 where
  pub changes : List Change
  pub findings : List Finding

abbrev pub nothing : Found
nothing = record { changes = []; findings = [] }

-- one change, with its line
abbrev pub found : Change → Finding → Found
found change finding = record { changes = change ∷ []; findings = finding ∷ [] }

-- the same, where the test holds
abbrev pub found_if : Bool → Change → Finding → Found
found_if test change finding = if test then found change finding else nothing

-- one after the other
infixl 10 ◌then_also◌
abbrev pub ◌then_also◌ : Found → Found → Found
first then_also second = record { changes = first.changes ++ second.changes; findings = first.findings ++ second.findings }

-- about each row, in order
abbrev pub each_found : {R : Type 0} → (R → Found) → List R → Found
each_found about [] = nothing
each_found about (r ∷ rs) = about r then_also each_found about rs

-- the repair has so much more
pub record Adds (more : Found) (before after : Repair) : Type 0 where
  pub batch : after.batch ≡ before.batch ++ more.changes
  pub findings : after.findings ≡ before.findings ++ map line_of more.findings

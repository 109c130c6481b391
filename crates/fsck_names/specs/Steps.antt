-- What a step that was taken leaves of the tables, and of what the pass gives.
use Rattle.std.specs.Prelude.{◌≡◌, ◌++◌, Option, None, Some, Result, Ok, Err, map}
use Rattle.s3_rows.specs.Tables.{Tables}
use Rattle.s3_rows.specs.Batches.{tables_after}
use Rattle.fsck_findings.specs.declared.repair.Repair.{Repair}
use Rattle.fsck_findings.specs.declared.repair.PassFault.{PassFault}
use Rattle.fsck_findings.specs.declared.repair.PassFault.TheVariants as faults
use Rattle.fsck_findings.specs.Line.{line_of}
use Rattle.fsck_names.specs.Made.{Made}

-- the tables are those after what the step makes, which is added to what the pass gives
pub record IsTaken (m : Made) (before after : Tables) (given gives : Repair) : Type 0 where
  pub tables : after ≡ tables_after m.batch before
  pub batch : gives.batch ≡ given.batch ++ m.batch
  pub findings : gives.findings ≡ given.findings ++ map line_of m.found

-- the step was taken, and needed no number that is not left
abbrev pub Takes : Option Made → Tables → Tables → Repair → Repair → Type 0
Takes None before after given gives = ⊥
Takes (Some m) before after given gives = IsTaken m before after given gives

-- what a call gives of a step: the step was taken, or it needs a number that is not left, or there was no memory
abbrev pub Gives : Result (Unit {0}) PassFault → Option Made → Tables → Tables → Repair → Repair → Type 0
Gives (Ok x) made before after given gives = Takes made before after given gives
Gives (Err faults.Worn) made before after given gives = made ≡ None
Gives (Err faults.Memory) made before after given gives = Unit {0}

-- what the pass answers: exactly the changes and the lines of what it makes, that a number is needed and not left, or that there
-- was no memory
abbrev pub IsRepairOf : Option Made → Result Repair PassFault → Type 0
IsRepairOf None (Ok r) = ⊥
IsRepairOf (Some m) (Ok r) = (r.batch ≡ m.batch) × (r.findings ≡ map line_of m.found)
IsRepairOf made (Err faults.Worn) = made ≡ None
IsRepairOf made (Err faults.Memory) = Unit {0}

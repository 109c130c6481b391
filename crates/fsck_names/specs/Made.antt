-- What a step of a check does to tables, and steps one after the other.
use Rattle.std.specs.Prelude.{List, [], ◌∷◌, ◌++◌, Option, Some, option_map}
use Rattle.std.specs.Option.{option_and_then}
use Rattle.s3_rows.specs.declared.change.Change.{Change}
use Rattle.s3_rows.specs.Tables.{Tables}
use Rattle.s3_rows.specs.Batches.{tables_after}
use Rattle.fsck_findings.specs.declared.finding.Finding.{Finding}

-- the changes that are made, and what was found, in order
pub record Made : Type 0 where
  pub batch : List Change
  pub found : List Finding

-- nothing is made
abbrev pub nothing : Made
nothing = record { batch = []; found = [] }

-- changes that are no finding
abbrev pub changing : List Change → Made
changing changes = record { batch = changes; found = [] }

-- one, and then the other
abbrev pub joined : Made → Made → Made
joined a b = record { batch = a.batch ++ b.batch; found = a.found ++ b.found }

-- a step gives what it makes of tables, or None where it needs a number and none is left; the second step takes the tables as
-- the first one leaves them
infixl 10 ◌then◌
abbrev pub ◌then◌ : (Tables → Option Made) → (Tables → Option Made) → Tables → Option Made
(first then second) t = option_and_then (λ a. option_map (joined a) (second (tables_after a.batch t))) (first t)

-- a finding without a change
abbrev pub finding : Finding → Tables → Option Made
finding what t = Some (record { batch = []; found = what ∷ [] })

-- a step for each of them, in order
abbrev pub for_each : {X : Type 0} → (X → Tables → Option Made) → List X → Tables → Option Made
for_each step [] t = Some nothing
for_each step (x ∷ xs) t = (step x then for_each step xs) t

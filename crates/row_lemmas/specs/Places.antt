-- Places of keys among rows.
use Rattle.std.specs.Prelude.{◌≡◌, ℕ, zero, suc, List, [], ◌∷◌}
use Rattle.std.specs.declared.cmp.Ordering.TheVariants.{Less, Equal, Greater}
use Rattle.s3_rows.specs.Keyed.{Order}

-- the rows before place i are below the key, and the row there has it
abbrev pub Stands : {K R : Type 0} → Order K R → K → List R → ℕ → Type 0
Stands o k [] i = ⊥
Stands o k (x ∷ xs) zero = o.compare k (o.key x) ≡ Equal
Stands o k (x ∷ xs) (suc i) = (o.compare k (o.key x) ≡ Greater) × Stands o k xs i

-- the rows before place i are below the key, and the row there, if any, is above it
abbrev pub GoesAt : {K R : Type 0} → Order K R → K → List R → ℕ → Type 0
GoesAt o k [] i = i ≡ 0
GoesAt o k (x ∷ xs) zero = o.compare k (o.key x) ≡ Less
GoesAt o k (x ∷ xs) (suc i) = (o.compare k (o.key x) ≡ Greater) × GoesAt o k xs i

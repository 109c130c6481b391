-- Facts of what a keeper tells, joined.
use Rattle.std.proofs.Common.{Option, None, Some}
use Rattle.s3_rows.specs.Tables.{Tables}
use Rattle.s3_rows.specs.Told.{IfTold, Told}

pub IfTold-both : (told : Option Told) (P Q : Tables → Type 0) → IfTold told P → IfTold told Q → IfTold told (λ t. P t × Q t)
IfTold-both None P Q p q = tt
IfTold-both (Some s) P Q p q = (p, q)

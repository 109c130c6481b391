-- Facts of what a keeper tells.
use Rattle.std.proofs.Common.{◌≡◌, Option, None, Some, subst}
use Rattle.s3_rows.specs.Tables.{Tables}
use Rattle.s3_rows.specs.Told.{Told, IfTold}

-- a fact of the told tables, from others
pub IfTold-all : (told : Option Told) (P : Tables → Type 0) → ((t : Tables) → P t) → IfTold told P
IfTold-all None P all = tt
IfTold-all (Some s) P all = all s.tables

pub IfTold-weaker : (told : Option Told) (P Q : Tables → Type 0) → ((t : Tables) → P t → Q t) → IfTold told P → IfTold told Q
IfTold-weaker None P Q follows p = tt
IfTold-weaker (Some s) P Q follows p = follows s.tables p

pub IfTold-weaker2 : (told : Option Told) (P Q R : Tables → Type 0) → ((t : Tables) → P t → Q t → R t) → IfTold told P → IfTold told Q → IfTold told R
IfTold-weaker2 None P Q R follows p q = tt
IfTold-weaker2 (Some s) P Q R follows p q = follows s.tables p q

pub IfTold-weaker3 : (told : Option Told) (P Q R S : Tables → Type 0) → ((t : Tables) → P t → Q t → R t → S t) → IfTold told P → IfTold told Q → IfTold told R → IfTold told S
IfTold-weaker3 None P Q R S follows p q r = tt
IfTold-weaker3 (Some s) P Q R S follows p q r = follows s.tables p q r

-- a fact of what is told later, where the same is told
pub IfTold-same : (told after : Option Told) (P : Tables → Type 0) → after ≡ told → IfTold after P → IfTold told P
IfTold-same told after P same fact = subst (λ x. IfTold x P) same fact

pub IfTold-weaker4 : (told : Option Told) (P Q R S X : Tables → Type 0) → ((t : Tables) → P t → Q t → R t → S t → X t) → IfTold told P → IfTold told Q → IfTold told R → IfTold told S → IfTold told X
IfTold-weaker4 None P Q R S X follows p q r s = tt
IfTold-weaker4 (Some now) P Q R S X follows p q r s = follows now.tables p q r s

-- A pass whose batch was committed and whose lines were added, and one that was refused.
use Rattle.std.proofs.Common.{◌≡◌, ℕ, List, ◌++◌, Bool, true, Option, None, Some, is_some, Result, Ok, Err, refl, sym, ap, subst, ◌∙◌}
use Rattle.std.specs.Prelude.{IfOk, option_map}
use Rattle.s3_rows.specs.Rows.{Parameters}
use Rattle.s3_rows.specs.Tables.{Tables, IsOrdered}
use Rattle.s3_rows.specs.Told.{IfTold, Told}
use Rattle.fsck_findings.specs.declared.repair.PassFault.{PassFault}
use Rattle.fsck_findings.specs.declared.repair.PassFault.TheVariants as pass_faults
use Rattle.fsck_findings.specs.declared.repair.Repair.{Repair}
use Rattle.fsck_findings.specs.Found.{Found}
use Rattle.fsck_run.specs.declared.fault.FsckFault.{FsckFault}
use Rattle.fsck_run.specs.declared.fault.FsckFault.TheVariants as faults
use Rattle.fsck_run.specs.Faults.{◌>>=◌, IsRefusal}
use Rattle.fsck_run.specs.Passes.{IsRepair, IsTaken, IsTakenAs, committed, found_in, is_some_batch}
use Rattle.fsck_run.specs.Refusals.{parameters_of}
use Rattle.fsck_run.proofs.Refused.{IsRefusal-then}

-- two facts of an answer
pub if_ok_both : {A : Type 0} (r : Result A FsckFault) (P Q S : A → Type 0) → ((x : A) → P x → Q x → S x) → IfOk r P → IfOk r Q → IfOk r S
if_ok_both (Ok x) P Q S f p q = f x p q
if_ok_both (Err e) P Q S f p q = tt

-- what is told, where it is told
pub told_at : (P : Tables → Type 0) (b : Option Told) (s : Told) → b ≡ Some s → IfTold b P → P s.tables
told_at P b s known tells =
    let at : IfTold (Some s) P = subst (λ (x : Option Told). IfTold x P) known tells in
    at

-- ---- found_in

abbrev of_found : Option Found → Result Found FsckFault
of_found x = elim x [ Some f ↦ Ok f | None ↦ Err faults.Worn ]

found_in_params : (found : Tables → Option Found) (t : Tables) → is_some t.params ≡ true → found_in found t ≡ of_found (found t)
found_in_params found t some = by_case t.params some
  where
    by_case : (o : Option Parameters) → is_some o ≡ true → (parameters_of o >>= (λ p. of_found (found t))) ≡ of_found (found t)
    by_case None never = absurd (cc never)
    by_case (Some p) there = refl

-- ---- taken

pub taken : (found : Tables → Option Found) (r : Repair) (s : Told) (after : Option Told) (old new : List (List ℕ)) (made : Bool)
    → is_some s.tables.params ≡ true → IsRepair (found s.tables) (Ok r) → after ≡ Some (committed r.batch s) → new ≡ old ++ r.findings
    → made ≡ is_some_batch r.batch → IsTaken (found_in found s.tables) s after old new made
taken found r s after old new made some is told lines made_is =
    subst (λ (x : Result Found FsckFault). IsTaken x s after old new made) (sym (found_in_params found s.tables some)) (by_case (found s.tables) is)
  where
    by_case : (x : Option Found) → IsRepair x (Ok r) → IsTaken (of_found x) s after old new made
    by_case None never = absurd never
    by_case (Some f) same = record {
      told = told ∙ ap (λ batch. Some (committed batch s)) same.0;
      lines = lines ∙ ap (λ findings. old ++ findings) same.1;
      made_is = made_is ∙ ap is_some_batch same.0;
    }

-- the tables that the pass was given are those that the keeper told
pub taken_told : (found : Tables → Option Found) (r : Repair) (t : Tables) (before middle after : Option Told) (old new : List (List ℕ)) (made : Bool)
    → IsRepair (found t) (Ok r) → IfTold before (λ u. IsOrdered u → t ≡ u) → IfTold before (λ u. is_some u.params ≡ true) → middle ≡ before
    → after ≡ option_map (committed r.batch) middle → new ≡ old ++ r.findings → made ≡ is_some_batch r.batch
    → (s : Told) → before ≡ Some s → IsOrdered s.tables → IsTaken (found_in found s.tables) s after old new made
taken_told found r t before middle after old new made is tables some same told lines made_is s known ordered =
    let given : t ≡ s.tables = told_at (λ u. IsOrdered u → t ≡ u) before s known tables ordered in
    taken found r s after old new made (told_at (λ u. is_some u.params ≡ true) before s known some)
    (subst (λ (u : Tables). IsRepair (found u) (Ok r)) given is)
    (told ∙ ap (option_map (committed r.batch)) (same ∙ known)) lines made_is

-- ---- refused

pub refused_told : (found : Tables → Option Found) (fault : PassFault) (e : FsckFault) (t : Tables) (before : Option Told)
    → e ≡ (elim fault [ pass_faults.Worn ↦ faults.Worn | pass_faults.Memory ↦ faults.Memory ]) → IsRepair (found t) (Err fault)
    → IfTold before (λ u. IsOrdered u → t ≡ u) → IfTold before (λ u. is_some u.params ≡ true)
    → (s : Told) → before ≡ Some s → IsOrdered s.tables → IsRefusal (found_in found s.tables) e
refused_told found fault e t before gives is tables some s known ordered =
    let given : t ≡ s.tables = told_at (λ u. IsOrdered u → t ≡ u) before s known tables ordered in
    subst (IsRefusal (found_in found s.tables)) (sym gives)
    (by_case fault (subst (λ (u : Tables). IsRepair (found u) (Err fault)) given is) (told_at (λ u. is_some u.params ≡ true) before s known some))
  where
    by_case : (f : PassFault) → IsRepair (found s.tables) (Err f) → is_some s.tables.params ≡ true
        → IsRefusal (found_in found s.tables) (elim f [ pass_faults.Worn ↦ faults.Worn | pass_faults.Memory ↦ faults.Memory ])
    by_case pass_faults.Worn none there = found_in_params found s.tables there ∙ ap of_found none
    by_case pass_faults.Memory none there = tt

-- no parameters are found
pub no_params_told : (found : Tables → Option Found) (e : FsckFault) (before : Option Told) → IfTold before (λ u. IsRefusal (parameters_of u.params) e)
    → (s : Told) → before ≡ Some s → IsRefusal (found_in found s.tables) e
no_params_told found e before refused s known =
    IsRefusal-then (parameters_of s.tables.params) (λ p. of_found (found s.tables)) e
    (told_at (λ u. IsRefusal (parameters_of u.params) e) before s known refused)

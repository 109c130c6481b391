use Rattle.std.proofs.Common.{◌≡◌, ℕ, [], ◌∷◌, Bool, true, false, Option, None, Some, OnOk, sym, subst, ap, ◌∙◌, if◌then◌else◌}
use Rattle.s3_rows.specs.declared.change.Change.TheVariants as changes
use Rattle.s3_rows.specs.Rows.{Inode}
use Rattle.s3_rows.specs.Tables.{Tables}
use Rattle.s3_rows.specs.Selections.{inode_at}
use Rattle.s3_rows.specs.Validity.{counts_inode}
use Rattle.fsck_names.specs.Made.{Made, nothing, changing}
use Rattle.fsck_names.specs.Losses.{count_one}
use Rattle.fsck_names.specs.Steps.{Takes}
use Rattle.fsck_names.proofs.Taken.{taken_nothing}
use Rattle.fsck_names.proofs.loss_pass.count_one.Goals as goal

counted : (t : Tables) (inode : ℕ) (row : Inode) (b : Bool) → inode_at t inode ≡ Some row → counts_inode t row ≡ b
    → count_one inode t ≡ Some (if b then changing (changes.PutInode (record row { refcount = 1 }) ∷ []) else nothing)
counted t inode row b there is =
    ap (λ (found : Option Inode). elim found [
      | Some r ↦ Some (if counts_inode t r then changing (changes.PutInode (record r { refcount = 1 }) ∷ []) else nothing)
      | None ↦ Some nothing
    ]) there
    ∙ ap (λ (c : Bool). Some (if c then changing (changes.PutInode (record row { refcount = 1 }) ∷ []) else nothing)) is

pub returns-then-not-is_counted : goal.returns-then-not-is_counted
returns-then-not-is_counted c =
    let t = c.args.tables.now in
    let is = counted t c.args.inode c.in-Some.row false (sym (c.in-Some.ensures ∙ c.inode_row.ensures)) (sym c.is_counted.ensures.counts ∙ c.if-not-is_counted.true) in
    let P : Option Made → Type 0 = λ m. Takes m t t c.args.repair.now c.args.repair.now in
    subst P (sym is) (taken_nothing t c.args.repair.now)

pub returns : goal.returns
returns c =
    let t = c.args.tables.now in
    let is = counted t c.args.inode c.in-Some.row true (sym (c.in-Some.ensures ∙ c.inode_row.ensures)) (sym c.is_counted.ensures.counts ∙ c.if-not-is_counted.false) in
    let P : Option Made → Type 0 = λ m. OnOk c.put_inode.result (Takes m t c.put_inode.new.tables c.args.repair.now c.put_inode.new.repair) in
    let row = ap (λ (r : Inode). record r { refcount = 1 }) c.row.view_is in
    subst P (ap (λ (r : Inode). Some (changing (changes.PutInode r ∷ []))) row ∙ sym is) c.put_inode.ensures

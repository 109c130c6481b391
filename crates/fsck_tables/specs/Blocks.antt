-- What the digests and objects that are kept in sets say of blocks.
use Rattle.std.specs.Prelude.{◌≡◌, ℕ, List, ◌∷◌, Bool, true, false, not, ◌&&◌, is_some}
use Rattle.std.specs.List.{list_any}
use Rattle.std.specs.Ordering.{is_eq, nat_cmp}
use Rattle.std.specs.BTreeMap.{get}
use Rattle.s3_rows.specs.declared.digest.Digest.{Digest}
use Rattle.s3_rows.specs.Index.{digest_cmp}
use Rattle.s3_rows.specs.Rows.{Block}
use Rattle.s3_rows.specs.Selections.{bytes_cmp}
use Rattle.s3_rows.specs.declared.change.Change.TheVariants as changes
use Rattle.fsck_findings.specs.declared.finding.Finding.TheVariants as findings
use Rattle.fsck_findings.specs.declared.finding.Numbered.TheVariants as numbered
use Rattle.fsck_findings.specs.declared.repair.Repair.{Repair}
use Rattle.fsck_findings.specs.Found.{Adds, found}
use Rattle.fsck_tables.specs.Rows.{is_like_one_of}
use Rattle.fsck_tables.specs.declared.blocks.Marks.{Marks}

-- the sets have the digests and the objects of these blocks, and no others
pub record AreMarks (stay : List Block) (marks : Marks) : Type 0 where
  pub digests : (digest : Digest) → is_some (get digest_cmp marks.digests digest) ≡ list_any (λ b. is_eq (bytes_cmp digest.0 b.digest.0)) stay
  pub objects : (object : ℕ) → is_some (get nat_cmp marks.objects object) ≡ list_any (λ b. is_eq (nat_cmp object b.object)) stay

-- the block stays, and is marked; or it goes
abbrev pub Looks : Bool → List Block → Block → Marks → Repair → Repair → Type 0
Looks true stay r marks before after = AreMarks (r ∷ stay) marks × (after ≡ before)
Looks false stay r marks before after = AreMarks stay marks × Adds (found (changes.DeleteBlock r.id) (findings.Removed numbered.Block r.id)) before after

-- a sound block stays where none that stays is like it
abbrev pub IsLooked : Bool → List Block → Block → Marks → Repair → Repair → Type 0
IsLooked sound stay r marks before after = Looks (sound && not (is_like_one_of stay r)) stay r marks before after

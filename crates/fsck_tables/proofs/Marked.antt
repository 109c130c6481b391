-- Digests and objects of blocks in sets.
use Rattle.std.proofs.Common.{◌≡◌, ℕ, List, ◌∷◌, Bool, true, false, Option, Some, cond, refl, ap, ◌∙◌}
use Rattle.std.specs.Prelude.{is_some, ◌||◌}
use Rattle.std.specs.Ordering.{is_eq, nat_cmp}
use Rattle.std.specs.BTreeMap.{get, is_at}
use Rattle.std.specs.Cmp.{eq_by_cmp_equiv, nat_cmp_total}
use Rattle.std.specs.Cmp.Lexicographic.{slice_cmp, nat_list_cmp_total}
use Rattle.s3_rows.specs.declared.digest.Digest.{Digest}
use Rattle.s3_rows.specs.Index.{digest_cmp}
use Rattle.s3_rows.specs.Rows.{Block}
use Rattle.fsck_tables.specs.declared.blocks.Marks.{Marks}
use Rattle.fsck_tables.specs.Blocks.{AreMarks}

is_some-cond : (b : Bool) (m : Option (Unit {0})) → is_some (cond b (Some tt) m) ≡ (b || is_some m)
is_some-cond true m = refl
is_some-cond false m = refl

-- a block more is marked
pub AreMarks-add : (stay : List Block) (row : Block) (old new : Marks)
    → ((q : Digest) → get digest_cmp new.digests q ≡ cond (is_at (digest_cmp row.digest) q) (Some tt) (get digest_cmp old.digests q))
    → ((q : ℕ) → get nat_cmp new.objects q ≡ cond (is_at (nat_cmp row.object) q) (Some tt) (get nat_cmp old.objects q))
    → AreMarks stay old → AreMarks (row ∷ stay) new
AreMarks-add stay row old new digests objects marks = record {
  digests = λ q.
      ap is_some (digests q) ∙ is_some-cond (is_at (digest_cmp row.digest) q) (get digest_cmp old.digests q)
      ∙ ap (λ b. b || is_some (get digest_cmp old.digests q)) ((eq_by_cmp_equiv nat_list_cmp_total).symm row.digest.0 q.0)
      ∙ ap (λ b. is_eq (slice_cmp nat_cmp q.0 row.digest.0) || b) (marks.digests q);
  objects = λ q.
      ap is_some (objects q) ∙ is_some-cond (is_at (nat_cmp row.object) q) (get nat_cmp old.objects q)
      ∙ ap (λ b. b || is_some (get nat_cmp old.objects q)) ((eq_by_cmp_equiv nat_cmp_total).symm row.object q)
      ∙ ap (λ b. is_eq (nat_cmp q row.object) || b) (marks.objects q);
}

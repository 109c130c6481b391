-- Blocks that are looked at one after the other: what is left to be found about them.
use Rattle.std.proofs.Common.{◌≡◌, List, [], ◌∷◌, ◌++◌, map, Bool, true, false, cond, refl, sym, ap, subst, ◌∙◌, append_assoc}
use Rattle.std.specs.Prelude.{not, ◌&&◌}
use Rattle.std.proofs.lemmas.List.{map-append, append-nil}
use Rattle.s3_rows.specs.declared.change.Change.TheVariants as changes
use Rattle.s3_rows.specs.Rows.{Block, Parameters}
use Rattle.s3_rows.specs.Tables.{Tables}
use Rattle.fsck_findings.specs.declared.finding.Finding.TheVariants as findings
use Rattle.fsck_findings.specs.declared.finding.Numbered.TheVariants as numbered
use Rattle.fsck_findings.specs.declared.repair.Repair.{Repair}
use Rattle.fsck_findings.specs.Line.{line_of}
use Rattle.fsck_findings.specs.Found.{Found, Adds, found, ◌then_also◌}
use Rattle.fsck_tables.specs.declared.blocks.Marks.{Marks}
use Rattle.fsck_tables.specs.Rows.{about_blocks, is_sound_block, is_like_one_of}
use Rattle.fsck_tables.specs.Blocks.{AreMarks, Looks, IsLooked}

-- with so much more, the repair has all that is found
pub record Lacks (more all : Found) (before now : Repair) : Type 0 where
  pub batch : now.batch ++ more.changes ≡ before.batch ++ all.changes
  pub findings : now.findings ++ map line_of more.findings ≡ before.findings ++ map line_of all.findings

Lacks-Adds : (first rest all : Found) (before now after : Repair) → Lacks (first then_also rest) all before now → Adds first now after
    → Lacks rest all before after
Lacks-Adds first rest all before now after lacks adds = record {
  batch = ap (λ b. b ++ rest.changes) adds.batch ∙ append_assoc now.batch first.changes rest.changes ∙ lacks.batch;
  findings =
      ap (λ f. f ++ map line_of rest.findings) adds.findings ∙ append_assoc now.findings (map line_of first.findings) (map line_of rest.findings)
      ∙ ap (λ f. now.findings ++ f) (sym (map-append line_of first.findings rest.findings)) ∙ lacks.findings;
}

-- some blocks stay so far, and are marked; with what is found about those that are left behind them, it is all
pub record LeavesBlocks (t : Tables) (p : Parameters) (left : List Block) (all : Found) (before now : Repair) (marks : Marks) : Type 0 where
  pub stay : List Block
  pub marked : AreMarks stay marks
  pub lacks : Lacks (about_blocks t p stay left) all before now

-- a block more is looked at
pub LeavesBlocks-look : (t : Tables) (p : Parameters) (x : Block) (left : List Block) (all : Found) (before now after : Repair) (marks marked : Marks)
    → LeavesBlocks t p (x ∷ left) all before now marks
    → ((stay : List Block) → AreMarks stay marks → IsLooked (is_sound_block t p x) stay x marked now after)
    → LeavesBlocks t p left all before after marked
LeavesBlocks-look t p x left all before now after marks marked leaves looked =
    by_case (is_sound_block t p x && not (is_like_one_of leaves.stay x)) (looked leaves.stay leaves.marked) leaves.lacks
  where
    goes : Found
    goes = found (changes.DeleteBlock x.id) (findings.Removed numbered.Block x.id)

    by_case : (b : Bool)
        → Looks b leaves.stay x marked now after
        → Lacks (cond b (about_blocks t p (x ∷ leaves.stay) left) (goes then_also about_blocks t p leaves.stay left)) all before now
        → LeavesBlocks t p left all before after marked
    by_case true stays lacks = record {
      stay = x ∷ leaves.stay;
      marked = stays.0;
      lacks = subst (λ (r : Repair). Lacks (about_blocks t p (x ∷ leaves.stay) left) all before r) (sym stays.1) lacks;
    }
    by_case false gone lacks = record {
      stay = leaves.stay;
      marked = gone.0;
      lacks = Lacks-Adds goes (about_blocks t p leaves.stay left) all before now after lacks gone.1;
    }

-- no block is left
pub Adds-LeavesBlocks : (t : Tables) (p : Parameters) (all : Found) (before now : Repair) (marks : Marks) → LeavesBlocks t p [] all before now marks
    → Adds all before now
Adds-LeavesBlocks t p all before now marks leaves = record {
  batch = sym (append-nil now.batch) ∙ leaves.lacks.batch;
  findings = sym (append-nil now.findings) ∙ leaves.lacks.findings;
}

-- nothing is marked
pub AreMarks-none : (marks : Marks) → marks.digests.entries ≡ [] → marks.objects.entries ≡ [] → AreMarks [] marks
AreMarks-none marks digests objects = record {
  digests = λ q. rw digests refl;
  objects = λ q. rw objects refl;
}

-- The pass of a check on objects: those that blocks have and whose keys are not listed with their sizes go, and these blocks before
-- them. Blocks whose objects have no row went in the pass on rows. `length_of` is how many bytes the key of an object holds.
use Rattle.std.specs.Prelude.{ℕ, ◌==◌, List, [], ◌∷◌, Bool, false, not, ◌&&◌, Option, None, Some, if◌then◌else◌}
use Rattle.std.specs.List.{list_any}
use Rattle.s3_rows.specs.declared.change.Change.{Change}
use Rattle.s3_rows.specs.declared.change.Change.TheVariants as changes
use Rattle.s3_rows.specs.Rows.{Block, Object}
use Rattle.s3_rows.specs.Tables.{Tables}
use Rattle.s3_rows.specs.Selections.{object_at}
use Rattle.s3_devices.specs.declared.key_list.KeyItem.{KeyItem}
use Rattle.fsck_findings.specs.declared.finding.Finding.TheVariants as findings
use Rattle.fsck_findings.specs.Found.{Found, nothing, found_if, each_found, ◌then_also◌}
use Rattle.fsck_objects.specs.Listed.{listed_length, is_whole}

-- a change that has no line of its own, where the test holds
abbrev pub changed_if : Bool → Change → Found
changed_if test change = if test then record { changes = change ∷ []; findings = [] } else nothing

-- some block has the object
abbrev pub is_of_block : List Block → ℕ → Bool
is_of_block blocks id = list_any (λ b. b.object == id) blocks

-- the block's object has a row, and is missing
abbrev pub has_missing_object : (ℕ → Option ℕ) → Tables → Block → Bool
has_missing_object length_of t b = elim (object_at t b.object) [ Some r ↦ not (is_whole (length_of r.id) r) | None ↦ false ]

-- the block goes where its object is missing, which the object's line says
abbrev pub about_block : (ℕ → Option ℕ) → Tables → Block → Found
about_block length_of t b = changed_if (has_missing_object length_of t b) (changes.DeleteBlock b.id)

-- the object goes where it is missing and a block has it
abbrev pub about_object : (ℕ → Option ℕ) → (ℕ → Bool) → Object → Found
about_object length_of of_block r =
    found_if (of_block r.id && not (is_whole (length_of r.id) r)) (changes.DeleteObject r.id) (findings.ObjectMissing r.id)

abbrev pub repaired_objects : List KeyItem → Tables → Found
repaired_objects keys t =
    each_found (about_block (listed_length keys) t) t.blocks
    then_also each_found (about_object (listed_length keys) (is_of_block t.blocks)) t.objects

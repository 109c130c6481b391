-- The number that the next object gets, which the pass on rows raises last. No key of an object has a number from it on.
use Rattle.std.specs.Prelude.{ℕ, List, [], ◌∷◌, ◌++◌, map, nat_lt, Option, None, Some}
use Rattle.std.specs.List.{filter_map}
use Rattle.s3_rows.specs.declared.change.Change.TheVariants as changes
use Rattle.s3_rows.specs.Rows.{Parameters}
use Rattle.s3_rows.specs.Tables.{Tables}
use Rattle.s3_devices.specs.declared.key_list.KeyItem.{KeyItem}
use Rattle.metadata_backup.specs.Numbers.{object_of}
use Rattle.fsck_findings.specs.declared.finding.Finding.TheVariants as findings
use Rattle.fsck_findings.specs.declared.finding.Numbered.TheVariants as numbered
use Rattle.fsck_findings.specs.Found.{Found, found_if}
use Rattle.fsck_findings.specs.Work.{above}

-- the objects that have a row, that a block names, or whose keys are in the store
abbrev pub objects_in_use : List KeyItem → Tables → List ℕ
objects_in_use keys t = map (λ r. r.id) t.objects ++ map (λ r. r.object) t.blocks ++ filter_map (λ k. object_of k.key) keys

-- the number, if there is one
abbrev pub numbers_of : Option ℕ → List ℕ
numbers_of (Some n) = n ∷ []
numbers_of None = []

-- over parameters as the other steps of the pass leave them, a number that is below the least free one becomes that
abbrev pub about_next_object : ℕ → Parameters → Found
about_next_object least p =
    found_if (nat_lt p.next_object least) (changes.SetParams (record p { next_object = least })) (findings.Next numbered.Object p.next_object least)

abbrev pub raised_objects : List KeyItem → Tables → Parameters → Found
raised_objects keys t p = about_next_object (above (objects_in_use keys t)) p

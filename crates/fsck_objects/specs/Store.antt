-- The pass of a check on the store. The keys of objects that no block has go first, then the rows of these, by one batch, and then keys
-- of objects without row and of generations that were not stored whole. Keys of other forms stay.
use Rattle.std.specs.Prelude.{ℕ, ◌==◌, List, [], ◌∷◌, map, filter, nat_lt, Bool, false, not, ◌||◌, None, Some, is_some, if◌then◌else◌}
use Rattle.s3_rows.specs.declared.change.Change.TheVariants as changes
use Rattle.s3_rows.specs.Rows.{Object, Parameters}
use Rattle.s3_rows.specs.Tables.{Tables}
use Rattle.s3_rows.specs.Selections.{object_at}
use Rattle.s3_devices.specs.Keys.{data_key}
use Rattle.s3_devices.specs.declared.key_list.KeyItem.{KeyItem}
use Rattle.metadata_backup.specs.Numbers.{generation_of, object_of}
use Rattle.fsck_findings.specs.declared.finding.Finding.TheVariants as findings
use Rattle.fsck_findings.specs.declared.finding.Numbered.TheVariants as numbered
use Rattle.fsck_findings.specs.Found.{Found, nothing, found_if, each_found, ◌then_also◌}

-- no block has the object, or it was not stored whole
abbrev pub is_unused : Object → Bool
is_unused r = r.refcount == 0 || not (is_some r.size)

-- its keys
abbrev pub unused_keys : Tables → List (List ℕ)
unused_keys t = map (λ r. data_key r.id) (filter is_unused t.objects)

-- its row goes
abbrev pub about_unused : Object → Found
about_unused r = found_if (is_unused r) (changes.DeleteObject r.id) (findings.Removed numbered.Object r.id)

-- the key of a data object that has no row
abbrev pub has_no_row : Tables → KeyItem → Bool
has_no_row t k = elim (object_of k.key) [ Some id ↦ not (is_some (object_at t id)) | None ↦ false ]

-- the key of a generation past the last that was stored whole
abbrev pub is_undone : Parameters → KeyItem → Bool
is_undone p k = elim (generation_of k.key) [ Some n ↦ nat_lt p.last_done n | None ↦ false ]

abbrev pub is_stray : Tables → Parameters → KeyItem → Bool
is_stray t p k = has_no_row t k || is_undone p k

-- these keys, in order
abbrev pub stray_keys : Tables → Parameters → List KeyItem → List (List ℕ)
stray_keys t p keys = map (λ k. k.key) (filter (is_stray t p) keys)

-- the line of a key that goes
abbrev pub about_key : Tables → Parameters → KeyItem → Found
about_key t p k = if is_stray t p k then record { changes = []; findings = findings.KeyRemoved k.key ∷ [] } else nothing

-- the batch, and all lines
abbrev pub repaired_store : List KeyItem → Tables → Parameters → Found
repaired_store keys t p = each_found about_unused t.objects then_also each_found (about_key t p) keys

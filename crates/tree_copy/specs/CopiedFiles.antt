-- The places of the copies of inodes, whose numbers rise by one.
use Rattle.std.specs.Prelude.{ℕ, ◌+◌, List, [], ◌∷◌, ◌++◌, Bool, true, ◌&&◌}
use Rattle.s3_rows.specs.declared.change.Change.{Change}
use Rattle.s3_rows.specs.Batches.{tables_after}
use Rattle.s3_rows.specs.Tables.{Tables}
use Rattle.ref_counts.specs.Links.{places_from}
use Rattle.tree_copy.specs.CopiedPlaces.{file_copied, file_fits}

abbrev pub placed_from : Tables → ℕ → List ℕ → Tables → List Change
placed_from told copy [] t = []
placed_from told copy (x ∷ xs) t =
    file_copied copy (places_from told x 0) t ++ placed_from told (copy + 1) xs (tables_after (file_copied copy (places_from told x 0) t) t)

-- all their blocks may count one place more
abbrev pub fit_from : Tables → ℕ → List ℕ → Tables → Bool
fit_from told copy [] t = true
fit_from told copy (x ∷ xs) t =
    file_fits copy (places_from told x 0) t && fit_from told (copy + 1) xs (tables_after (file_copied copy (places_from told x 0) t) t)

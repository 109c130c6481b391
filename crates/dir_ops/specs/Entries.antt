-- Entries of directories in tables.
use Rattle.std.specs.Prelude.{ℕ, ◌==◌, List, Bool, ◌&&◌}
use Rattle.std.specs.List.{list_any}
use Rattle.std.specs.Ordering.{is_eq}
use Rattle.s3_rows.specs.Tables.{Tables}
use Rattle.s3_rows.specs.Selections.{bytes_cmp, bytes_of_name}

-- some entry of the directory has these bytes as its name
abbrev pub is_taken : Tables → ℕ → List ℕ → Bool
is_taken t parent name = list_any (λ c. c.parent == parent && is_eq (bytes_cmp name (bytes_of_name t c.name_id))) t.contents

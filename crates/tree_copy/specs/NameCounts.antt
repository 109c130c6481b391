-- How often a copy uses a name, and when that is too often.
use Rattle.std.specs.Prelude.{◌≡◌, ◌≤◌, ℕ, ◌+◌, ◌^◌, List, [], ◌∷◌, ◌++◌, count_by, map, Option, None, Some, if◌then◌else◌}
use Rattle.std.specs.Ordering.{is_eq}
use Rattle.plain_tree.specs.Below.{is_among}
use Rattle.s3_rows.specs.Rows.{Name}
use Rattle.s3_rows.specs.Selections.{bytes_cmp, name_of_bytes, named_attrs}
use Rattle.s3_rows.specs.Tables.{Tables}
use Rattle.ref_counts.specs.Plans.{next_name_of}
use Rattle.tree_copy.specs.CopiedRows.{Visit, seen_after}

abbrev pub attr_names : Tables → ℕ → List (List ℕ)
attr_names told inode = map (λ a. a.name) (named_attrs told inode)

-- a visit uses the names of the attributes of what it sees first, and that of its entry
abbrev pub visit_names : Tables → List ℕ → Visit → List (List ℕ)
visit_names told seen v = (if is_among seen v.child.id then [] else attr_names told v.child.id) ++ v.entry.name ∷ []

abbrev pub visits_names : Tables → List ℕ → List Visit → List (List ℕ)
visits_names told seen [] = []
visits_names told seen (v ∷ visits) = visit_names told seen v ++ visits_names told (seen_after seen v) visits

-- the name of each attribute and of each entry that the copy of a directory has
abbrev pub copied_names : Tables → ℕ → List ℕ → List Visit → List (List ℕ)
copied_names told source name visits = attr_names told source ++ name ∷ [] ++ visits_names told (source ∷ []) visits

-- how many of them have these bytes
abbrev pub copied_name_count : Tables → ℕ → List ℕ → List Visit → List ℕ → ℕ
copied_name_count told source name visits bytes = count_by (λ x. is_eq (bytes_cmp bytes x)) (copied_names told source name visits)

-- so many uses more of a name are too many for its row; the copy's own name may have no row, and then no number is left for it
abbrev pub IsTooOften : Tables → List ℕ → List ℕ → ℕ → Option Name → Type 0
IsTooOften t own bytes count (Some n) = 2 ^ 62 ≤ n.refcount + count
IsTooOften t own bytes count None = (bytes ≡ own) × (2 ^ 62 ≤ next_name_of t)

-- a name that the copy uses too often
pub record IsNameSpent (t : Tables) (source : ℕ) (name : List ℕ) (visits : List Visit) : Type 0 where
  pub bytes : List ℕ
  pub used : 1 ≤ copied_name_count t source name visits bytes
  pub spent : IsTooOften t name bytes (copied_name_count t source name visits bytes) (name_of_bytes t bytes)

-- The entry of a name, and whether a directory has one.
use Rattle.std.proofs.Common.{◌≡◌, ℕ, List, Bool, Option, ap, ◌∙◌, sym, IsTrue}
use Rattle.std.specs.Prelude.{◌&&◌, ◌==◌, is_some}
use Rattle.std.specs.List.{list_all}
use Rattle.std.specs.Ordering.{is_eq}
use Rattle.s3_rows.specs.Rows.{Content}
use Rattle.s3_rows.specs.Tables.{Tables}
use Rattle.s3_rows.specs.Selections.{name_at, bytes_cmp, bytes_of_name}
use Rattle.s3_rows.specs.Told.{Told, IfTold}
use Rattle.s3_rows.specs.Validity.{IsValid, HasUniqueNames, finds_of_entry}
use Rattle.row_lemmas.proofs.Tests.{list_all_weaker, list_any-find}
use Rattle.tree_rows.specs.Listings.{entry_named}
use Rattle.tree_rows.proofs.Listed.{name_there}
use Rattle.ref_counts.proofs.Told.{IfTold-weaker}
use Rattle.dir_ops.specs.Entries.{is_taken}

-- the names of entries have rows
pub entries_have_names : (t : Tables) → IsValid t → IsTrue (list_all (λ (c : Content). is_some (name_at t c.name_id)) t.contents)
entries_have_names t v = list_all_weaker (finds_of_entry t) (λ (c : Content). is_some (name_at t c.name_id)) (name_there t) t.contents v.rows.entries

-- some entry has the name where one is found
pub is_taken-entry_named : (told : Option Told) (parent : ℕ) (name : List ℕ) (entry : Option Content) (b : Bool) → b ≡ is_some entry
    → IfTold told (λ t. IsValid t → HasUniqueNames t → entry ≡ entry_named t parent name) → IfTold told (λ t. IsValid t → HasUniqueNames t → b ≡ is_taken t parent name)
is_taken-entry_named told parent name entry b own found =
    IfTold-weaker told (λ t. IsValid t → HasUniqueNames t → entry ≡ entry_named t parent name) _
    (λ t is v unique. own ∙ ap is_some (is v unique) ∙ sym (list_any-find (λ c. c.parent == parent && is_eq (bytes_cmp name (bytes_of_name t c.name_id))) t.contents)) found

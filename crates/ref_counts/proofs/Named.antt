-- The name row with given bytes, after one change of tables.
use Rattle.std.proofs.Common.{◌≡◌, ℕ, List, [], ◌∷◌, Bool, true, false, cond, Some, refl, sym, ap, ◌∙◌}
use Rattle.std.specs.Prelude.{IsTrue, Result, Ok, Err, IfOk}
use Rattle.std.specs.Cmp.{nat_cmp_total, tied_back}
use Rattle.std.proofs.lemmas.Cmp.{nat_list_cmp_total}
use Rattle.std.specs.Ordering.{is_eq}
use Rattle.s3_rows.specs.declared.change.Change.{Change}
use Rattle.s3_rows.specs.declared.change.Change.TheVariants as changes
use Rattle.s3_rows.specs.Rows.{Name}
use Rattle.s3_rows.specs.Tables.{Tables, IsOrdered, by_name}
use Rattle.s3_rows.specs.Batches.{after_change}
use Rattle.s3_rows.specs.Selections.{name_of_bytes, bytes_cmp}
use Rattle.s3_rows.specs.Validity.{HasUniqueNames, have_same_bytes}
use Rattle.row_lemmas.proofs.Tests.{equal_from_is_eq}
use Rattle.ref_counts.specs.Names.{StaysUnique}
use Rattle.ref_counts.proofs.Overlay.{kept, put_is_found, put_takes, without_takes}

-- the test of bytes
abbrev pub has_bytes : List ℕ → Name → Bool
has_bytes bytes n = is_eq (bytes_cmp n.name bytes)

pub have_same_bytes_from_has_bytes : (bytes : List ℕ) (x y : Name) → IsTrue (has_bytes bytes x) → IsTrue (has_bytes bytes y) → IsTrue (have_same_bytes x y)
have_same_bytes_from_has_bytes bytes x y one two =
    ap is_eq (nat_list_cmp_total.congr x.name bytes y.name (equal_from_is_eq (bytes_cmp x.name bytes) one) ∙ tied_back nat_list_cmp_total y.name bytes (equal_from_is_eq (bytes_cmp y.name bytes) two))

-- the row with these bytes after a row is put: that row, or the one before unless it had the id
pub put_found : (t : Tables) (r : Name) (bytes : List ℕ) → IsOrdered t → HasUniqueNames t → HasUniqueNames (after_change (changes.PutName r) t)
    → cond (has_bytes bytes r) (Some r) (kept by_name r.id (name_of_bytes t bytes)) ≡ name_of_bytes (after_change (changes.PutName r) t) bytes
put_found t r bytes ordered unique now = by_case (has_bytes bytes r) refl
  where
    by_case : (b : Bool) → has_bytes bytes r ≡ b → cond b (Some r) (kept by_name r.id (name_of_bytes t bytes)) ≡ name_of_bytes (after_change (changes.PutName r) t) bytes
    by_case true passes = sym (put_is_found by_name nat_cmp_total have_same_bytes (has_bytes bytes) (have_same_bytes_from_has_bytes bytes) r t.names passes now)
    by_case false fails = sym (put_takes by_name nat_cmp_total have_same_bytes (has_bytes bytes) (have_same_bytes_from_has_bytes bytes) r t.names fails ordered.names unique)

pub delete_found : (t : Tables) (id : ℕ) (bytes : List ℕ) → HasUniqueNames t → kept by_name id (name_of_bytes t bytes) ≡ name_of_bytes (after_change (changes.DeleteName id) t) bytes
delete_found t id bytes unique = sym (without_takes by_name nat_cmp_total have_same_bytes (has_bytes bytes) (have_same_bytes_from_has_bytes bytes) id t.names unique)

-- a fact of what was answered, from another
pub if_ok : {A E : Type 0} (P Q : A → Type 0) → ((x : A) → P x → Q x) → (r : Result A E) → IfOk r P → IfOk r Q
if_ok P Q follows (Ok x) fact = follows x fact
if_ok P Q follows (Err e) fact = tt

pub unique_now : (cs : List Change) (t : Tables) → StaysUnique cs t → HasUniqueNames t
unique_now [] t unique = unique
unique_now (c ∷ cs) t unique = unique.0

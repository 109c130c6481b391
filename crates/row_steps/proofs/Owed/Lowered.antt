-- One use less of a name: other rows, and what is owed then.
use Rattle.std.proofs.Common.{◌≡◌, ◌≤◌, ℕ, ◌+◌, ◌-◌, List, [], ◌∷◌, Bool, true, false, cond, Some, refl, sym, ap, ◌∙◌, arith, eq-eqb, eqb-true, leb-true}
use Rattle.std.specs.Prelude.{IsTrue, not, ◌==◌, find, is_some, nat_le, option_map}
use Rattle.std.proofs.lemmas.Bool.{and_parts}
use Rattle.std.specs.Cmp.{nat_cmp_total}
use Rattle.std.specs.Ordering.{is_eq}
use Rattle.plain_tree.specs.Tree.{Tree}
use Rattle.s3_rows.specs.declared.change.Change.{Change}
use Rattle.s3_rows.specs.declared.change.Change.TheVariants as changes
use Rattle.s3_rows.specs.Rows.{Inode, Name, Content, Parameters}
use Rattle.s3_rows.specs.Keyed.{has_key, put, row_at, without}
use Rattle.s3_rows.specs.Tables.{Tables, by_name}
use Rattle.s3_rows.specs.Batches.{tables_after}
use Rattle.s3_rows.specs.Selections.{name_at, bytes_cmp}
use Rattle.s3_rows.specs.Validity.{HasUniqueNames, differ, have_same_bytes}
use Rattle.s3_rows.specs.Counts.{listed_name_count}
use Rattle.row_lemmas.proofs.Tests.{differ-map, find_passes_all}
use Rattle.row_lemmas.proofs.Keyed.Put.{map-put_there}
use Rattle.tree_rows.specs.Shapes.{node_of_row, Represents}
use Rattle.ref_counts.specs.Names.{lowered}
use Rattle.row_steps.specs.Owed.{Owes, owes_uses, times}
use Rattle.row_steps.proofs.Owed.Contents.{differ-filter}
use Rattle.row_steps.proofs.Owed.Names.{KeepsBytes-put, KeepsBytes-without, Owes-put_name_less, Owes-without_name, any_name, bytes_of_row, own_bytes, unused}
use Rattle.row_steps.proofs.Shape.Names.{Represents-names, node_after}

-- the rows of names after the changes, and what holds of them
pub record IsLower (t : Tables) (p : Parameters) (links uses : List ℕ) (more : List Change) : Type 0 where
  pub rows : List Name
  pub after : tables_after more t ≡ record t { names = rows }
  pub owes : Owes (record t { names = rows }) p links uses
  pub nodes : (x : Inode) → node_of_row (record t { names = rows }) x ≡ node_of_row t x
  pub represents : (whole : Tree) → Represents t whole → Represents (record t { names = rows }) whole
  pub unique : HasUniqueNames t → IsTrue (differ have_same_bytes rows)
  -- the names of entries keep their bytes
  pub kept : (test : Content → Bool) (x : Content) → find test t.contents ≡ Some x → IsTrue (is_some (name_at t x.name_id))
      → option_map bytes_of_row (row_at by_name x.name_id rows) ≡ option_map bytes_of_row (name_at t x.name_id)

abbrev same_text : List ℕ → List ℕ → Bool
same_text a b = is_eq (bytes_cmp a b)

pub IsLower-lowered : (t : Tables) (p : Parameters) (n : Name) (links uses : List ℕ) → Owes t p links (n.id ∷ uses) → name_at t n.id ≡ Some n
    → IsLower t p links uses (lowered n)
IsLower-lowered t p n links uses o there = by_case (n.refcount == 1) refl
  where
    by_case : (b : Bool) → (n.refcount == 1) ≡ b
        → IsLower t p links uses (cond b (changes.DeleteName n.id ∷ []) (changes.PutName (record n { refcount = n.refcount - 1 }) ∷ []))
    by_case true is =
        let last : n.refcount ≡ 1 = eqb-true n.refcount 1 is in record {
          rows = without by_name n.id t.names;
          after = refl;
          owes = Owes-without_name t p n links uses o there last;
          nodes =
              node_after t (without by_name n.id t.names) (λ x. not (x == n.id)) (unused t p n links uses o there last)
              (KeepsBytes-without t p n links uses o there last) o.rows.entries o.rows.attrs;
          represents =
              λ whole same.
              Represents-names t (without by_name n.id t.names) (λ x. not (x == n.id)) (unused t p n links uses o there last)
              (KeepsBytes-without t p n links uses o there last) o.rows.entries o.rows.attrs whole same;
          unique = λ unique. differ-filter have_same_bytes (λ r. not (has_key by_name n.id r)) t.names unique;
          kept =
              λ test x found some.
              KeepsBytes-without t p n links uses o there last x.name_id
              (find_passes_all test (λ (y : Content). not (y.name_id == n.id)) t.contents x (unused t p n links uses o there last).entries found) some;
        }
    by_case false is =
        let low : Name = record n { refcount = n.refcount - 1 } in
        let owed : IsTrue (owes_uses t (n.id ∷ uses) n) = find_passes_all (has_key by_name n.id) (owes_uses t (n.id ∷ uses)) t.names n o.names there in
        let some : 1 ≤ n.refcount =
        leb-true 1 n.refcount (and_parts (n.refcount == listed_name_count t n.id + times n.id (n.id ∷ uses)) (nat_le 1 n.refcount) owed).1 in
        let not_one : n.refcount ≡ 1 → ⊥ =
        λ (one : n.refcount ≡ 1).
        let clash : true ≡ false = sym (eq-eqb n.refcount 1 one) ∙ is in
        cc clash in
        let less : n.refcount - 1 + 1 ≡ n.refcount = omega arith in
        let left : 1 ≤ n.refcount - 1 = omega arith in
        record {
          rows = put by_name low t.names;
          after = refl;
          owes = Owes-put_name_less t p n (n.refcount - 1) links uses o there less left;
          nodes =
              node_after t (put by_name low t.names) (λ x. true) (any_name t)
              (KeepsBytes-put t low (own_bytes t p n links (n.id ∷ uses) o there)) o.rows.entries o.rows.attrs;
          represents =
              λ whole same.
              Represents-names t (put by_name low t.names) (λ x. true) (any_name t)
              (KeepsBytes-put t low (own_bytes t p n links (n.id ∷ uses) o there)) o.rows.entries o.rows.attrs whole same;
          unique =
              λ unique.
              differ-map same_text bytes_of_row (put by_name low t.names)
              ∙ ap (differ same_text) (map-put_there by_name nat_cmp_total bytes_of_row low n t.names o.ordered.names there refl)
              ∙ sym (differ-map same_text bytes_of_row t.names) ∙ unique;
          kept = λ test x found some. KeepsBytes-put t low (own_bytes t p n links (n.id ∷ uses) o there) x.name_id refl some;
        }

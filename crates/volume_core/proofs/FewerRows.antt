-- Rows whose keys are all among those of others are no more, and so operations on names and inodes add no places.
use Rattle.std.proofs.Common.{◌≡◌, ◌≤◌, ℕ, List, [], ◌∷◌, length, Bool, true, false, cond, Option, None, Some, refl, sym, ap, ◌∙◌, arith}
use Rattle.std.specs.Prelude.{IsTrue, is_some, option_and_then, option_map, unwrap_or}
use Rattle.std.specs.Cmp.{IsTotalOrder, tied_back}
use Rattle.std.specs.Ordering.{is_eq}
use Rattle.std.proofs.lemmas.Bool.{and_parts}
use Rattle.s3_rows.specs.Rows.{Inode, InodeBlock, Parameters}
use Rattle.s3_rows.specs.Keyed.{Order, rises, row_at, without}
use Rattle.s3_rows.specs.Selections.{block_at, inode_at, inode_block_at}
use Rattle.s3_rows.specs.Tables.{Tables, by_spot}
use Rattle.s3_rows.specs.Validity.{IsValid, finds_of_inode_block, has_inode, is_regular}
use Rattle.row_lemmas.proofs.Keyed.Length.{length-without_there}
use Rattle.row_lemmas.proofs.Keyed.Rises.{rises-without, rises_head, rises_tail}
use Rattle.row_lemmas.proofs.Keyed.RowAt.{row_at_head, row_at_key, row_at_next, row_at_none, row_at_passes}
use Rattle.row_lemmas.proofs.Keyed.Without.{row_at-without, row_at-without_other, without_none}
use Rattle.row_lemmas.proofs.Tables.{pair_cmp_total}
use Rattle.row_lemmas.proofs.Tests.{equal_from_is_eq, is_some-option_map, pair_parts}
use Rattle.tree_rows.specs.Spots.{form_at, form_of_row}
use Rattle.file_ops.specs.FileChanges.{AreFew}
use Rattle.ref_counts.specs.Plans.{LeavesRest, settings}

module _ {K R : Type 0} (o : Order K R) (total : IsTotalOrder o.compare) where
  turned : (a b : K) → is_eq (o.compare a b) ≡ is_eq (o.compare b a)
  turned a b = by_case (is_eq (o.compare a b)) (is_eq (o.compare b a)) refl refl
    where
      by_case : (x y : Bool) → is_eq (o.compare a b) ≡ x → is_eq (o.compare b a) ≡ y → x ≡ y
      by_case true true ab ba = refl
      by_case false false ab ba = refl
      by_case true false ab ba =
          let clash : true ≡ false = sym (ap is_eq (tied_back total a b (equal_from_is_eq (o.compare a b) ab))) ∙ ba in
          absurd (cc clash)
      by_case false true ab ba =
          let clash : true ≡ false = sym (ap is_eq (tied_back total b a (equal_from_is_eq (o.compare b a) ba))) ∙ ab in
          absurd (cc clash)

  -- a key of the rows behind one is a key of the others without it
  still_among : (x : R) (xs ys : List R) → IsTrue (rises o (x ∷ xs)) → ((k : K) → IsTrue (is_some (row_at o k (x ∷ xs))) → IsTrue (is_some (row_at o k ys)))
      → (j : K) → IsTrue (is_some (row_at o j xs)) → IsTrue (is_some (row_at o j (without o (o.key x) ys)))
  still_among x xs ys up among j there = by_case (is_eq (o.compare (o.key x) j)) refl
    where
      none_behind : row_at o (o.key x) xs ≡ None
      none_behind = row_at_none o (o.key x) xs (rises_head o x xs up)

      by_case : (b : Bool) → is_eq (o.compare (o.key x) j) ≡ b → IsTrue (is_some (row_at o j (without o (o.key x) ys)))
      by_case true same =
          let gone : row_at o j xs ≡ None =
          ap (row_at o j) (sym (without_none o (o.key x) xs (ap is_some none_behind))) ∙ row_at-without o total (o.key x) j xs ∙ ap (λ b. cond b None (row_at o j xs)) same in
          let clash : false ≡ true = sym (ap is_some gone) ∙ there in
          absurd (cc clash)
      by_case false other =
          ap is_some (row_at-without_other o total (o.key x) j ys other) ∙ among j (ap is_some (row_at_next o j x xs (turned j (o.key x) ∙ other)) ∙ there)

  first_there : (x : R) (xs : List R) → is_some (row_at o (o.key x) (x ∷ xs)) ≡ true
  first_there x xs = ap is_some (row_at_head o total x xs)

  pub fewer_rows : (xs ys : List R) → IsTrue (rises o xs) → IsTrue (rises o ys) → ((k : K) → IsTrue (is_some (row_at o k xs)) → IsTrue (is_some (row_at o k ys))) → length xs ≤ length ys
  fewer_rows [] ys up down among = omega arith
  fewer_rows (x ∷ xs) ys up down among =
      by_row (fewer_rows xs (without o (o.key x) ys) (rises_tail o x xs up) (rises-without o (o.key x) ys down) (still_among x xs ys up among)) (row_at o (o.key x) ys) refl
      (among (o.key x) (first_there x xs))
    where
      by_row : length xs ≤ length (without o (o.key x) ys) → (found : Option R) → row_at o (o.key x) ys ≡ found → IsTrue (is_some found) → length (x ∷ xs) ≤ length ys
      by_row less None is some = absurd (cc some)
      by_row less (Some r) is some = omega (arith, less, length-without_there o (o.key x) ys r is)

-- ---- places

module _ (t after : Tables) (v : IsValid after) (ordered : IsTrue (rises by_spot t.inode_blocks)) (rest : LeavesRest t after) where
  living : (found : Option Inode) → IsTrue (elim found [ Some r ↦ is_regular r.kind | None ↦ false ]) → IsTrue (is_some found)
  living None some = absurd (cc some)
  living (Some r) some = refl

  -- a place that is there has a form, and so it was there
  was_there : (k : ℕ × ℕ) → IsTrue (is_some (row_at by_spot k after.inode_blocks)) → IsTrue (is_some (row_at by_spot k t.inode_blocks))
  was_there k there = by_row (inode_block_at after k.0 k.1) refl there
    where
      by_form : (found : Option InodeBlock) → inode_block_at t k.0 k.1 ≡ found → IsTrue (is_some (form_at t k.0 k.1)) → IsTrue (is_some found)
      by_form None is some =
          let none : form_at t k.0 k.1 ≡ None = ap (option_and_then (λ (r : InodeBlock). option_map form_of_row (block_at t r.block))) is in
          let clash : false ≡ true = sym (ap is_some none) ∙ some in
          absurd (cc clash)
      by_form (Some r) is some = refl

      by_row : (found : Option InodeBlock) → inode_block_at after k.0 k.1 ≡ found → IsTrue (is_some found) → IsTrue (is_some (row_at by_spot k t.inode_blocks))
      by_row None is some = absurd (cc some)
      by_row (Some r) is some =
          let finds : IsTrue (finds_of_inode_block after r) = row_at_passes by_spot (finds_of_inode_block after) k after.inode_blocks r v.rows.inode_blocks is in
          let parts = and_parts (has_inode is_regular after r.inode) (is_some (block_at after r.block)) finds in
          let key = pair_parts k (r.inode, r.blockno) (ap is_eq (row_at_key by_spot k after.inode_blocks r is)) in
          let alive : IsTrue (is_some (inode_at after k.0)) = ap (λ (x : ℕ). is_some (inode_at after x)) key.0 ∙ living (inode_at after r.inode) parts.0 in
          let form : IsTrue (is_some (form_at after k.0 k.1)) =
          ap (λ (found : Option InodeBlock). is_some (option_and_then (λ (x : InodeBlock). option_map form_of_row (block_at after x.block)) found)) is ∙ is_some-option_map form_of_row (block_at after r.block) ∙ parts.1 in
          by_form (inode_block_at t k.0 k.1) refl (ap is_some (sym (rest.forms k.0 k.1 alive)) ∙ form)

  settings_block : (a b : Option Parameters) → option_map settings b ≡ option_map settings a
      → (unwrap_or (option_map (λ (p : Parameters). p.next_block) b) 0 ≡ unwrap_or (option_map (λ (p : Parameters). p.next_block) a) 0)
      × (unwrap_or (option_map (λ (p : Parameters). p.next_object) b) 0 ≡ unwrap_or (option_map (λ (p : Parameters). p.next_object) a) 0)
  settings_block None None same = (refl, refl)
  settings_block None (Some q) same = absurd (cc same)
  settings_block (Some p) None same = absurd (cc same)
  settings_block (Some p) (Some q) same =
      let equal : settings q ≡ settings p = cc same in
      (ap (λ (x : Parameters). x.next_block) equal, ap (λ (x : Parameters). x.next_object) equal)

  -- an operation on names and inodes draws no block and no object, and adds no place
  pub few_of_rest : AreFew 34 t after
  few_of_rest =
      let numbers = settings_block t.params after.params rest.params in
      let places : length after.inode_blocks ≤ length t.inode_blocks = fewer_rows by_spot pair_cmp_total after.inode_blocks t.inode_blocks v.ordered.inode_blocks ordered was_there in record {
        blocks = omega (arith, numbers.0);
        objects = omega (arith, numbers.1);
        places = omega (arith, places);
      }

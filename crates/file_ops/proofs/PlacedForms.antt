-- The forms of placed blocks.
use Rattle.std.proofs.Common.{◌≡◌, ℕ, List, [], ◌∷◌, ◌++◌, length, Bool, true, false, cond, Option, None, Some, refl, sym, ap, ◌∙◌}
use Rattle.std.specs.Prelude.{Contains, option_and_then, option_map}
use Rattle.std.specs.Option.{option_or}
use Rattle.std.specs.Ordering.{is_eq}
use Rattle.std.proofs.lemmas.List.Elements.{Contains-append_left, Contains-append_right, Contains-push}
use Rattle.std.proofs.lemmas.Map.Lookups.{exact_bytes}
use Rattle.s3_rows.specs.declared.digest.Digest.{Digest}
use Rattle.s3_rows.specs.Rows.{Block}
use Rattle.s3_rows.specs.Tables.{Tables}
use Rattle.s3_rows.specs.Selections.{block_at, block_of_digest, bytes_cmp}
use Rattle.row_lemmas.proofs.Tests.{equal_from_is_eq, find_passes}
use Rattle.tree_rows.specs.Contents.{Contents, HaveBytes, bytes_of}
use Rattle.tree_rows.specs.Spots.{form_at, form_of_row}
use Rattle.core_model.specs.Exact.{form_of_stored}
use Rattle.core_model.specs.Occurring.{Knows, is_stored}
use Rattle.file_ops.specs.declared.new_block.NewBlock.{NewBlock}
use Rattle.file_ops.specs.declared.place.Place.{Place}
use Rattle.file_ops.specs.declared.place.Place.TheVariants as places
use Rattle.file_ops.specs.Placed.{HaveTheirForms, KnowsBlocks, links_of}
use Rattle.file_ops.specs.Resolved.{digest_for, id_of, known_or_new, new_row, new_with, next_after, place_for, resolved}
use Rattle.file_ops.proofs.CountedPlaces.{HasForm, HaveForms}
use Rattle.file_ops.proofs.KeptBlocks.{HaveBytes-row}

-- the form of what a place names
abbrev pub form_named : Tables → Option ℕ → Option (List ℕ × ℕ)
form_named v id = option_and_then (λ (n : ℕ). option_map form_of_row (block_at v n)) id

digest_found : (t : Tables) (d : Digest) (r : Block) → block_of_digest t d ≡ Some r → r.digest.0 ≡ d.0
digest_found t d r is = exact_bytes r.digest.0 d.0 (equal_from_is_eq (bytes_cmp r.digest.0 d.0) (find_passes (λ (x : Block). is_eq (bytes_cmp x.digest.0 d.0)) t.blocks r is))

digest_new : (xs : List Place) (d : Digest) (r : Block) → new_with d xs ≡ Some r → r.digest.0 ≡ d.0
digest_new [] d r is = absurd (cc is)
digest_new (places.Zeros ∷ xs) d r is = digest_new xs d r is
digest_new (places.Known x ∷ xs) d r is = digest_new xs d r is
digest_new (places.New x ∷ xs) d r is = by_case (is_eq (bytes_cmp x.digest.0 d.0)) refl is (digest_new xs d r)
  where
    by_case : (b : Bool) → is_eq (bytes_cmp x.digest.0 d.0) ≡ b → cond b (Some x) (new_with d xs) ≡ Some r → (new_with d xs ≡ Some r → r.digest.0 ≡ d.0) → r.digest.0 ≡ d.0
    by_case true passes found others =
        let same : x ≡ r = cc found in
        ap (λ (y : Block). y.digest.0) (sym same) ∙ exact_bytes x.digest.0 d.0 (equal_from_is_eq (bytes_cmp x.digest.0 d.0) passes)
    by_case false fails found others = others found

module _ (digest_of : List ℕ → List ℕ) (m : Contents) (t v : Tables) (have : HaveBytes m v.blocks) where
  -- a row of the digest of known bytes has their length
  known_form : (r : Block) (bytes : List ℕ) → HasForm v (places.Known r) → r.digest.0 ≡ digest_of bytes → Knows digest_of m bytes
      → form_named v (Some r.id) ≡ Some (digest_of bytes, length bytes)
  known_form r bytes form digest knows = by_case (block_at v r.id) refl form
    where
      by_case : (found : Option Block) → block_at v r.id ≡ found → option_map form_of_row found ≡ Some (form_of_row r) → option_map form_of_row (block_at v r.id) ≡ Some (digest_of bytes, length bytes)
      by_case None at is = absurd (cc is)
      by_case (Some y) at is =
          let both : form_of_row y ≡ form_of_row r = cc is in
          let named : y.digest.0 ≡ digest_of bytes = ap (λ (f : List ℕ × ℕ). f.0) both ∙ digest in
          let sized : Some (length bytes) ≡ Some y.size =
          ap (option_map length) (sym knows) ∙ ap (λ (d : List ℕ). option_map length (bytes_of m d)) (sym named) ∙ HaveBytes-row m r.id v.blocks y v refl have at in
          let size : length bytes ≡ y.size = cc sized in
          ap (option_map form_of_row) at ∙ ap (λ (d : List ℕ). Some (d, y.size)) named ∙ ap (λ (n : ℕ). Some (digest_of bytes, n)) (sym size)

  one_form : (bytes : List ℕ) (before : List Place) (block object : ℕ) → HasForm v (place_for digest_of t before block object bytes) → (is_stored bytes ≡ true → Knows digest_of m bytes)
      → form_named v (id_of (place_for digest_of t before block object bytes)) ≡ form_of_stored digest_of bytes
  one_form [] before block object form knows = refl
  one_form (b ∷ bytes) before block object form knows =
      by_row (block_of_digest t (digest_for digest_of (b ∷ bytes))) refl (new_with (digest_for digest_of (b ∷ bytes)) before) refl form
    where
      by_row : (a : Option Block) → block_of_digest t (digest_for digest_of (b ∷ bytes)) ≡ a → (e : Option Block) → new_with (digest_for digest_of (b ∷ bytes)) before ≡ e
          → HasForm v (known_or_new (option_or a e) (new_row digest_of block object (b ∷ bytes)))
          → form_named v (id_of (known_or_new (option_or a e) (new_row digest_of block object (b ∷ bytes)))) ≡ Some (digest_of (b ∷ bytes), length (b ∷ bytes))
      by_row (Some r) found e made has = known_form r (b ∷ bytes) has (digest_found t (digest_for digest_of (b ∷ bytes)) r found) (knows refl)
      by_row None found (Some r) made has = known_form r (b ∷ bytes) has (digest_new before (digest_for digest_of (b ∷ bytes)) r made) (knows refl)
      by_row None found None made has = has

  pub all_forms : (w : Tables) (inode : ℕ) (blocks : List NewBlock) (before : List Place) (block object : ℕ)
      → ((place : ℕ × Option ℕ) → Contains (links_of blocks (resolved digest_of t before block object blocks)) place → form_at w inode place.0 ≡ form_named v place.1)
      → HaveForms v (resolved digest_of t before block object blocks) → KnowsBlocks digest_of m blocks → HaveTheirForms digest_of w inode blocks
  all_forms w inode [] before block object named forms knows = tt
  all_forms w inode (b ∷ bs) before block object named forms knows =
      let x = place_for digest_of t before block object b.stored in
      let rest = links_of bs (resolved digest_of t (before ++ x ∷ []) (next_after x block) (next_after x object) bs) in
      let first : ℕ × Option ℕ = (b.blockno, id_of x) in (
        named first (Contains-append_left (first ∷ []) rest first (Contains-push [] first)) ∙ one_form b.stored before block object forms.0 knows.0,
        all_forms w inode bs (before ++ x ∷ []) (next_after x block) (next_after x object)
            (λ place there. named place (Contains-append_right (first ∷ []) rest place there)) forms.1 knows.1,
      )

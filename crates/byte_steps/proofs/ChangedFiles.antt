-- A file that gets other bytes, and what its places show then.
use Rattle.std.proofs.Common.{◌≡◌, ◌⊎◌, ℕ, ◌*◌, ◌<◌, ◌≤◌, List, [], ◌∷◌, Bool, true, false, length, take, Option, None, Some, refl, sym, ap, ◌∙◌, subst, inl, inr, arith, eqb-true}
use Rattle.std.specs.Prelude.{◌==◌, IsTrue, option_and_then, option_map, unwrap_or, Contains}
use Rattle.std.specs.List.{list_any, AllByRecursion}
use Rattle.std.specs.Option.{IsSomeAnd}
use Rattle.std.proofs.Math.Seq.{take-length}
use Rattle.std.proofs.lemmas.Bool.{cases_lt, eq-eqb}
use Rattle.plain_tree.specs.Tree.{Tree}
use Rattle.plain_tree.specs.Files.{file_at}
use Rattle.block_math.specs.Blocks.{piece_of, trimmed}
use Rattle.block_math.specs.Changes.{resized}
use Rattle.block_math.proofs.TrimmedLemmas.{padded-trimmed}
use Rattle.s3_rows.specs.Rows.{Block, InodeBlock}
use Rattle.s3_rows.specs.Tables.{Tables, by_block}
use Rattle.s3_rows.specs.Selections.{block_at, inode_block_at}
use Rattle.row_lemmas.proofs.Keyed.RowAt.{row_at_meets}
use Rattle.tree_rows.specs.Contents.{Contents, HaveBytes, bytes_of}
use Rattle.tree_rows.specs.Spots.{form_at, form_of_row}
use Rattle.core_model.specs.Bytes.{HasBytes, Shows, bytes_of_form, no_overlay, shown_at}
use Rattle.core_model.specs.Changes.{IsLeft, rest_of}
use Rattle.core_model.specs.Exact.{IsExact, form_for, form_of_stored}
use Rattle.core_model.specs.Occurring.{Knows, is_stored}
use Rattle.byte_steps.specs.Changed.{EndsAt, IsFileChanged, KnowsChanged, stored_length}
use Rattle.byte_steps.proofs.ChangedNumbers.{Contains-list_any, not_contained, trimmed-left}
use Rattle.byte_steps.proofs.SameForms.{piece_of-past, shown_at-none, shown_at-same_form}

-- ---- stored lengths

-- where no place past the end names a block, nothing is stored there
pub stored_length-past : (t : Tables) (inode size len : ℕ) → EndsAt t inode size len → (n : ℕ) → len ≤ n * size → stored_length t inode n ≡ 0
stored_length-past t inode size len ends n past = ap (λ (form : Option (List ℕ × ℕ)). unwrap_or (option_map (λ (f : List ℕ × ℕ). f.1) form) 0) (ends n past)

module _ (m : Contents) (t : Tables) (fits : HaveBytes m t.blocks) where
  -- the bytes of a form are as many as it says
  abbrev HasLength : Option (List ℕ × ℕ) → Type 0
  HasLength form = (shown : List ℕ) → bytes_of_form m form ≡ Some shown → length shown ≡ unwrap_or (option_map (λ (f : List ℕ × ℕ). f.1) form) 0

  no_length : HasLength None
  no_length shown is =
      let none : [] ≡ shown = cc is in
      ap length (sym none)

  own_length : (id : ℕ) (b : Block) → block_at t id ≡ Some b → option_map length (bytes_of m b.digest.0) ≡ Some b.size
  own_length id b there = row_at_meets by_block (λ (r : Block). option_map length (bytes_of m r.digest.0) ≡ Some r.size) id t.blocks b (by_recursion t.blocks fits) there
    where
      by_recursion : (rows : List Block) → HaveBytes m rows → AllByRecursion (λ (r : Block). option_map length (bytes_of m r.digest.0) ≡ Some r.size) rows
      by_recursion [] all = tt
      by_recursion (r ∷ rs) all = (all.0, by_recursion rs all.1)

  -- what a place shows has its stored length
  length-shown : (x n : ℕ) → HasLength (form_at t x n)
  length-shown x n = by_link (inode_block_at t x n)
    where
      by_block_row : (id : ℕ) (found : Option Block) → block_at t id ≡ found → HasLength (option_map form_of_row found)
      by_block_row id None there = no_length
      by_block_row id (Some b) there =
          λ shown is.
          let long : Some (length shown) ≡ Some b.size = sym (ap (option_map length) is) ∙ own_length id b there in
          cc long

      by_link : (found : Option InodeBlock) → HasLength (option_and_then (λ (l : InodeBlock). option_map form_of_row (block_at t l.block)) found)
      by_link None = no_length
      by_link (Some l) = by_block_row l.block (block_at t l.block) refl

-- ---- a changed block

-- bytes without the zeros at their end show them
Shows-stored : (piece : List ℕ) → Shows piece (trimmed piece)
Shows-stored piece = ap (take (length piece)) (padded-trimmed piece) ∙ take-length piece

module _ (digest_of : List ℕ → List ℕ) (m : Contents) where
  form_shown : (stored : List ℕ) → (IsTrue (is_stored stored) → Knows digest_of m stored) → bytes_of_form m (form_of_stored digest_of stored) ≡ Some stored
  form_shown [] known = refl
  form_shown (b ∷ bytes) known = known refl

  -- a place with the form of a piece that is known shows it
  shown_at-put : (after : Tables) (x n : ℕ) (piece : List ℕ) → form_at after x n ≡ form_of_stored digest_of (trimmed piece)
      → (IsTrue (is_stored (trimmed piece)) → Knows digest_of m (trimmed piece)) → IsSomeAnd (shown_at m after no_overlay x n) (Shows piece)
  shown_at-put after x n piece is known =
      let shown : shown_at m after no_overlay x n ≡ Some (trimmed piece) = ap (bytes_of_form m) is ∙ form_shown (trimmed piece) known in
      subst (λ (found : Option (List ℕ)). IsSomeAnd found (Shows piece)) (sym shown) (Shows-stored piece)

-- ---- a block that is left alone

-- bytes that begin with a piece begin with it cut, and lengthened where they have no more
abbrev pub AreResized : Type 0
AreResized = (piece shown : List ℕ) (len : ℕ) → Shows piece shown → (len ≤ length piece) ⊎ (length shown ≤ length piece) → Shows (resized len piece) shown

shown_at-left : AreResized → (m : Contents) (t : Tables) → HaveBytes m t.blocks → (size x n : ℕ) (old new : List ℕ) → IsLeft size n (stored_length t x) old new
    → IsSomeAnd (shown_at m t no_overlay x n) (Shows (piece_of size old n)) → IsSomeAnd (shown_at m t no_overlay x n) (Shows (piece_of size new n))
shown_at-left resize m t fits size x n old new left shows = by_bytes (bytes_of_form m (form_at t x n)) refl shows
  where
    by_bytes : (found : Option (List ℕ)) → bytes_of_form m (form_at t x n) ≡ found → IsSomeAnd found (Shows (piece_of size old n)) → IsSomeAnd found (Shows (piece_of size new n))
    by_bytes None is none = absurd none
    by_bytes (Some shown) is begins =
        let len : ℕ = length (piece_of size new n) in
        let long : length shown ≡ stored_length t x n = length-shown m t fits x n shown is in
        let either : (len ≤ length (piece_of size old n)) ⊎ (length shown ≤ length (piece_of size old n)) =
        elim left.fits [ inl short ↦ inl short | inr short ↦ inr (omega (arith, long)) ] in
        subst (λ (piece : List ℕ). Shows piece shown) (sym left.piece) (resize (piece_of size old n) shown len begins either)

-- ---- the file

module _ (digest_of : List ℕ → List ℕ) (t after : Tables) (whole next : Tree) (inode : ℕ) (old new changed : List ℕ) (was : file_at whole inode ≡ Some old)
    (f : IsFileChanged digest_of t after whole next inode new changed) where
  abbrev B : ℕ
  B = whole.block_size

  -- it is not among the changed blocks, and begins before the end
  abbrev IsKept : ℕ → Type 0
  IsKept n = (list_any (λ m. m == n) changed ≡ false) × (n * B < length new)

  -- what is kept keeps its form
  form_at-kept : (n : ℕ) → IsKept n → form_at after inode n ≡ form_at t inode n
  form_at-kept n kept = f.kept inode n (λ same either. elim either [ inl there ↦ not_contained n changed kept.0 there | inr past ↦ omega (arith, kept.1) ])

  form_at-other_file : (x n : ℕ) → (x == inode) ≡ false → form_at after x n ≡ form_at t x n
  form_at-other_file x n apart = f.kept x n (λ same either. clash same)
    where
      clash : x ≡ inode → ⊥
      clash same =
          let wrong : true ≡ false = sym (ap (λ y. y == inode) same ∙ eq-eqb inode inode refl) ∙ apart in
          absurd (cc wrong)

  -- A place of a file is one of another file, or a changed one, or past the end, or kept.
  by_place : (P : ℕ → ℕ → List ℕ → Type 0)
      → ((x n : ℕ) (bytes : List ℕ) → file_at whole x ≡ Some bytes → form_at after x n ≡ form_at t x n → P x n bytes)
      → ((n : ℕ) → Contains changed n → P inode n new) → ((n : ℕ) → length new ≤ n * B → P inode n new) → ((n : ℕ) → IsKept n → P inode n new)
      → (x n : ℕ) (bytes : List ℕ) → file_at next x ≡ Some bytes → P x n bytes
  by_place P other put past kept x n bytes is = by_inode (x == inode) refl
    where
      by_test : (b : Bool) → list_any (λ m. m == n) changed ≡ b → P inode n new
      by_test true there = put n (Contains-list_any n changed there)
      by_test false none = elim (cases_lt (n * B) (length new)) [ inl before ↦ kept n (none, before) | inr beyond ↦ past n beyond ]

      by_inode : (b : Bool) → (x == inode) ≡ b → P x n bytes
      by_inode false apart = other x n bytes (sym (f.others x apart) ∙ is) (form_at-other_file x n apart)
      by_inode true same =
          let own : x ≡ inode = eqb-true x inode same in
          let both : Some new ≡ Some bytes = sym f.file ∙ ap (file_at next) (sym own) ∙ is in
          let all : new ≡ bytes = cc both in
          subst (λ y. P y n bytes) (sym own) (subst (λ (b : List ℕ). P inode n b) all (by_test (list_any (λ m. m == n) changed) refl))

  pub HasBytes-changed : AreResized → (m : Contents) → ((n : ℕ) → list_any (λ k. k == n) changed ≡ false → IsLeft B n (stored_length t inode) old new)
      → HaveBytes m after.blocks → KnowsChanged digest_of m B new changed → HasBytes m t no_overlay whole → HasBytes m after no_overlay next
  HasBytes-changed resize m left fits known has = record {
    fits = fits;
    agrees = λ x n bytes is. subst (λ s. IsSomeAnd (shown_at m after no_overlay x n) (Shows (piece_of s bytes n))) (sym f.size) (at x n bytes is);
    exact = λ x n shown bytes waits. absurd (cc waits);
  }
    where
      at : (x n : ℕ) (bytes : List ℕ) → file_at next x ≡ Some bytes → IsSomeAnd (shown_at m after no_overlay x n) (Shows (piece_of B bytes n))
      at =
          by_place (λ x n bytes. IsSomeAnd (shown_at m after no_overlay x n) (Shows (piece_of B bytes n)))
          (λ x n bytes there same. shown_at-same_form m t after no_overlay x n (piece_of B bytes n) same (has.agrees x n bytes there))
          (λ n there. shown_at-put digest_of m after inode n (piece_of B new n) (f.put n there) (known n there))
          (λ n beyond. shown_at-none m t after inode n (piece_of B new n) (f.past n beyond) (piece_of-past B n new beyond))
          (λ n kept. shown_at-same_form m t after no_overlay inode n (piece_of B new n) (form_at-kept n kept)
          (shown_at-left resize m t has.fits B inode n old new (left n kept.0) (has.agrees inode n old was)))

  pub IsExact-changed : ((n : ℕ) → list_any (λ k. k == n) changed ≡ false → IsLeft B n (stored_length t inode) old new)
      → ((n : ℕ) → list_any (λ k. k == n) changed ≡ false → n * B < length new → rest_of B (length old) n ≤ rest_of B (length new) n)
      → IsExact digest_of t no_overlay whole → IsExact digest_of after no_overlay next
  IsExact-changed left grown exact x n free bytes is = at x n bytes is ∙ ap (λ s. form_for digest_of (piece_of s bytes n)) (sym f.size)
    where
      at : (x n : ℕ) (bytes : List ℕ) → file_at next x ≡ Some bytes → form_at after x n ≡ form_for digest_of (piece_of B bytes n)
      at =
          by_place (λ x n bytes. form_at after x n ≡ form_for digest_of (piece_of B bytes n))
          (λ x n bytes there same. same ∙ exact x n refl bytes there)
          (λ n there. f.put n there)
          (λ n beyond. f.past n beyond ∙ sym (ap (form_for digest_of) (piece_of-past B n new beyond)))
          (λ n kept. form_at-kept n kept ∙ exact inode n refl old was
          ∙ ap (form_of_stored digest_of) (sym (trimmed-left B n (stored_length t inode) old new (left n kept.0) (grown n kept.0 kept.1))))

-- When an index of a batch answers what the changes say.
use Rattle.std.specs.Prelude.{◌≡◌, ℕ, zero, suc, List, [], ◌∷◌, Option, None, Some, option_map, if◌then◌else◌}
use Rattle.std.specs.Option.{option_or}
use Rattle.std.specs.declared.cmp.Ordering.{Ordering}
use Rattle.std.specs.Ordering.{nat_cmp}
use Rattle.std.specs.Cmp.Lexicographic.{slice_cmp}
use Rattle.std.specs.BTreeMap as tree
use Rattle.s3_rows.specs.declared.change.Change.{Change}
use Rattle.s3_rows.specs.declared.row_id.RowId.{RowId}
use Rattle.s3_rows.specs.declared.digest.Digest.{Digest}
use Rattle.s3_rows.specs.declared.index.Index.{Index}
use Rattle.s3_rows.specs.contracts.row_id.RowIdOrd.TheImpl as row_ord
use Rattle.s3_rows.specs.contracts.digest.DigestOrd.TheImpl as digest_ord
use Rattle.s3_rows.specs.Latest.{row_id, same_row, id_named, id_hashed, last_named, last_hashed}

-- the orders of the maps
abbrev pub row_cmp : RowId → RowId → Ordering
row_cmp = (row_ord.ghosts).cmp

abbrev pub digest_cmp : Digest → Digest → Ordering
digest_cmp = (digest_ord.ghosts).cmp

-- what the index answers
abbrev pub place_in : Index → RowId → Option ℕ
place_in x id = tree.get row_cmp x.places id

abbrev pub name_in : Index → List ℕ → Option ℕ
name_in x bytes = tree.get_by (λ k. slice_cmp nat_cmp bytes k.items) x.names

abbrev pub digest_in : Index → Digest → Option ℕ
digest_in x digest = tree.get digest_cmp x.digests digest

-- the place of the last change of a row
abbrev pub last_place : RowId → List Change → Option ℕ
last_place id [] = None
last_place id (c ∷ cs) = option_or (option_map (λ n. suc n) (last_place id cs)) (if same_row (row_id c) id then Some zero else None)

-- each answer of the index is what the changes say
pub record Indexes (x : Index) (changes : List Change) : Type 0 where
  pub places : (id : RowId) → place_in x id ≡ last_place id changes
  pub names : (bytes : List ℕ) → name_in x bytes ≡ last_named bytes changes
  pub digests : (digest : Digest) → digest_in x digest ≡ last_hashed digest changes

-- the later index answers what the change says of bytes, and else what the earlier one does
pub record Lists (c : Change) (x y : Index) : Type 0 where
  pub names : (bytes : List ℕ) → name_in y bytes ≡ option_or (id_named bytes c) (name_in x bytes)
  pub digests : (digest : Digest) → digest_in y digest ≡ option_or (id_hashed digest c) (digest_in x digest)

-- the two answer the same of bytes
pub record HasSameBytes (x y : Index) : Type 0 where
  pub names : (bytes : List ℕ) → name_in y bytes ≡ name_in x bytes
  pub digests : (digest : Digest) → digest_in y digest ≡ digest_in x digest

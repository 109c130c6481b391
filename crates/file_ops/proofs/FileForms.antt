-- The forms of a file that got other bytes, once its blocks are placed.
use Rattle.std.proofs.Common.{◌≡◌, ◌⊎◌, inl, inr, ℕ, ◌*◌, ◌<◌, ◌≤◌, List, [], ◌∷◌, length, Bool, true, false, Option, None, Some, refl, sym, ap, ◌∙◌, subst, arith, eqb-true, ltb-true}
use Rattle.std.specs.Prelude.{◌==◌, ◌&&◌, ◌||◌, Contains, IsTrue, nat_lt, option_and_then, option_map}
use Rattle.std.specs.List.{list_any}
use Rattle.std.specs.Ordering.{is_eq}
use Rattle.std.proofs.lemmas.Cmp.{nat_cmp_total}
use Rattle.std.proofs.lemmas.List.Elements.{All-head, All-tail}
use Rattle.block_math.specs.Blocks.{piece_of, trimmed}
use Rattle.s3_rows.specs.Rows.{Inode, InodeBlock, Parameters}
use Rattle.s3_rows.specs.Tables.{Tables, by_inode, by_spot}
use Rattle.s3_rows.specs.Keyed.{row_at}
use Rattle.s3_rows.specs.Selections.{block_at, inode_at, inode_block_at}
use Rattle.s3_rows.specs.Validity.{IsValid, is_in_file}
use Rattle.row_lemmas.proofs.Tests.{pair_parts}
use Rattle.row_lemmas.proofs.Keyed.Put.{row_at-put_same}
use Rattle.row_lemmas.proofs.Keyed.RowAt.{row_at_key, row_at_passes}
use Rattle.tree_rows.specs.Contents.{Contents, HaveBytes}
use Rattle.tree_rows.specs.Spots.{form_at, form_of_row}
use Rattle.core_model.specs.Exact.{form_of_stored}
use Rattle.core_model.specs.Occurring.{Knows, is_stored}
use Rattle.core_model.proofs.Elements.{Contains-cases, Contains-first, Contains-later, Contains-none}
use Rattle.block_steps.specs.Owed.{without_next_block}
use Rattle.byte_steps.specs.Changed.{KnowsChanged}
use Rattle.file_ops.specs.declared.new_block.NewBlock.{NewBlock}
use Rattle.file_ops.specs.FileChanges.{AreInFile, IsFileAt, IsFileWritten}
use Rattle.file_ops.specs.NewBlocks.{AreBlocksOf, numbers_of}
use Rattle.file_ops.specs.Placed.{HaveTheirForms, KnowsBlocks, is_placed}

-- ---- the end of a file

-- a test of the row of an inode, and false without one
abbrev begins_in_row : ℕ → ℕ → Option Inode → Bool
begins_in_row size n found = elim found [ Some r ↦ nat_lt (n * size) r.size | None ↦ false ]

-- no place past the end of a file has a form
pub no_form_past : (t : Tables) (valid : IsValid t) (r : Inode) (id n : ℕ) → inode_at t id ≡ Some r → r.size ≤ n * valid.params.block_size → form_at t id n ≡ None
no_form_past t valid r id n there past = by_place (inode_block_at t id n) refl
  where
    inside : (x : InodeBlock) → inode_block_at t id n ≡ Some x → n * valid.params.block_size < r.size
    inside x is =
        let own : begins_in_row valid.params.block_size x.blockno (inode_at t x.inode) ≡ true =
        row_at_passes by_spot (λ (l : InodeBlock). is_in_file t valid.params l.inode l.blockno) (id, n) t.inode_blocks x valid.sizes.inode_blocks is in
        let key = pair_parts (id, n) (x.inode, x.blockno) (ap is_eq (row_at_key by_spot (id, n) t.inode_blocks x is)) in
        ltb-true (n * valid.params.block_size) r.size
        (ap (begins_in_row valid.params.block_size n) (sym there)
        ∙ ap (λ (k : ℕ). begins_in_row valid.params.block_size k (inode_at t id)) key.1
        ∙ ap (λ (k : ℕ). begins_in_row valid.params.block_size x.blockno (inode_at t k)) key.0
        ∙ own)

    by_place : (found : Option InodeBlock) → inode_block_at t id n ≡ found → option_and_then (λ (x : InodeBlock). option_map form_of_row (block_at t x.block)) found ≡ None
    by_place None is = refl
    by_place (Some x) is = let low : n * valid.params.block_size < r.size = inside x is in absurd (omega arith)

-- ---- lists of new blocks

-- contents that know the changed blocks know the new ones
pub knows_blocks : (digest_of : List ℕ → List ℕ) (m : Contents) (size : ℕ) (new : List ℕ) (blocks : List NewBlock) → AreBlocksOf size new blocks
    → ((n : ℕ) → Contains (numbers_of blocks) n → IsTrue (is_stored (trimmed (piece_of size new n))) → Knows digest_of m (trimmed (piece_of size new n)))
    → KnowsBlocks digest_of m blocks
knows_blocks digest_of m size new [] are knows = tt
knows_blocks digest_of m size new (b ∷ bs) are knows =
    let P : NewBlock → Type 0 = λ c. c.stored ≡ trimmed (piece_of size new c.blockno) in
    let own : b.stored ≡ trimmed (piece_of size new b.blockno) = All-head P b bs are in (
      λ some. subst (Knows digest_of m) (sym own) (knows b.blockno (Contains-first b.blockno (numbers_of bs)) (sym (ap is_stored own) ∙ some)),
      knows_blocks digest_of m size new bs (All-tail P b bs are) (λ n there. knows n (Contains-later b.blockno (numbers_of bs) n there)),
    )

-- each changed block has its form
pub put_forms : (digest_of : List ℕ → List ℕ) (t : Tables) (inode size : ℕ) (new : List ℕ) (blocks : List NewBlock) → AreBlocksOf size new blocks → HaveTheirForms digest_of t inode blocks
    → (n : ℕ) → Contains (numbers_of blocks) n → form_at t inode n ≡ form_of_stored digest_of (trimmed (piece_of size new n))
put_forms digest_of t inode size new [] are have n there = absurd (Contains-none n there)
put_forms digest_of t inode size new (b ∷ bs) are have n there =
    by_case (put_forms digest_of t inode size new bs (All-tail P b bs are) have.1 n) (Contains-cases b.blockno (numbers_of bs) n there)
  where
    P : NewBlock → Type 0
    P c = c.stored ≡ trimmed (piece_of size new c.blockno)

    own : form_at t inode b.blockno ≡ form_of_stored digest_of (trimmed (piece_of size new b.blockno))
    own = have.0 ∙ ap (form_of_stored digest_of) (All-head P b bs are)

    by_case : (Contains (numbers_of bs) n → form_at t inode n ≡ form_of_stored digest_of (trimmed (piece_of size new n))) → (b.blockno ≡ n) ⊎ Contains (numbers_of bs) n
        → form_at t inode n ≡ form_of_stored digest_of (trimmed (piece_of size new n))
    by_case others (inl same) = subst (λ (k : ℕ). form_at t inode k ≡ form_of_stored digest_of (trimmed (piece_of size new k))) same own
    by_case others (inr later) = others later

-- a number that is found is among theirs
found_among : (n : ℕ) (blocks : List NewBlock) → list_any (λ (b : NewBlock). b.blockno == n) blocks ≡ true → Contains (numbers_of blocks) n
found_among n [] is = absurd (cc is)
found_among n (b ∷ bs) is = by_case (found_among n bs) (b.blockno == n) refl is
  where
    by_case : (list_any (λ (c : NewBlock). c.blockno == n) bs ≡ true → Contains (numbers_of bs) n) → (e : Bool) → (b.blockno == n) ≡ e
        → (e || list_any (λ (c : NewBlock). c.blockno == n) bs) ≡ true → Contains (b.blockno ∷ numbers_of bs) n
    by_case others true same any = subst (Contains (b.blockno ∷ numbers_of bs)) (eqb-true b.blockno n same) (Contains-first b.blockno (numbers_of bs))
    by_case others false other any = Contains-later b.blockno (numbers_of bs) n (others any)

-- a place is none of theirs where its number is none, or its file another one
pub not_placed : (inode : ℕ) (blocks : List NewBlock) (x n : ℕ) → ((x ≡ inode) → Contains (numbers_of blocks) n → ⊥) → is_placed inode blocks x n ≡ false
not_placed inode blocks x n apart = by_file (x == inode) refl
  where
    by_number : (x ≡ inode) → (any : Bool) → list_any (λ (b : NewBlock). b.blockno == n) blocks ≡ any → any ≡ false
    by_number same true is = absurd (apart same (found_among n blocks is))
    by_number same false is = refl

    by_file : (e : Bool) → (x == inode) ≡ e → (e && list_any (λ (b : NewBlock). b.blockno == n) blocks) ≡ false
    by_file true is = by_number (eqb-true x inode is) (list_any (λ (b : NewBlock). b.blockno == n) blocks) refl
    by_file false is = refl

-- ---- all of it

-- parameters that differ in the next number of a block alone
pub same_block_size : (a b : Option Parameters) (p q : Parameters) → a ≡ Some p → b ≡ Some q → option_map without_next_block a ≡ option_map without_next_block b → p.block_size ≡ q.block_size
same_block_size a b p q made too same =
    let both : Some (without_next_block p) ≡ Some (without_next_block q) = ap (option_map without_next_block) (sym made) ∙ same ∙ ap (option_map without_next_block) too in
    let equal : without_next_block p ≡ without_next_block q = cc both in
    ap (λ (x : Parameters). x.block_size) equal

module _ (digest_of : List ℕ → List ℕ) (before now after : Tables) (old row : Inode) (size : ℕ) (blocks : List NewBlock)
    (file : IsFileAt now old size) (are_in : AreInFile digest_of now after row size blocks) where
  row_there : inode_at after row.id ≡ Some row
  row_there = ap (row_at by_inode row.id) are_in.step.names.inodes ∙ row_at-put_same by_inode nat_cmp_total row now.inodes

  size_same : are_in.step.valid.params.block_size ≡ size
  size_same =
      same_block_size after.params now.params are_in.step.valid.params file.valid.params are_in.step.valid.is_made file.valid.is_made are_in.step.names.params ∙ file.size

  past_end : (n : ℕ) → row.size ≤ n * size → form_at after row.id n ≡ None
  past_end n past =
      no_form_past after are_in.step.valid row row.id n row_there (subst (λ (s : ℕ). row.size ≤ n * s) (sym size_same) past)

  module _ (new changed : List ℕ) (long : length new ≡ row.size) (numbers : numbers_of blocks ≡ changed) (are : AreBlocksOf size new blocks)
      (same : (x n : ℕ) → form_at now x n ≡ form_at before x n) where
    -- the blocks are known
    pub knows_new : (m : Contents) → KnowsChanged digest_of m size new changed → KnowsBlocks digest_of m blocks
    knows_new m knows =
        knows_blocks digest_of m size new blocks are (λ n there. knows n (subst (λ (ns : List ℕ). Contains ns n) numbers there))

    -- the file has its bytes
    pub file_written : (m : Contents) → HaveBytes m now.blocks → KnowsChanged digest_of m size new changed → IsFileWritten digest_of m before after row.id size new changed
    file_written m have knows =
        let forms = are_in.forms m have (knows_new m knows) in
        record {
          put = λ n there. put_forms digest_of after row.id size new blocks are forms.0 n (subst (λ (ns : List ℕ). Contains ns n) (sym numbers) there);
          past = λ n over. past_end n (subst (λ (k : ℕ). k ≤ n * size) long over);
          kept =
              λ x n apart.
              are_in.elsewhere x n
              (not_placed row.id blocks x n (λ own there. apart own (inl (subst (λ (ns : List ℕ). Contains ns n) numbers there))))
              (λ own over. apart own (inr (subst (λ (k : ℕ). k ≤ n * size) (sym long) over)))
              ∙ same x n;
          known = forms.1;
        }

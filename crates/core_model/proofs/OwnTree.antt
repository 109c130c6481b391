-- Tables whose digests the contents have show the bytes of the tree that they are.
use Rattle.std.proofs.Common.{◌≡◌, ℕ, zero, suc, ◌+◌, ◌-◌, ◌*◌, ◌/◌, ◌<◌, ◌≤◌, List, [], ◌∷◌, ◌++◌, Bool, true, false, cond, length, take, map, get_or, Option, None, Some, refl, sym, ap, ◌∙◌, subst, inl, inr, arith, leb-true}
use Rattle.std.specs.Prelude.{IsTrue, nat_le, option_map, option_and_then, unwrap_or}
use Rattle.std.specs.List.{list_all, AllByRecursion}
use Rattle.std.specs.Option.{IsSomeAnd}
use Rattle.std.specs.Map.{lookup}
use Rattle.std.specs.BTreeMap.{is_at}
use Rattle.std.specs.Ordering.{nat_cmp}
use Rattle.std.proofs.Math.ListN.{get_or-append}
use Rattle.std.proofs.Math.Nat.{mod-lt, mul-le-mul_right, suc-mul, zero-mul}
use Rattle.std.proofs.Math.Seq.{get_or-append_right}
use Rattle.std.proofs.lemmas.Nat.{div-add-mod'}
use Rattle.std.proofs.lemmas.Bool.{cases_lt}
use Rattle.std.proofs.lemmas.List.{get_or-take, length-take, ext_get_or}
use Rattle.s3_base.specs.declared.node_kind.Kind.{Kind}
use Rattle.s3_base.specs.declared.node_kind.Kind.TheVariants as kinds
use Rattle.plain_tree.specs.Tree.{Directory, Link, Node, Regular}
use Rattle.plain_tree.specs.Files as files
use Rattle.plain_tree.specs.Files.{file_at}
use Rattle.block_math.specs.Blocks.{piece_of}
use Rattle.block_math.specs.Changes.{padded, resized}
use Rattle.block_math.proofs.FileLemmas.{get_or-padded}
use Rattle.block_math.proofs.LengthLemmas.{length-padded, length-resized}
use Rattle.s3_rows.specs.Rows.{Inode, InodeBlock, Block, Parameters}
use Rattle.s3_rows.specs.Keyed.{row_at}
use Rattle.s3_rows.specs.Tables.{Tables, by_block, by_inode}
use Rattle.s3_rows.specs.Selections.{inode_at, block_at, inode_block_at}
use Rattle.row_lemmas.proofs.Keyed.RowAt.{row_at_meets, row_at_passes}
use Rattle.tree_rows.specs.Contents.{Contents, HaveBytes, blocks_from, bytes_in, bytes_of, node_in, stored_at, tree_of}
use Rattle.tree_rows.specs.Shapes.{entries_in, target_in}
use Rattle.tree_rows.specs.Spots.{form_at, form_of_row}
use Rattle.tree_rows.proofs.Whole.{number_of}
use Rattle.core_model.specs.Bytes.{AgreesAt, HasBytes, Shows, bytes_of_form, no_overlay, shown_at}
use Rattle.core_model.proofs.Left.{get_or-piece_of, length-piece_of}
use Rattle.core_model.proofs.Shown.{get_or-resized}

-- ---- one byte of a file

module _ (m : Contents) (t : Tables) (size inode : ℕ) (short : (n : ℕ) → length (stored_at m t inode n) ≤ size) where
  -- of blocks that are each as long as a block
  get_or-blocks_from : (count k first i : ℕ) → k < count → i < size → get_or (blocks_from m t size inode count first) (k * size + i) 0 ≡ get_or (stored_at m t inode (first + k)) i 0
  get_or-blocks_from zero k first i there low = absurd (omega arith)
  get_or-blocks_from (suc count) zero first i there low =
      let block : List ℕ = padded size (stored_at m t inode first) in
      let whole : length block ≡ size = omega (arith, length-padded size (stored_at m t inode first), short first) in
      get_or-append block (blocks_from m t size inode count (first + 1)) 0 (0 * size + i) (omega (arith, whole, zero-mul size))
      ∙ ap (λ n. get_or block n 0) (omega (arith, zero-mul size)) ∙ get_or-padded size (stored_at m t inode first) i
      ∙ ap (λ n. get_or (stored_at m t inode n) i 0) (omega arith)
  get_or-blocks_from (suc count) (suc k) first i there low =
      let block : List ℕ = padded size (stored_at m t inode first) in
      let rest : List ℕ = blocks_from m t size inode count (first + 1) in
      let whole : length block ≡ size = omega (arith, length-padded size (stored_at m t inode first), short first) in
      let place : suc k * size + i ≡ length block + (k * size + i) = omega (arith, suc-mul k size, whole) in
      ap (λ n. get_or (block ++ rest) n 0) place ∙ get_or-append_right block rest (length block + (k * size + i)) 0 (omega arith)
      ∙ ap (λ n. get_or rest n 0) (omega arith) ∙ get_or-blocks_from count k (first + 1) i (omega arith) low
      ∙ ap (λ n. get_or (stored_at m t inode n) i 0) (omega arith)

  -- what is stored of a block shows what lies in it
  shown_piece : (len n : ℕ) → 0 < size → len ≤ (len + size - 1) / size * size
      → Shows (piece_of size (take len (blocks_from m t size inode ((len + size - 1) / size) 0)) n) (stored_at m t inode n)
  shown_piece len n some reach =
      let count : ℕ = (len + size - 1) / size in
      let blocks : List ℕ = blocks_from m t size inode count 0 in
      let piece : List ℕ = piece_of size (take len blocks) n in
      let is : length piece ≤ len - n * size = omega (arith, length-piece_of size n (take len blocks), length-take len blocks) in
      let within : length piece ≤ size = omega (arith, length-piece_of size n (take len blocks)) in
      ext_get_or 0 (resized (length piece) (stored_at m t inode n)) piece (length-resized (length piece) (stored_at m t inode n))
      (λ i below.
      let low : i < length piece = omega (arith, length-resized (length piece) (stored_at m t inode n)) in
      let inside : n * size + i < len = omega arith in
      let there : n < count = before_end n i count len inside reach in
      get_or-resized (length piece) (stored_at m t inode n) i low
      ∙ ap (λ k. get_or (stored_at m t inode k) i 0) (omega arith)
      ∙ sym (get_or-blocks_from count n 0 i there (omega arith))
      ∙ sym (get_or-take len blocks (n * size + i) 0 inside)
      ∙ sym (get_or-piece_of size n i (take len blocks) (omega arith)))
    where
      before_end : (n i count len : ℕ) → n * size + i < len → len ≤ count * size → n < count
      before_end n i count len inside reach = elim (cases_lt n count) [
        | inl low ↦ low
        | inr high ↦ absurd (let past : count * size ≤ n * size = mul-le-mul_right size high in omega arith)
      ]

-- ---- what is stored of a block

module _ (m : Contents) (t : Tables) (size : ℕ) (fits : HaveBytes m t.blocks) (small : IsTrue (list_all (λ (r : Block). nat_le r.size size) t.blocks)) where
  -- of a form whose bytes are known
  abbrev IsKnown : Option (List ℕ × ℕ) → Type 0
  IsKnown form = IsSomeAnd (bytes_of_form m form) (λ bytes. (bytes ≡ unwrap_or (option_and_then (λ (f : List ℕ × ℕ). bytes_of m f.0) form) []) × (length bytes ≤ size))

  of_block : (found : Option Block) → ((b : Block) → found ≡ Some b → (option_map length (bytes_of m b.digest.0) ≡ Some b.size) × (b.size ≤ size)) → IsKnown (option_map form_of_row found)
  of_block None each = (refl, omega arith)
  of_block (Some b) each = by_bytes (bytes_of m b.digest.0) refl (each b refl).0
    where
      by_bytes : (bytes : Option (List ℕ)) → bytes_of m b.digest.0 ≡ bytes → option_map length bytes ≡ Some b.size → IsSomeAnd bytes (λ x. (x ≡ unwrap_or bytes []) × (length x ≤ size))
      by_bytes None is known = absurd (cc known)
      by_bytes (Some x) is known =
          let long : length x ≡ b.size = cc known in
          (refl, omega (arith, long, (each b refl).1))

  each_block : (id : ℕ) (b : Block) → block_at t id ≡ Some b → (option_map length (bytes_of m b.digest.0) ≡ Some b.size) × (b.size ≤ size)
  each_block id b there = (
    row_at_meets by_block (λ (r : Block). option_map length (bytes_of m r.digest.0) ≡ Some r.size) id t.blocks b (by_recursion t.blocks fits) there,
    leb-true b.size size (row_at_passes by_block (λ (r : Block). nat_le r.size size) id t.blocks b small there),
  )
    where
      by_recursion : (rows : List Block) → HaveBytes m rows → AllByRecursion (λ (r : Block). option_map length (bytes_of m r.digest.0) ≡ Some r.size) rows
      by_recursion [] all = tt
      by_recursion (r ∷ rs) all = (all.0, by_recursion rs all.1)

  known : (inode blockno : ℕ) → IsKnown (form_at t inode blockno)
  known inode blockno = by_link (inode_block_at t inode blockno)
    where
      by_link : (found : Option InodeBlock) → IsKnown (option_and_then (λ (l : InodeBlock). option_map form_of_row (block_at t l.block)) found)
      by_link None = (refl, omega arith)
      by_link (Some l) = of_block (block_at t l.block) (each_block l.block)

  stored_short : (inode blockno : ℕ) → length (stored_at m t inode blockno) ≤ size
  stored_short inode blockno = by_form (form_at t inode blockno) (known inode blockno)
    where
      by_form : (form : Option (List ℕ × ℕ)) → IsKnown form → length (unwrap_or (option_and_then (λ (f : List ℕ × ℕ). bytes_of m f.0) form) []) ≤ size
      by_form form is = by_bytes (bytes_of_form m form) is
        where
          by_bytes : (bytes : Option (List ℕ)) → IsSomeAnd bytes (λ x. (x ≡ unwrap_or (option_and_then (λ (f : List ℕ × ℕ). bytes_of m f.0) form) []) × (length x ≤ size))
              → length (unwrap_or (option_and_then (λ (f : List ℕ × ℕ). bytes_of m f.0) form) []) ≤ size
          by_bytes None none = absurd none
          by_bytes (Some x) each = omega (arith, ap length each.0)

  -- ---- files

  file_of_row : (inode : ℕ) (bytes : List ℕ) (block_size : ℕ)
      → option_and_then (λ (n : Node). files.bytes_of n.content) (lookup (is_at (nat_cmp inode)) (map (λ (r : Inode). (r.id, node_in m t block_size r)) t.inodes)) ≡ Some bytes
      → (r : Inode) × (inode_at t inode ≡ Some r) × (bytes ≡ bytes_in m t block_size r)
  file_of_row inode bytes block_size is = by_row (inode_at t inode) refl (sym (ap (option_and_then (λ (n : Node). files.bytes_of n.content)) (looked_up t.inodes)) ∙ is)
    where
      looked_up : (rows : List Inode) → lookup (is_at (nat_cmp inode)) (map (λ (r : Inode). (r.id, node_in m t block_size r)) rows) ≡ option_map (node_in m t block_size) (row_at by_inode inode rows)
      looked_up [] = refl
      looked_up (r ∷ rs) = by_test (looked_up rs) (is_at (nat_cmp inode) r.id)
        where
          by_test : lookup (is_at (nat_cmp inode)) (map (λ (x : Inode). (x.id, node_in m t block_size x)) rs) ≡ option_map (node_in m t block_size) (row_at by_inode inode rs)
              → (b : Bool) → cond b (Some (node_in m t block_size r)) (lookup (is_at (nat_cmp inode)) (map (λ (x : Inode). (x.id, node_in m t block_size x)) rs))
              ≡ option_map (node_in m t block_size) (cond b (Some r) (row_at by_inode inode rs))
          by_test others true = refl
          by_test others false = others

      by_kind : (r : Inode) (kind : Kind)
          → files.bytes_of (elim kind [ kinds.Directory ↦ Directory (entries_in t r.id) | kinds.Regular ↦ Regular (bytes_in m t block_size r) | kinds.Link ↦ Link (target_in t r.id) ]) ≡ Some bytes
          → bytes ≡ bytes_in m t block_size r
      by_kind r kinds.Directory none = absurd (cc none)
      by_kind r kinds.Regular own = cc own
      by_kind r kinds.Link none = absurd (cc none)

      by_row : (found : Option Inode) → inode_at t inode ≡ found → option_and_then (λ (n : Node). files.bytes_of n.content) (option_map (node_in m t block_size) found) ≡ Some bytes
          → (r : Inode) × (inode_at t inode ≡ Some r) × (bytes ≡ bytes_in m t block_size r)
      by_row None there none = absurd (cc none)
      by_row (Some r) there own = (r, there, by_kind r r.kind own)

  pub HasBytes-tree_of : (p : Parameters) → t.params ≡ Some p → p.block_size ≡ size → 0 < size → HasBytes m t no_overlay (tree_of m t)
  HasBytes-tree_of p made is some = record { fits = fits; agrees = agrees; exact = λ inode blockno shown bytes waits. absurd (cc waits) }
    where
      own_size : unwrap_or (option_map (λ (q : Parameters). q.block_size) t.params) 0 ≡ size
      own_size = ap (λ (x : Option Parameters). unwrap_or (option_map (λ (q : Parameters). q.block_size) x) 0) made ∙ is

      reach : (len : ℕ) → len ≤ (len + size - 1) / size * size
      reach len = omega (arith, div-add-mod' (len + size - 1) size, mod-lt (len + size - 1) some)

      shows : (inode blockno : ℕ) (piece : List ℕ) → Shows piece (stored_at m t inode blockno) → IsSomeAnd (shown_at m t no_overlay inode blockno) (Shows piece)
      shows inode blockno piece shown = by_bytes (bytes_of_form m (form_at t inode blockno)) (known inode blockno)
        where
          by_bytes : (bytes : Option (List ℕ)) → IsSomeAnd bytes (λ x. (x ≡ stored_at m t inode blockno) × (length x ≤ size)) → IsSomeAnd bytes (Shows piece)
          by_bytes None none = absurd none
          by_bytes (Some x) each = subst (Shows piece) (sym each.0) shown

      agrees : (inode blockno : ℕ) → AgreesAt m t no_overlay (tree_of m t) inode blockno
      agrees inode blockno bytes file =
          let B : ℕ = unwrap_or (option_map (λ (q : Parameters). q.block_size) t.params) 0 in
          let row : (r : Inode) × (inode_at t inode ≡ Some r) × (bytes ≡ bytes_in m t B r) = file_of_row inode bytes B file in
          let r : Inode = row.0 in
          let all : bytes ≡ take r.size (blocks_from m t size inode ((r.size + size - 1) / size) 0) =
          row.2 ∙ ap (λ b. bytes_in m t b r) own_size ∙ ap (λ n. take r.size (blocks_from m t size n ((r.size + size - 1) / size) 0)) (sym (number_of t inode r row.1)) in
          let piece : piece_of B bytes blockno ≡ piece_of size (take r.size (blocks_from m t size inode ((r.size + size - 1) / size) 0)) blockno =
          ap (λ b. piece_of b bytes blockno) own_size ∙ ap (λ (x : List ℕ). piece_of size x blockno) all in
          shows inode blockno (piece_of B bytes blockno)
          (subst (λ (x : List ℕ). Shows x (stored_at m t inode blockno)) (sym piece) (shown_piece m t size inode (stored_short inode) r.size blockno some (reach r.size)))

-- Numbers of changed blocks: each stands once.
use Rattle.std.proofs.Common.{◌≡◌, ℕ, zero, suc, ◌+◌, ◌-◌, ◌<◌, ◌/◌, ◌%◌, List, [], ◌∷◌, ◌++◌, Bool, true, false, cond, Option, None, Some, refl, sym, ap, ◌∙◌, arith}
use Rattle.std.specs.Prelude.{◌==◌, ◌&&◌, ◌||◌, not, nat_lt, IsTrue, if◌then◌else◌, option_map, unwrap_or}
use Rattle.std.specs.List.{filter, list_any}
use Rattle.std.proofs.lemmas.Bool.Decides.{nat_tests}
use Rattle.std.proofs.lemmas.List.{append-nil}
use Rattle.s3_rows.specs.Tables.{Tables}
use Rattle.s3_rows.specs.Validity.{differ}
use Rattle.tree_rows.specs.Spots.{form_at}
use Rattle.byte_steps.specs.Changed.{stored_length}
use Rattle.file_ops.specs.FileBytes.{size_of_form, stored_in}
use Rattle.core_model.specs.Changes.{blocks_of_resize, blocks_of_write, numbers_from, rest_of, tail_before}
use Rattle.block_math.specs.Ranges.{piece_count}
use Rattle.file_ops.specs.NewBlocks.{numbers_of}
use Rattle.file_ops.specs.declared.new_block.NewBlock.{NewBlock}

-- the numbers differ
abbrev pub are_distinct : List ℕ → Bool
are_distinct ns = differ (λ (a b : ℕ). b == a) ns

other_number : (n first : ℕ) → n < first → (first == n) ≡ false
other_number n first less = grind (arith, nat_tests)

none_before : (n first count : ℕ) → n < first → list_any (λ (b : ℕ). b == n) (numbers_from first count) ≡ false
none_before n first zero less = refl
none_before n first (suc count) less =
    ap (λ (x : Bool). x || list_any (λ (b : ℕ). b == n) (numbers_from (first + 1) count)) (other_number n first less) ∙ none_before n (first + 1) count (omega arith)

numbers_from-distinct : (first count : ℕ) → are_distinct (numbers_from first count) ≡ true
numbers_from-distinct first zero = refl
numbers_from-distinct first (suc count) =
    ap (λ (x : Bool). not x && are_distinct (numbers_from (first + 1) count)) (none_before first (first + 1) count (omega arith)) ∙ numbers_from-distinct (first + 1) count

below_first : (n first : ℕ) → nat_lt n first ≡ true → n < first
below_first n first is = grind (arith, nat_tests)

-- a tail, and numbers behind it
tail_distinct : (size len longer first count : ℕ) (stored : ℕ → ℕ) → are_distinct (tail_before size len longer first stored ++ numbers_from first count) ≡ true
tail_distinct size len longer first count stored =
    by_longer (nat_lt len longer) (nat_lt (min_rest) (stored last) && nat_lt 0 len)
  where
    last : ℕ
    last = (len - 1) / size

    min_rest : ℕ
    min_rest = rest_of size len last

    by_first : (b : Bool) → nat_lt last first ≡ b → are_distinct (cond b (last ∷ []) [] ++ numbers_from first count) ≡ true
    by_first true is =
        ap (λ (x : Bool). not x && are_distinct (numbers_from first count)) (none_before last first count (below_first last first is)) ∙ numbers_from-distinct first count
    by_first false is = numbers_from-distinct first count

    by_longer : (a b : Bool) → are_distinct ((if a then filter (λ n. nat_lt n first) (if b then last ∷ [] else []) else []) ++ numbers_from first count) ≡ true
    by_longer false b = numbers_from-distinct first count
    by_longer true false = numbers_from-distinct first count
    by_longer true true = by_first (nat_lt last first) refl

any_number : (n : ℕ) (blocks : List NewBlock) → list_any (λ (b : ℕ). b == n) (numbers_of blocks) ≡ list_any (λ (b : NewBlock). b.blockno == n) blocks
any_number n [] = refl
any_number n (b ∷ bs) = ap (λ (x : Bool). (b.blockno == n) || x) (any_number n bs)

distinct-numbers_of : (blocks : List NewBlock) → are_distinct (numbers_of blocks) ≡ differ (λ (a b : NewBlock). b.blockno == a.blockno) blocks
distinct-numbers_of [] = refl
distinct-numbers_of (b ∷ bs) =
    ap (λ (x : Bool). not x && are_distinct (numbers_of bs)) (any_number b.blockno bs)
    ∙ ap (λ (x : Bool). not (list_any (λ (c : NewBlock). c.blockno == b.blockno) bs) && x) (distinct-numbers_of bs)

-- blocks that a write changes are different ones
pub distinct_of_write : (size off count len : ℕ) (stored : ℕ → ℕ) (blocks : List NewBlock) → numbers_of blocks ≡ blocks_of_write size off count len stored
    → IsTrue (differ (λ (a b : NewBlock). b.blockno == a.blockno) blocks)
distinct_of_write size off count len stored blocks are =
    sym (distinct-numbers_of blocks) ∙ ap are_distinct are ∙ tail_distinct size len (off + count) (off / size) (piece_count off count size) stored

-- nor are those that another length changes
pub distinct_of_resize : (size longer len : ℕ) (stored : ℕ → ℕ) (blocks : List NewBlock) → numbers_of blocks ≡ blocks_of_resize size longer len stored
    → IsTrue (differ (λ (a b : NewBlock). b.blockno == a.blockno) blocks)
distinct_of_resize size longer len stored blocks are = sym (distinct-numbers_of blocks) ∙ ap are_distinct are ∙ by_case (longer % size == 0)
  where
    tail : List ℕ
    tail = tail_before size len longer (longer / size) stored

    by_case : (b : Bool) → are_distinct (if b then tail_before size len longer (longer / size) stored else tail_before size len longer (longer / size) stored ++ longer / size ∷ []) ≡ true
    by_case true = ap are_distinct (sym (append-nil tail)) ∙ tail_distinct size len longer (longer / size) 0 stored
    by_case false = tail_distinct size len longer (longer / size) 1 stored

-- ---- lengths of stored forms

form_size : (form : Option (List ℕ × ℕ)) → size_of_form form ≡ unwrap_or (option_map (λ (f : List ℕ × ℕ). f.1) form) 0
form_size None = refl
form_size (Some form) = refl

pub stored_lengths : (t : Tables) (inode : ℕ) → stored_in t inode ≡ stored_length t inode
stored_lengths t inode = λ i. λ (n : ℕ). form_size (form_at t inode n) i

-- The first block of a digest: it has the digest, none is there exactly where no block has it, and of blocks in order it is the least.
use Rattle.std.proofs.Common.{◌≡◌, ◌≢◌, ℕ, ◌≤◌, List, [], ◌∷◌, Bool, true, false, cond, Option, None, Some, Result, Ok, Err, refl, ap, ◌∙◌, arith}
use Rattle.std.specs.Prelude.{IsTrue, IfOk, IfSome, find, nat_lt}
use Rattle.std.specs.Ordering.{is_eq}
use Rattle.std.proofs.lemmas.Bool.Decides.{nat_tests}
use Rattle.std.proofs.lemmas.Cmp.{nat_list_cmp_total, tied_itself}
use Rattle.std.proofs.lemmas.List.Elements.{All-nil, All-cons, All-weaker, Contains-append_right}
use Rattle.std.proofs.lemmas.List.Sums.{AllPass-from_list_all}
use Rattle.std.proofs.lemmas.Map.Lookups.{exact_bytes}
use Rattle.row_lemmas.proofs.Tests.{equal_from_is_eq}
use Rattle.row_lemmas.proofs.Keyed.Rises.{rises_head, rises_tail}
use Rattle.s3_rows.specs.declared.digest.Digest.{Digest}
use Rattle.s3_rows.specs.declared.keeper.KeeperFault.{KeeperFault}
use Rattle.s3_rows.specs.Rows.{Block}
use Rattle.s3_rows.specs.Keyed.{rises, is_past}
use Rattle.s3_rows.specs.Tables.{IsOrdered, by_block}
use Rattle.s3_rows.specs.Selections.{bytes_cmp, block_of_digest}
use Rattle.s3_rows.specs.Told.{Told, IfTold}
use Rattle.hash_index.specs.Found.{IsFound, IsLeast}

abbrev has_digest : Digest → Block → Bool
has_digest digest r = is_eq (bytes_cmp r.digest.0 digest.0)

same_from_has_digest : (digest : Digest) (r : Block) → has_digest digest r ≡ true → r.digest ≡ digest
same_from_has_digest digest r has =
    let made : List ℕ → Digest = λ bytes. record { 0 = bytes } in
    ap made (exact_bytes r.digest.0 digest.0 (equal_from_is_eq (bytes_cmp r.digest.0 digest.0) has))

has_digest_same : (digest : Digest) (r : Block) → r.digest ≡ digest → has_digest digest r ≡ true
has_digest_same digest r same =
    ap (λ (d : Digest). is_eq (bytes_cmp d.0 digest.0)) same ∙ ap is_eq (tied_itself nat_list_cmp_total digest.0)

other_from_has_digest : (digest : Digest) (r : Block) → has_digest digest r ≡ false → r.digest ≢ digest
other_from_has_digest digest r has same = let there : has_digest digest r ≡ true = has_digest_same digest r same in cc (there, has)

-- ---- IsFound

pub IsFound-find : (digest : Digest) (blocks : List Block) → IsFound digest blocks (find (has_digest digest) blocks)
IsFound-find digest [] = All-nil (λ (b : Block). b.digest ≢ digest)
IsFound-find digest (r ∷ rs) = by_case (has_digest digest r) refl (find (has_digest digest) rs) (IsFound-find digest rs)
  where
    by_case : (has : Bool) → has_digest digest r ≡ has → (later : Option Block) → IsFound digest rs later
        → IsFound digest (r ∷ rs) (cond has (Some r) later)
    by_case true is later found = ((0, omega arith, refl), same_from_has_digest digest r is)
    by_case false is None found = All-cons (λ (b : Block). b.digest ≢ digest) r rs (other_from_has_digest digest r is) found
    by_case false is (Some x) found = (Contains-append_right (r ∷ []) rs x found.0, found.1)

-- ---- IsLeast

below_from_is_past : (a : ℕ) (b : Block) → IsTrue (is_past by_block a b) → a ≤ b.id
below_from_is_past a b past = by_case (nat_lt a b.id) refl past
  where
    by_case : (less : Bool) → nat_lt a b.id ≡ less → IsTrue (is_past by_block a b) → a ≤ b.id
    by_case true less past = grind (arith, nat_tests)
    by_case false less past = grind (arith, nat_tests)

pub IsLeast-find : (digest : Digest) (blocks : List Block) → IsTrue (rises by_block blocks) → IfSome (find (has_digest digest) blocks) (IsLeast digest blocks)
IsLeast-find digest [] rising = tt
IsLeast-find digest (r ∷ rs) rising =
    by_case (has_digest digest r) refl (find (has_digest digest) rs) (IsLeast-find digest rs (rises_tail by_block r rs rising))
  where
    by_case : (has : Bool) → has_digest digest r ≡ has → (later : Option Block) → IfSome later (IsLeast digest rs)
        → IfSome (cond has (Some r) later) (IsLeast digest (r ∷ rs))
    by_case true is later least =
        All-cons (λ (b : Block). b.digest ≡ digest → r.id ≤ b.id) r rs (λ same. omega arith)
        (All-weaker (λ (b : Block). IsTrue (is_past by_block r.id b)) (λ (b : Block). b.digest ≡ digest → r.id ≤ b.id)
        (λ b past same. below_from_is_past r.id b past) rs
        (AllPass-from_list_all (is_past by_block r.id) rs (rises_head by_block r rs rising)))
    by_case false is None least = tt
    by_case false is (Some x) least =
        All-cons (λ (b : Block). b.digest ≡ digest → x.id ≤ b.id) r rs (λ same. absurd (other_from_has_digest digest r is same)) least

-- ---- answers of a keeper

pub IsFound-block_of_digest : (digest : Digest) (told : Option Told) (result : Result (Option Block) KeeperFault)
    → IfOk result (λ r. IfTold told (λ t. r ≡ block_of_digest t digest)) → IfOk result (λ r. IfTold told (λ t. IsFound digest t.blocks r))
IsFound-block_of_digest digest told (Err e) row = tt
IsFound-block_of_digest digest None (Ok r) row = tt
IsFound-block_of_digest digest (Some s) (Ok r) row = rw row (IsFound-find digest s.tables.blocks)

pub IsLeast-block_of_digest : (digest : Digest) (told : Option Told) (result : Result (Option Block) KeeperFault)
    → IfOk result (λ r. IfTold told (λ t. r ≡ block_of_digest t digest))
    → IfOk result (λ r. IfTold told (λ t. IsOrdered t → IfSome r (IsLeast digest t.blocks)))
IsLeast-block_of_digest digest told (Err e) row = tt
IsLeast-block_of_digest digest None (Ok r) row = tt
IsLeast-block_of_digest digest (Some s) (Ok r) row = λ ordered. rw row (IsLeast-find digest s.tables.blocks ordered.blocks)

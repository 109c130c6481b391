-- The names of moved inodes are names that an entry may have.
use Rattle.std.proofs.Common.{◌≢◌, ℕ, zero, suc, ◌^◌, ◌<◌, ◌≤◌, List, [], ◌∷◌, ◌++◌, length, codes, arith, length-append}
use Rattle.std.specs.List.{AllByRecursion}
use Rattle.std.specs.Fmt.{decimal}
use Rattle.std.specs.Char.{digit_value}
use Rattle.std.specs.Str.Parse.{AllDigits}
use Rattle.std.proofs.lemmas.Fmt.{decimal_is_IsNumeral, length-decimal-le}
use Rattle.std.proofs.lemmas.List.Elements.{All-from_recursion}
use Rattle.s3_rows.specs.Rows.{IsText}
use Rattle.fsck_names.specs.Entries.{moved_name}

abbrev IsVisible : ℕ → Type 0
IsVisible b = b ≢ 0

visible-append : (xs ys : List ℕ) → AllByRecursion IsVisible xs → AllByRecursion IsVisible ys → AllByRecursion IsVisible (xs ++ ys)
visible-append [] ys first second = second
visible-append (x ∷ xs) ys first second = (first.0, visible-append xs ys first.1 second)

visible_digit : (c : ℕ) → digit_value c < 10 → IsVisible c
visible_digit zero small is = absurd (omega arith)
visible_digit (suc c) small is = absurd (omega arith)

visible_digits : (ds : List ℕ) → AllDigits 10 ds → AllByRecursion IsVisible ds
visible_digits [] all = tt
visible_digits (c ∷ cs) all = (visible_digit c all.0, visible_digits cs all.1)

visible-decimal : (n : ℕ) → n < 2 ^ 64 → AllByRecursion IsVisible (decimal n)
visible-decimal n fits = visible_digits (decimal n) (decimal_is_IsNumeral n fits).0.1

short-decimal : (n : ℕ) → n < 2 ^ 64 → length (decimal n) ≤ 20
short-decimal n fits = length-decimal-le 20 n (omega arith) (omega arith) fits

visible_inode : AllByRecursion IsVisible (codes "inode-")
visible_inode = (omega arith, (omega arith, (omega arith, (omega arith, (omega arith, (omega arith, tt))))))

visible_dash : AllByRecursion IsVisible (codes "-")
visible_dash = (omega arith, tt)

-- of at most 47 bytes, none of which is 0
pub IsText-moved_name : (inode k : ℕ) → inode < 2 ^ 64 → k < 2 ^ 64 → IsText 255 (moved_name inode k)
IsText-moved_name inode zero fits within = (
  omega (arith, length-append (codes "inode-") (decimal inode)),
  omega (arith, length-append (codes "inode-") (decimal inode), short-decimal inode fits),
  All-from_recursion IsVisible (moved_name inode zero) (visible-append (codes "inode-") (decimal inode) visible_inode (visible-decimal inode fits)),
)
IsText-moved_name inode (suc k) fits within =
    let last = codes "-" ++ decimal (suc k) in
    let rest = decimal inode ++ last in
    let one = length-append (codes "inode-") rest in
    let two = length-append (decimal inode) last in
    let three = length-append (codes "-") (decimal (suc k)) in (
      omega (arith, one),
      omega (arith, one, two, three, short-decimal inode fits, short-decimal (suc k) within),
      All-from_recursion IsVisible (moved_name inode (suc k)) (visible-append (codes "inode-") rest visible_inode
          (visible-append (decimal inode) last (visible-decimal inode fits) (visible-append (codes "-") (decimal (suc k)) visible_dash (visible-decimal (suc k) within)))),
    )

-- Walks from directory to directory upwards: what is left of the test for the least of a loop.
use Rattle.std.proofs.Common.{◌≡◌, ℕ, zero, suc, ◌-◌, ◌<◌, ◌≤◌, ◌==◌, List, [], ◌∷◌, Bool, true, false, None, Some, refl, ap, ◌∙◌, arith}
use Rattle.std.specs.Prelude.{◌&&◌, ◌||◌, nat_le}
use Rattle.std.specs.List.{list_all, list_any}
use Rattle.std.proofs.lemmas.Bool.Decides.{nat_tests}
use Rattle.s3_rows.specs.Tables.{Tables}
use Rattle.s3_rows.specs.Validity.{parent_of}
use Rattle.fsck_names.specs.Entries.{above}

-- the inode was met or is among these directories, none of which is less
abbrev pub closes : Bool → ℕ → List ℕ → Bool
closes met inode directories = (met || list_any (λ d. d == inode) directories) && list_all (nat_le inode) directories

-- nothing is left of the walk
ends : (met : Bool) (inode : ℕ) → closes met inode [] ≡ met
ends true inode = refl
ends false inode = refl

walk_on : (met same : Bool) (others all : Bool) → ((met || (same || others)) && all) ≡ (((met || same) || others) && all)
walk_on true same others all = refl
walk_on false same others all = refl

none_left : (met : Bool) → ((met || false) && true) ≡ met
none_left true = refl
none_left false = refl

less_ends : (met same others all : Bool) → ((met || (same || others)) && (false && all)) ≡ false
less_ends true same others all = refl
less_ends false true others all = refl
less_ends false false true all = refl
less_ends false false false all = refl

pub closes-none : (t : Tables) (met : Bool) (inode at left : ℕ) → 0 < left → parent_of t at ≡ None
    → closes met inode (above left t at) ≡ met
closes-none t met inode at zero some is = absurd (omega arith)
closes-none t met inode at (suc left) some is =
    ap (λ found. closes met inode (elim found [ Some parent ↦ parent ∷ above left t parent | None ↦ [] ])) is ∙ none_left met

pub closes-less : (t : Tables) (met : Bool) (inode at left parent : ℕ) → 0 < left → parent_of t at ≡ Some parent → parent < inode
    → closes met inode (above left t at) ≡ false
closes-less t met inode at zero parent some is less = absurd (omega arith)
closes-less t met inode at (suc left) parent some is less =
    let below : nat_le inode parent ≡ false = grind (arith, nat_tests) in
    ap (λ found. closes met inode (elim found [ Some parent ↦ parent ∷ above left t parent | None ↦ [] ])) is
    ∙ ap (λ b. (met || (parent == inode || list_any (λ d. d == inode) (above left t parent))) && (b && list_all (nat_le inode) (above left t parent))) below
    ∙ less_ends met (parent == inode) (list_any (λ d. d == inode) (above left t parent)) (list_all (nat_le inode) (above left t parent))

pub closes-more : (t : Tables) (met : Bool) (inode at left parent : ℕ) → 0 < left → parent_of t at ≡ Some parent → inode ≤ parent
    → closes met inode (above left t at) ≡ closes (met || parent == inode) inode (above (left - 1) t parent)
closes-more t met inode at zero parent some is least = absurd (omega arith)
closes-more t met inode at (suc left) parent some is least =
    let within : nat_le inode parent ≡ true = grind (arith, nat_tests) in
    let before : left ≡ suc left - 1 = omega arith in
    let any : Bool = list_any (λ d. d == inode) (above left t parent) in
    ap (λ found. closes met inode (elim found [ Some parent ↦ parent ∷ above left t parent | None ↦ [] ])) is
    ∙ ap (λ b. (met || (parent == inode || any)) && (b && list_all (nat_le inode) (above left t parent))) within
    ∙ walk_on met (parent == inode) any (list_all (nat_le inode) (above left t parent))
    ∙ ap (λ k. closes (met || parent == inode) inode (above k t parent)) before

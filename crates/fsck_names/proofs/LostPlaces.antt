-- Deleting the places of files that pass a test, one after the other, leaves those that do not pass.
use Rattle.std.proofs.Common.{◌≡◌, ℕ, ◌==◌, List, [], ◌∷◌, map, Bool, true, false, refl, ap, ◌∙◌}
use Rattle.std.specs.Prelude.{IsTrue, not, filter, ◌||◌, ◌&&◌}
use Rattle.std.specs.Cmp.{IsTotalOrder}
use Rattle.s3_rows.specs.Rows.{InodeBlock}
use Rattle.s3_rows.specs.Keyed.{rises, without}
use Rattle.s3_rows.specs.Tables.{Tables, by_spot}
use Rattle.s3_rows.specs.Batches.{tables_after}
use Rattle.fsck_names.specs.Losses.{delete_place, is_lost}
use Rattle.fsck_names.specs.Losing.{has_lost}
use Rattle.fsck_names.proofs.Removed.{without_all, without_all-filter}

-- deletes of places change nothing else
tables_after-place_deletes : (gone : List InodeBlock) (t : Tables)
    → tables_after (map delete_place gone) t ≡ record t { inode_blocks = without_all by_spot gone t.inode_blocks }
tables_after-place_deletes [] t = refl
tables_after-place_deletes (g ∷ gs) t = tables_after-place_deletes gs (record t { inode_blocks = without by_spot (by_spot.key g) t.inode_blocks })

-- where all places that pass a test go, the others stay
pub tables_after-places : IsTotalOrder by_spot.compare → (p : InodeBlock → Bool) (t : Tables) → IsTrue (rises by_spot t.inode_blocks)
    → tables_after (map delete_place (filter p t.inode_blocks)) t ≡ record t { inode_blocks = filter (λ r. not (p r)) t.inode_blocks }
tables_after-places total p t up =
    tables_after-place_deletes (filter p t.inode_blocks) t
    ∙ ap (λ rows. record t { inode_blocks = rows }) (without_all-filter by_spot total p t.inode_blocks up)

-- ---- inodes that are noted

pub lost_none : (t : Tables) (rows : List InodeBlock) (q : ℕ) (found : Bool) → found ≡ false → (found || has_lost t rows q) ≡ has_lost t rows q
lost_none t rows q found is = ap (λ f. f || has_lost t rows q) is

or_or : (a b c : Bool) → ((a || b) || c) ≡ (a || (b || c))
or_or true b c = refl
or_or false b c = refl

-- a place more
pub lost_more : (t : Tables) (r : InodeBlock) (left rows : List InodeBlock) (q : ℕ) (before after : Bool)
    → (before || has_lost t (r ∷ left) q) ≡ has_lost t rows q → after ≡ (before || (r.inode == q && is_lost t r))
    → (after || has_lost t left q) ≡ has_lost t rows q
lost_more t r left rows q before after all is =
    ap (λ f. f || has_lost t left q) is ∙ or_or before (r.inode == q && is_lost t r) (has_lost t left q) ∙ all

pub lost_end : (t : Tables) (rows : List InodeBlock) (q : ℕ) (found : Bool) → (found || false) ≡ has_lost t rows q → found ≡ has_lost t rows q
lost_end t rows q true all = all
lost_end t rows q false all = all

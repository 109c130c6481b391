-- The way up from a directory, by the entries that name the directories above it.
use Rattle.std.proofs.Common.{◌≡◌, ◌<◌, ◌≤◌, ℕ, ◌+◌, ◌-◌, zero, suc, List, [], ◌∷◌, length, Bool, true, false, cond, Some, refl, sym, ap, ◌∙◌, subst, arith, ltb-true}
use Rattle.std.proofs.lemmas.Bool.{and_from, and_parts, both_ways}
use Rattle.std.proofs.lemmas.List.Elements.{recursion_from_All}
use Rattle.std.specs.Prelude.{IsTrue, ◌==◌, nat_lt}
use Rattle.std.specs.Cmp.{nat_cmp_is}
use Rattle.std.specs.List.{AllByRecursion, list_all}
use Rattle.std.specs.Ordering.{nat_cmp, is_lt}
use Rattle.std.specs.declared.cmp.Ordering.TheVariants.{Less, Equal, Greater}
use Rattle.s3_base.specs.Numbers.{root}
use Rattle.plain_tree.specs.Below.{is_at_or_below}
use Rattle.plain_tree.specs.Tree.{Tree}
use Rattle.s3_rows.specs.Keyed.{is_past, rises}
use Rattle.s3_rows.specs.Ranges.{HasRanges}
use Rattle.s3_rows.specs.Rows.{Inode, Parameters, IsInode}
use Rattle.s3_rows.specs.Tables.{Tables, by_inode}
use Rattle.s3_rows.specs.Validity.{IsValid, has_inode, is_directory, leads_to_root}
use Rattle.row_lemmas.proofs.Keyed.Rises.{rises_head, rises_tail}

-- ---- inodes are fewer than the next number

less_from_past : (a b : ℕ) → IsTrue (is_lt (nat_cmp a b)) → a < b
less_from_past a b is = by_case (nat_lt a b) refl (a == b) is
  where
    by_case : (less : Bool) → nat_lt a b ≡ less → (same : Bool) → IsTrue (is_lt (cond less Less (cond same Equal Greater))) → a < b
    by_case true less same past = ltb-true a b less
    by_case false less true past = absurd (cc past)
    by_case false less false past = absurd (cc past)

fewer_past : (limit k : ℕ) (rows : List Inode) → k < limit → IsTrue (list_all (is_past by_inode k) rows) → IsTrue (rises by_inode rows)
    → IsTrue (list_all (λ r. nat_lt r.id limit) rows) → length rows + k < limit
fewer_past limit k [] less past up below = omega (arith, less)
fewer_past limit k (x ∷ xs) less past up below =
    let own = and_parts (nat_lt x.id limit) (list_all (λ r. nat_lt r.id limit) xs) below in
    let others : length xs + x.id < limit = fewer_past limit x.id xs (ltb-true x.id limit own.0) (rises_head by_inode x xs up) (rises_tail by_inode x xs up) own.1 in
    let above : k < x.id = less_from_past k x.id (and_parts (is_past by_inode k x) (list_all (is_past by_inode k) xs) past).0 in
    omega (arith, others, above)

-- numbers of rows are not 0
all_past : (rows : List Inode) → AllByRecursion IsInode rows → IsTrue (list_all (is_past by_inode 0) rows)
all_past [] all = refl
all_past (x ∷ xs) all =
    and_from (is_past by_inode 0 x) (list_all (is_past by_inode 0) xs) (ap is_lt (sym (nat_cmp_is 0 x.id Less all.0.id.0))) (all_past xs all.1)

pub fewer_inodes : (t : Tables) (p : Parameters) → IsValid t → HasRanges t → t.params ≡ Some p → length t.inodes < p.next_inode
fewer_inodes t p v ranges is =
    let own : v.params ≡ p = cc (sym v.is_made ∙ is) in
    let less : length t.inodes + 0 < v.params.next_inode =
    fewer_past v.params.next_inode 0 t.inodes (ranges.params v.params v.is_made).next_inode.0
    (all_past t.inodes (recursion_from_All IsInode t.inodes ranges.inodes)) v.ordered.inodes v.free.inodes in
    omega (arith, less, ap (λ (q : Parameters). q.next_inode) own)

-- ---- the walk

module _ (t : Tables) (whole : Tree) (top start : ℕ) where
  -- a directory above another, so many steps up: one lies at or below the top where the other does
  pub record IsAbove (current step : ℕ) : Type 0 where
    pub folder : IsTrue (has_inode is_directory t current)
    pub same : is_at_or_below whole top start ≡ is_at_or_below whole top current
    pub short : step ≤ length t.inodes
    pub leads : IsTrue (leads_to_root (length t.inodes - step) t current)

  pub start_is_above : IsTrue (has_inode is_directory t start) → IsTrue (leads_to_root (length t.inodes) t start) → IsAbove start 0
  start_is_above folder leads = record {
    folder = folder;
    same = refl;
    short = omega arith;
    leads = subst (λ n. IsTrue (leads_to_root n t start)) (omega arith) leads;
  }

  -- and so is its parent
  pub parent_is_above : (current step parent : ℕ) → IsAbove current step → (current == root) ≡ false → IsTrue (has_inode is_directory t parent)
      → is_at_or_below whole top current ≡ is_at_or_below whole top parent
      → ((steps : ℕ) → IsTrue (leads_to_root (suc steps) t current) → IsTrue (leads_to_root steps t parent)) → IsAbove parent (step + 1)
  parent_is_above current step parent above other folder same nearer = by_left (length t.inodes - step) refl
    where
      by_left : (left : ℕ) → length t.inodes - step ≡ left → IsAbove parent (step + 1)
      by_left zero is = absurd (both_ways (current == root) other (subst (λ n. IsTrue (leads_to_root n t current)) is above.leads))
      by_left (suc left) is = record {
        folder = folder;
        same = above.same ∙ same;
        short = omega (arith, is);
        leads =
            let rest : left ≡ length t.inodes - (step + 1) = omega (arith, is) in
            subst (λ n. IsTrue (leads_to_root n t parent)) rest (nearer left (subst (λ n. IsTrue (leads_to_root n t current)) is above.leads));
      }

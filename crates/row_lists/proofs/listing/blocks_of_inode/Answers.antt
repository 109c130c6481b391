use Rattle.std.proofs.Common.{rules, ◌≡◌, nat_le, ◌==◌, ◌&&◌, not, Bool, true, false, length, ◌-◌, ℕ, List, take, drop, sym, ap, ◌∙◌, subst, arith, refl}
use Rattle.std.specs.List.{filter, list_all}
use Rattle.std.specs.List.Sorted.{IsPartitionPoint}
use Rattle.std.specs.Ordering.{is_lt}
use Rattle.std.proofs.lemmas.Bool.Decides.{nat_tests}
use Rattle.std.proofs.lemmas.List.{take_rest}
use Rattle.std.proofs.lemmas.List.Elements.{filter_agree}
use Rattle.std.proofs.lemmas.List.Sorted.{IsPartitionPoint-from_clause}
use Rattle.std.proofs.lemmas.Result.{IfOk-weaker}
use Rattle.s3_rows.specs.Rows.{InodeBlock}
use Rattle.s3_rows.specs.Tables.{by_spot}
use Rattle.s3_rows.specs.Keyed.{is_past, rises, pair_cmp}
use Rattle.s3_rows.specs.Told.{is_run_of}
use Rattle.row_lemmas.proofs.Tests.{list_all_true, list_all-filter_same}
use Rattle.row_lemmas.proofs.Keyed.Rises.{rises-filter}
use Rattle.row_lists.proofs.ListingOrder.{parted, behind, before, first-filtered, filter-both}
use Rattle.row_lists.proofs.listing.blocks_of_inode.Goals as goal

abbrev early : ℕ → ℕ → InodeBlock → Bool
early inode from r = is_lt (pair_cmp (r.inode, r.blockno) (inode, from))

abbrev wanted : ℕ → ℕ → InodeBlock → Bool
wanted inode from r = r.inode == inode && nat_le from r.blockno

early_back : (inode from : ℕ) (x y : InodeBlock) → true ≡ true → is_past by_spot (by_spot.key x) y ≡ true → early inode from y ≡ true → early inode from x ≡ true
early_back inode from x y _ is below = grind (arith, nat_tests)

same_back : (inode from : ℕ) (x y : InodeBlock) → not (early inode from x) ≡ true → is_past by_spot (by_spot.key x) y ≡ true → (y.inode == inode) ≡ true → (x.inode == inode) ≡ true
same_back inode from x y reached is same = grind (arith, nat_tests)

both : (inode from : ℕ) (x : InodeBlock) → (x.inode == inode && not (early inode from x)) ≡ wanted inode from x
both inode from x = grind (arith, nat_tests)

abbrev reached : ℕ → ℕ → InodeBlock → Bool
reached inode from r = not (early inode from r)

-- what is left of the rows once the first at the place is found
abbrev left : goal.After-first_rows → List InodeBlock
left c = take (length c.args.inode_blocks.now - c.partition_point-start.result) (drop c.partition_point-start.result c.args.inode_blocks.now)

left_is : (c : goal.After-first_rows) → filter (reached c.args.inode c.args.from) c.args.inode_blocks.now ≡ left c
left_is c =
    let point : IsPartitionPoint (λ y. early c.args.inode c.args.from y ≡ true) (λ y. early c.args.inode c.args.from y ≡ false) c.args.inode_blocks.now c.partition_point-start.result =
    IsPartitionPoint-from_clause (early c.args.inode c.args.from) _ _ c.partition_point-start.ensures.partitioned
    (parted by_spot (λ (r : InodeBlock). true) (early c.args.inode c.args.from) c.args.inode_blocks.now c.requires (list_all_true c.args.inode_blocks.now) (early_back c.args.inode c.args.from))
    (λ a r q k. search rules) in
    behind (reached c.args.inode c.args.from) (early c.args.inode c.args.from) (λ x. refl) c.args.inode_blocks.now c.partition_point-start.result c.partition_point-start.ensures.bound point
    ∙ sym (take_rest c.args.inode_blocks.now c.partition_point-start.result)

listed : (c : goal.After-first_rows) → take c.partition_point-count.result (left c) ≡ filter (wanted c.args.inode c.args.from) c.args.inode_blocks.now
listed c =
    let here : InodeBlock → Bool = λ r. r.inode == c.args.inode in
    let point : IsPartitionPoint (λ (y : InodeBlock). (y.inode == c.args.inode) ≡ true) (λ (y : InodeBlock). (y.inode == c.args.inode) ≡ false) (left c) c.partition_point-count.result =
    IsPartitionPoint-from_clause (λ (y : InodeBlock). y.inode == c.args.inode) _ _ c.partition_point-count.ensures.partitioned
    (parted by_spot (reached c.args.inode c.args.from) (λ (y : InodeBlock). y.inode == c.args.inode) (left c)
    (subst (λ (rows : List InodeBlock). rises by_spot rows ≡ true) (left_is c) (rises-filter by_spot (reached c.args.inode c.args.from) c.args.inode_blocks.now c.requires))
    (subst (λ (rows : List InodeBlock). list_all (reached c.args.inode c.args.from) rows ≡ true) (left_is c) (list_all-filter_same (reached c.args.inode c.args.from) c.args.inode_blocks.now))
    (same_back c.args.inode c.args.from))
    (λ a r q k. search rules) in
    sym (before (λ (y : InodeBlock). y.inode == c.args.inode) (left c) c.partition_point-count.result c.partition_point-count.ensures.bound point)
    ∙ ap (filter (λ (y : InodeBlock). y.inode == c.args.inode)) (sym (left_is c))
    ∙ filter-both (reached c.args.inode c.args.from) (λ (y : InodeBlock). y.inode == c.args.inode) c.args.inode_blocks.now
    ∙ filter_agree (λ (y : InodeBlock). y.inode == c.args.inode && reached c.args.inode c.args.from y) (wanted c.args.inode c.args.from) (both c.args.inode c.args.from) c.args.inode_blocks.now

pub returns-clause-rows : goal.returns-clause-rows
returns-clause-rows c =
    IfOk-weaker c.first_rows.result _ _
    (λ l is t same. is ∙ ap (take c.args.max) (listed c) ∙ ap (λ (rows : List InodeBlock). take c.args.max (filter (wanted c.args.inode c.args.from) rows)) (sym same)) c.first_rows.ensures

pub returns-clause-page : goal.returns-clause-page
returns-clause-page c =
    IfOk-weaker c.first_rows.result _ _
    (λ l is. subst (λ (rows : List InodeBlock). is_run_of c.args.inode c.args.from c.args.max rows ≡ true) (sym (is ∙ ap (take c.args.max) (listed c)))
    (first-filtered by_spot (wanted c.args.inode c.args.from) c.args.max c.args.inode_blocks.now c.requires)) c.first_rows.ensures

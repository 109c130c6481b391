use Rattle.std.proofs.Common.{◌≡◌, ◌≤◌, ℕ, List, arith, sym, ap, ◌∙◌}
use Rattle.std.specs.Prelude.{sum_by}
use Rattle.plain_tree.specs.Below.{at_and_below}
use Rattle.core_model.specs.Occurring.{blocks_in}
use Rattle.byte_steps.specs.Counts.{blocks_at, equal_blocks}
use Rattle.tree_copy.specs.CopiedCounts.{copied_block_count}
use Rattle.tree_copy.proofs.FitCounts.{count_below, count_over}
use Rattle.tree_copy.proofs.TreeCounts.{copied_block_count-files, equal_blocks-with_copy}
use Rattle.tree_copy.proofs.fits.places_fit_by_the_tree.Goals as goal

pub returns-clause-fit : goal.returns-clause-fit
returns-clause-fit c =
    λ digest_of t whole pass source parent now next name seen valid same exact free fits b occurs more.
    let row = c.blocks_of_exact_tables_have_rows.ensures digest_of t whole valid same exact b occurs in
    let block = c.counts_of_exact_tables.ensures.places digest_of t whole valid same exact free row.0 row.1 in
    let one : block.0 ≡ b = free block.0 b block.1 occurs (block.2 ∙ sym row.2) in
    let count : row.0.refcount ≡ equal_blocks b (blocks_in whole) = block.3 ∙ ap (λ (x : List ℕ). equal_blocks x (blocks_in whole)) one in
    let copied : copied_block_count t (at_and_below whole source) row.0.id ≡ sum_by (λ x. equal_blocks b (blocks_at whole x)) (at_and_below whole source) =
    copied_block_count-files t whole b row.0.id (λ x. c.places_of_files_are_counted.ensures digest_of t whole valid same exact free row.0 b x row.1 occurs row.2) (at_and_below whole source) in
    let sum = equal_blocks-with_copy whole b source parent name now in
    let least : 1 ≤ copied_block_count t (at_and_below whole source) row.0.id = omega (arith, copied, sum, more) in
    omega (arith, count_below t valid next seen (at_and_below whole source) fits row.0 row.1 least, count, copied, sum)

pub returns-clause-over : goal.returns-clause-over
returns-clause-over c =
    λ digest_of t whole pass source parent now next name seen valid same exact free failed.
    let worn = count_over t valid next seen (at_and_below whole source) failed in
    let block = c.counts_of_exact_tables.ensures.places digest_of t whole valid same exact free worn.0 worn.1 in
    let copied : copied_block_count t (at_and_below whole source) worn.0.id ≡ sum_by (λ x. equal_blocks block.0 (blocks_at whole x)) (at_and_below whole source) =
    copied_block_count-files t whole block.0 worn.0.id
    (λ x. c.places_of_files_are_counted.ensures digest_of t whole valid same exact free worn.0 block.0 x worn.1 block.1 block.2) (at_and_below whole source) in
    let sum = equal_blocks-with_copy whole block.0 source parent name now in
    (block.0, block.1, omega (arith, worn.2, copied, sum), omega (arith, worn.3, block.3, copied, sum))

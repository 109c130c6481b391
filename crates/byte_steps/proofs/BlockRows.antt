-- The rows of the blocks of a tree.
use Rattle.std.proofs.Common.{◌≡◌, ℕ, List, length, Bool, true, Some, sym, ap, ◌∙◌, eqb-true}
use Rattle.std.specs.Prelude.{Contains}
use Rattle.std.specs.Ordering.{eq_by_cmp, is_eq}
use Rattle.std.specs.Set.{is_member}
use Rattle.std.proofs.lemmas.Cmp.{eq_by_cmp_equiv, nat_list_cmp_total}
use Rattle.std.proofs.lemmas.List.Elements.{All-contains}
use Rattle.std.proofs.lemmas.Map.Made.{All-is_member}
use Rattle.plain_tree.specs.Tree.{Tree}
use Rattle.tree_laws.proofs.Node.Keys.{same_name}
use Rattle.s3_rows.specs.Rows.{Block}
use Rattle.s3_rows.specs.Keyed.{has_key}
use Rattle.s3_rows.specs.Selections.{block_at, bytes_cmp}
use Rattle.s3_rows.specs.Tables.{Tables, by_block}
use Rattle.s3_rows.specs.Validity.{IsValid}
use Rattle.row_lemmas.proofs.Tests.{find_from_list_any, find_passes, is_eq-nat_cmp}
use Rattle.tree_rows.specs.Shapes.{Represents}
use Rattle.core_model.specs.Bytes.{no_overlay}
use Rattle.core_model.specs.Exact.{IsExact}
use Rattle.core_model.specs.Occurring.{blocks_in}
use Rattle.byte_steps.proofs.CountedBlocks.{HasForm, form_parts, found_placed, placed_form}
use Rattle.byte_steps.proofs.PlacedBlocks.{Placed, placed_blocks}
use Rattle.byte_steps.proofs.SameBlocks.{member_placed}

pub row_of_block : (digest_of : List ℕ → List ℕ) (t : Tables) (whole : Tree) → IsValid t → Represents t whole → IsExact digest_of t no_overlay whole
    → (b : List ℕ) → Contains (blocks_in whole) b → (r : Block) × (block_at t r.id ≡ Some r) × (digest_of b ≡ r.digest.0)
row_of_block digest_of t whole valid same exact b occurs =
    let member : is_member (eq_by_cmp bytes_cmp) (blocks_in whole) b ≡ true =
    All-contains (λ (k : List ℕ). is_member (eq_by_cmp bytes_cmp) (blocks_in whole) k ≡ true) (blocks_in whole) b (All-is_member (eq_by_cmp_equiv nat_list_cmp_total) (blocks_in whole)) occurs in
    let test : Placed → Bool = λ p. is_eq (bytes_cmp b p.1) in
    let found = find_from_list_any test (placed_blocks whole) (member_placed whole b ∙ member) in
    let form : HasForm t found.0.0.0 found.0.0.1 (digest_of found.0.1, length found.0.1) =
    form_parts t found.0.0.0 found.0.0.1 (digest_of found.0.1, length found.0.1)
    (placed_form digest_of t whole valid same exact found.0 (found_placed digest_of t whole valid same exact test found.0 found.1)) in
    let equal : b ≡ found.0.1 = same_name b found.0.1 (find_passes test (placed_blocks whole) found.0 found.1) in
    let number : form.link.block ≡ form.block.id =
    eqb-true form.link.block form.block.id (sym (is_eq-nat_cmp form.link.block form.block.id) ∙ find_passes (has_key by_block form.link.block) t.blocks form.block form.row) in
    (form.block, ap (block_at t) (sym number) ∙ form.row, ap digest_of equal ∙ sym (ap (λ (f : List ℕ × ℕ). f.0) form.is))

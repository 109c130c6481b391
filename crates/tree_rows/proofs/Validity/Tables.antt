-- Tables that have what they need beside a well-formed tree that they represent are valid.
use Rattle.std.proofs.Common.{◌≡◌, Some, subst}
use Rattle.std.specs.Prelude.{IsTrue, not, is_some, nat_lt}
use Rattle.std.specs.List.{list_all}
use Rattle.plain_tree.specs.Tree.{Tree}
use Rattle.plain_tree.specs.WellFormed.{IsWellFormed}
use Rattle.s3_rows.specs.Rows.{Inode, Slot, Parameters}
use Rattle.s3_rows.specs.Tables.{Tables}
use Rattle.s3_rows.specs.Selections.{object_at}
use Rattle.s3_rows.specs.Validity.{IsValid, HasOneTree, HasDistinctBlocks, finds_of_entry, finds_of_inode_block, finds_target, has_inode, is_regular, is_link, has_its_size, is_in_file, has_size_of_object}
use Rattle.row_lemmas.proofs.Tests.{list_all_weaker, list_all_weaker_both}
use Rattle.tree_rows.specs.Premises.{HasPremises, FitsSizes, HasFreeIds, finds_block, fits_kind}
use Rattle.tree_rows.specs.Shapes.{Represents}
use Rattle.tree_rows.proofs.Validity.Entries.{finds_of_entries}
use Rattle.tree_rows.proofs.Validity.Inodes.{inodes_below_next, next_inode_is, has_params, finds_targets, has_its_size_from_fits, is_regular_in_file, finds_of_inode_block_in_file, finds_object}
use Rattle.tree_rows.proofs.Validity.Names.{HasOneTree_from_tree, no_lost_directories}

pub IsValid_from_tree : (t : Tables) (whole : Tree) → HasPremises t → Represents t whole → IsWellFormed whole
    → IsValid t
IsValid_from_tree t whole premises same well =
    let tree : HasOneTree t =
    HasOneTree_from_tree t whole premises.ordered.inodes premises.names premises.rows.entries same well.tree in
    let finds : IsTrue (list_all (finds_of_entry t) t.contents) =
    finds_of_entries t whole same premises.rows.entries premises.names well.tree in
    let made : (p : Parameters) × (t.params ≡ Some p) = has_params t whole same well.nodes 1 tree.is_rooted in
    let p : Parameters = made.0 in
    let blocks : HasDistinctBlocks t p = premises.blocks p made.1 in
    let sizes : FitsSizes t p = premises.sizes p made.1 in
    let free : HasFreeIds t p = premises.free p made.1 in
    let targets : IsTrue (list_all (finds_target t) t.inodes) =
    finds_targets t whole same premises.ordered.inodes well.rules.nodes in
    record {
      params = p;
      is_made = made.1;
      ordered = premises.ordered;
      counts = premises.counts;
      rows = record {
        entries = finds;
        inode_blocks =
            list_all_weaker_both (finds_block t) (λ r. is_in_file t p r.inode r.blockno) (finds_of_inode_block t)
            (finds_of_inode_block_in_file t p sizes.inodes) t.inode_blocks premises.rows.inode_blocks
            sizes.inode_blocks;
        objects =
            list_all_weaker (has_size_of_object t) (λ r. is_some (object_at t r.object))
            (finds_object t) t.blocks blocks.sizes;
        targets = premises.rows.targets;
        links = targets;
        attrs = premises.rows.attrs;
        slots =
            list_all_weaker_both (λ (r : Slot). not (has_inode is_link t r.inode))
            (λ r. is_in_file t p r.inode r.blockno) (λ r. has_inode is_regular t r.inode)
            (λ r no_link within. is_regular_in_file t p r.inode r.blockno sizes.inodes no_link within) t.slots
            premises.rows.slots sizes.slots;
      };
      tree = tree;
      orphans = no_lost_directories t finds premises.names premises.ordered.inodes whole same well.tree;
      blocks = blocks;
      sizes = record {
        inodes =
            list_all_weaker_both (fits_kind t) (finds_target t) (has_its_size t) (has_its_size_from_fits t) t.inodes
            sizes.inodes targets;
        inode_blocks = sizes.inode_blocks;
        slots = sizes.slots;
        spots = sizes.spots;
        numbers = sizes.numbers;
        lengths = sizes.lengths;
      };
      free = record {
        inodes =
            subst (λ next. IsTrue (list_all (λ (r : Inode). nat_lt r.id next) t.inodes))
            (next_inode_is t whole same p made.1) (inodes_below_next t whole same well.nodes);
        names = free.names;
        blocks = free.blocks;
        objects = free.objects;
      };
    }

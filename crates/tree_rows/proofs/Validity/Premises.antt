-- Valid tables have what tables need beside a well-formed tree.
use Rattle.std.proofs.Common.{◌≡◌, ℕ, Option, None, Some, refl, subst}
use Rattle.std.specs.Prelude.{IsTrue, not, is_some}
use Rattle.std.specs.Option.{ForSome}
use Rattle.std.proofs.lemmas.Bool.{and_from, and_parts}
use Rattle.s3_base.specs.declared.node_kind.Kind.{Kind}
use Rattle.s3_base.specs.declared.node_kind.Kind.TheVariants as kinds
use Rattle.s3_rows.specs.Rows.{Inode, InodeBlock, Slot, Target}
use Rattle.s3_rows.specs.Tables.{Tables}
use Rattle.s3_rows.specs.Selections.{inode_at, block_at, target_at}
use Rattle.s3_rows.specs.Validity.{IsValid, HasDistinctBlocks, has_inode, is_regular, is_link, any_kind, finds_of_entry, finds_of_inode_block, has_its_size}
use Rattle.row_lemmas.proofs.Tests.{list_all_weaker}
use Rattle.tree_rows.specs.Premises.{HasPremises, FitsSizes, HasFreeIds, finds_directory_and_name, finds_block, fits_size, fits_kind}
use Rattle.tree_rows.proofs.Validity.Entries.{is_of_kind}
use Rattle.tree_rows.proofs.Validity.Inodes.{has_size}

-- what holds of the one value of an option
pub ForSome_from_is : {T : Type 0} (P : T → Type 0) (found : Option T) (x : T) → found ≡ Some x → P x → ForSome found P
ForSome_from_is P found x is own y other =
    let same : x ≡ y = cc (is, other) in
    subst P same own

-- a regular file is no symbolic link
no_link : (t : Tables) (x : ℕ) → IsTrue (has_inode is_regular t x) → IsTrue (not (has_inode is_link t x))
no_link t x regular = by_row (inode_at t x) regular
  where
    by_kind : (kind : Kind) → IsTrue (is_regular kind) → IsTrue (not (is_link kind))
    by_kind kinds.Directory is = absurd (cc is)
    by_kind kinds.Regular is = refl
    by_kind kinds.Link is = absurd (cc is)

    by_row : (row : Option Inode) → IsTrue (is_of_kind is_regular row) → IsTrue (not (is_of_kind is_link row))
    by_row None is = absurd (cc is)
    by_row (Some r) is = by_kind r.kind is

block_found : (t : Tables) (r : InodeBlock) → IsTrue (finds_of_inode_block t r) → IsTrue (finds_block t r)
block_found t r own =
    and_from (not (has_inode is_link t r.inode)) (is_some (block_at t r.block))
    (no_link t r.inode (and_parts (has_inode is_regular t r.inode) (is_some (block_at t r.block)) own).0)
    (and_parts (has_inode is_regular t r.inode) (is_some (block_at t r.block)) own).1

kind_fits : (t : Tables) (r : Inode) → IsTrue (has_its_size t r) → IsTrue (fits_kind t r)
kind_fits t r own = by_kind r.kind (target_at t r.id) own
  where
    by_kind : (kind : Kind) (found : Option Target) → IsTrue (has_size kind found r.size)
        → IsTrue (fits_size kind found r.size)
    by_kind kinds.Directory found is = is
    by_kind kinds.Regular found is = refl
    by_kind kinds.Link None is = refl
    by_kind kinds.Link (Some x) is = is

pub HasPremises_from_valid : (t : Tables) → IsValid t → HasPremises t
HasPremises_from_valid t valid =
    let sizes : FitsSizes t valid.params = record {
      inodes = list_all_weaker (has_its_size t) (fits_kind t) (kind_fits t) t.inodes valid.sizes.inodes;
      inode_blocks = valid.sizes.inode_blocks;
      slots = valid.sizes.slots;
      spots = valid.sizes.spots;
      numbers = valid.sizes.numbers;
      lengths = valid.sizes.lengths;
    } in
    let free : HasFreeIds t valid.params =
    record { names = valid.free.names; blocks = valid.free.blocks; objects = valid.free.objects } in
    record {
      ordered = valid.ordered;
      names = valid.tree.unlike;
      counts = valid.counts;
      rows = record {
        entries =
            list_all_weaker (finds_of_entry t) (finds_directory_and_name t)
            (λ r own. (and_parts (finds_directory_and_name t r)
            (has_inode any_kind t r.inode) own).0) t.contents valid.rows.entries;
        inode_blocks =
            list_all_weaker (finds_of_inode_block t) (finds_block t)
            (block_found t) t.inode_blocks valid.rows.inode_blocks;
        targets = valid.rows.targets;
        attrs = valid.rows.attrs;
        slots =
            list_all_weaker (λ (r : Slot). has_inode is_regular t r.inode) (λ r. not (has_inode is_link t r.inode))
            (λ r own. no_link t r.inode own) t.slots valid.rows.slots;
      };
      blocks = ForSome_from_is (HasDistinctBlocks t) t.params valid.params valid.is_made valid.blocks;
      sizes = ForSome_from_is (FitsSizes t) t.params valid.params valid.is_made sizes;
      free = ForSome_from_is (HasFreeIds t) t.params valid.params valid.is_made free;
    }

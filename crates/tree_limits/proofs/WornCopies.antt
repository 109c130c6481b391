-- Where a count is worn for a copy, the tree with the copy has a full name or a full block.
use Rattle.std.proofs.Common.{◌≡◌, ◌⊎◌, ◌<◌, ◌+◌, ◌^◌, inl, inr, ℕ, List, Bool, true, false, Option, None, Some, refl, sym, ap, ◌∙◌, arith}
use Rattle.std.specs.Prelude.{IsTrue, ◌&&◌}
use Rattle.op_frames.specs.declared.operation.Op.TheVariants as ops
use Rattle.plain_tree.specs.Below.{at_and_below}
use Rattle.plain_tree.specs.Checks.{first_failure}
use Rattle.plain_tree.specs.Operations.{checks, effect}
use Rattle.plain_tree.specs.Tree.{Tree, node_at}
use Rattle.s3_rows.specs.Rows.{Inode, Name}
use Rattle.s3_rows.specs.Selections.{inode_at, name_at, name_of_bytes}
use Rattle.s3_rows.specs.Tables.{Tables}
use Rattle.s3_rows.specs.Validity.{IsValid, has_inode, is_directory}
use Rattle.tree_laws.proofs.Node.Kind.{folder_is, is_a_folder}
use Rattle.tree_laws.proofs.Walk.Passed.{can_copy}
use Rattle.tree_rows.specs.Shapes.{Represents}
use Rattle.tree_rows.proofs.NamedAttrs.{named_there}
use Rattle.tree_rows.proofs.Whole as rows
use Rattle.ref_counts.specs.Plans.{next_name_of}
use Rattle.inode_ops.specs.Uses.{name_uses}
use Rattle.tree_copy.specs.CopiedRows.{AreVisitsOf, Visit}
use Rattle.tree_copy.specs.NameCounts.{IsNameSpent, IsTooOften, copied_name_count}
use Rattle.tree_limits.specs.Full.{GetsFullName}
use Rattle.tree_limits.proofs.CopiedUses.{name_uses-with_copy}
use Rattle.tree_limits.proofs.CopyUses.{copied_name_count-tree}

-- the source is a directory
pub source_folder : (t : Tables) (whole : Tree) (pass source parent : ℕ) (name : List ℕ) → Represents t whole
    → first_failure (checks whole pass (ops.CopyTree source parent name)) ≡ None → IsTrue (has_inode is_directory t source)
source_folder t whole pass source parent name same passes =
    let can = can_copy whole pass source parent name passes in
    sym (rows.folder_is t whole same source) ∙ is_a_folder (node_at whole source) (folder_is (node_at whole source) can.source_there can.source_folder)

-- one of two tests fails
pub one_fails : (a b : Bool) → (a && b) ≡ false → (a ≡ false) ⊎ (b ≡ false)
one_fails true b is = inr is
one_fails false b is = inl refl

module _ (t : Tables) (whole : Tree) (v : IsValid t) (same : Represents t whole) (counts : (n : Name) → name_at t n.id ≡ Some n → n.refcount ≡ name_uses whole n.name)
    (few : next_name_of t < 2 ^ 62) (pass source parent now : ℕ) (name : List ℕ) (passes : first_failure (checks whole pass (ops.CopyTree source parent name)) ≡ None) where
  -- the copy uses each name so often more
  uses_more : (b : List ℕ) (top : Inode) → inode_at t source ≡ Some top → (visits : List Visit) → AreVisitsOf t (at_and_below whole source) source visits
      → name_uses (effect whole pass (ops.CopyTree source parent name) now) b ≡ name_uses whole b + copied_name_count t source name visits b
  uses_more b top found visits are =
      omega (
        arith,
        name_uses-with_copy b whole pass source parent name now passes,
        copied_name_count-tree b t whole same source top found name (at_and_below whole source) visits are,
      )

  pub spent_is_full : (top : Inode) → inode_at t source ≡ Some top → (visits : List Visit) → AreVisitsOf t (at_and_below whole source) source visits
      → IsNameSpent t source name visits → GetsFullName whole (effect whole pass (ops.CopyTree source parent name) now)
  spent_is_full top found visits are spent = by_row (name_of_bytes t spent.bytes) refl spent.spent
    where
      more : name_uses (effect whole pass (ops.CopyTree source parent name) now) spent.bytes ≡ name_uses whole spent.bytes + copied_name_count t source name visits spent.bytes
      more = uses_more spent.bytes top found visits are

      by_row : (row : Option Name) → name_of_bytes t spent.bytes ≡ row → IsTooOften t name spent.bytes (copied_name_count t source name visits spent.bytes) row
          → GetsFullName whole (effect whole pass (ops.CopyTree source parent name) now)
      by_row None none over = absurd (omega (arith, over.1, few))
      by_row (Some n) there over =
          let own = named_there t v.ordered.names spent.bytes n there in
          let count : n.refcount ≡ name_uses whole spent.bytes = counts n own.0 ∙ ap (name_uses whole) own.1 in
          (spent.bytes, omega (arith, more, spent.used), omega (arith, more, over, count))

-- An empty directory that goes.
use Rattle.std.proofs.Common.{◌≡◌, ℕ, List, ◌++◌, false, Option, None, Some, sym, ap, ◌∙◌, subst}
use Rattle.std.specs.Prelude.{IsTrue, not, ◌==◌, is_some, option_and_then, unwrap_or}
use Rattle.std.specs.List.{list_all}
use Rattle.std.proofs.lemmas.Bool.{and_parts}
use Rattle.s3_base.specs.declared.node_kind.Kind.TheVariants as kinds
use Rattle.op_frames.specs.declared.operation.Op.TheVariants as ops
use Rattle.plain_tree.specs.Tree.{Tree, node_at, without_node}
use Rattle.plain_tree.specs.Checks.{first_failure, node_check, directory_check, empty_check}
use Rattle.plain_tree.specs.Entries.{child_at, drop_entry}
use Rattle.plain_tree.specs.Operations.{checks, effect}
use Rattle.plain_tree.specs.WellFormed.{IsWellFormed}
use Rattle.s3_rows.specs.Rows.{Inode, Name, Content, InodeBlock, Slot, Parameters}
use Rattle.s3_rows.specs.Tables.{Tables}
use Rattle.s3_rows.specs.Batches.{tables_after}
use Rattle.s3_rows.specs.Selections.{inode_at, entry_at, block_at, name_of_bytes}
use Rattle.s3_rows.specs.Validity.{IsValid, HasUniqueNames, any_kind, finds_of_inode_block, has_inode, is_regular}
use Rattle.row_lemmas.proofs.Tests.{list_all_weaker}
use Rattle.tree_laws.proofs.Node.Kind.{empty_is, some_node}
use Rattle.tree_laws.proofs.Walk.Passed.{CanUnmake, can_unmake}
use Rattle.tree_laws.proofs.WellFormed.{IsWellFormed-effect}
use Rattle.tree_rows.specs.Shapes.{Represents}
use Rattle.tree_rows.proofs.Whole.{node_is}
use Rattle.ref_counts.specs.Plans.{IsStep}
use Rattle.ref_counts.specs.Removals.{removal}
use Rattle.row_steps.specs.Owed.{IsBare}
use Rattle.row_steps.specs.RowChanges.{dropping}
use Rattle.row_steps.proofs.Leaving.{IsLeaving, IsStep-left, child_there, child_number, entry_is}
use Rattle.row_steps.proofs.Place.{kind_there, no_entries_in}
use Rattle.row_steps.proofs.Removing.{apart_by_kind}

pub old_directory_step : (t : Tables) (whole : Tree) (p : Parameters) (directory child : Inode) (c : Content) (n : Name) (pass parent now : ℕ) (name : List ℕ)
    → IsValid t → HasUniqueNames t → IsWellFormed whole → Represents t whole → t.params ≡ Some p → inode_at t parent ≡ Some directory
    → name_of_bytes t name ≡ Some n → entry_at t parent n.id ≡ Some c → inode_at t c.inode ≡ Some child
    → first_failure (checks whole pass (ops.Rmdir parent name)) ≡ None
    → IsStep t (tables_after (dropping directory c n now ++ removal t child.id (tables_after (dropping directory c n now) t)) t)
    (effect whole pass (ops.Rmdir parent name) now) 0
old_directory_step t whole p directory child c n pass parent now name v unique well same made found bytes entry row passes =
    let after : Tables = tables_after (dropping directory c n now ++ removal t child.id (tables_after (dropping directory c n now) t)) t in
    subst (λ x. IsStep t after x 0) (sym effect_is)
    (IsStep-left t whole p directory child c n now parent name is bare (subst IsWellFormed effect_is (IsWellFormed-effect whole pass now (ops.Rmdir parent name) well passes)))
  where
    can : CanUnmake whole parent name
    can = can_unmake whole pass parent name passes

    is : IsLeaving t whole p directory child c n parent name
    is = record {
      valid = v;
      same = same;
      params = made;
      found = found;
      kind = kind_there t whole v same parent directory found can.drop.there can.drop.folder;
      bytes = bytes;
      entry = entry;
      child = row;
    }

    effect_is : effect whole pass (ops.Rmdir parent name) now ≡ without_node c.inode (drop_entry parent name now whole)
    effect_is = ap (λ (e : Option ℕ). without_node (unwrap_or e 0) (drop_entry parent name now whole)) (entry_is t whole p directory child c n now parent name is)

    child_is : child_at whole parent name ≡ node_at whole c.inode
    child_is = ap (option_and_then (node_at whole)) (entry_is t whole p directory child c n now parent name is)

    node_passes : node_check (node_at whole c.inode) ≡ None
    node_passes =
        let node = some_node (node_at whole c.inode)
        (node_is t whole same c.inode (ap (λ (x : Option Inode). elim x [ Some r ↦ any_kind r.kind | None ↦ false ]) row)) in
        ap node_check node.1

    kind : child.kind ≡ kinds.Directory
    kind = kind_there t whole v same c.inode child row node_passes (ap directory_check (sym child_is) ∙ can.child_folder)

    no_file : is_regular child.kind ≡ false
    no_file = ap is_regular kind

    there : inode_at t child.id ≡ Some child
    there = child_there t whole p directory child c n now parent name is

    -- an entry in it would be one of the tree
    empty : IsTrue (list_all (λ (x : Content). not (x.parent == child.id)) t.contents)
    empty =
        subst (λ k. IsTrue (list_all (λ (x : Content). not (x.parent == k)) t.contents)) (child_number t whole p directory child c n now parent name is)
        (no_entries_in t whole v same c.inode (empty_is (node_at whole c.inode) (ap empty_check (sym child_is) ∙ can.empty)))

    bare : IsBare t child.id
    bare = record {
      entries = empty;
      inode_blocks =
          list_all_weaker (finds_of_inode_block t) (λ (x : InodeBlock). not (x.inode == child.id))
          (λ x finds. apart_by_kind t child there is_regular no_file x.inode (and_parts (has_inode is_regular t x.inode) (is_some (block_at t x.block)) finds).0)
          t.inode_blocks v.rows.inode_blocks;
      slots =
          list_all_weaker (λ (x : Slot). has_inode is_regular t x.inode) (λ (x : Slot). not (x.inode == child.id))
          (λ x. apart_by_kind t child there is_regular no_file x.inode) t.slots v.rows.slots;
    }

-- An operation that ends with a new entry is a step: what it leaves alone, and how many names it takes.
use Rattle.std.proofs.Common.{◌≡◌, ℕ, suc, List, [], ◌∷◌, length, false, Option, Some, sym, ap, ◌∙◌, refl, subst, arith}
use Rattle.std.specs.Prelude.{IsTrue, ◌==◌, nat_lt, option_map, unwrap_or}
use Rattle.std.specs.List.{list_any}
use Rattle.s3_base.specs.Numbers.{root}
use Rattle.s3_base.specs.declared.node_kind.Kind.TheVariants as kinds
use Rattle.plain_tree.specs.Tree.{Tree}
use Rattle.plain_tree.specs.Entries.{add_entry}
use Rattle.plain_tree.specs.WellFormed.{IsWellFormed}
use Rattle.s3_rows.specs.Rows.{Inode, Parameters}
use Rattle.s3_rows.specs.Tables.{Tables, by_entry}
use Rattle.s3_rows.specs.Batches.{tables_after}
use Rattle.s3_rows.specs.Selections.{inode_at}
use Rattle.s3_rows.specs.Validity.{HasUniqueNames}
use Rattle.row_lemmas.proofs.Keyed.Put.{length-put_new}
use Rattle.tree_rows.specs.Shapes.{Represents}
use Rattle.tree_rows.proofs.Listed.{is_entry}
use Rattle.tree_rows.proofs.Validity.Tables.{IsValid_from_tree}
use Rattle.ref_counts.specs.Names.{Raised, raised}
use Rattle.ref_counts.specs.Plans.{IsSmall, IsStep, next_inode_of, next_name_of, settings}
use Rattle.ref_counts.proofs.Rest.{LeavesBlocks, LeavesRest-LeavesBlocks}
use Rattle.row_steps.specs.Owed.{Owes}
use Rattle.row_steps.specs.RowChanges.{entering}
use Rattle.row_steps.proofs.Entering.{HasUniqueNames-entering, Owes-entering, Represents-entering, after, after_is, entry, free_after, named, raise}
use Rattle.row_steps.proofs.Owed.Contents.{absent_entry}
use Rattle.row_steps.proofs.Owed.Ends.{HasPremises-Owes}

-- what the changes before the entry leave alone: they take no name
pub record IsStart (before t : Tables) : Type 0 where
  pub rest : LeavesBlocks before t
  pub small : IsSmall 0 before t
  pub unique : HasUniqueNames before → HasUniqueNames t

module _ (before t : Tables) (p : Parameters) (d : Inode) (more : Raised) (name : List ℕ) (inode now : ℕ) (o : Owes t p (inode ∷ []) []) (used : raised t name ≡ Some more)
    (there : inode_at t d.id ≡ Some d) (kind : d.kind ≡ kinds.Directory) (free : list_any (is_entry t d.id name) t.contents ≡ false)
    (not_root : (inode == root) ≡ false) (number : IsTrue (nat_lt inode p.next_inode)) (start : IsStart before t) where
  abbrev more_used : Parameters
  more_used = record p { next_name = (raise t p d more name inode now [] [] o refl used there kind free not_root number).next }

  abbrev entered : Tables
  entered = after t p d more name inode now [] [] o refl used there kind free not_root number

  entered_is : tables_after (entering d more inode now) t ≡ entered
  entered_is = after_is t p d more name inode now [] [] o refl used there kind free not_root number

  next_inode_is : next_inode_of t ≡ p.next_inode
  next_inode_is = ap (λ (found : Option Parameters). unwrap_or (option_map (λ q. q.next_inode) found) 0) o.made

  next_name_is : next_name_of t ≡ p.next_name
  next_name_is = ap (λ (found : Option Parameters). unwrap_or (option_map (λ q. q.next_name) found) 0) o.made

  rest_after : LeavesBlocks before entered
  rest_after =
      let raised_name = raise t p d more name inode now [] [] o refl used there kind free not_root number in
      record {
        params = sym (ap (option_map settings) o.made) ∙ start.rest.params;
        next_inode = omega (arith, next_inode_is, start.rest.next_inode);
        next_name = omega (arith, next_name_is, start.rest.next_name, raised_name.least);
        inode_blocks = start.rest.inode_blocks;
        blocks = start.rest.blocks;
        objects = start.rest.objects;
        slots = start.rest.slots;
      }

  small_after : IsSmall 1 before entered
  small_after =
      let raised_name = raise t p d more name inode now [] [] o refl used there kind free not_root number in
      let longer : length entered.contents ≡ suc (length t.contents) =
      length-put_new by_entry (entry t p d more name inode now [] [] o refl used there kind free not_root number) t.contents
      (absent_entry (named t p d more name inode now [] [] o refl used there kind free not_root number)
      (entry t p d more name inode now [] [] o refl used there kind free not_root number)
      (free_after t p d more name inode now [] [] o refl used there kind free not_root number)) in
      record { names = omega (arith, next_name_is, start.small.names, raised_name.most); uses = omega (arith, longer, start.small.uses) }

  pub IsStep-entering : (whole : Tree) → Represents t whole → IsWellFormed (add_entry d.id name inode now whole)
      → IsStep before (tables_after (entering d more inode now) t) (add_entry d.id name inode now whole) 1
  IsStep-entering whole same well =
      let owes : Owes (tables_after (entering d more inode now) t) more_used [] [] =
      Owes-entering t p d more name inode now [] [] o refl used there kind free not_root number in
      let represents : Represents (tables_after (entering d more inode now) t) (add_entry d.id name inode now whole) =
      Represents-entering t p d more name inode now [] [] o refl used there kind free not_root number whole same in
      record {
        valid =
            IsValid_from_tree (tables_after (entering d more inode now) t) (add_entry d.id name inode now whole)
            (HasPremises-Owes (tables_after (entering d more inode now) t) more_used owes) represents well;
        represents = represents;
        unique =
            λ unique. HasUniqueNames-entering t p d more name inode now [] [] o refl used there kind free not_root number (start.unique unique);
        rest = LeavesRest-LeavesBlocks before (tables_after (entering d more inode now) t) (subst (λ (u : Tables). LeavesBlocks before u) (sym entered_is) rest_after);
        small = subst (λ (u : Tables). IsSmall 1 before u) (sym entered_is) small_after;
      }

-- An entry more of a file that is there, which counts it.
use Rattle.std.proofs.Common.{◌≡◌, ◌≢◌, ℕ, ◌+◌, List, [], ◌∷◌, true, false, Option, None, Some, refl, sym, ap, ◌∙◌, subst, arith, eq-eqb}
use Rattle.std.specs.Prelude.{IsTrue, ◌==◌, nat_lt}
use Rattle.std.specs.List.{list_any}
use Rattle.std.specs.Cmp.{nat_cmp_total}
use Rattle.s3_base.specs.Numbers.{root}
use Rattle.s3_base.specs.declared.node_kind.Kind.TheVariants as kinds
use Rattle.op_frames.specs.declared.operation.Op.TheVariants as ops
use Rattle.plain_tree.specs.Tree.{Tree, change_node, named, stamped, touched}
use Rattle.plain_tree.specs.Checks.{first_failure}
use Rattle.plain_tree.specs.Entries.{add_entry}
use Rattle.plain_tree.specs.Operations.{checks, effect}
use Rattle.plain_tree.specs.WellFormed.{IsWellFormed}
use Rattle.s3_rows.specs.Rows.{Inode, Parameters}
use Rattle.s3_rows.specs.Keyed.{has_key, put}
use Rattle.s3_rows.specs.Tables.{Tables, by_inode}
use Rattle.s3_rows.specs.Batches.{tables_after}
use Rattle.s3_rows.specs.Selections.{inode_at}
use Rattle.s3_rows.specs.Validity.{IsValid, HasUniqueNames, has_inode, is_directory}
use Rattle.row_lemmas.proofs.Tests.{eqb_comm, find_passes_all, is_eq-nat_cmp}
use Rattle.row_lemmas.proofs.Keyed.Put.{row_at-put_other, row_at-put_same}
use Rattle.tree_laws.proofs.Node.Swap.{change_node_comm}
use Rattle.tree_laws.proofs.Walk.Passed.{can_link}
use Rattle.tree_laws.proofs.WellFormed.{IsWellFormed-effect}
use Rattle.tree_rows.specs.Shapes.{Represents}
use Rattle.tree_rows.proofs.Listed.{is_entry}
use Rattle.tree_rows.proofs.Replaced.{replaced_represents}
use Rattle.tree_rows.proofs.Whole.{number_of}
use Rattle.ref_counts.specs.Names.{Raised, raised}
use Rattle.ref_counts.specs.Plans.{IsStep}
use Rattle.row_steps.specs.Owed.{Owes}
use Rattle.row_steps.specs.RowChanges.{counted_row, linking, touched_row}
use Rattle.row_steps.proofs.Entered.{IsStart, IsStep-entering}
use Rattle.row_steps.proofs.Entering.{after_is}
use Rattle.row_steps.proofs.Owed.Ends.{Owes-IsValid}
use Rattle.row_steps.proofs.Owed.Inodes.{Owes-put_inode_more}
use Rattle.row_steps.proofs.Place.{apart_from_folder, free_there, kind_there, no_folder_there}

module _ (t : Tables) (p : Parameters) (d r : Inode) (more : Raised) (name : List ℕ) (now : ℕ) (v : IsValid t) (made : t.params ≡ Some p)
    (there : inode_at t d.id ≡ Some d) (kind : d.kind ≡ kinds.Directory) (file : inode_at t r.id ≡ Some r) (other : has_inode is_directory t r.id ≡ false)
    (free : list_any (is_entry t d.id name) t.contents ≡ false) (used : raised t name ≡ Some more) where
  abbrev row : Inode
  row = counted_row (r.refcount + 1) now r

  abbrev counted : Tables
  counted = record t { inodes = put by_inode row t.inodes }

  folder : IsTrue (has_inode is_directory t d.id)
  folder = ap (λ (found : Option Inode). elim found [ Some x ↦ is_directory x.kind | None ↦ false ]) there ∙ ap is_directory kind

  owes : Owes t p [] []
  owes = Owes-IsValid t p v made

  directory_there : inode_at counted d.id ≡ Some d
  directory_there = row_at-put_other by_inode nat_cmp_total d.id row t.inodes (is_eq-nat_cmp d.id r.id ∙ apart_from_folder t d.id r.id folder other) ∙ there

  start : IsStart t counted
  start = record {
    rest = record { params = refl; next_inode = omega arith; next_name = omega arith; inode_blocks = refl; blocks = refl; objects = refl; slots = refl };
    small = record { names = omega arith; uses = omega arith };
    unique = λ unique. unique;
  }

  owes_link : Owes counted p (r.id ∷ []) []
  owes_link = Owes-put_inode_more t p r row [] [] owes file refl refl refl

  apart : (d.id == r.id) ≡ false
  apart = apart_from_folder t d.id r.id folder other

  not_root : (r.id == root) ≡ false
  not_root = eqb_comm r.id root ∙ apart_from_folder t root r.id v.tree.is_rooted other

  number : IsTrue (nat_lt r.id p.next_inode)
  number = find_passes_all (has_key by_inode r.id) (λ (x : Inode). nat_lt x.id p.next_inode) t.inodes r owes.numbers file

  linked_step : (whole : Tree) → Represents t whole → IsWellFormed (change_node r.id (stamped now) (add_entry d.id name r.id now whole))
      → IsStep t (tables_after (linking d r more now) t) (change_node r.id (stamped now) (add_entry d.id name r.id now whole)) 1
  linked_step whole same well =
      let differ : d.id ≢ r.id = λ equal.
      (let clash : true ≡ false = sym (eq-eqb d.id r.id equal) ∙ apart in
      cc clash) in
      let swapped : add_entry d.id name r.id now (change_node r.id (stamped now) whole) ≡ change_node r.id (stamped now) (add_entry d.id name r.id now whole) =
      change_node_comm (stamped now) (λ node. touched now (record node { content = named name r.id node.content })) r.id d.id whole differ in
      subst (λ next. IsStep t (tables_after (linking d r more now) t) next 1) swapped
      (IsStep-entering t counted p d more name r.id now owes_link used directory_there kind free not_root number start
      (change_node r.id (stamped now) whole)
      (replaced_represents t whole r row (stamped now) owes.ordered.inodes same file (λ node shape i. record (shape i) { ctime = now }))
      (subst (λ next. IsWellFormed next) (sym swapped) well))

  -- the file's row is found after them all
  linked_row : inode_at (tables_after (linking d r more now) t) r.id ≡ Some row
  linked_row =
      ap (λ (u : Tables). inode_at u r.id)
      (after_is counted p d more name r.id now [] [] owes_link refl used directory_there kind free not_root number)
      ∙ row_at-put_other by_inode nat_cmp_total r.id (touched_row now d) (put by_inode row t.inodes) (is_eq-nat_cmp r.id d.id ∙ eqb_comm r.id d.id ∙ apart)
      ∙ row_at-put_same by_inode nat_cmp_total row t.inodes

pub link_step : (t : Tables) (whole : Tree) (p : Parameters) (directory r : Inode) (more : Raised) (pass inode parent now : ℕ) (name : List ℕ)
    → IsValid t → HasUniqueNames t → IsWellFormed whole → Represents t whole → t.params ≡ Some p → inode_at t parent ≡ Some directory
    → inode_at t inode ≡ Some r → first_failure (checks whole pass (ops.Link inode parent name)) ≡ None → raised t name ≡ Some more
    → IsStep t (tables_after (linking directory r more now) t) (effect whole pass (ops.Link inode parent name) now) 1
    × (inode_at (tables_after (linking directory r more now) t) inode ≡ Some (counted_row (r.refcount + 1) now r))
link_step t whole p directory r more pass inode parent now name v unique well same made found file passes used =
    let can = can_link whole pass inode parent name passes in
    let number_is : parent ≡ directory.id = number_of t parent directory found in
    let own : inode ≡ r.id = number_of t inode r file in
    let is_next : effect whole pass (ops.Link inode parent name) now ≡ change_node r.id (stamped now) (add_entry directory.id name r.id now whole) =
    (λ i. change_node (own i) (stamped now) (add_entry (number_is i) name (own i) now whole)) in
    let there : inode_at t directory.id ≡ Some directory = ap (inode_at t) (sym number_is) ∙ found in
    let kind : directory.kind ≡ kinds.Directory = kind_there t whole v same parent directory found can.parent_there can.parent_folder in
    let file_there : inode_at t r.id ≡ Some r = ap (inode_at t) (sym own) ∙ file in
    let other : has_inode is_directory t r.id ≡ false = ap (has_inode is_directory t) (sym own) ∙ no_folder_there t whole same inode can.file in
    let free : list_any (is_entry t directory.id name) t.contents ≡ false =
    subst (λ x. list_any (is_entry t x name) t.contents ≡ false) number_is (free_there t whole v same parent name can.parent_there can.parent_folder can.free) in (
      subst (λ x. IsStep t (tables_after (linking directory r more now) t) x 1) (sym is_next)
          (linked_step t p directory r more name now v made there kind file_there other free used whole same
          (subst (λ x. IsWellFormed x) is_next (IsWellFormed-effect whole pass now (ops.Link inode parent name) well passes))),
      ap (inode_at (tables_after (linking directory r more now) t)) own ∙ linked_row t p directory r more name now v made there kind file_there other free used,
    )

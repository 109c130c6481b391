-- A new file, directory or symbolic link in a directory.
use Rattle.std.proofs.Common.{◌≡◌, ℕ, List, [], ◌∷◌, false, None, Some, refl, sym, ap, ◌∙◌, subst}
use Rattle.std.specs.Prelude.{option_map, unwrap_or}
use Rattle.std.specs.Cmp.{nat_cmp_total}
use Rattle.std.specs.List.{list_any}
use Rattle.op_frames.specs.declared.operation.Op.TheVariants as ops
use Rattle.plain_tree.specs.Tree.{Handle, Node, Tree, with_handle, with_node}
use Rattle.plain_tree.specs.Checks.{first_failure}
use Rattle.plain_tree.specs.Operations.{checks, effect, new_directory, new_file, new_link, with_new_node}
use Rattle.plain_tree.specs.WellFormed.{IsWellFormed}
use Rattle.s3_rows.specs.declared.change.Change.{Change}
use Rattle.s3_rows.specs.declared.change.Change.TheVariants as changes
use Rattle.s3_rows.specs.Rows.{Inode, Target, Parameters}
use Rattle.s3_rows.specs.Tables.{Tables, by_target}
use Rattle.s3_rows.specs.Batches.{tables_after}
use Rattle.s3_rows.specs.Selections.{inode_at}
use Rattle.s3_rows.specs.Validity.{IsValid, HasUniqueNames}
use Rattle.row_lemmas.proofs.Keyed.Put.{row_at-put_same}
use Rattle.row_lemmas.proofs.Tables.{tables_after-tables_after}
use Rattle.tree_laws.proofs.Walk.Passed.{CanMake, can_create, can_mkdir, can_symlink}
use Rattle.tree_laws.proofs.WellFormed.{IsWellFormed-effect}
use Rattle.tree_rows.specs.Shapes.{Directory, Link, node_of_row, shape_of_node, Represents}
use Rattle.tree_rows.proofs.Listed.{is_entry}
use Rattle.tree_rows.proofs.Whole.{number_of}
use Rattle.ref_counts.specs.Names.{Raised, raised}
use Rattle.ref_counts.specs.Plans.{IsStep}
use Rattle.row_steps.specs.Owed.{Owes}
use Rattle.row_steps.specs.RowChanges.{creation, drawn, link_creation, new_directory_row, new_file_row, new_link_row, with_drawn}
use Rattle.row_steps.proofs.Making.{IsMaking, made_step}
use Rattle.row_steps.proofs.NewInode.{Owes-with_inode, Owes-with_link, Represents-with_inode, Represents-with_link, with_inode, with_target}
use Rattle.row_steps.proofs.Owed.Draws.{next_has_no_attributes, next_has_no_entries}
use Rattle.row_steps.proofs.Owed.Ends.{Owes-IsValid}
use Rattle.row_steps.proofs.Place.{free_there, kind_there}

-- what is needed of the row and the node, beside the passed checks of their place; handles may have been opened
module _ (t : Tables) (whole : Tree) (p : Parameters) (directory new : Inode) (node : Node) (more : Raised) (parent : ℕ) (name : List ℕ) (now : ℕ)
    (v : IsValid t) (same : Represents t whole) (made : t.params ≡ Some p) (found : inode_at t parent ≡ Some directory)
    (can : CanMake whole parent name) (used : raised (with_drawn p t) name ≡ Some more) (id : new.id ≡ p.next_inode) (once : new.refcount ≡ 1) where
  new_node_step : (opened : Tree) (targets : List Target) (last : List Change)
      → ((u : Tables) → tables_after last (record u { targets = t.targets }) ≡ record u { targets = targets })
      → Owes (with_inode t p new targets) (drawn p) (new.id ∷ []) [] → Represents (with_inode t p new targets) (with_node node opened)
      → IsWellFormed (with_new_node parent name node now opened)
      → IsStep t (tables_after last (tables_after (creation p directory more new now) t)) (with_new_node parent name node now opened) 1
  new_node_step opened targets last puts owes represents well =
      let number : parent ≡ directory.id = number_of t parent directory found in
      let making : IsMaking t opened p directory new node more name targets =
      record {
        valid = v;
        params = made;
        there = ap (inode_at t) (sym number) ∙ found;
        kind = kind_there t whole v same parent directory found can.there can.folder;
        free = subst (λ x. list_any (is_entry t x name) t.contents ≡ false) number (free_there t whole v same parent name can.there can.folder can.free);
        used = used;
        id = id;
        once = once;
        owes = owes;
        same = represents;
      } in
      subst (λ x. IsStep t (tables_after last (tables_after (creation p directory more new now) t)) (with_new_node x name node now opened) 1) (sym number)
      (made_step t opened p directory new node more name targets now making last puts
      (subst (λ x. IsWellFormed (with_new_node x name node now opened)) number well))

pub new_file_step : (t : Tables) (whole : Tree) (p : Parameters) (directory : Inode) (more : Raised) (pass parent mode uid gid now : ℕ) (name : List ℕ)
    → IsValid t → HasUniqueNames t → IsWellFormed whole → Represents t whole → t.params ≡ Some p → inode_at t parent ≡ Some directory
    → first_failure (checks whole pass (ops.Create parent name mode uid gid)) ≡ None → raised (with_drawn p t) name ≡ Some more
    → IsStep t (tables_after (creation p directory more (new_file_row p.next_inode mode uid gid now) now) t) (effect whole pass (ops.Create parent name mode uid gid) now) 1
new_file_step t whole p directory more pass parent mode uid gid now name v unique well same made found passes used =
    let handle : Handle = record { inode = whole.next_inode; pass = pass } in
    let row : Inode = new_file_row p.next_inode mode uid gid now in
    let shape : shape_of_node (new_file mode uid gid now) ≡ node_of_row t (new_file_row p.next_inode mode uid gid now) =
    λ i. record (shape_of_node (new_file mode uid gid now)) { attributes = (sym (next_has_no_attributes t p [] [] (Owes-IsValid t p v made))) i } in
    new_node_step t whole p directory row (new_file mode uid gid now) more parent name now v same made found
    (can_create whole pass parent name mode uid gid passes).1 used refl refl (with_handle handle whole) t.targets [] (λ u. refl)
    (Owes-with_inode t p v made row refl refl refl)
    (Represents-with_inode t p v made row refl (with_handle handle whole) (new_file mode uid gid now) same shape)
    (IsWellFormed-effect whole pass now (ops.Create parent name mode uid gid) well passes)

pub new_directory_step : (t : Tables) (whole : Tree) (p : Parameters) (directory : Inode) (more : Raised) (pass parent mode uid gid now : ℕ) (name : List ℕ)
    → IsValid t → HasUniqueNames t → IsWellFormed whole → Represents t whole → t.params ≡ Some p → inode_at t parent ≡ Some directory
    → first_failure (checks whole pass (ops.Mkdir parent name mode uid gid)) ≡ None → raised (with_drawn p t) name ≡ Some more
    → IsStep t (tables_after (creation p directory more (new_directory_row p.next_inode mode uid gid now) now) t) (effect whole pass (ops.Mkdir parent name mode uid gid) now) 1
new_directory_step t whole p directory more pass parent mode uid gid now name v unique well same made found passes used =
    let row : Inode = new_directory_row p.next_inode mode uid gid now in
    let shape : shape_of_node (new_directory mode uid gid now) ≡ node_of_row t (new_directory_row p.next_inode mode uid gid now) =
    λ i. record (shape_of_node (new_directory mode uid gid now)) {
      attributes = (sym (next_has_no_attributes t p [] [] (Owes-IsValid t p v made))) i;
      content = Directory ((sym (next_has_no_entries t p [] [] (Owes-IsValid t p v made))) i);
    } in
    new_node_step t whole p directory row (new_directory mode uid gid now) more parent name now v same made found
    (can_mkdir whole pass parent name mode uid gid passes).1 used refl refl whole t.targets [] (λ u. refl)
    (Owes-with_inode t p v made row refl refl refl)
    (Represents-with_inode t p v made row refl whole (new_directory mode uid gid now) same shape)
    (IsWellFormed-effect whole pass now (ops.Mkdir parent name mode uid gid) well passes)

pub new_link_step : (t : Tables) (whole : Tree) (p : Parameters) (directory : Inode) (more : Raised) (pass parent uid gid now : ℕ) (name target : List ℕ)
    → IsValid t → HasUniqueNames t → IsWellFormed whole → Represents t whole → t.params ≡ Some p → inode_at t parent ≡ Some directory
    → first_failure (checks whole pass (ops.Symlink parent name target uid gid)) ≡ None → raised (with_drawn p t) name ≡ Some more
    → IsStep t (tables_after (link_creation p directory more target uid gid now) t) (effect whole pass (ops.Symlink parent name target uid gid) now) 1
new_link_step t whole p directory more pass parent uid gid now name target v unique well same made found passes used =
    let row : Inode = new_link_row p.next_inode target uid gid now in
    let last : List Change = changes.PutTarget (record { inode = p.next_inode; target = target }) ∷ [] in
    let targets : List Target = with_target t p v made (new_link_row p.next_inode target uid gid now) refl target in
    let shape : shape_of_node (new_link target uid gid now) ≡ node_of_row (record t { targets = targets }) (new_link_row p.next_inode target uid gid now) =
    λ i. record (shape_of_node (new_link target uid gid now)) {
      attributes = (sym (next_has_no_attributes t p [] [] (Owes-IsValid t p v made))) i;
      content = Link (unwrap_or (option_map (λ (r : Target). r.target) ((sym (row_at-put_same by_target nat_cmp_total (record { inode = p.next_inode; target = target }) t.targets)) i)) []);
    } in
    subst (λ u. IsStep t u (with_new_node parent name (new_link target uid gid now) now whole) 1)
    (tables_after-tables_after (creation p directory more row now) last t)
    (new_node_step t whole p directory row (new_link target uid gid now) more parent name now v same made found
    (can_symlink whole pass parent name target uid gid passes).1 used refl refl whole targets last (λ u. refl)
    (Owes-with_link t p v made row refl target refl refl refl)
    (Represents-with_link t p v made row refl target whole (new_link target uid gid now) same shape)
    (IsWellFormed-effect whole pass now (ops.Symlink parent name target uid gid) well passes))

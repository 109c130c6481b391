-- The row of a new node, with its target: its link is owed, and its node is in the tree, without entries and attributes.
use Rattle.std.proofs.Common.{◌≡◌, ℕ, ◌+◌, List, [], ◌∷◌, ◌++◌, length, false, Option, None, Some, refl, sym, ap, ◌∙◌, arith, eqb-true, lt-ltb}
use Rattle.std.specs.Prelude.{IsTrue, nat_lt, option_map, unwrap_or}
use Rattle.std.specs.Cmp.{nat_cmp_total}
use Rattle.s3_base.specs.Numbers.{root}
use Rattle.s3_base.specs.declared.node_kind.Kind.{Kind}
use Rattle.s3_base.specs.declared.node_kind.Kind.TheVariants as kinds
use Rattle.plain_tree.specs.Names.{NamesInOrder}
use Rattle.plain_tree.specs.Numbers.{InOrder}
use Rattle.plain_tree.specs.Tree as tree
use Rattle.plain_tree.specs.Tree.{Node, Tree, with_node}
use Rattle.s3_rows.specs.declared.change.Change.TheVariants as changes
use Rattle.s3_rows.specs.Rows.{Inode, Content, Target, Parameters}
use Rattle.s3_rows.specs.Keyed.{has_key, put}
use Rattle.s3_rows.specs.Tables.{Tables, by_inode, by_target}
use Rattle.s3_rows.specs.Batches.{tables_after}
use Rattle.s3_rows.specs.Selections.{inode_at, target_at}
use Rattle.s3_rows.specs.Counts.{listed_inode_count}
use Rattle.s3_rows.specs.Validity.{any_kind, has_inode, is_link}
use Rattle.row_lemmas.proofs.Tests.{find_passes, find_passes_all, list_all_weaker}
use Rattle.row_lemmas.proofs.Keyed.Put.{row_at-put_same}
use Rattle.tree_rows.specs.Premises.{fits_kind, fits_size}
use Rattle.tree_rows.specs.Shapes.{Directory, Link, NodeShape, shape_of_content, shape_of_node, node_of_row, target_in, Represents}
use Rattle.tree_rows.proofs.Whole.{content_of_kind}
use Rattle.row_steps.specs.Owed.{Owes}
use Rattle.row_steps.specs.RowChanges.{drawn}
use Rattle.row_steps.proofs.Owed.Attrs.{Owes-put_target}
use Rattle.row_steps.proofs.Owed.Draws.{Owes-params, next_has_no_attributes, next_has_no_entries, next_has_no_row, next_has_no_target, next_is_unlisted}
use Rattle.row_steps.proofs.Owed.Inodes.{Keeps-put_new, Owes-put_inode_new, one_number}
use Rattle.row_steps.proofs.Shape.Absent.{Represents-put_target_absent}
use Rattle.row_steps.proofs.Shape.Rows.{added_represents}
use Rattle.tree_copy.specs.CopiedRows.{copied_row, drawing, row_copied, target_copied}
use Rattle.tree_copy.specs.PartialCopies.{HasMore, begun, without_entries}
use Rattle.tree_copy.proofs.PartialSteps.{HasMore-with_node, rise_begun}
use Rattle.tree_copy.proofs.Stands.{Stands, leaves_params}

fits_none : (kind : Kind) (found : Option Target) (size : ℕ) → IsTrue (fits_size kind found size) → IsTrue (fits_size kind None size)
fits_none kinds.Directory found size fits = fits
fits_none kinds.Regular found size fits = refl
fits_none kinds.Link found size fits = refl

link_kind : (kind : Kind) → IsTrue (is_link kind) → kind ≡ kinds.Link
link_kind kinds.Directory is = absurd (cc is)
link_kind kinds.Regular is = absurd (cc is)
link_kind kinds.Link is = refl

-- a row that was told, its node, and tables on the way
module _ (told u : Tables) (t : Tree) (q : Parameters) (owes : Owes told q [] []) (r : Inode) (node : Node) (now : ℕ) (there : inode_at told r.id ≡ Some r)
    (shape : shape_of_node node ≡ node_of_row told r) (s : Stands told u t []) (ordered : InOrder t) (names : NamesInOrder t)
    (above : IsTrue (nat_lt root s.p.next_inode)) where
  abbrev new : Inode
  new = copied_row s.p.next_inode now r

  abbrev pub first_node : Node
  first_node = record (begun now (without_entries node.content) node) { attributes = [] }

  abbrev targets_with : Option Target → List Target
  targets_with None = u.targets
  targets_with (Some x) = put by_target (record { inode = s.p.next_inode; target = x.target }) u.targets

  abbrev made : Option Target → Tables
  made found = record u { params = Some (drawn s.p); inodes = put by_inode new u.inodes; targets = targets_with found }

  abbrev pub after : Tables
  after = made (target_at told r.id)

  pub after_is : tables_after (row_copied told s.p.next_inode now r u) u ≡ after
  after_is =
      ap (λ (p : Option Parameters). tables_after (drawing p ++ target_copied s.p.next_inode (target_at told r.id) ++ changes.PutInode new ∷ []) u) s.owes.made
      ∙ by_found (target_at told r.id)
    where
      by_found : (found : Option Target) → tables_after (drawing (Some s.p) ++ target_copied s.p.next_inode found ++ changes.PutInode (copied_row s.p.next_inode now r) ∷ []) u ≡ made found
      by_found None = refl
      by_found (Some x) = refl

  -- ---- what is owed

  absent : inode_at u s.p.next_inode ≡ None
  absent = next_has_no_row u s.p [] [] s.owes

  no_target : target_at u s.p.next_inode ≡ None
  no_target = next_has_no_target u s.p [] [] s.owes

  fits : IsTrue (fits_kind told r)
  fits = find_passes_all (has_key by_inode r.id) (fits_kind told) told.inodes r owes.sizes.inodes there

  fits_new : IsTrue (fits_kind u new)
  fits_new = ap (λ found. fits_size r.kind found r.size) no_target ∙ fits_none r.kind (target_at told r.id) r.size fits

  Owes-row : Owes (made None) (drawn s.p) (s.p.next_inode ∷ []) []
  Owes-row =
      let unlisted : listed_inode_count u s.p.next_inode ≡ 0 = next_is_unlisted u s.p [] [] s.owes above in
      Owes-put_inode_new (record u { params = Some (drawn s.p) }) (drawn s.p) new [] []
      (Owes-params u s.p (s.p.next_inode + 1) s.p.next_name [] [] s.owes (omega arith) (omega arith))
      absent (omega (arith, unlisted)) refl fits_new (lt-ltb s.p.next_inode (s.p.next_inode + 1) (omega arith))

  -- a target is that of a link of its length
  target_kind : (x : Target) → target_at told r.id ≡ Some x → r.kind ≡ kinds.Link
  target_kind x found =
      let own : r.id ≡ x.inode = one_number r.id x.inode (find_passes (has_key by_target r.id) told.targets x found) in
      let finds : IsTrue (has_inode is_link told x.inode) = find_passes_all (has_key by_target r.id) (λ (y : Target). has_inode is_link told y.inode) told.targets x owes.rows.targets found in
      link_kind r.kind
      (sym (ap (λ (row : Option Inode). elim row [ Some y ↦ is_link y.kind | None ↦ false ]) there) ∙ ap (has_inode is_link told) own ∙ finds)

  target_size : (x : Target) → target_at told r.id ≡ Some x → r.size ≡ length x.target
  target_size x found =
      eqb-true r.size (length x.target) (sym (λ i. fits_size (target_kind x found i) (found i) r.size) ∙ fits)

  Owes-made : (found : Option Target) → target_at told r.id ≡ found → Owes (made found) (drawn s.p) (s.p.next_inode ∷ []) []
  Owes-made None is = Owes-row
  Owes-made (Some x) is =
      Owes-put_target (made None) (drawn s.p) (record { inode = s.p.next_inode; target = x.target }) new (s.p.next_inode ∷ []) [] Owes-row
      (row_at-put_same by_inode nat_cmp_total new u.inodes) (target_kind x is) (target_size x is)

  -- ---- the node

  targets_same : (found : Option Target) → target_at told r.id ≡ found → target_in (record u { targets = targets_with found }) s.p.next_inode ≡ target_in told r.id
  targets_same None is =
      ap (λ (x : Option Target). unwrap_or (option_map (λ (y : Target). y.target) x) []) no_target
      ∙ sym (ap (λ (x : Option Target). unwrap_or (option_map (λ (y : Target). y.target) x) []) is)
  targets_same (Some x) is =
      ap (λ (y : Option Target). unwrap_or (option_map (λ (z : Target). z.target) y) [])
      (row_at-put_same by_target nat_cmp_total (record { inode = s.p.next_inode; target = x.target }) u.targets)
      ∙ sym (ap (λ (y : Option Target). unwrap_or (option_map (λ (z : Target). z.target) y) []) is)

  content_made : (found : Option Target) → target_at told r.id ≡ found → (content : tree.Content) (kind : Kind) → shape_of_content content ≡ content_of_kind told r kind
      → shape_of_content (without_entries content) ≡ content_of_kind (record u { targets = targets_with found }) new kind
  content_made found at (tree.Directory entries) kinds.Directory is = ap Directory (sym (next_has_no_entries u s.p [] [] s.owes))
  content_made found at (tree.Directory entries) kinds.Regular is = absurd (cc is)
  content_made found at (tree.Directory entries) kinds.Link is = absurd (cc is)
  content_made found at (tree.Regular bytes) kinds.Directory is = absurd (cc is)
  content_made found at (tree.Regular bytes) kinds.Regular is = is
  content_made found at (tree.Regular bytes) kinds.Link is = absurd (cc is)
  content_made found at (tree.Link target) kinds.Directory is = absurd (cc is)
  content_made found at (tree.Link target) kinds.Regular is = absurd (cc is)
  content_made found at (tree.Link target) kinds.Link is = is ∙ ap Link (sym (targets_same found at))

  shape_made : (found : Option Target) → target_at told r.id ≡ found → shape_of_node first_node ≡ node_of_row (record u { targets = targets_with found }) new
  shape_made found at =
      let content = content_made found at node.content r.kind (ap (λ (x : NodeShape). x.content) shape) in
      λ i. record {
        mode = ap (λ (x : NodeShape). x.mode) shape i;
        uid = ap (λ (x : NodeShape). x.uid) shape i;
        gid = ap (λ (x : NodeShape). x.gid) shape i;
        mtime = ap (λ (x : NodeShape). x.mtime) shape i;
        ctime = now;
        locked = false;
        attributes = sym (next_has_no_attributes u s.p [] [] s.owes) i;
        content = content i;
      }

  Represents-targets : (found : Option Target) → Represents (record u { targets = targets_with found }) t
  Represents-targets None = s.same
  Represents-targets (Some x) = Represents-put_target_absent u t (record { inode = s.p.next_inode; target = x.target }) absent s.same

  pub Stands-row : Stands told after (with_node first_node t) (s.p.next_inode ∷ [])
  Stands-row = record {
    p = drawn s.p;
    owes = Owes-made (target_at told r.id) refl;
    children =
        list_all_weaker (λ (c : Content). has_inode any_kind u c.inode) (λ (c : Content). has_inode any_kind after c.inode)
        (λ c own. Keeps-put_new u new absent (λ kind size. any_kind kind) c.inode refl own) u.contents s.children;
    same =
        added_represents (record u { targets = targets_with (target_at told r.id) }) t s.p (drawn s.p) new first_node
        (Represents-targets (target_at told r.id)) s.owes.made (refl, refl) refl (shape_made (target_at told r.id) refl);
    unique = s.unique;
    rest = leaves_params told u after s.p (drawn s.p) s.rest s.owes.made refl refl (omega arith) (omega arith) refl refl refl refl;
  }

  pub more_row : HasMore t (with_node first_node t) first_node
  more_row = HasMore-with_node t first_node ordered names (rise_begun node.content)

  pub row_there : inode_at after s.p.next_inode ≡ Some new
  row_there = row_at-put_same by_inode nat_cmp_total new u.inodes

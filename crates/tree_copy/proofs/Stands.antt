-- Tables on the way of a copy: they are in order but for links that are owed, and represent a tree.
use Rattle.std.proofs.Common.{◌≡◌, ◌≤◌, ℕ, List, [], ◌∷◌, ◌++◌, true, false, Option, None, Some, refl, sym, ap, ◌∙◌, subst, arith}
use Rattle.std.specs.Prelude.{IsTrue, ◌==◌, is_some, nat_lt, option_map, unwrap_or}
use Rattle.std.specs.List.{list_all, list_any}
use Rattle.std.specs.Cmp.{nat_cmp_total}
use Rattle.std.specs.Cmp.Lexicographic.{slice_cmp}
use Rattle.std.specs.Ordering.{nat_cmp, is_eq}
use Rattle.std.specs.BTreeMap.{insert_entry}
use Rattle.std.proofs.lemmas.Bool.{and_from}
use Rattle.s3_base.specs.Numbers.{root}
use Rattle.s3_base.specs.declared.node_kind.Kind.TheVariants as kinds
use Rattle.plain_tree.specs.Tree as tree
use Rattle.plain_tree.specs.Tree.{Node, Tree, change_node, named, node_at}
use Rattle.s3_rows.specs.declared.change.Change.{Change}
use Rattle.s3_rows.specs.declared.change.Change.TheVariants as changes
use Rattle.s3_rows.specs.Rows.{Inode, Name, Content, Parameters}
use Rattle.s3_rows.specs.Keyed.{put, rises}
use Rattle.s3_rows.specs.Tables.{Tables, by_entry, by_inode, by_name}
use Rattle.s3_rows.specs.Batches.{tables_after}
use Rattle.s3_rows.specs.Selections.{bytes_of_name, inode_at, name_at}
use Rattle.s3_rows.specs.Validity.{HasUniqueNames, any_kind, finds_of_entry, has_inode, is_directory}
use Rattle.row_lemmas.proofs.Tests.{is_eq-nat_cmp, list_all_weaker_both}
use Rattle.row_lemmas.proofs.Keyed.Put.{list_all-put, put_same, row_at-put_same}
use Rattle.row_lemmas.proofs.Tables.{tables_after-tables_after}
use Rattle.tree_rows.specs.Premises.{finds_directory_and_name}
use Rattle.tree_rows.specs.Shapes.{Regular, Directory, Link, NodeShape, TreeShape, shape_of_content, shape_of_node, node_of_row, content_of_row, entries_in, target_in, Represents}
use Rattle.tree_rows.proofs.Listed.{is_entry}
use Rattle.tree_rows.proofs.Whole.{content_of_kind}
use Rattle.ref_counts.specs.Names.{Raised, raised}
use Rattle.ref_counts.specs.Plans.{next_inode_of, next_name_of, settings}
use Rattle.ref_counts.proofs.Rest.{LeavesBlocks}
use Rattle.row_steps.specs.Owed.{Owes}
use Rattle.row_steps.proofs.Entering as entering
use Rattle.row_steps.proofs.Entering.{entry, free_after, raise}
use Rattle.row_steps.proofs.Living.{FindsChildren}
use Rattle.row_steps.proofs.Owed.Contents.{Owes-put_content}
use Rattle.row_steps.proofs.Owed.Names.{KeepsBytes-put, any_name}
use Rattle.row_steps.proofs.Owed.Raised.{IsRaise}
use Rattle.row_steps.proofs.Shape.Entries.{entries_other, entries_own}
use Rattle.row_steps.proofs.Shape.Names.{Represents-names}
use Rattle.row_steps.proofs.Shape.Rows.{changed_represents}
use Rattle.tree_copy.specs.PartialCopies.{entered}

-- tables that represent a tree, have unique names, owe these links, and have settings, places, blocks, objects and slots as told
pub record Stands (told t : Tables) (whole : Tree) (links : List ℕ) : Type 0 where
  pub p : Parameters
  pub owes : Owes t p links []
  pub children : FindsChildren t
  pub same : Represents t whole
  pub unique : HasUniqueNames t
  pub rest : LeavesBlocks told t

-- the entries find all that they name
pub finds_entries : (told t : Tables) (whole : Tree) (links : List ℕ) → Stands told t whole links → IsTrue (list_all (finds_of_entry t) t.contents)
finds_entries told t whole links s =
    list_all_weaker_both (finds_directory_and_name t) (λ (c : Content). has_inode any_kind t c.inode) (finds_of_entry t)
    (λ c a b. and_from (finds_directory_and_name t c) (has_inode any_kind t c.inode) a b) t.contents s.owes.rows.entries s.children

-- the next number is the tree's
pub next_is : (told t : Tables) (whole : Tree) (links : List ℕ) (s : Stands told t whole links) → s.p.next_inode ≡ whole.next_inode
next_is told t whole links s =
    sym (ap (λ (x : Option Parameters). unwrap_or (option_map (λ y. y.next_inode) x) 0) s.owes.made) ∙ ap (λ (x : TreeShape). x.next_inode) s.same

-- what is left alone where the parameters have other next numbers
pub leaves_params : (told t u : Tables) (p q : Parameters) → LeavesBlocks told t → t.params ≡ Some p → u.params ≡ Some q → settings q ≡ settings p
    → p.next_inode ≤ q.next_inode → p.next_name ≤ q.next_name → u.inode_blocks ≡ t.inode_blocks → u.blocks ≡ t.blocks → u.objects ≡ t.objects → u.slots ≡ t.slots
    → LeavesBlocks told u
leaves_params told t u p q rest made after same inode id places blocks objects slots =
    let before_inode : next_inode_of t ≡ p.next_inode = ap (λ (found : Option Parameters). unwrap_or (option_map (λ y. y.next_inode) found) 0) made in
    let after_inode : next_inode_of u ≡ q.next_inode = ap (λ (found : Option Parameters). unwrap_or (option_map (λ y. y.next_inode) found) 0) after in
    let before_name : next_name_of t ≡ p.next_name = ap (λ (found : Option Parameters). unwrap_or (option_map (λ y. y.next_name) found) 0) made in
    let after_name : next_name_of u ≡ q.next_name = ap (λ (found : Option Parameters). unwrap_or (option_map (λ y. y.next_name) found) 0) after in
    record {
      params = ap (option_map settings) after ∙ ap Some same ∙ sym (ap (option_map settings) made) ∙ rest.params;
      next_inode = omega (arith, rest.next_inode, before_inode, after_inode, inode);
      next_name = omega (arith, rest.next_name, before_name, after_name, id);
      inode_blocks = places ∙ rest.inode_blocks;
      blocks = blocks ∙ rest.blocks;
      objects = objects ∙ rest.objects;
      slots = slots ∙ rest.slots;
    }

-- ---- an entry that comes, in a directory that keeps its times

named_shape : (content : tree.Content) (entries : List (List ℕ × ℕ)) (name : List ℕ) (inode : ℕ) → shape_of_content content ≡ Directory entries
    → shape_of_content (named name inode content) ≡ Directory (insert_entry (slice_cmp nat_cmp) entries name inode)
named_shape (tree.Directory own) entries name inode is =
    let same : own ≡ entries = cc is in
    ap (λ (es : List (List ℕ × ℕ)). Directory (insert_entry (slice_cmp nat_cmp) es name inode)) same
named_shape (tree.Regular bytes) entries name inode is = absurd (cc is)
named_shape (tree.Link target) entries name inode is = absurd (cc is)

-- the tables without the row, in tables where the row's name has its use
module _ (t : Tables) (c : Content) (there : IsTrue (is_some (name_at t c.name_id))) (free : list_any (is_entry t c.parent (bytes_of_name t c.name_id)) t.contents ≡ false)
    (d : Inode) (parent : d.id ≡ c.parent) (kind : d.kind ≡ kinds.Directory) where
  abbrev put_there : Tables
  put_there = record t { contents = put by_entry c t.contents }

  abbrev bytes : List ℕ
  bytes = bytes_of_name t c.name_id

  others : (x : Inode) → is_eq (nat_cmp d.id x.id) ≡ false → node_of_row put_there x ≡ node_of_row t x
  others x apart_ids =
      let entries : entries_in put_there x.id ≡ entries_in t x.id =
      entries_other t c x.id (ap (λ n. n == x.id) (sym parent) ∙ sym (is_eq-nat_cmp d.id x.id) ∙ apart_ids) in
      let content : content_of_row put_there x ≡ content_of_row t x =
      (λ i. elim x.kind [ kinds.Directory ↦ Directory (entries i) | kinds.Regular ↦ Regular x.size | kinds.Link ↦ Link (target_in t x.id) ]) in
      λ i. record (node_of_row t x) { content = content i }

  alike : (node : Node) → shape_of_node node ≡ node_of_row t d → shape_of_node (entered bytes c.inode node) ≡ node_of_row put_there d
  alike node shape =
      let content : shape_of_content node.content ≡ Directory (entries_in t d.id) =
      ap (λ (s : NodeShape). s.content) shape ∙ ap (content_of_kind t d) kind in
      let own : entries_in put_there d.id ≡ insert_entry (slice_cmp nat_cmp) (entries_in t d.id) bytes c.inode =
      subst (λ id. entries_in put_there id ≡ insert_entry (slice_cmp nat_cmp) (entries_in t id) bytes c.inode) (sym parent) (entries_own t c there free) in
      let now_content : shape_of_content (named bytes c.inode node.content) ≡ content_of_row put_there d =
      named_shape node.content (entries_in t d.id) bytes c.inode content ∙ ap Directory (sym own) ∙ ap (content_of_kind put_there d) (sym kind) in
      λ i. record (shape i) { content = now_content i }

  Represents-put_entry : (whole : Tree) → IsTrue (rises by_inode t.inodes) → Represents t whole → inode_at t d.id ≡ Some d
      → Represents put_there (change_node d.id (entered bytes c.inode) whole)
  Represents-put_entry whole rise same found =
      changed_represents t put_there whole d d (entered bytes c.inode) refl (sym (put_same by_inode nat_cmp_total d t.inodes rise found)) rise same found others alike

-- what is needed of the tables, the directory and the name
module _ (told t : Tables) (whole : Tree) (d : Inode) (more : Raised) (name : List ℕ) (inode : ℕ) (s : Stands told t whole (inode ∷ [])) (used : raised t name ≡ Some more)
    (there : inode_at t d.id ≡ Some d) (kind : d.kind ≡ kinds.Directory) (free : list_any (is_entry t d.id name) t.contents ≡ false)
    (not_root : (inode == root) ≡ false) (number : IsTrue (nat_lt inode s.p.next_inode)) (child : IsTrue (has_inode any_kind t inode)) where
  abbrev raised_name : IsRaise t s.p (inode ∷ []) [] more name
  raised_name = raise t s.p d more name inode 0 [] [] s.owes refl used there kind free not_root number

  abbrev with_name : Tables
  with_name = entering.named t s.p d more name inode 0 [] [] s.owes refl used there kind free not_root number

  abbrev new : Content
  new = entry t s.p d more name inode 0 [] [] s.owes refl used there kind free not_root number

  free_now : list_any (is_entry with_name d.id (bytes_of_name with_name raised_name.row.id)) t.contents ≡ false
  free_now = free_after t s.p d more name inode 0 [] [] s.owes refl used there kind free not_root number

  abbrev pub after : Tables
  after = record with_name { contents = put by_entry new t.contents }

  last : ℕ → List Change
  last id = changes.PutContent (record { parent = d.id; name_id = id; inode = inode }) ∷ []

  pub after_is : tables_after (more.changes ++ changes.PutContent (record { parent = d.id; name_id = more.id; inode = inode }) ∷ []) t ≡ after
  unfolding last
  after_is =
      sym (tables_after-tables_after more.changes (last more.id) t) ∙ ap (tables_after (last more.id)) raised_name.after
      ∙ ap (λ id. tables_after (last id) with_name) (sym raised_name.id)

  row_there : name_at with_name raised_name.row.id ≡ Some raised_name.row
  row_there = row_at-put_same by_name nat_cmp_total raised_name.row t.names

  bytes_are : bytes_of_name with_name raised_name.row.id ≡ name
  bytes_are = ap (λ (found : Option Name). unwrap_or (option_map (λ (n : Name). n.name) found) []) row_there ∙ raised_name.bytes

  Represents-named : Represents with_name whole
  Represents-named =
      let named_only : Tables = record t { names = put by_name raised_name.row t.names } in
      subst (λ (q : Option Parameters). Represents (record named_only { params = q }) whole) s.owes.made
      (Represents-names t (put by_name raised_name.row t.names) (λ x. true) (any_name t) (KeepsBytes-put t raised_name.row raised_name.kept) s.owes.rows.entries s.owes.rows.attrs whole s.same)

  pub Stands-after : Stands told after (change_node d.id (entered name inode) whole) []
  Stands-after = record {
    p = record s.p { next_name = raised_name.next };
    owes =
        Owes-put_content with_name new free_now (record s.p { next_name = raised_name.next }) [] [] raised_name.owes
        (and_from (has_inode is_directory with_name d.id) (is_some (name_at with_name raised_name.row.id))
        (ap (λ (found : Option Inode). elim found [ Some r ↦ is_directory r.kind | None ↦ false ]) there ∙ ap is_directory kind)
        (ap is_some row_there))
        not_root number;
    children = list_all-put by_entry (λ (c : Content). has_inode any_kind t c.inode) new t.contents child s.children;
    same =
        subst (λ (text : List ℕ). Represents after (change_node d.id (entered text inode) whole)) bytes_are
        (Represents-put_entry with_name new (ap is_some row_there) free_now d refl kind whole s.owes.ordered.inodes Represents-named there);
    unique = raised_name.unique s.unique;
    rest = leaves_params told t after s.p (record s.p { next_name = raised_name.next }) s.rest s.owes.made refl refl (omega arith) raised_name.least refl refl refl refl;
  }

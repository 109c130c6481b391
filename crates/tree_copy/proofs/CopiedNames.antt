-- The names of a copy: the source's own node and entry, and then all that is visited.
use Rattle.std.proofs.Common.{◌≡◌, ◌<◌, ℕ, List, [], ◌∷◌, ◌++◌, Bool, true, false, Option, None, Some, refl, sym, ap, ◌∙◌, subst, arith, eqb-true, lt-ltb}
use Rattle.std.proofs.lemmas.Bool.{and_parts, both_ways}
use Rattle.std.proofs.lemmas.List.{append_assoc}
use Rattle.std.specs.BTreeMap.{is_at}
use Rattle.std.specs.Cmp.{nat_cmp_total}
use Rattle.std.specs.Cmp.Lexicographic.{slice_cmp}
use Rattle.std.specs.List.{list_any}
use Rattle.std.specs.Ordering.{nat_cmp}
use Rattle.std.specs.Prelude.{IsTrue, ◌==◌, is_some, nat_lt, option_and_then, option_map}
use Rattle.op_frames.specs.declared.operation.Op.TheVariants as ops
use Rattle.s3_base.specs.Numbers.{root}
use Rattle.s3_base.specs.declared.node_kind.Kind.TheVariants as kinds
use Rattle.plain_tree.specs.Below.{at_and_below}
use Rattle.plain_tree.specs.Checks.{directory_check, first_failure, free_check, node_check}
use Rattle.plain_tree.specs.Entries.{add_entry, entry_at, is_folder}
use Rattle.plain_tree.specs.Operations.{checks, effect}
use Rattle.plain_tree.specs.Tree.{Node, Tree, node_at}
use Rattle.plain_tree.specs.WellFormed.{IsWellFormed}
use Rattle.s3_rows.specs.declared.change.Change.{Change}
use Rattle.s3_rows.specs.declared.change.Change.TheVariants as changes
use Rattle.s3_rows.specs.declared.lists.NamedEntry.{NamedEntry}
use Rattle.s3_rows.specs.Rows.{Content, Inode}
use Rattle.s3_rows.specs.Keyed.{row_at}
use Rattle.s3_rows.specs.Tables.{Tables, by_entry, by_inode}
use Rattle.s3_rows.specs.Batches.{tables_after}
use Rattle.s3_rows.specs.Selections.{by_entry_name, inode_at, named_entries}
use Rattle.s3_rows.specs.Validity.{IsValid, HasUniqueNames, any_kind, has_inode, is_directory}
use Rattle.row_lemmas.proofs.Tests.{is_eq-nat_cmp}
use Rattle.row_lemmas.proofs.Keyed.Put.{list_all-put, row_at-put_other, row_at-put_same}
use Rattle.row_lemmas.proofs.Tables.{tables_after-tables_after}
use Rattle.tree_laws.proofs.Node.Kind.{entry_in, free_is, holds_directory, node_there}
use Rattle.tree_laws.proofs.Node.Reading.{lookup_below_next}
use Rattle.tree_laws.proofs.Walk.Passed.{can_copy}
use Rattle.tree_laws.proofs.WellFormed.{IsWellFormed-effect}
use Rattle.tree_rows.specs.Shapes.{NodeShape, node_of_row, shape_of_node, Represents}
use Rattle.tree_rows.proofs.Listed.{is_entry}
use Rattle.tree_rows.proofs.Shaped.{entry_of_shape, entry_there, lookup_made}
use Rattle.tree_rows.proofs.Validity.Tables.{IsValid_from_tree}
use Rattle.tree_rows.proofs.Whole.{content_of_kind, folder_is, number_of}
use Rattle.ref_counts.specs.Names.{Raised, raised}
use Rattle.ref_counts.proofs.Rest.{LeavesBlocks}
use Rattle.row_steps.specs.Owed.{Owes}
use Rattle.row_steps.specs.RowChanges.{entering, touched_row}
use Rattle.row_steps.proofs.Entering as entered_rows
use Rattle.row_steps.proofs.Entering.{HasUniqueNames-entering, Owes-entering, Represents-entering, entry, raise}
use Rattle.row_steps.proofs.Living.{FindsChildren, FindsChildren-IsValid, FindsChildren-put}
use Rattle.row_steps.proofs.Owed.Ends.{HasPremises-Owes, Owes-IsValid}
use Rattle.row_steps.proofs.Owed.Raised.{IsRaise}
use Rattle.row_steps.proofs.Place.{is_entry_none, kind_there}
use Rattle.tree_copy.specs.CopiedRows.{AreVisits, AreVisitsOf, Visit, all_seen, copied_row, entry_copied, is_visited, names_copied, names_fit, node_copied, node_fits, source_copied, source_fits, visits_copied, visits_fit, with_use}
use Rattle.tree_copy.specs.CopySteps.{AreNamesOf}
use Rattle.tree_copy.specs.PartialCopies.{begun, without_entries}
use Rattle.tree_copy.proofs.CopiedAttrs.{attributes_found}
use Rattle.tree_copy.proofs.CopiedNode.{NodeComes, node_comes}
use Rattle.tree_copy.proofs.PartialSteps.{IsPartial-first}
use Rattle.tree_copy.proofs.Stands.{Stands, finds_entries, leaves_params, next_is}
use Rattle.tree_copy.proofs.Visits.{IsOnTheWay, node_of_found, row_of_folder, some_of, visits_come}
use Rattle.tree_copy.proofs.WholeCopy.{whole_copy}

-- ---- an entry that comes to a directory that is touched

module _ (told t : Tables) (whole : Tree) (d : Inode) (more : Raised) (name : List ℕ) (inode now : ℕ) (s : Stands told t whole (inode ∷ [])) (used : raised t name ≡ Some more)
    (there : inode_at t d.id ≡ Some d) (kind : d.kind ≡ kinds.Directory) (free : list_any (is_entry t d.id name) t.contents ≡ false)
    (not_root : (inode == root) ≡ false) (number : IsTrue (nat_lt inode s.p.next_inode)) (child : IsTrue (has_inode any_kind t inode)) where
  raised_name : IsRaise t s.p (inode ∷ []) [] more name
  raised_name = raise t s.p d more name inode now [] [] s.owes refl used there kind free not_root number

  abbrev end : Tables
  end = entered_rows.after t s.p d more name inode now [] [] s.owes refl used there kind free not_root number

  end_is : tables_after (entering d more inode now) t ≡ end
  end_is = entered_rows.after_is t s.p d more name inode now [] [] s.owes refl used there kind free not_root number

  children_after : FindsChildren end
  children_after =
      FindsChildren-put (record end { inodes = t.inodes }) d (touched_row now d) there refl refl
      (list_all-put by_entry (λ (c : Content). has_inode any_kind t c.inode) (entry t s.p d more name inode now [] [] s.owes refl used there kind free not_root number) t.contents child s.children)

  rest_after : LeavesBlocks told end
  rest_after =
      let raise_is = raise t s.p d more name inode now [] [] s.owes refl used there kind free not_root number in
      leaves_params told t end s.p (record s.p { next_name = raise_is.next }) s.rest s.owes.made refl refl (omega arith) raise_is.least refl refl refl refl

  pub Stands-entering : Stands told (tables_after (entering d more inode now) t) (add_entry d.id name inode now whole) []
  Stands-entering = record {
    p = record s.p { next_name = (raise t s.p d more name inode now [] [] s.owes refl used there kind free not_root number).next };
    owes = Owes-entering t s.p d more name inode now [] [] s.owes refl used there kind free not_root number;
    children = subst (λ (u : Tables). FindsChildren u) (sym end_is) children_after;
    same = Represents-entering t s.p d more name inode now [] [] s.owes refl used there kind free not_root number whole s.same;
    unique = HasUniqueNames-entering t s.p d more name inode now [] [] s.owes refl used there kind free not_root number s.unique;
    rest = subst (λ (u : Tables). LeavesBlocks told u) (sym end_is) rest_after;
  }

-- ---- the source, and all below

-- a directory may have a new entry under the name
pub record TakesCopy (whole : Tree) (parent : ℕ) (name : List ℕ) : Type 0 where
  pub there : node_check (node_at whole parent) ≡ None
  pub folder : directory_check (node_at whole parent) ≡ None
  pub free : free_check (node_at whole parent) name ≡ None

pub takes_copy : (whole : Tree) (pass source parent : ℕ) (name : List ℕ) → first_failure (checks whole pass (ops.CopyTree source parent name)) ≡ None → TakesCopy whole parent name
takes_copy whole pass source parent name passes =
    let can = can_copy whole pass source parent name passes in
    record { there = can.there; folder = can.folder; free = can.free }

-- valid tables of a well-formed tree of which a directory may be copied
module _ (told : Tables) (whole : Tree) (v : IsValid told) (unique : HasUniqueNames told) (same : Represents told whole) (well : IsWellFormed whole)
    (source parent now : ℕ) (name : List ℕ) (can : TakesCopy whole parent name)
    (directory top : Inode) (found : inode_at told parent ≡ Some directory) (top_found : inode_at told source ≡ Some top) where
  owes : Owes told v.params [] []
  owes = Owes-IsValid told v.params v v.is_made

  abbrev pub start : Stands told told whole []
  start = record {
    p = v.params;
    owes = Owes-IsValid told v.params v v.is_made;
    children = FindsChildren-IsValid told v;
    same = same;
    unique = unique;
    rest = record { params = refl; next_inode = omega arith; next_name = omega arith; inode_blocks = refl; blocks = refl; objects = refl; slots = refl };
  }

  pub number : v.params.next_inode ≡ whole.next_inode
  number = next_is told told whole [] start

  pub fits_parent : parent < whole.next_inode
  fits_parent =
      let node = node_there (node_at whole parent) can.there in
      lookup_below_next parent 0 whole.nodes whole.next_inode node.0 well.nodes node.1

  folder_node : (node : Option Node) → IsTrue (is_folder node) → (n : Node) × (node ≡ Some n)
  folder_node None is = absurd (cc is)
  folder_node (Some n) is = (n, refl)

  pub above : root < whole.next_inode
  above =
      let node = folder_node (node_at whole root) well.tree.is_rooted in
      lookup_below_next root 0 whole.nodes whole.next_inode node.0 well.nodes node.1

  top_id : source ≡ top.id
  top_id = number_of told source top top_found

  top_there : inode_at told top.id ≡ Some top
  top_there = ap (inode_at told) (sym top_id) ∙ top_found

  parent_id : parent ≡ directory.id
  parent_id = number_of told parent directory found

  node : (n : Node) × (node_at whole top.id ≡ Some n) × (shape_of_node n ≡ node_of_row told top)
  node = node_of_found told whole same top.id top top_there

  abbrev next : ℕ
  next = whole.next_inode

  abbrev with_node : Tables
  with_node = tables_after (node_copied told whole.next_inode now top told) told

  module _ (fits : IsTrue (source_fits told whole.next_inode now top name)) where
    abbrev copy : Node
    copy = begun now (without_entries node.0.content) node.0

    parts : IsTrue (node_fits told whole.next_inode now top told) × IsTrue (is_some (raised with_node name))
    parts = and_parts (node_fits told whole.next_inode now top told) (is_some (raised with_node name)) fits

    comes : NodeComes told told with_node whole whole.next_inode now top (begun now (without_entries node.0.content) node.0)
    comes =
        subst (λ k. IsTrue (node_fits told k now top told) → NodeComes told told (tables_after (node_copied told k now top told) told) whole k now top copy) number
        (node_comes told told whole v.params owes top node.0 now top_there node.2 start well.nodes well.names (lt-ltb root v.params.next_inode (omega (arith, above, number)))
        (attributes_found (is_at (nat_cmp top.id)) whole.nodes node.0 well.attributes node.1)) parts.0

    kind : directory.kind ≡ kinds.Directory
    kind = kind_there told whole v same parent directory found can.there can.folder

    there : inode_at with_node directory.id ≡ Some directory
    there =
        ap (row_at by_inode directory.id) comes.inodes
        ∙ row_at-put_other by_inode nat_cmp_total directory.id (copied_row whole.next_inode now top) told.inodes (is_eq-nat_cmp directory.id whole.next_inode ∙ apart)
        ∙ ap (inode_at told) (sym parent_id) ∙ found
      where
        by_case : (b : Bool) → (directory.id == whole.next_inode) ≡ b → b ≡ false
        by_case true here = absurd (omega (arith, eqb-true directory.id whole.next_inode here, parent_id, fits_parent))
        by_case false here = refl

        apart : (directory.id == whole.next_inode) ≡ false
        apart = by_case (directory.id == whole.next_inode) refl

    none : entry_at comes.tree directory.id name ≡ None
    none =
        ap (λ k. entry_at comes.tree k name) (sym parent_id)
        ∙ ap (entry_in name) (comes.more.others parent (λ here. omega (arith, here, fits_parent))) ∙ free_is (node_at whole parent) name can.free

    free : list_any (is_entry with_node directory.id name) with_node.contents ≡ false
    free =
        is_entry_none with_node comes.tree comes.stands.same (finds_entries told with_node comes.tree (whole.next_inode ∷ []) comes.stands) directory.id
        (ap (λ (row : Option Inode). elim row [ Some x ↦ is_directory x.kind | None ↦ false ]) there ∙ ap is_directory kind) name none

    not_root : (whole.next_inode == root) ≡ false
    not_root = by_case (whole.next_inode == root) refl
      where
        by_case : (b : Bool) → (whole.next_inode == root) ≡ b → b ≡ false
        by_case true here = absurd (omega (arith, eqb-true whole.next_inode root here, above))
        by_case false here = refl

    below : IsTrue (nat_lt whole.next_inode comes.stands.p.next_inode)
    below =
        lt-ltb whole.next_inode comes.stands.p.next_inode
        (omega (arith, next_is told with_node comes.tree (whole.next_inode ∷ []) comes.stands, comes.more.next_inode))

    child : IsTrue (has_inode any_kind with_node whole.next_inode)
    child =
        ap (λ (row : Option Inode). elim row [ Some x ↦ true | None ↦ false ])
        (ap (row_at by_inode whole.next_inode) comes.inodes ∙ row_at-put_same by_inode nat_cmp_total (copied_row whole.next_inode now top) told.inodes)

    source_step : IsOnTheWay told whole parent now name (top.id ∷ []) [] (tables_after (source_copied told whole.next_inode now top directory name) told)
    source_step =
        let more = some_of (raised with_node name) parts.1 in
        let entry_changes : List Change = entry_copied directory.id name whole.next_inode with_node in
        let touch : List Change = changes.PutInode (touched_row now directory) ∷ [] in
        let entry_is : entry_changes ++ touch ≡ entering directory more.0 whole.next_inode now =
        ap (λ (m : Option Raised). with_use m (λ name_id. changes.PutContent (record { parent = directory.id; name_id = name_id; inode = whole.next_inode }) ∷ []) ++ touch) more.1
        ∙ append_assoc more.0.changes (changes.PutContent (record { parent = directory.id; name_id = more.0.id; inode = whole.next_inode }) ∷ []) touch in
        let tables : tables_after (entering directory more.0 whole.next_inode now) with_node ≡ tables_after (source_copied told whole.next_inode now top directory name) told =
        ap (λ (cs : List Change). tables_after cs with_node) (sym entry_is)
        ∙ tables_after-tables_after (node_copied told whole.next_inode now top told) (entry_changes ++ touch) told
        ∙ ap (λ (cs : List Change). tables_after cs told) (sym (append_assoc (node_copied told whole.next_inode now top told) entry_changes touch)) in
        record {
          tree = add_entry parent name whole.next_inode now comes.tree;
          stands =
              subst (λ (w : Tables). Stands told w (add_entry parent name whole.next_inode now comes.tree) []) tables
              (subst (λ k. Stands told (tables_after (entering directory more.0 whole.next_inode now) with_node) (add_entry k name whole.next_inode now comes.tree) []) (sym parent_id)
              (Stands-entering told with_node comes.tree directory more.0 name whole.next_inode now comes.stands more.1 there kind free not_root below child));
          partial = IsPartial-first whole comes.tree top.id parent now name node.0 fits_parent comes.more node.1;
        }

  -- ---- all of it

  abbrev pub names_after : List Visit → Tables
  names_after visits = tables_after (names_copied told whole.next_inode now top directory name visits) told

  -- with the visits so far
  pub way_so_far : (visits : List Visit) → AreVisits told (top.id ∷ []) [] visits → IsTrue (names_fit told whole.next_inode now top directory name visits)
      → IsOnTheWay told whole parent now name (all_seen (top.id ∷ []) visits) visits (tables_after (names_copied told whole.next_inode now top directory name visits) told)
  way_so_far visits each fits =
      let first : List Change = source_copied told whole.next_inode now top directory name in
      let rest : List Change = visits_copied told whole.next_inode now (top.id ∷ []) visits (tables_after first told) in
      let fit = and_parts (source_fits told whole.next_inode now top name) (visits_fit told whole.next_inode now (top.id ∷ []) visits (tables_after first told)) fits in
      subst (λ (w : Tables). IsOnTheWay told whole parent now name (all_seen (top.id ∷ []) visits) visits w) (tables_after-tables_after first rest told)
      (visits_come told whole v.params owes same well parent now name fits_parent above visits (tables_after first told) (top.id ∷ []) [] (source_step fit.0) each fit.1)

  module _ (visits : List Visit) (are : AreVisitsOf told (at_and_below whole source) top.id visits)
      (fits : IsTrue (names_fit told whole.next_inode now top directory name visits)) where
    pub way : IsOnTheWay told whole parent now name (at_and_below whole source) visits (names_after visits)
    way =
        subst (λ (seen : List ℕ). IsOnTheWay told whole parent now name seen visits (names_after visits)) are.order_is (way_so_far visits are.each fits)

    module _ (pass : ℕ) (passes : first_failure (checks whole pass (ops.CopyTree source parent name)) ≡ None) where
      abbrev goal : Tree
      goal = effect whole pass (ops.CopyTree source parent name) now

      pub well_goal : IsWellFormed goal
      well_goal = IsWellFormed-effect whole pass now (ops.CopyTree source parent name) well passes

      -- an entry of the tree is listed in the tables
      listed : (x y : ℕ) (other : List ℕ) → entry_at whole x other ≡ Some y → IsTrue (has_inode is_directory told x) × IsTrue (is_some (row_at by_entry_name other (named_entries told x)))
      listed x y other is = by_folder (is_folder (node_at whole x)) refl
        where
          no_entry : (found : Option Node) → is_folder found ≡ false → entry_in other found ≡ Some y → ⊥
          no_entry None file is = cc is
          no_entry (Some n) file is = both_ways (is_folder (Some n)) file (holds_directory n.content other y is)

          some_mapped : (row : Option NamedEntry) → option_map (λ (e : NamedEntry). e.row.inode) row ≡ Some y → IsTrue (is_some row)
          some_mapped None none = absurd (cc none)
          some_mapped (Some e) some = refl

          by_folder : (b : Bool) → is_folder (node_at whole x) ≡ b → IsTrue (has_inode is_directory told x) × IsTrue (is_some (row_at by_entry_name other (named_entries told x)))
          by_folder false file = absurd (no_entry (node_at whole x) file is)
          by_folder true folder =
              let there : IsTrue (has_inode is_directory told x) = sym (folder_is told whole same x) ∙ folder in
              let d = row_of_folder told x there in (
                there,
                some_mapped (row_at by_entry_name other (named_entries told x))
                    (ap (λ k. option_map (λ (e : NamedEntry). e.row.inode) (row_at by_entry_name other (named_entries told k))) (number_of told x d.0 d.1)
                    ∙ sym (lookup_made (λ (e : NamedEntry). e.name) (λ (e : NamedEntry). e.row.inode) (is_at (slice_cmp nat_cmp other)) (named_entries told d.0.id))
                    ∙ sym (ap (λ k. entry_of_shape (content_of_kind told d.0 k) other) d.2)
                    ∙ sym (ap (λ (row : Option Inode). option_and_then (λ (n : NodeShape). entry_of_shape n.content other) (option_map (node_of_row told) row)) d.1)
                    ∙ sym (entry_there told whole same x other) ∙ is),
              )

      pub tree_is : way.tree ≡ goal
      tree_is =
          whole_copy whole way.tree source parent now name (is_visited visits) fits_parent way.partial well.nodes well.names well_goal.nodes
          (λ x y other among is.
          let there = listed x y other is in
          are.complete x other among there.0 there.1)

      pub Stands-names : Stands told (names_after visits) goal []
      Stands-names = subst (λ (t : Tree). Stands told (names_after visits) t []) tree_is way.stands

      pub valid_names : IsValid (names_after visits)
      valid_names =
          IsValid_from_tree (names_after visits) goal (HasPremises-Owes (names_after visits) way.stands.p way.stands.owes)
          (subst (λ (t : Tree). Represents (names_after visits) t) tree_is way.stands.same) well_goal

      pub AreNamesOf-names : AreNamesOf told (names_after visits) goal
      AreNamesOf-names = record {
        valid = valid_names;
        represents = subst (λ (t : Tree). Represents (names_after visits) t) tree_is way.stands.same;
        unique = way.stands.unique;
        params = way.stands.rest.params;
        next_inode = way.stands.rest.next_inode;
        next_name = way.stands.rest.next_name;
        inode_blocks = way.stands.rest.inode_blocks;
        blocks = way.stands.rest.blocks;
        objects = way.stands.rest.objects;
        slots = way.stands.rest.slots;
      }

-- One entry after the other: what it names comes, or counts one link more, and then the entry itself.
use Rattle.std.proofs.Common.{◌≡◌, ◌<◌, ℕ, ◌+◌, List, [], ◌∷◌, ◌++◌, length, Bool, true, false, cond, Option, None, Some, refl, sym, ap, ◌∙◌, subst, arith, eq-eqb, eqb-true, lt-ltb}
use Rattle.std.proofs.lemmas.Bool.{and_parts}
use Rattle.std.proofs.lemmas.List.{append-nil, append_assoc}
use Rattle.std.specs.BTreeMap.{is_at}
use Rattle.std.specs.Cmp.{nat_cmp_total}
use Rattle.std.specs.Cmp.Lexicographic.{slice_cmp}
use Rattle.std.specs.List.{list_any}
use Rattle.std.specs.Ordering.{is_eq, nat_cmp}
use Rattle.std.specs.Prelude.{IsTrue, ◌&&◌, ◌||◌, ◌==◌, is_some, nat_lt, option_and_then, option_map}
use Rattle.s3_base.specs.Numbers.{root}
use Rattle.s3_base.specs.declared.node_kind.Kind.{Kind}
use Rattle.s3_base.specs.declared.node_kind.Kind.TheVariants as kinds
use Rattle.plain_tree.specs.Below.{is_among}
use Rattle.plain_tree.specs.Entries.{entry_at, is_folder}
use Rattle.plain_tree.specs.Subtrees.{copy_number}
use Rattle.plain_tree.specs.Tree as tree
use Rattle.plain_tree.specs.Tree.{Node, Tree, change_node, entry_of, node_at}
use Rattle.plain_tree.specs.WellFormed.{IsWellFormed}
use Rattle.s3_rows.specs.declared.change.Change.{Change}
use Rattle.s3_rows.specs.declared.change.Change.TheVariants as changes
use Rattle.s3_rows.specs.declared.lists.NamedEntry.{NamedEntry}
use Rattle.s3_rows.specs.Rows.{Inode, Parameters}
use Rattle.s3_rows.specs.Keyed.{put, row_at}
use Rattle.s3_rows.specs.Tables.{Tables, by_inode}
use Rattle.s3_rows.specs.Batches.{tables_after}
use Rattle.s3_rows.specs.Selections.{by_entry_name, inode_at, named_entries}
use Rattle.s3_rows.specs.Validity.{any_kind, has_inode, is_directory}
use Rattle.row_lemmas.proofs.Keyed.Put.{map-put_there}
use Rattle.row_lemmas.proofs.Tables.{tables_after-tables_after}
use Rattle.tree_laws.proofs.Copy.Nodes.{place_within}
use Rattle.tree_laws.proofs.Node.Kind.{entry_in}
use Rattle.tree_rows.specs.Shapes.{NodeShape, node_of_row, shape_of_node, shape_of_tables, Represents}
use Rattle.tree_rows.proofs.Listed.{is_entry}
use Rattle.tree_rows.proofs.Replaced.{node_of}
use Rattle.tree_rows.proofs.Shaped.{entry_of_shape, entry_there, found_alike, lookup_made}
use Rattle.tree_rows.proofs.Whole.{content_of_kind, folder_is, number_of}
use Rattle.ref_counts.specs.Names.{Raised, raised}
use Rattle.row_steps.specs.Owed.{Owes}
use Rattle.row_steps.proofs.Living.{FindsChildren-put}
use Rattle.row_steps.proofs.Owed.Inodes.{Owes-put_inode_more}
use Rattle.row_steps.proofs.Place.{is_entry_none}
use Rattle.tree_copy.specs.CopiedRows.{AreVisits, IsVisit, Visit, all_seen, child_copied, child_fits, child_of_visit, entry_copied, is_visited, link_counted, node_copied, node_fits, seen_after, visit_copied, visit_fits, visits_copied, visits_fit, with_use}
use Rattle.tree_copy.specs.PartialCopies.{HasCopy, IsContentOf, IsPartial, also_entry, begun, entered, without_entries}
use Rattle.tree_copy.proofs.CopiedAttrs.{attributes_found}
use Rattle.tree_copy.proofs.CopiedNode.{NodeComes, node_comes}
use Rattle.tree_copy.proofs.PartialSteps.{IsPartial-entry, IsPartial-node}
use Rattle.tree_copy.proofs.SameEntries.{among_first, among_last, place_last, place_none, place_stays}
use Rattle.tree_copy.proofs.Stands.{Stands, Stands-after, after, after_is, finds_entries, next_is}

-- ---- words

pub some_of : {X : Type 0} (found : Option X) → IsTrue (is_some found) → (x : X) × (found ≡ Some x)
some_of None some = absurd (cc some)
some_of (Some x) some = (x, refl)

folder_row : (found : Option Inode) → IsTrue (elim found [ Some r ↦ is_directory r.kind | None ↦ false ]) → (d : Inode) × (found ≡ Some d) × (d.kind ≡ kinds.Directory)
folder_row None is = absurd (cc is)
folder_row (Some d) is = (d, refl, by_kind d.kind is)
  where
    by_kind : (kind : Kind) → IsTrue (is_directory kind) → kind ≡ kinds.Directory
    by_kind kinds.Directory own = refl
    by_kind kinds.Regular own = absurd (cc own)
    by_kind kinds.Link own = absurd (cc own)

-- the row of a directory
pub row_of_folder : (t : Tables) (x : ℕ) → IsTrue (has_inode is_directory t x) → (d : Inode) × (inode_at t x ≡ Some d) × (d.kind ≡ kinds.Directory)
row_of_folder t x is = folder_row (inode_at t x) is

-- the row of a node
pub row_of_node : (t : Tables) (whole : Tree) → Represents t whole → (x : ℕ) (node : Node) → node_at whole x ≡ Some node → (r : Inode) × (inode_at t x ≡ Some r)
row_of_node t whole same x node is = by_row (inode_at t x) refl
  where
    by_row : (found : Option Inode) → inode_at t x ≡ found → (r : Inode) × (inode_at t x ≡ Some r)
    by_row None none =
        let clash : Some (shape_of_node node) ≡ None =
        ap (option_map shape_of_node) (sym is) ∙ found_alike t whole same x ∙ ap (option_map (node_of_row t)) none in
        absurd (cc clash)
    by_row (Some r) found = (r, found)

-- the node of a row
pub node_of_found : (t : Tables) (whole : Tree) → Represents t whole → (x : ℕ) (r : Inode) → inode_at t x ≡ Some r
    → (node : Node) × (node_at whole x ≡ Some node) × (shape_of_node node ≡ node_of_row t r)
node_of_found t whole same x r is = node_of (node_at whole x) (node_of_row t r) (found_alike t whole same x ∙ ap (option_map (node_of_row t)) is)

-- the entry that a directory is listed with is the tree's
pub listed_entry : (t : Tables) (whole : Tree) → Represents t whole → (x : ℕ) (name : List ℕ) (e : NamedEntry) → IsTrue (has_inode is_directory t x)
    → row_at by_entry_name name (named_entries t x) ≡ Some e → entry_at whole x name ≡ Some e.row.inode
listed_entry t whole same x name e folder listed =
    let d = row_of_folder t x folder in
    let r : Inode = d.0 in
    entry_there t whole same x name
    ∙ ap (λ (found : Option Inode). option_and_then (λ (node : NodeShape). entry_of_shape node.content name) (option_map (node_of_row t) found)) d.1
    ∙ ap (λ k. entry_of_shape (content_of_kind t r k) name) d.2
    ∙ lookup_made (λ (y : NamedEntry). y.name) (λ (y : NamedEntry). y.row.inode) (is_at (slice_cmp nat_cmp name)) (named_entries t r.id)
    ∙ ap (λ k. option_map (λ (y : NamedEntry). y.row.inode) (row_at by_entry_name name (named_entries t k))) (sym (number_of t x r d.1))
    ∙ ap (option_map (λ (y : NamedEntry). y.row.inode)) listed

or_all : (b : Bool) → (b || true) ≡ true
or_all true = refl
or_all false = refl

pub list_any-last : {X : Type 0} (test : X → Bool) (xs : List X) (x : X) → list_any test (xs ++ x ∷ []) ≡ (list_any test xs || test x)
list_any-last test [] x = by_case (test x)
  where
    by_case : (b : Bool) → (b || false) ≡ b
    by_case true = refl
    by_case false = refl
list_any-last test (y ∷ xs) x = ap (λ b. test y || b) (list_any-last test xs x) ∙ by_case (test y) (list_any test xs) (test x)
  where
    by_case : (a b c : Bool) → (a || (b || c)) ≡ ((a || b) || c)
    by_case true b c = refl
    by_case false b c = refl

-- what is visited with one visit more
visited_more : (done : List Visit) (v : Visit) → also_entry (is_visited done) v.directory v.entry.name ≡ is_visited (done ++ v ∷ [])
visited_more done v = λ i x other. sym (list_any-last (λ w. x == w.directory && is_eq (slice_cmp nat_cmp other w.entry.name)) done v) i

-- ---- one link more

module _ (told u : Tables) (t : Tree) (s : Stands told u t []) (row : Inode) (there : inode_at u row.id ≡ Some row) where
  abbrev counted : Inode
  counted = record row { refcount = row.refcount + 1 }

  abbrev pub linked : Tables
  linked = record u { inodes = put by_inode counted u.inodes }

  pub Stands-linked : Stands told linked t (row.id ∷ [])
  Stands-linked = record {
    p = s.p;
    owes = Owes-put_inode_more u s.p row counted [] [] s.owes there refl refl refl;
    children = FindsChildren-put u row counted there refl refl s.children;
    same =
        ap (λ (es : List (ℕ × NodeShape)). record (shape_of_tables u) { nodes = es })
        (map-put_there by_inode nat_cmp_total (λ (r : Inode). (r.id, node_of_row u r)) counted row u.inodes s.owes.ordered.inodes there refl) ∙ s.same;
    unique = s.unique;
    rest = record {
      params = s.rest.params;
      next_inode = s.rest.next_inode;
      next_name = s.rest.next_name;
      inode_blocks = s.rest.inode_blocks;
      blocks = s.rest.blocks;
      objects = s.rest.objects;
      slots = s.rest.slots;
    };
  }

-- ---- on the way

-- tables that represent a tree on the way of a copy
pub record IsOnTheWay (told : Tables) (whole : Tree) (parent now : ℕ) (name : List ℕ) (seen : List ℕ) (done : List Visit) (u : Tables) : Type 0 where
  pub tree : Tree
  pub stands : Stands told u tree []
  pub partial : IsPartial whole tree parent now name seen (is_visited done)

-- and where what the next entry names has come, and its link is owed
record IsBetween (told : Tables) (whole : Tree) (parent now : ℕ) (name : List ℕ) (before seen : List ℕ) (done : List Visit) (child : ℕ) (u : Tables) : Type 0 where
  tree : Tree
  stands : Stands told u tree (copy_number whole.next_inode before child ∷ [])
  partial : IsPartial whole tree parent now name seen (is_visited done)
  among : is_among seen child ≡ true
  number : copy_number whole.next_inode seen child ≡ copy_number whole.next_inode before child
  stays : (x : ℕ) → is_among before x ≡ true → (is_among seen x ≡ true) × (copy_number whole.next_inode seen x ≡ copy_number whole.next_inode before x)

module _ (told : Tables) (whole : Tree) (q : Parameters) (owes : Owes told q [] []) (same : Represents told whole) (well : IsWellFormed whole) (parent now : ℕ) (name : List ℕ)
    (fits : parent < whole.next_inode) (above : root < whole.next_inode) where
  abbrev next : ℕ
  next = whole.next_inode

  module _ (u : Tables) (seen : List ℕ) (done : List Visit) (v : Visit) (way : IsOnTheWay told whole parent now name seen done u) (is : IsVisit told seen v)
      (new : is_visited done v.directory v.entry.name ≡ false) where
    abbrev id : ℕ
    id = copy_number whole.next_inode seen v.child.id

    child_id : v.entry.row.inode ≡ v.child.id
    child_id = number_of told v.entry.row.inode v.child is.child

    child_there : inode_at told v.child.id ≡ Some v.child
    child_there = ap (inode_at told) (sym child_id) ∙ is.child

    names : entry_at whole v.directory v.entry.name ≡ Some v.child.id
    names = listed_entry told whole same v.directory v.entry.name v.entry is.folder is.named ∙ ap Some child_id

    next_number : way.stands.p.next_inode ≡ whole.next_inode + length seen
    next_number = next_is told u way.tree [] way.stands ∙ way.partial.next_inode

    above_root : IsTrue (nat_lt root way.stands.p.next_inode)
    above_root = lt-ltb root way.stands.p.next_inode (omega (arith, above, next_number))

    -- ---- what it names

    again : is_among seen v.child.id ≡ true → IsBetween told whole parent now name seen seen done v.child.id (tables_after (link_counted (inode_at u id)) u)
    again among =
        let copy : HasCopy whole way.tree now v.child.id id = way.partial.copies v.child.id among in
        let row = row_of_node u way.tree way.stands.same id (begun now copy.content copy.node) copy.is in
        let number : id ≡ row.0.id = number_of u id row.0 row.1 in
        let there : inode_at u row.0.id ≡ Some row.0 = ap (inode_at u) (sym number) ∙ row.1 in
        subst (λ (found : Option Inode). IsBetween told whole parent now name seen seen done v.child.id (tables_after (link_counted found) u)) (sym row.1)
        (record {
          tree = way.tree;
          stands = subst (λ k. Stands told (linked told u way.tree way.stands row.0 there) way.tree (k ∷ [])) (sym number) (Stands-linked told u way.tree way.stands row.0 there);
          partial = way.partial;
          among = among;
          number = refl;
          stays = λ x old. (old, refl);
        })

    first : is_among seen v.child.id ≡ false → IsTrue (node_fits told id now v.child u)
        → IsBetween told whole parent now name seen (seen ++ v.child.id ∷ []) done v.child.id (tables_after (node_copied told id now v.child u) u)
    first other fit =
        let node = node_of_found told whole same v.child.id v.child child_there in
        let number : way.stands.p.next_inode ≡ id = next_number ∙ sym (ap (λ k. whole.next_inode + k) (place_none seen v.child.id other)) in
        let comes : NodeComes told u (tables_after (node_copied told id now v.child u) u) way.tree id now v.child (begun now (without_entries node.0.content) node.0) =
        subst (λ k. IsTrue (node_fits told k now v.child u) → NodeComes told u (tables_after (node_copied told k now v.child u) u) way.tree k now v.child (begun now (without_entries node.0.content) node.0)) number
        (node_comes told u way.tree q owes v.child node.0 now child_there node.2 way.stands way.partial.ordered way.partial.names above_root
        (attributes_found (is_at (nat_cmp v.child.id)) whole.nodes node.0 well.attributes node.1)) fit in
        record {
          tree = comes.tree;
          stands = comes.stands;
          partial = IsPartial-node whole way.tree parent now name seen (is_visited done) fits way.partial comes.tree v.child.id node.0 comes.more node.1 other;
          among = among_last seen v.child.id v.child.id ∙ ap (λ b. is_among seen v.child.id || b) (eq-eqb v.child.id v.child.id refl) ∙ or_all (is_among seen v.child.id);
          number = ap (λ k. whole.next_inode + k) (place_last seen v.child.id other ∙ sym (place_none seen v.child.id other));
          stays = λ x old. (
            among_first seen (v.child.id ∷ []) x old,
            ap (λ k. whole.next_inode + k) (place_stays seen (v.child.id ∷ []) x old),
          );
        }

    child_comes : IsTrue (child_fits (is_among seen v.child.id) told id now v.child u)
        → IsBetween told whole parent now name seen (seen_after seen v) done v.child.id (tables_after (child_of_visit told whole.next_inode now seen v u) u)
    child_comes fit = by_case (is_among seen v.child.id) refl fit
      where
        by_case : (b : Bool) → is_among seen v.child.id ≡ b → IsTrue (child_fits b told id now v.child u)
            → IsBetween told whole parent now name seen (cond b seen (seen ++ v.child.id ∷ [])) done v.child.id (tables_after (child_copied b told id now v.child u) u)
        by_case true among fit = again among
        by_case false other fit = first other fit

    -- ---- the entry

    module _ (w : Tables) (now_seen : List ℕ) (between : IsBetween told whole parent now name seen now_seen done v.child.id w) where
      abbrev directory : ℕ
      directory = copy_number whole.next_inode seen v.directory

      moved : copy_number whole.next_inode now_seen v.directory ≡ directory
      moved = (between.stays v.directory is.seen_before).1

      seen_now : is_among now_seen v.directory ≡ true
      seen_now = (between.stays v.directory is.seen_before).0

      copy_of : HasCopy whole between.tree now v.directory (copy_number whole.next_inode now_seen v.directory)
      copy_of = between.partial.copies v.directory seen_now

      folder_of : (old content : tree.Content) (y : ℕ) → IsContentOf old content → entry_of old v.entry.name ≡ Some y → (n : Node) → n.content ≡ content → IsTrue (is_folder (Some n))
      folder_of (tree.Directory entries) content y own names n here = ap (λ c. is_folder (Some (record n { content = c }))) (here ∙ own.1)
      folder_of (tree.Regular bytes) content y own names n here = absurd (cc names)
      folder_of (tree.Link target) content y own names n here = absurd (cc names)

      node_folder : IsTrue (is_folder (node_at between.tree directory))
      node_folder =
          ap is_folder (ap (node_at between.tree) (sym moved) ∙ copy_of.is)
          ∙ folder_of copy_of.node.content copy_of.content v.child.id copy_of.content_is (ap (entry_in v.entry.name) (sym copy_of.was) ∙ names) (begun now copy_of.content copy_of.node) refl

      folder_there : IsTrue (has_inode is_directory w directory)
      folder_there = sym (folder_is w between.tree between.stands.same directory) ∙ node_folder

      row : (d : Inode) × (inode_at w directory ≡ Some d) × (d.kind ≡ kinds.Directory)
      row = row_of_folder w directory folder_there

      none : entry_at between.tree directory v.entry.name ≡ None
      none =
          ap (λ k. entry_at between.tree k v.entry.name) (sym moved) ∙ between.partial.entries v.directory v.entry.name seen_now
          ∙ ap (λ b. cond b (option_map (copy_number whole.next_inode now_seen) (entry_at whole v.directory v.entry.name)) None) new

      free : list_any (is_entry w directory v.entry.name) w.contents ≡ false
      free =
          is_entry_none w between.tree between.stands.same (finds_entries told w between.tree (id ∷ []) between.stands) directory folder_there v.entry.name none

      below : id < between.stands.p.next_inode
      below =
          omega (arith, between.number, place_within now_seen v.child.id between.among, between.partial.next_inode, next_is told w between.tree (id ∷ []) between.stands)

      not_root : (id == root) ≡ false
      not_root = by_case (id == root) refl
        where
          by_case : (b : Bool) → (id == root) ≡ b → b ≡ false
          by_case true here = absurd (omega (arith, eqb-true id root here, above))
          by_case false here = refl

      child_row : IsTrue (has_inode any_kind w id)
      child_row =
          let copy : HasCopy whole between.tree now v.child.id (copy_number whole.next_inode now_seen v.child.id) = between.partial.copies v.child.id between.among in
          let r = row_of_node w between.tree between.stands.same id (begun now copy.content copy.node) (ap (node_at between.tree) (sym between.number) ∙ copy.is) in
          ap (λ (found : Option Inode). elim found [ Some x ↦ true | None ↦ false ]) r.1

      entry_comes : IsTrue (is_some (raised w v.entry.name))
          → IsOnTheWay told whole parent now name now_seen (done ++ v ∷ []) (tables_after (entry_copied directory v.entry.name id w) w)
      entry_comes fit =
          let more = some_of (raised w v.entry.name) fit in
          let d : Inode = row.0 in
          let number : directory ≡ d.id = number_of w directory d row.1 in
          let there : inode_at w d.id ≡ Some d = ap (inode_at w) (sym number) ∙ row.1 in
          let free_there : list_any (is_entry w d.id v.entry.name) w.contents ≡ false = subst (λ k. list_any (is_entry w k v.entry.name) w.contents ≡ false) number free in
          let end : Tables =
          after told w between.tree d more.0 v.entry.name id between.stands more.1 there row.2 free_there not_root (lt-ltb id between.stands.p.next_inode below) child_row in
          let last : ℕ → List Change = λ k. more.0.changes ++ changes.PutContent (record { parent = k; name_id = more.0.id; inode = id }) ∷ [] in
          let tables : tables_after (entry_copied directory v.entry.name id w) w ≡ end =
          ap (λ (m : Option Raised). tables_after (with_use m (λ name_id. changes.PutContent (record { parent = directory; name_id = name_id; inode = id }) ∷ [])) w) more.1
          ∙ ap (λ k. tables_after (last k) w) number
          ∙ after_is told w between.tree d more.0 v.entry.name id between.stands more.1 there row.2 free_there not_root (lt-ltb id between.stands.p.next_inode below) child_row in
          let stands : Stands told end (change_node d.id (entered v.entry.name id) between.tree) [] =
          Stands-after told w between.tree d more.0 v.entry.name id between.stands more.1 there row.2 free_there not_root (lt-ltb id between.stands.p.next_inode below) child_row in
          let same_tree : change_node d.id (entered v.entry.name id) between.tree
          ≡ change_node (copy_number whole.next_inode now_seen v.directory) (entered v.entry.name (copy_number whole.next_inode now_seen v.child.id)) between.tree =
          (λ i. change_node (sym (moved ∙ number) i) (entered v.entry.name (sym between.number i)) between.tree) in
          record {
            tree = change_node (copy_number whole.next_inode now_seen v.directory) (entered v.entry.name (copy_number whole.next_inode now_seen v.child.id)) between.tree;
            stands = subst (λ (x : Tables). Stands told x (change_node (copy_number whole.next_inode now_seen v.directory) (entered v.entry.name (copy_number whole.next_inode now_seen v.child.id)) between.tree) []) (sym tables) (subst (λ (x : Tree). Stands told end x []) same_tree stands);
            partial =
                subst (λ (f : ℕ → List ℕ → Bool). IsPartial whole (change_node (copy_number whole.next_inode now_seen v.directory) (entered v.entry.name (copy_number whole.next_inode now_seen v.child.id)) between.tree) parent now name now_seen f)
                (visited_more done v)
                (IsPartial-entry whole between.tree parent now name now_seen (is_visited done) fits between.partial v.directory v.child.id v.entry.name seen_now names between.among);
          }

    pub visit_comes : IsTrue (visit_fits told whole.next_inode now seen v u)
        → IsOnTheWay told whole parent now name (seen_after seen v) (done ++ v ∷ []) (tables_after (visit_copied told whole.next_inode now seen v u) u)
    visit_comes fit =
        let w : Tables = tables_after (child_of_visit told whole.next_inode now seen v u) u in
        let parts = and_parts (child_fits (is_among seen v.child.id) told id now v.child u) (is_some (raised w v.entry.name)) fit in
        subst (λ (x : Tables). IsOnTheWay told whole parent now name (seen_after seen v) (done ++ v ∷ []) x)
        (tables_after-tables_after (child_of_visit told whole.next_inode now seen v u) (entry_copied (copy_number whole.next_inode seen v.directory) v.entry.name id w) u)
        (entry_comes w (seen_after seen v) (child_comes parts.0) parts.1)

  -- one after the other
  pub visits_come : (visits : List Visit) (u : Tables) (seen : List ℕ) (done : List Visit) → IsOnTheWay told whole parent now name seen done u → AreVisits told seen done visits
      → IsTrue (visits_fit told whole.next_inode now seen visits u)
      → IsOnTheWay told whole parent now name (all_seen seen visits) (done ++ visits) (tables_after (visits_copied told whole.next_inode now seen visits u) u)
  visits_come [] u seen done way are fit = subst (λ (ds : List Visit). IsOnTheWay told whole parent now name seen ds u) (sym (append-nil done)) way
  visits_come (v ∷ visits) u seen done way are fit =
      let one : List Change = visit_copied told whole.next_inode now seen v u in
      let w : Tables = tables_after one u in
      let parts = and_parts (visit_fits told whole.next_inode now seen v u) (visits_fit told whole.next_inode now (seen_after seen v) visits w) fit in
      let step : IsOnTheWay told whole parent now name (seen_after seen v) (done ++ v ∷ []) w = visit_comes u seen done v way are.0 are.1 parts.0 in
      let rest = visits_come visits w (seen_after seen v) (done ++ v ∷ []) step are.2 parts.1 in
      subst (λ (x : Tables). IsOnTheWay told whole parent now name (all_seen seen (v ∷ visits)) (done ++ v ∷ visits) x)
      (tables_after-tables_after one (visits_copied told whole.next_inode now (seen_after seen v) visits w) u)
      (subst (λ (ds : List Visit). IsOnTheWay told whole parent now name (all_seen seen (v ∷ visits)) ds (tables_after (visits_copied told whole.next_inode now (seen_after seen v) visits w) w))
      (append_assoc done (v ∷ []) visits) rest)

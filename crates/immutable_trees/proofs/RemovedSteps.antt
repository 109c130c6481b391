-- The rows of a removal: entries one after the other, each a step, and at last the directory's own.
use Rattle.std.proofs.Common.{◌≡◌, ℕ, List, [], ◌∷◌, ◌++◌, Bool, true, false, cond, Option, None, Some, refl, sym, ap, ◌∙◌, subst, arith}
use Rattle.std.proofs.lemmas.Bool.{both_ways}
use Rattle.std.specs.Ordering.{is_eq}
use Rattle.std.specs.Prelude.{IsTrue, not, ◌==◌, is_some, option_and_then, option_map}
use Rattle.std.specs.List.{list_all}
use Rattle.s3_base.specs.Numbers.{root}
use Rattle.s3_base.specs.declared.node_kind.Kind.{Kind}
use Rattle.s3_base.specs.declared.node_kind.Kind.TheVariants as kinds
use Rattle.op_frames.specs.declared.operation.Op.TheVariants as ops
use Rattle.plain_tree.specs.Below.{is_at_or_below}
use Rattle.plain_tree.specs.Checks.{directory_check, first_failure}
use Rattle.plain_tree.specs.Entries.{drop_entry, entry_at, is_open, lives, settled}
use Rattle.plain_tree.specs.Operations.{checks, effect}
use Rattle.plain_tree.specs.Tree.{Handle, Node, Tree, lost_and_found, node_at, stamped, without_node}
use Rattle.plain_tree.specs.WellFormed.{IsWellFormed}
use Rattle.s3_rows.specs.declared.change.Change.{Change}
use Rattle.s3_rows.specs.Rows.{Content, Inode, Name}
use Rattle.s3_rows.specs.Keyed.{has_key}
use Rattle.s3_rows.specs.Tables.{Tables, by_entry}
use Rattle.s3_rows.specs.Batches.{tables_after}
use Rattle.s3_rows.specs.Selections as selections
use Rattle.s3_rows.specs.Selections.{inode_at, name_of_bytes}
use Rattle.s3_rows.specs.Validity.{IsValid, is_directory}
use Rattle.row_lemmas.proofs.Tests.{find_passes, pair_parts}
use Rattle.row_lemmas.proofs.Tables.{tables_after-tables_after}
use Rattle.tree_laws.proofs.Node.Kind.{folder_kind, folder_of, is_a_folder, kind_in, one_some, some_kind}
use Rattle.tree_laws.proofs.Shape.Below.{below_shape}
use Rattle.tree_laws.proofs.Shape.Definition.{grown_of}
use Rattle.tree_laws.proofs.Shape.Gain.{root_inside}
use Rattle.tree_laws.proofs.Shape.Steps.{keep_is}
use Rattle.tree_laws.proofs.Shape.Tree.{shape_of}
use Rattle.tree_laws.proofs.Shape.Words.{Grown, IsPlace, NoneGoes}
use Rattle.tree_laws.proofs.Walk.Passed.{CanUproot, can_uproot}
use Rattle.tree_laws.proofs.WellFormed.{IsWellFormed-effect}
use Rattle.tree_rows.specs.Shapes.{NodeShape, Represents, node_of_row, shape_of_node}
use Rattle.tree_rows.proofs.Shaped.{found_alike}
use Rattle.tree_rows.proofs.Whole.{folder_is}
use Rattle.ref_counts.specs.Plans.{IsStep}
use Rattle.ref_counts.specs.Removals.{removal}
use Rattle.ref_counts.proofs.Idle.{IsStep-same}
use Rattle.block_steps.proofs.KeptNames.{AreRowsOf-trans}
use Rattle.row_steps.specs.RowChanges.{dropping}
use Rattle.row_steps.proofs.Leaving as leaving
use Rattle.row_steps.proofs.Leaving.{IsLeaving, IsStep-left}
use Rattle.row_steps.proofs.Living.{without_node-change_node}
use Rattle.immutable_trees.specs.RemovedRows.{AreGone, Gone, IsGone, all_taken, file_taken, folder_taken, taken, uprooting}
use Rattle.immutable_trees.proofs.LostEntry.{IsWellFormed-after, Loses, folder_dead, loses, marked}
use Rattle.immutable_trees.proofs.RemovedTree.{removed_is}
use Rattle.immutable_trees.proofs.ShrunkTree.{LeavesOuter, LeavesOuter-more, LeavesOuter-refl, Shrinks, Shrinks-more, Shrinks-refl}
use Rattle.immutable_trees.proofs.TakenRest.{Leaves, entry_left, Leaves-bare, Leaves-gone, Leaves-kept, Rest, Rest-more, Rest-refl}
use Rattle.immutable_trees.proofs.TakenRows.{IsTaking, bare_file, bare_folder, bare_step, child_number, directory_of, empty_file, empty_in_tree, entry_is, gone_step, kept_step, lives_is}

-- ---- one step after another

some_mapped : {X Y : Type 0} (f : X → Y) (found : Option X) → is_some (option_map f found) ≡ is_some found
some_mapped f None = refl
some_mapped f (Some x) = refl

-- rows are there where nodes are
row_there : (t : Tables) (whole : Tree) → Represents t whole → (x : ℕ) → is_some (inode_at t x) ≡ is_some (node_at whole x)
row_there t whole same x =
    sym (some_mapped (node_of_row t) (inode_at t x)) ∙ sym (ap (λ (found : Option NodeShape). is_some found) (found_alike t whole same x))
    ∙ some_mapped shape_of_node (node_at whole x)

some_by_kind : (found : Option Node) (other : Option Node) → ((kind : Kind) → kind_in found ≡ Some kind → kind_in other ≡ Some kind) → IsTrue (is_some found) → IsTrue (is_some other)
some_by_kind None other kinds is = absurd (cc is)
some_by_kind (Some node) None kinds is = absurd (cc (kinds _ refl))
some_by_kind (Some node) (Some more) kinds is = refl

IsStep-trans : (t u w : Tables) (middle next : Tree) → IsStep t u middle 0 → IsStep u w next 0
    → ((y : ℕ) (kind : Kind) → kind_in (node_at next y) ≡ Some kind → kind_in (node_at middle y) ≡ Some kind) → IsStep t w next 0
IsStep-trans t u w middle next a b kind = record {
  valid = b.valid;
  represents = b.represents;
  unique = λ unique. b.unique (a.unique unique);
  rest = record {
    params = b.rest.params ∙ a.rest.params;
    next_inode = omega (arith, a.rest.next_inode, b.rest.next_inode);
    next_name = omega (arith, a.rest.next_name, b.rest.next_name);
    forms = λ x blockno living.
        let before : IsTrue (is_some (inode_at u x)) =
        row_there u middle a.represents x
        ∙ some_by_kind (node_at next x) (node_at middle x) (kind x) (sym (row_there w next b.represents x) ∙ living) in
        b.rest.forms x blockno living ∙ a.rest.forms x blockno before;
    blocks = AreRowsOf-trans t u w a.rest.blocks b.rest.blocks;
    slots = b.rest.slots ∙ a.rest.slots;
  };
  small = record { names = omega (arith, a.small.names, b.small.names); uses = omega (arith, a.small.uses, b.small.uses) };
}

-- ---- one entry

module _ (before : Tree) (now top parent : ℕ) (name : List ℕ) (well : IsWellFormed before) (names : entry_at before parent name ≡ Some top) where
  grown : Grown NoneGoes (shape_of before)
  grown = grown_of before well.nodes well.names well.tree well.orphans

  -- the root is outside
  outside : (q : ℕ) (by : List ℕ) → is_at_or_below before top q ≡ true → IsPlace root lost_and_found q by → ⊥
  outside q by inside place =
      let first : top ≡ root =
      root_inside NoneGoes (shape_of before) top (is_at_or_below before top) (below_shape before well.names top) grown (ap (is_at_or_below before top) (sym place.0) ∙ inside) in
      grown.top parent name (names ∙ ap Some first)

  module _ (t : Tables) (whole : Tree) (g : Gone) (v : IsValid t) (same : Represents t whole) (shrinks : Shrinks before whole now) (is : IsGone before top t g) where
    abbrev c : Content
    c = g.entry

    abbrev r : Inode
    r = g.child

    folder : (d : Inode) × (inode_at t c.parent ≡ Some d) × (d.kind ≡ kinds.Directory)
    folder = directory_of t v c is.entry

    abbrev d : Inode
    d = folder.0

    taking_is : IsTaking t whole v.params d r c g.name
    taking_is = record {
      valid = v;
      same = same;
      params = v.is_made;
      found = folder.1;
      kind = folder.2;
      entry = is.entry;
      named = is.name;
      child = is.child;
    }

    named : entry_at whole c.parent g.name.name ≡ Some c.inode
    named = entry_is t whole v.params d r c g.name now taking_is

    empty : IsTrue (list_all (λ (x : Content). not (x.parent == r.id)) t.contents)
    empty = by_case (is_directory r.kind) refl
      where
        by_case : (b : Bool) → is_directory r.kind ≡ b → IsTrue (list_all (λ (x : Content). not (x.parent == r.id)) t.contents)
        by_case true own = is.empty own
        by_case false own = empty_file t whole v.params d r c g.name now taking_is own

    empty_tree : (by : List ℕ) → entry_at whole c.inode by ≡ None
    empty_tree = empty_in_tree t whole v.params d r c g.name now taking_is empty

    free : IsPlace root lost_and_found c.parent g.name.name → ⊥
    free = outside c.parent g.name.name is.inside

    abbrev marked_tree : Tree
    marked_tree = marked whole shrinks.well d.mtime d.ctime now c.parent c.inode g.name.name named free empty_tree

    abbrev next : Tree
    next = settled c.inode marked_tree

    well_next : IsWellFormed next
    well_next = IsWellFormed-after whole shrinks.well d.mtime d.ctime now c.parent c.inode g.name.name named free empty_tree

    loses_it : Loses whole next d.mtime d.ctime now c.parent c.inode g.name.name
    loses_it = loses whole shrinks.well d.mtime d.ctime now c.parent c.inode g.name.name named free empty_tree

    kept_is : lives marked_tree c.inode ≡ g.kept
    kept_is =
        lives_is t whole v.params d r c g.name now taking_is (is_open before r.id)
        (ap (λ (handles : List (ℕ × Handle)). is_open (record whole { handles = handles }) c.inode) shrinks.numbers.handles
        ∙ ap (is_open before) (child_number t whole v.params d r c g.name now taking_is))
        ∙ sym is.kept

    folder_in_tree : is_directory r.kind ≡ true → kind_in (node_at whole c.inode) ≡ Some kinds.Directory
    folder_in_tree own =
        folder_kind (node_at whole c.inode)
        (folder_is t whole same c.inode ∙ ap (λ (found : Option Inode). elim found [ Some x ↦ is_directory x.kind | None ↦ false ]) is.child ∙ own)

    step : IsStep t (tables_after (taken now t g) t) next 0
    step = by_kind (is_directory r.kind) refl
      where
        by_kept : is_directory r.kind ≡ false → (kept : Bool) → lives marked_tree c.inode ≡ kept
            → IsStep t (tables_after (file_taken kept now t c g.name r) t) next 0
        by_kept own true stays = kept_step t whole v.params d r c g.name now taking_is stays well_next
        by_kept own false goes =
            gone_step t whole v.params d r c g.name now taking_is (bare_file t whole v.params d r c g.name now taking_is own is.slots) goes well_next

        by_kind : (b : Bool) → is_directory r.kind ≡ b
            → IsStep t (tables_after (cond b (folder_taken t c g.name r) (file_taken g.kept now t c g.name r)) t) next 0
        by_kind true own =
            bare_step t whole v.params d r c g.name now taking_is (bare_folder t whole v.params d r c g.name now taking_is own empty)
            (folder_dead whole shrinks.well d.mtime d.ctime now c.parent c.inode g.name.name named free empty_tree (folder_in_tree own)) well_next
        by_kind false own = by_kept own g.kept kept_is

    -- the other entries stay
    pub leaves : Leaves t (tables_after (taken now t g) t) c
    leaves = by_kind (is_directory r.kind) refl
      where
        by_kept : is_directory r.kind ≡ false → (kept : Bool) → Leaves t (tables_after (file_taken kept now t c g.name r) t) c
        by_kept own true = Leaves-kept t whole v.params d r c g.name now taking_is
        by_kept own false = Leaves-gone t whole v.params d r c g.name now taking_is (bare_file t whole v.params d r c g.name now taking_is own is.slots)

        by_kind : (b : Bool) → is_directory r.kind ≡ b → Leaves t (tables_after (cond b (folder_taken t c g.name r) (file_taken g.kept now t c g.name r)) t) c
        by_kind true own = Leaves-bare t whole v.params d r c g.name now taking_is (bare_folder t whole v.params d r c g.name now taking_is own empty)
        by_kind false own = by_kept own g.kept

    shrinks_more : Shrinks before next now
    shrinks_more = Shrinks-more before whole next d.mtime d.ctime now c.parent c.inode g.name.name shrinks named loses_it well_next

    outer_more : LeavesOuter before whole top → LeavesOuter before next top
    outer_more outer =
        LeavesOuter-more before whole next d.mtime d.ctime now c.parent c.inode top g.name.name well shrinks outer named loses_it is.inside

  -- ---- all below

  -- what is left of tables, and of the tree
  pub record IsOnTheWay (first t : Tables) : Type 0 where
    pub tree : Tree
    pub shrinks : Shrinks before tree now
    pub outer : LeavesOuter before tree top
    pub step : IsStep first t tree 0
    pub rest : Rest first t
    pub kept : (q name_id : ℕ) → is_at_or_below before top q ≡ false → selections.entry_at t q name_id ≡ selections.entry_at first q name_id

  outer_entry : (t w : Tables) (c : Content) → Leaves t w c → is_at_or_below before top c.parent ≡ true → (q name_id : ℕ) → is_at_or_below before top q ≡ false
      → selections.entry_at w q name_id ≡ selections.entry_at t q name_id
  outer_entry t w c left inside q name_id out =
      entry_left t w c left q name_id ∙ by_case (is_eq (by_entry.compare (c.parent, c.name_id) (q, name_id))) refl
    where
      by_case : (b : Bool) → is_eq (by_entry.compare (c.parent, c.name_id) (q, name_id)) ≡ b → cond b None (selections.entry_at t q name_id) ≡ selections.entry_at t q name_id
      by_case true is =
          let parts = pair_parts (c.parent, c.name_id) (q, name_id) is in
          absurd (both_ways (is_at_or_below before top q) out (ap (is_at_or_below before top) (sym parts.0) ∙ inside))
      by_case false is = refl

  pub all_steps : (first : Tables) (gone : List Gone) (t : Tables) → IsOnTheWay first t → AreGone now before top t gone → IsOnTheWay first (tables_after (all_taken now t gone) t)
  all_steps first [] t way are = way
  all_steps first (g ∷ gs) t way are =
      let u : Tables = tables_after (taken now t g) t in
      let v : IsValid t = way.step.valid in
      let same : Represents t way.tree = way.step.represents in
      let more : IsOnTheWay first u = record {
        tree = next t way.tree g v same way.shrinks are.0;
        shrinks = shrinks_more t way.tree g v same way.shrinks are.0;
        outer = outer_more t way.tree g v same way.shrinks are.0 way.outer;
        step =
            IsStep-trans first t u way.tree (next t way.tree g v same way.shrinks are.0) way.step (step t way.tree g v same way.shrinks are.0)
            (loses_it t way.tree g v same way.shrinks are.0).kind;
        rest = Rest-more first t u g.entry way.rest (leaves t way.tree g v same way.shrinks are.0);
        kept = λ q name_id out. outer_entry t u g.entry (leaves t way.tree g v same way.shrinks are.0) are.0.inside q name_id out ∙ way.kept q name_id out;
      } in
      subst (IsOnTheWay first) (tables_after-tables_after (taken now t g) (all_taken now u gs) t) (all_steps first gs u more are.1)

-- ---- the directory itself

module _ (t : Tables) (whole : Tree) (directory top : Inode) (c : Content) (n : Name) (gone : List Gone) (pass parent now inode : ℕ) (name : List ℕ)
    (v : IsValid t) (well : IsWellFormed whole) (same : Represents t whole) (passes : first_failure (checks whole pass (ops.RemoveTree parent name)) ≡ None)
    (names : entry_at whole parent name ≡ Some inode) (are : AreGone now whole inode t gone) where
  abbrev left : Tables
  left = tables_after (all_taken now t gone) t

  way : IsOnTheWay whole now inode parent name well names t left
  way =
      all_steps whole now inode parent name well names t gone t
      (record { tree = whole; shrinks = Shrinks-refl whole now well; outer = LeavesOuter-refl whole inode; step = IsStep-same t whole 0 v same; rest = Rest-refl t; kept = λ q name_id out. refl }) are

  -- what the entry names is a directory, and it is outside
  folder_before : kind_in (node_at whole inode) ≡ Some kinds.Directory
  folder_before =
      let can : CanUproot whole parent name = can_uproot whole pass parent name passes in
      let node = some_kind (node_at whole inode) (well.tree.entries parent inode name names) in
      folder_of (node_at whole inode) node.0 node.1 (ap (λ o. directory_check (option_and_then (node_at whole) o)) (sym names) ∙ can.child_folder)

  module _ (found : inode_at left parent ≡ Some directory) (bytes : name_of_bytes left name ≡ Some n) (entry : selections.entry_at left parent n.id ≡ Some c)
      (child : inode_at left c.inode ≡ Some top) (bare : IsTrue (list_all (λ (x : Content). not (x.parent == top.id)) left.contents)) where
    abbrev last : Tree
    last = way.tree

    valid_left : IsValid left
    valid_left = way.step.valid

    can : CanUproot whole parent name
    can = can_uproot whole pass parent name passes

    parts : (parent ≡ c.parent) × (n.id ≡ c.name_id)
    parts = pair_parts (parent, n.id) (c.parent, c.name_id) (find_passes (has_key by_entry (parent, n.id)) left.contents c entry)

    entry_there : selections.entry_at left c.parent c.name_id ≡ Some c
    entry_there = (λ i. selections.entry_at left (sym parts.0 i) (sym parts.1 i)) ∙ entry

    found_there : inode_at left c.parent ≡ Some directory
    found_there = ap (inode_at left) (sym parts.0) ∙ found

    folder_row : directory.kind ≡ kinds.Directory
    folder_row =
        let own = directory_of left valid_left c entry_there in
        ap (λ (x : Inode). x.kind) (one_some (inode_at left c.parent) directory own.0 found_there own.1) ∙ own.2

    is : IsLeaving left last valid_left.params directory top c n parent name
    is = record {
      valid = valid_left;
      same = way.step.represents;
      params = valid_left.is_made;
      found = found;
      kind = folder_row;
      bytes = bytes;
      entry = entry;
      child = child;
    }

    named_last : entry_at last parent name ≡ Some c.inode
    named_last = leaving.entry_is left last valid_left.params directory top c n now parent name is

    number : c.inode ≡ inode
    number = one_some (entry_at whole parent name) c.inode inode (way.shrinks.fewer parent c.inode name named_last) names

    folder_there : kind_in (node_at last c.inode) ≡ Some kinds.Directory
    folder_there =
        let there = (grown_of last way.shrinks.well.nodes way.shrinks.well.names way.shrinks.well.tree way.shrinks.well.orphans).there parent c.inode name named_last in
        there.1
        ∙ ap Some (one_some (kind_in (node_at whole c.inode)) there.0 kinds.Directory (way.shrinks.kind c.inode there.0 there.1) (ap (λ x. kind_in (node_at whole x)) number ∙ folder_before))

    own_kind : is_directory top.kind ≡ true
    own_kind =
        sym (ap (λ (row : Option Inode). elim row [ Some x ↦ is_directory x.kind | None ↦ false ]) child) ∙ sym (folder_is left last way.step.represents c.inode)
        ∙ is_a_folder (node_at last c.inode) folder_there

    taking_last : IsTaking left last valid_left.params directory top c n
    taking_last = record {
      valid = valid_left;
      same = way.step.represents;
      params = valid_left.is_made;
      found = found_there;
      kind = folder_row;
      entry = entry_there;
      named = leaving.named left last valid_left.params directory top c n now parent name is;
      child = child;
    }

    empty_last : (by : List ℕ) → entry_at last c.inode by ≡ None
    empty_last = empty_in_tree left last valid_left.params directory top c n now taking_last bare

    free_last : IsPlace root lost_and_found parent name → ⊥
    free_last = keep_is parent name can.drop.kept

    abbrev marked_last : Tree
    marked_last = marked last way.shrinks.well now now now parent c.inode name named_last free_last empty_last

    abbrev next_last : Tree
    next_last = settled c.inode marked_last

    well_last : IsWellFormed next_last
    well_last = IsWellFormed-after last way.shrinks.well now now now parent c.inode name named_last free_last empty_last

    loses_last : Loses last next_last now now now parent c.inode name
    loses_last = loses last way.shrinks.well now now now parent c.inode name named_last free_last empty_last

    tree_is : next_last ≡ without_node c.inode (drop_entry parent name now last)
    tree_is =
        ap (λ b. cond b marked_last (without_node c.inode marked_last)) (folder_dead last way.shrinks.well now now now parent c.inode name named_last free_last empty_last folder_there)
        ∙ without_node-change_node (stamped now) c.inode (drop_entry parent name now last)

    abbrev rest : List Change
    rest = dropping directory c n now ++ removal left top.id (tables_after (dropping directory c n now) left)

    last_step : IsStep left (tables_after rest left) next_last 0
    last_step =
        subst (λ w. IsStep left (tables_after rest left) w 0) (sym tree_is)
        (IsStep-left left last valid_left.params directory top c n now parent name is (bare_folder left last valid_left.params directory top c n now taking_last own_kind bare)
        (subst IsWellFormed tree_is well_last))

    pub removed_step : IsStep t (tables_after (uprooting now t gone directory top c n) t) (effect whole pass (ops.RemoveTree parent name) now) 0
    removed_step =
        let goal : Tree = effect whole pass (ops.RemoveTree parent name) now in
        let is_goal : next_last ≡ goal =
        removed_is whole last next_last pass now parent c.inode name well passes way.shrinks (subst (LeavesOuter whole last) (sym number) way.outer) named_last
        (ap (λ x. kind_in (node_at whole x)) number ∙ folder_before) loses_last well_last (IsWellFormed-effect whole pass now (ops.RemoveTree parent name) well passes) in
        subst (λ (u : Tables). IsStep t u goal 0) (tables_after-tables_after (all_taken now t gone) rest t)
        (subst (λ w. IsStep t (tables_after rest left) w 0) is_goal
        (IsStep-trans t left (tables_after rest left) last next_last way.step last_step loses_last.kind))

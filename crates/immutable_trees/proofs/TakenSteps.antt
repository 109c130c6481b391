-- How far the walk has come, turn by turn.
use Rattle.std.proofs.Common.{◌≡◌, ℕ, List, [], ◌∷◌, ◌++◌, Bool, true, false, cond, Option, None, Some, refl, sym, ap, ◌∙◌, subst, append_assoc, append-nil}
use Rattle.std.proofs.lemmas.Bool.{and_parts, both_ways}
use Rattle.std.specs.Prelude.{IsTrue, ◌==◌, ◌||◌, is_some, nat_lt, not}
use Rattle.std.specs.List.{list_all, slice_get}
use Rattle.std.specs.Ordering.{is_lt}
use Rattle.s3_base.specs.declared.node_kind.Kind.TheVariants as kinds
use Rattle.plain_tree.specs.Below.{is_at_or_below}
use Rattle.plain_tree.specs.Entries as tree
use Rattle.plain_tree.specs.Entries.{is_folder, is_open}
use Rattle.plain_tree.specs.Tree.{Handle, Tree, node_at}
use Rattle.plain_tree.specs.WellFormed.{IsWellFormed}
use Rattle.s3_rows.specs.declared.change.Change.{Change}
use Rattle.s3_rows.specs.declared.lists.NamedEntry.{NamedEntry}
use Rattle.s3_rows.specs.Batches.{tables_after}
use Rattle.s3_rows.specs.Keyed.{has_key}
use Rattle.s3_rows.specs.Rows.{Content, Inode, Name, Slot}
use Rattle.s3_rows.specs.Selections.{bytes_cmp, entries_listed, inode_at, name_at}
use Rattle.s3_rows.specs.Tables.{Tables, by_entry}
use Rattle.s3_rows.specs.Validity.{IsValid, any_kind, finds_of_entry, has_inode, is_directory}
use Rattle.row_lemmas.proofs.Tests.{find_passes_all}
use Rattle.row_lemmas.proofs.Tables.{tables_after-tables_after}
use Rattle.tree_laws.proofs.Node.Kind.{folder_kind, is_a_folder, kind_in, one_some, some_kind}
use Rattle.tree_laws.proofs.Shape.Below.{below_shape}
use Rattle.tree_rows.specs.Shapes.{Represents}
use Rattle.tree_rows.proofs.Whole.{folder_is, node_is, number_of}
use Rattle.ref_counts.specs.Handles.{HasHandles, OpenHandles, is_held}
use Rattle.ref_counts.proofs.Idle.{IsStep-same}
use Rattle.row_steps.proofs.WithPlaces.{inode_at-removal}
use Rattle.immutable_trees.specs.declared.uproot.Branch.{Branch}
use Rattle.immutable_trees.specs.Branches.{AreBranches, HasTaken, Holds, IsThere, TakesBelow, below_entry, first_branch, moved}
use Rattle.immutable_trees.specs.RemovedRows.{AreGone, Gone, HasOwn, IsGone, all_taken, file_taken, folder_taken, taken, taking}
use Rattle.immutable_trees.proofs.BranchSteps.{HasAll, all_after, all_below, all_up, bare_branch, branches_after, branches_below, branches_up, next_named, next_there}
use Rattle.immutable_trees.proofs.Come.{name_later}
use Rattle.immutable_trees.proofs.ListedRows.{name_in_tree, named_is}
use Rattle.immutable_trees.proofs.RemovedSteps.{IsOnTheWay, all_steps, leaves}
use Rattle.immutable_trees.proofs.ShrunkTree.{LeavesOuter-refl, Shrinks-refl}
use Rattle.immutable_trees.proofs.TakenRest.{Leaves, Rest-refl}

-- ---- one entry more

AreGone-push : (now : ℕ) (whole : Tree) (top : ℕ) (gone : List Gone) (t : Tables) (g : Gone) → AreGone now whole top t gone
    → IsGone whole top (tables_after (all_taken now t gone) t) g → AreGone now whole top t (gone ++ g ∷ [])
AreGone-push now whole top [] t g are is = (is, tt)
AreGone-push now whole top (x ∷ xs) t g are is =
    let u : Tables = tables_after (taken now t x) t in
    (are.0, AreGone-push now whole top xs u g are.1 (subst (λ (w : Tables). IsGone whole top w g) (sym (tables_after-tables_after (taken now t x) (all_taken now u xs) t)) is))

all_taken-push : (now : ℕ) (gone : List Gone) (t : Tables) (g : Gone)
    → all_taken now t (gone ++ g ∷ []) ≡ all_taken now t gone ++ taken now (tables_after (all_taken now t gone) t) g
all_taken-push now [] t g = append-nil (taken now t g)
all_taken-push now (x ∷ xs) t g =
    let u : Tables = tables_after (taken now t x) t in
    ap (λ (cs : List Change). taken now t x ++ cs) (all_taken-push now xs u g)
    ∙ sym (append_assoc (taken now t x) (all_taken now u xs) (taken now (tables_after (all_taken now u xs) u) g))
    ∙ ap (λ (w : Tables). (taken now t x ++ all_taken now u xs) ++ taken now w g) (tables_after-tables_after (taken now t x) (all_taken now u xs) t)

some_of : {X : Type 0} (found : Option X) → IsTrue (is_some found) → (x : X) × (found ≡ Some x)
some_of None is = absurd (cc is)
some_of (Some x) is = (x, refl)

some_row : (found : Option Inode) → IsTrue (elim found [ Some r ↦ any_kind r.kind | None ↦ false ]) → (r : Inode) × (found ≡ Some r)
some_row None is = absurd (cc is)
some_row (Some r) is = (r, refl)

module _ (told : Tables) (whole : Tree) (v : IsValid told) (same : Represents told whole) (well : IsWellFormed whole) (parent top now : ℕ) (name : List ℕ)
    (names : tree.entry_at whole parent name ≡ Some top) (folder : IsTrue (is_folder (node_at whole top))) (slots : told.slots ≡ []) where
  -- before all
  pub taken_first : HasTaken told whole top now [] (first_branch top ∷ [])
  taken_first = record {
    gone = [];
    is = refl;
    are = tt;
    branches_are = (
      record {
        inside = (below_shape whole well.names top).itself;
        folder = folder;
        later = λ by e found later. (named_is told v top by e found).there;
        earlier = λ by e found early none.
            let legal = well.tree.names top e.row.inode by (name_in_tree told whole v same top by e (named_is told v top by e found)) in
            absurd (both_ways (is_lt (bytes_cmp [] by)) early (name_later by legal));
      },
      (refl, refl),
    );
    whole_yet = λ q by e inside living out found. (named_is told v q by e found).there;
  }

  module _ (old : List Change) (branches : List Branch) (has : HasTaken told whole top now old branches) where
    abbrev u : Tables
    u = tables_after old told

    way : IsOnTheWay whole now top parent name well names told u
    way =
        subst (λ (b : List Change). IsOnTheWay whole now top parent name well names told (tables_after b told)) (sym has.is)
        (all_steps whole now top parent name well names told has.gone told
        (record { tree = whole; shrinks = Shrinks-refl whole now well; outer = LeavesOuter-refl whole top; step = IsStep-same told whole 0 v same; rest = Rest-refl told; kept = λ q id out. refl }) has.are)

    valid : IsValid u
    valid = way.step.valid

    own_of : (x : ℕ) → IsTrue (is_some (inode_at u x)) → HasOwn told u x
    own_of x living = record { attrs = way.rest.attrs x living; target = way.rest.targets x living; places = way.rest.places x living }

    finds : (c : Content) → IsThere u c → IsTrue (finds_of_entry u c)
    finds c there = find_passes_all (has_key by_entry (c.parent, c.name_id)) (finds_of_entry u) u.contents c valid.rows.entries there

    name_there : (c : Content) → IsThere u c → (n : Name) × (name_at u c.name_id ≡ Some n)
    name_there c there =
        some_of (name_at u c.name_id)
        (and_parts (has_inode is_directory u c.parent) (is_some (name_at u c.name_id)) (and_parts _ (has_inode any_kind u c.inode) (finds c there)).0).1

    child_there : (c : Content) → IsThere u c → (r : Inode) × (inode_at u c.inode ≡ Some r)
    child_there c there = some_row (inode_at u c.inode) (and_parts _ (has_inode any_kind u c.inode) (finds c there)).1

    no_slots : (x : ℕ) → IsTrue (list_all (λ (s : Slot). not (s.inode == x)) u.slots)
    no_slots x = subst (λ (xs : List Slot). IsTrue (list_all (λ (s : Slot). not (s.inode == x)) xs)) (sym (way.rest.slots ∙ slots)) refl

    -- the row of a directory of the tree is one, and that of another not
    folder_row : (x : ℕ) (r : Inode) → inode_at u x ≡ Some r → IsTrue (is_folder (node_at whole x)) → is_directory r.kind ≡ true
    folder_row x r found own =
        let some : IsTrue (has_inode any_kind u x) = ap (λ (row : Option Inode). elim row [ Some y ↦ any_kind y.kind | None ↦ false ]) found in
        let kind = some_kind (node_at way.tree x) (node_is u way.tree way.step.represents x some) in
        let first : kind.0 ≡ kinds.Directory = one_some (kind_in (node_at whole x)) kind.0 kinds.Directory (way.shrinks.kind x kind.0 kind.1) (folder_kind (node_at whole x) own) in
        sym (ap (λ (row : Option Inode). elim row [ Some y ↦ is_directory y.kind | None ↦ false ]) found) ∙ sym (folder_is u way.tree way.step.represents x)
        ∙ is_a_folder (node_at way.tree x) (kind.1 ∙ ap Some first)

    folder_before : (x : ℕ) (r : Inode) → inode_at u x ≡ Some r → is_directory r.kind ≡ true → IsTrue (is_folder (node_at whole x))
    folder_before x r found own =
        is_a_folder (node_at whole x)
        (way.shrinks.kind x kinds.Directory
        (folder_kind (node_at way.tree x)
        (folder_is u way.tree way.step.represents x ∙ ap (λ (row : Option Inode). elim row [ Some y ↦ is_directory y.kind | None ↦ false ]) found ∙ own)))

    -- an entry goes
    module _ (g : Gone) (is : IsGone whole top u g) (new : List Change) (added : new ≡ old ++ taken now u g) where
      abbrev w : Tables
      w = tables_after (taken now u g) u

      abbrev left : Leaves u w g.entry
      left = leaves whole now top parent name well names u way.tree g valid way.step.represents way.shrinks is

      tables_are : w ≡ tables_after new told
      tables_are = tables_after-tables_after old (taken now u g) told ∙ ap (λ (b : List Change). tables_after b told) (sym added)

      taken_more : (more : List Branch) → AreBranches told whole top w more → HasAll told whole top w more → HasTaken told whole top now new more
      taken_more more are all = record {
        gone = has.gone ++ g ∷ [];
        is =
            added ∙ ap (λ (b : List Change). b ++ taken now (tables_after b told) g) has.is ∙ sym (all_taken-push now has.gone told g);
        are = AreGone-push now whole top has.gone told g has.are (subst (λ (b : List Change). IsGone whole top (tables_after b told) g) has.is is);
        branches_are = subst (λ (x : Tables). AreBranches told whole top x more) tables_are are;
        whole_yet = subst (λ (x : Tables). HasAll told whole top x more) tables_are all;
      }

  -- ---- the next entry

  module _ (old : List Change) (b : Branch) (bs : List Branch) (has : HasTaken told whole top now old (b ∷ bs)) (e : NamedEntry)
      (is_next : slice_get (entries_listed told b.level.directory b.level.last 1) 0 ≡ Some e) where
    abbrev t : Tables
    t = tables_after old told

    e_there : IsThere t e.row
    e_there = next_there told whole v same well top t b bs has.branches_are e is_next

    -- has a row
    pub taken_row : inode_at t e.row.inode ≡ None → ⊥
    taken_row none =
        let found = child_there old (b ∷ bs) has e.row e_there in
        let clash : None ≡ Some found.0 = sym none ∙ found.1 in
        cc clash

    module _ (r : Inode) (found : inode_at t e.row.inode ≡ Some r) where
      living : IsTrue (is_some (inode_at t e.row.inode))
      living = ap is_some found

      number : e.row.inode ≡ r.id
      number = number_of t e.row.inode r found

      -- of a directory
      pub taken_down : is_directory r.kind ≡ true → HasTaken told whole top now old (below_entry e ∷ moved b e.name ∷ bs)
      taken_down own =
          let down : IsTrue (is_folder (node_at whole e.row.inode)) = folder_before old (b ∷ bs) has e.row.inode r found own in
          record {
            gone = has.gone;
            is = has.is;
            are = has.are;
            branches_are = branches_below told whole v same well top t b bs has.branches_are e is_next down folder living has.whole_yet;
            whole_yet = all_below told whole v same well top t b bs has.branches_are e is_next down folder living has.whole_yet;
          }

      -- or of what is none
      pub taken_file : is_directory r.kind ≡ false → (handles : OpenHandles) → HasHandles handles whole → (kept : Bool) → kept ≡ (nat_lt 1 r.refcount || is_held handles r.id) → (new : List Change)
          → ((n : Name) → name_at t e.row.name_id ≡ Some n → HasOwn told t r.id → new ≡ old ++ file_taken kept now t e.row n r)
          → HasTaken told whole top now new (moved b e.name ∷ bs)
      taken_file other handles held kept kept_is new added =
          let n = name_there old (b ∷ bs) has e.row e_there in
          let g : Gone = record { entry = e.row; name = n.0; child = r; kept = kept } in
          let is : IsGone whole top t g = record {
            entry = e_there;
            name = n.1;
            child = found;
            inside = ap (tree_below) (named_is told v b.level.directory e.name e (next_named told whole v same well top t b bs has.branches_are e is_next)).parent ∙ has.branches_are.0.inside;
            kept = kept_is ∙ ap (λ (hs : List (ℕ × Handle)). nat_lt 1 r.refcount || is_open (record whole { handles = hs }) r.id) (sym held.1);
            empty = λ own. absurd (both_ways (is_directory r.kind) other own);
            slots = no_slots old (b ∷ bs) has r.id;
          } in
          let own : HasOwn told t r.id = own_of old (b ∷ bs) has r.id (ap (λ x. is_some (inode_at t x)) (sym number) ∙ living) in
          let adds : new ≡ old ++ taken now t g =
          added n.0 n.1 own ∙ ap (λ c. old ++ cond c (folder_taken t e.row n.0 r) (file_taken kept now t e.row n.0 r)) (sym other) in
          taken_more old (b ∷ bs) has g is new adds (moved b e.name ∷ bs)
          (branches_after told whole v same well top t b bs has.branches_are e is_next (tables_after (taken now t g) t) (left old (b ∷ bs) has g is new adds))
          (all_after told whole v same well top t b bs has.branches_are e is_next (tables_after (taken now t g) t) (left old (b ∷ bs) has g is new adds) has.whole_yet)
        where
          tree_below : ℕ → Bool
          tree_below q = is_at_or_below whole top q

  -- ---- no entry is left

  module _ (old : List Change) (b : Branch) (none : slice_get (entries_listed told b.level.directory b.level.last 1) 0 ≡ None) where
    -- of the first directory
    pub taken_all : (bs : List Branch) → HasTaken told whole top now old (b ∷ bs) → b.own ≡ None → TakesBelow told whole top now (Some old)
    taken_all [] has first = record {
      gone = has.gone;
      is = has.is;
      are = has.are;
      empty =
          subst (λ x. IsTrue (list_all (λ (c : Content). not (c.parent == x)) (tables_after old told).contents)) has.branches_are.1.0
          (bare_branch told whole v same well top (tables_after old told) b [] has.branches_are (way old (b ∷ []) has).rest.entries (valid old (b ∷ []) has).ordered.contents none);
    }
    taken_all (m ∷ ms) has first =
        let clash : None ≡ Some has.branches_are.1.0.entry.row = sym first ∙ has.branches_are.1.0.own in
        absurd (cc clash)

    -- or of another, which goes
    pub taken_up : (bs : List Branch) → HasTaken told whole top now old (b ∷ bs) → (c : Content) → b.own ≡ Some c → (new : List Change)
        → ((n : Name) (r : Inode) → name_at (tables_after old told) c.name_id ≡ Some n → r.id ≡ c.inode → HasOwn told (tables_after old told) r.id
        → new ≡ old ++ folder_taken (tables_after old told) c n r) → HasTaken told whole top now new bs
    taken_up [] has c own new added =
        let clash : None ≡ Some c = sym has.branches_are.1.1 ∙ own in
        absurd (cc clash)
    taken_up (m ∷ ms) has c own new added =
        let t : Tables = tables_after old told in
        let holds : Holds told t b m = has.branches_are.1.0 in
        let row : Some c ≡ Some holds.entry.row = sym own ∙ holds.own in
        let row_is : c ≡ holds.entry.row = cc row in
        let there : IsThere t holds.entry.row = holds.there in
        let n = name_there old (b ∷ m ∷ ms) has holds.entry.row there in
        let r = child_there old (b ∷ m ∷ ms) has holds.entry.row there in
        let number : holds.entry.row.inode ≡ r.0.id = number_of t holds.entry.row.inode r.0 r.1 in
        let directory : b.level.directory ≡ r.0.id = sym holds.names ∙ number in
        let folder_there : is_directory r.0.kind ≡ true =
        folder_row old (b ∷ m ∷ ms) has holds.entry.row.inode r.0 r.1 (subst (λ x. IsTrue (is_folder (node_at whole x))) (sym holds.names) has.branches_are.0.folder) in
        let bare : IsTrue (list_all (λ (x : Content). not (x.parent == r.0.id)) t.contents) =
        subst (λ x. IsTrue (list_all (λ (c : Content). not (c.parent == x)) t.contents)) directory
        (bare_branch told whole v same well top t b (m ∷ ms) has.branches_are (way old (b ∷ m ∷ ms) has).rest.entries (valid old (b ∷ m ∷ ms) has).ordered.contents none) in
        let g : Gone = record { entry = holds.entry.row; name = n.0; child = r.0; kept = nat_lt 1 r.0.refcount || is_open whole r.0.id } in
        let is : IsGone whole top t g = record {
          entry = there;
          name = n.1;
          child = r.1;
          inside = ap (λ q. is_at_or_below whole top q) (named_is told v m.level.directory m.level.last holds.entry holds.named).parent ∙ has.branches_are.1.1.inside;
          kept = refl;
          empty = λ _. bare;
          slots = no_slots old (b ∷ m ∷ ms) has r.0.id;
        } in
        let own_rows : HasOwn told t r.0.id = own_of old (b ∷ m ∷ ms) has r.0.id (ap (λ x. is_some (inode_at t x)) (sym number) ∙ ap is_some r.1) in
        let adds : new ≡ old ++ taken now t g =
        added n.0 r.0 (ap (λ (x : Content). name_at t x.name_id) row_is ∙ n.1) (sym number ∙ ap (λ (x : Content). x.inode) (sym row_is)) own_rows
        ∙ ap (λ (x : Content). old ++ folder_taken t x n.0 r.0) row_is
        ∙ ap (λ c. old ++ cond c (folder_taken t holds.entry.row n.0 r.0) (file_taken g.kept now t holds.entry.row n.0 r.0)) (sym folder_there) in
        let w : Tables = tables_after (taken now t g) t in
        let gone : inode_at w b.level.directory ≡ None =
        ap (inode_at w) directory
        ∙ ap (λ c. inode_at (tables_after (cond c (folder_taken t holds.entry.row n.0 r.0) (file_taken g.kept now t holds.entry.row n.0 r.0)) t) r.0.id) folder_there
        ∙ inode_at-removal t r.0.id (taking holds.entry.row n.0) t in
        taken_more old (b ∷ m ∷ ms) has g is new adds (m ∷ ms)
        (branches_up told whole v same well top t w b m ms has.branches_are (left old (b ∷ m ∷ ms) has g is new adds) gone)
        (all_up told whole v same well top t w b m ms has.branches_are (left old (b ∷ m ∷ ms) has g is new adds) gone has.whole_yet)
